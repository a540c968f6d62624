-- Sets of names in a tree, and the parts of a statement that use only these names.
use Rattle.std.specs.Prelude.{◌≡◌, ℕ, List, Bool, true}
use Rattle.std.specs.Fn.{Shared}
use denote.Ref.{Bor}
use Rattle.std.specs.BTreeSet.{BTreeSet, contains}
use Rattle.std.specs.Cmp.Lexicographic.{slice_cmp}
use Rattle.std.specs.Ordering.{nat_cmp}
use Rattle.bohm_types.specs.Keys.{is_among}
use Rattle.bohm_types.specs.Stmt.{Stmt}
use Rattle.bohm_types.specs.Term.{Atom, Lit, Read, Local}
use Rattle.bohm_txn.specs.Faulty.{is_bound}

abbrev pub has : BTreeSet (List ℕ) → List ℕ → Bool
has names k = contains (slice_cmp nat_cmp) names k

-- these names, and no others
abbrev pub AreNamesOf : List (List ℕ) → BTreeSet (List ℕ) → Type 0
AreNamesOf keys names = (k : List ℕ) → has names k ≡ is_among keys k

-- the names that these statements bind, and no others
abbrev pub AreBoundBy : List Stmt → BTreeSet (List ℕ) → Type 0
AreBoundBy before names = (k : List ℕ) → has names k ≡ is_bound before k

-- a key that the atom reads is one of these
abbrev pub reads_in : BTreeSet (List ℕ) → Atom → Bool
reads_in names (Lit n) = true
reads_in names (Read k) = has names k
reads_in names (Local x) = true

-- a local that the atom reads is one of these
abbrev pub locals_in : BTreeSet (List ℕ) → Atom → Bool
locals_in names (Lit n) = true
locals_in names (Read k) = true
locals_in names (Local x) = has names x

-- each call of the test f returns p
abbrev pub Computes : {F X K : Type 0} → Shared F (Bor X × Unit {0}) K → (X → K) → F → Type 0
Computes {F} {X} {K} g p f = (x : Bor X) (r : K) → g.post f (x, tt) r → r ≡ p x.now
