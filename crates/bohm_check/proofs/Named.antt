-- Sets of names: their members, and that a statement is tested alike by two sets with the same names.
use Rattle.std.proofs.Common.{◌≡◌, ℕ, ◌+◌, List, [], ◌∷◌, take, Bool, true, false, refl, ap, sym, ◌∙◌}
use Rattle.std.specs.Prelude.{Option, Some, None, cond, not, ◌||◌, ◌&&◌}
use Rattle.std.specs.List.{list_all, list_any, slice_get}
use Rattle.std.specs.Str.{bytes_eq}
use Rattle.std.specs.BTreeMap.{is_at}
use Rattle.std.specs.BTreeSet.{BTreeSet, IsEmpty, Updates}
use Rattle.std.specs.Cmp.Lexicographic.{slice_cmp}
use Rattle.std.specs.Ordering.{nat_cmp}
use Rattle.std.proofs.lemmas.Map.Text.{is_eq-slice_cmp}
use Rattle.bohm_types.specs.Keys.{some_passes}
use Rattle.bohm_types.specs.Parts.{sums, tested, target, bound}
use Rattle.bohm_types.specs.Stmt.{Stmt}
use Rattle.bohm_types.specs.Term.{Atom, Lit, Read, Local}
use Rattle.bohm_txn.specs.Faulty.{reads_among, locals_bound, binds, is_bound, is_unread, is_unwritten, is_misnamed}
use Rattle.bohm_txn.proofs.ForCallers.{any_more}
use Rattle.bohm_check.specs.Names.{has, reads_in, locals_in, AreNamesOf, AreBoundBy}

-- a name is a member after it was inserted
pub inserted : (old new : BTreeSet (List ℕ)) (name : List ℕ) → Updates (slice_cmp nat_cmp) old new name true
    → (k : List ℕ) → has new k ≡ (has old k || bytes_eq name k)
inserted old new name updates k =
    updates.0 k ∙ ap (λ b. cond b true (has old k)) (is_eq-slice_cmp name k) ∙ either (bytes_eq name k) (has old k)
  where
    either : (a b : Bool) → cond a true b ≡ (b || a)
    either true true = refl
    either true false = refl
    either false true = refl
    either false false = refl

-- a set with none of the keys, and with one key more
pub none_yet : (keys : List (List ℕ)) (names : BTreeSet (List ℕ)) → IsEmpty names → AreNamesOf (take 0 keys) names
none_yet keys names empty k = ap (list_any (is_at (slice_cmp nat_cmp k))) empty

pub one_more : (keys : List (List ℕ)) (i : ℕ) (key : List ℕ) (old new : BTreeSet (List ℕ)) → slice_get keys i ≡ Some key → AreNamesOf (take i keys) old
    → ((k : List ℕ) → has new k ≡ (has old k || bytes_eq key k)) → AreNamesOf (take (i + 1) keys) new
one_more keys i key old new at before added k = added k ∙ ap (λ b. b || bytes_eq key k) (before k) ∙ sym (any_more (λ x. bytes_eq x k) keys i key at)

-- a set after one more statement, which binds a name or none
module _ (body : List Stmt) (i : ℕ) (s : Stmt) (at : slice_get body i ≡ Some s) (old : BTreeSet (List ℕ)) (before : AreBoundBy (take i body) old) where
  pub one_bound : (name : List ℕ) (new : BTreeSet (List ℕ)) → bound s ≡ Some name → ((k : List ℕ) → has new k ≡ (has old k || bytes_eq name k))
      → AreBoundBy (take (i + 1) body) new
  one_bound name new binds_it added k =
      added k ∙ ap (λ b. b || bytes_eq name k) (before k) ∙ ap (λ o. is_bound (take i body) k || some_passes (λ y. bytes_eq y k) o) (sym binds_it)
      ∙ sym (any_more (binds k) body i s at)

  pub none_bound : bound s ≡ None → AreBoundBy (take (i + 1) body) old
  none_bound binds_none k =
      before k ∙ or_false (is_bound (take i body) k) ∙ ap (λ o. is_bound (take i body) k || some_passes (λ y. bytes_eq y k) o) (sym binds_none)
      ∙ sym (any_more (binds k) body i s at)
    where
      or_false : (b : Bool) → b ≡ (b || false)
      or_false true = refl
      or_false false = refl

-- ---- tests that agree

all_alike : {X : Type 0} (p q : X → Bool) → ((x : X) → p x ≡ q x) → (xs : List X) → list_all p xs ≡ list_all q xs
all_alike p q same [] = refl
all_alike p q same (x ∷ xs) = ap (λ b. b && list_all p xs) (same x) ∙ ap (λ b. q x && b) (all_alike p q same xs)

either_alike : (a b c d : Bool) → a ≡ b → c ≡ d → (not a || c) ≡ (not b || d)
either_alike a b c d first second = ap (λ e. not e || c) first ∙ ap (λ e. not b || e) second

sums_alike : (p q : Atom → Bool) → ((a : Atom) → p a ≡ q a) → (s : Stmt)
    → list_all (list_all (λ term. p term.1)) (sums s) ≡ list_all (list_all (λ term. q term.1)) (sums s)
sums_alike p q same s = all_alike _ _ (all_alike _ _ (λ term. same term.1)) (sums s)

some_alike : (p q : List ℕ → Bool) → ((k : List ℕ) → p k ≡ q k) → (o : Option (List ℕ)) → some_passes p o ≡ some_passes q o
some_alike p q same None = refl
some_alike p q same (Some k) = same k

-- ---- tests of a statement

module _ (names : BTreeSet (List ℕ)) (s : Stmt) where
  pub unread_by : (keys : List (List ℕ)) → AreNamesOf keys names
      → (not (list_all (list_all (λ term. reads_in names term.1)) (sums s)) || some_passes (λ k. not (has names k)) (tested s)) ≡ is_unread keys s
  unread_by keys same = either_alike _ _ _ _ (sums_alike (reads_in names) (reads_among keys) each s) (some_alike _ _ (λ k. ap not (same k)) (tested s))
    where
      each : (a : Atom) → reads_in names a ≡ reads_among keys a
      each (Lit n) = refl
      each (Read k) = same k
      each (Local x) = refl

  pub unwritten_by : (keys : List (List ℕ)) → AreNamesOf keys names → some_passes (λ k. not (has names k)) (target s) ≡ is_unwritten keys s
  unwritten_by keys same = some_alike _ _ (λ k. ap not (same k)) (target s)

  pub misnamed_by : (before : List Stmt) → AreBoundBy before names
      → (not (list_all (list_all (λ term. locals_in names term.1)) (sums s)) || some_passes (has names) (bound s)) ≡ is_misnamed before s
  misnamed_by before same = either_alike _ _ _ _ (sums_alike (locals_in names) (locals_bound before) each s) (some_alike _ _ same (bound s))
    where
      each : (a : Atom) → locals_in names a ≡ locals_bound before a
      each (Lit n) = refl
      each (Read k) = refl
      each (Local x) = same x
