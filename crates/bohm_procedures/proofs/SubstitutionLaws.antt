-- Properties that a statement keeps when its keys are replaced.
use Rattle.std.proofs.Common.{◌≡◌, ℕ, Bool, true, false, List, [], ◌∷◌, length, map, Option, Some, None, refl, sym, ◌∙◌, subst}
use Rattle.std.specs.Prelude.{◌||◌, not, nat_le}
use Rattle.std.specs.List.{list_all}
use Rattle.std.specs.Option.{option_map}
use Rattle.std.proofs.lemmas.Bool.{and_parts, not-false, not_from_true}
use Rattle.std.proofs.lemmas.List.{length-map}
use Rattle.bohm_types.specs.Keys.{is_among, IsAmong, some_passes}
use Rattle.bohm_types.specs.Parts.{sums, tested, target, bound, is_show}
use Rattle.bohm_types.specs.Term.{Atom, Lit, Read, Local}
use Rattle.bohm_types.specs.Stmt.{Stmt, Bind, Need, Has, Lacks, Put, Remove, Show, Fail}
use Rattle.bohm_txn.specs.Faulty.{reads_among, locals_bound, is_bound, is_unread, is_unwritten, is_misnamed, is_long}
use Rattle.bohm_types.specs.Substitution.{atom_with, term_with, sum_with, stmt_with}

-- ---- the parts of a statement

pub record IsWith (f : List ℕ → List ℕ) (s t : Stmt) : Type 0 where
  pub sums_are : sums t ≡ map (sum_with f) (sums s)
  pub tests : tested t ≡ option_map f (tested s)
  pub targets : target t ≡ option_map f (target s)
  pub binds : bound t ≡ bound s
  pub shows : is_show t ≡ is_show s

pub parts_with : (f : List ℕ → List ℕ) (s : Stmt) → IsWith f s (stmt_with f s)
parts_with f (Bind x sum) = record { sums_are = refl; tests = refl; targets = refl; binds = refl; shows = refl }
parts_with f (Need c) = record { sums_are = refl; tests = refl; targets = refl; binds = refl; shows = refl }
parts_with f (Has k) = record { sums_are = refl; tests = refl; targets = refl; binds = refl; shows = refl }
parts_with f (Lacks k) = record { sums_are = refl; tests = refl; targets = refl; binds = refl; shows = refl }
parts_with f (Put k sum None) = record { sums_are = refl; tests = refl; targets = refl; binds = refl; shows = refl }
parts_with f (Put k sum (Some c)) = record { sums_are = refl; tests = refl; targets = refl; binds = refl; shows = refl }
parts_with f (Remove k) = record { sums_are = refl; tests = refl; targets = refl; binds = refl; shows = refl }
parts_with f (Show sum) = record { sums_are = refl; tests = refl; targets = refl; binds = refl; shows = refl }
parts_with f Fail = record { sums_are = refl; tests = refl; targets = refl; binds = refl; shows = refl }

-- ---- tests for faults

-- if all elements pass p, and g maps each such element to one that passes q, all images pass q
pub all_map : {A : Type 0} (p q : A → Bool) (g : A → A) → ((x : A) → p x ≡ true → q (g x) ≡ true) → (xs : List A) → list_all p xs ≡ true
    → list_all q (map g xs) ≡ true
all_map p q g each [] h = refl
all_map p q g each (x ∷ xs) h =
    let (first, rest) = and_parts (p x) (list_all p xs) h in
    rw (each x first, all_map p q g each xs rest) refl

not_or : (a b : Bool) → (not a || b) ≡ false → (a ≡ true) × (b ≡ false)
not_or true b h = (refl, h)
not_or false b h = absurd cc

from_not_or : (a b : Bool) → a ≡ true → b ≡ false → (not a || b) ≡ false
from_not_or a b e h = rw (e, h) refl

-- f maps each of these keys to one of the other keys
abbrev pub Covers : (List ℕ → List ℕ) → List (List ℕ) → List (List ℕ) → Type 0
Covers f keys others = (k : List ℕ) → IsAmong keys k → IsAmong others (f k)

pub key_covered : (f : List ℕ → List ℕ) (keys others : List (List ℕ)) → Covers f keys others → (o : Option (List ℕ))
    → some_passes (λ k. not (is_among keys k)) o ≡ false → some_passes (λ k. not (is_among others k)) (option_map f o) ≡ false
key_covered f keys others covers None h = refl
key_covered f keys others covers (Some k) h = not_from_true _ (covers k (not-false _ h))

atom_covered : (f : List ℕ → List ℕ) (keys others : List (List ℕ)) → Covers f keys others → (a : Atom) → reads_among keys a ≡ true
    → reads_among others (atom_with f a) ≡ true
atom_covered f keys others covers (Lit n) h = refl
atom_covered f keys others covers (Read k) h = covers k h
atom_covered f keys others covers (Local x) h = refl

pub unread_with : (f : List ℕ → List ℕ) (keys others : List (List ℕ)) → Covers f keys others → (s : Stmt) → is_unread keys s ≡ false
    → is_unread others (stmt_with f s) ≡ false
unread_with f keys others covers s h =
    let (reads, tests) = not_or (list_all (list_all (λ term. reads_among keys term.1)) (sums s)) (some_passes (λ k. not (is_among keys k)) (tested s)) h in
    let all_read : list_all (list_all (λ term. reads_among others term.1)) (sums (stmt_with f s)) ≡ true =
    rw (parts_with f s).sums_are (all_map (list_all (λ term. reads_among keys term.1)) (list_all (λ term. reads_among others term.1)) (sum_with f)
    (λ sum. all_map (λ term. reads_among keys term.1) (λ term. reads_among others term.1) (term_with f) (λ t. atom_covered f keys others covers t.1) sum)
    (sums s) reads) in
    let none_else : some_passes (λ k. not (is_among others k)) (tested (stmt_with f s))
    ≡ false = rw (parts_with f s).tests (key_covered f keys others covers (tested s) tests) in
    from_not_or _ _ all_read none_else

pub unwritten_with : (f : List ℕ → List ℕ) (keys others : List (List ℕ)) → Covers f keys others → (s : Stmt) → is_unwritten keys s ≡ false
    → is_unwritten others (stmt_with f s) ≡ false
unwritten_with f keys others covers s h = rw (parts_with f s).targets (key_covered f keys others covers (target s) h)

-- the two lists of statements bind the same locals
abbrev pub BindAlike : List Stmt → List Stmt → Type 0
BindAlike ss ts = (x : List ℕ) → is_bound ts x ≡ is_bound ss x

atom_named : (f : List ℕ → List ℕ) (before now : List Stmt) → BindAlike before now → (a : Atom) → locals_bound before a ≡ true
    → locals_bound now (atom_with f a) ≡ true
atom_named f before now alike (Lit n) h = refl
atom_named f before now alike (Read k) h = refl
atom_named f before now alike (Local x) h = alike x ∙ h

name_fresh : (before now : List Stmt) → BindAlike before now → (o : Option (List ℕ)) → some_passes (is_bound before) o ≡ false
    → some_passes (is_bound now) o ≡ false
name_fresh before now alike None h = refl
name_fresh before now alike (Some x) h = alike x ∙ h

pub misnamed_with : (f : List ℕ → List ℕ) (before now : List Stmt) → BindAlike before now → (s : Stmt) → is_misnamed before s ≡ false
    → is_misnamed now (stmt_with f s) ≡ false
misnamed_with f before now alike s h =
    let (reads, binds) = not_or (list_all (list_all (λ term. locals_bound before term.1)) (sums s)) (some_passes (is_bound before) (bound s)) h in
    let all_named : list_all (list_all (λ term. locals_bound now term.1)) (sums (stmt_with f s)) ≡ true =
    rw (parts_with f s).sums_are (all_map (list_all (λ term. locals_bound before term.1)) (list_all (λ term. locals_bound now term.1)) (sum_with f)
    (λ sum. all_map (λ term. locals_bound before term.1) (λ term. locals_bound now term.1) (term_with f) (λ t. atom_named f before now alike t.1) sum)
    (sums s) reads) in
    let fresh : some_passes (is_bound now) (bound (stmt_with f s)) ≡ false = rw (parts_with f s).binds (name_fresh before now alike (bound s) binds) in
    from_not_or _ _ all_named fresh

pub long_with : (f : List ℕ → List ℕ) (s : Stmt) → is_long s ≡ false → is_long (stmt_with f s) ≡ false
long_with f s h =
    not_from_true _ (rw (parts_with f s).sums_are (all_map (λ sum. nat_le (length sum) 16) (λ sum. nat_le (length sum) 16) (sum_with f)
    (λ sum e. subst (λ n. nat_le n 16 ≡ true) (sym (length-map sum (term_with f))) e) (sums s) (not-false _ h)))
