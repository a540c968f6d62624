-- The instance of a sound procedure is a sound transaction, and the procedure of a sound own instance is sound.
use Rattle.std.proofs.Common.{◌≡◌, ℕ, zero, suc, ◌<◌, ◌-◌, ◌^◌, Bool, true, false, List, [], ◌∷◌}
use Rattle.std.proofs.Common.{length, map, drop, Option, Some, None, refl, arith}
use Rattle.std.specs.Prelude.{ℤ, pos, negsuc, nat_lt, if◌then◌else◌}
use Rattle.std.specs.List.{AllByRecursion}
use Rattle.std.specs.Ordering.{nat_cmp}
use Rattle.std.specs.Cmp.Lexicographic.{slice_cmp}
use Rattle.std.specs.declared.cmp.Ordering.TheVariants.{Less, Equal, Greater}
use Rattle.std.proofs.lemmas.Bool.Decides.{nat_tests}
use Rattle.bohm_types.specs.Shape.{is_term}
use Rattle.bohm_types.specs.Sound.{IsName, IsAtom, IsTerm, IsSum, IsGuard, IsStmt, IsNumber, IsTxn}
use Rattle.bohm_types.specs.Term.{Atom, Lit, Read, Local}
use Rattle.bohm_types.specs.Stmt.{Cond, Stmt, Bind, Need, Has, Lacks, Put, Remove, Show, Fail}
use Rattle.bohm_log.specs.SoundLogs.{IsSoundProcedure}
use Rattle.bohm_log.proofs.Lists.{each_append, each_map}
use Rattle.bohm_types.specs.Substitution.{atom_with, term_with, sum_with, guard_with, stmt_with}
use Rattle.bohm_types.specs.KeySets.{inserted_by, inserted, key_set}
use Rattle.bohm_types.specs.Procedure.{Procedure, argument_or, stands_for, is_minus, sum_of, lets, instance, procedure_with}
use Rattle.bohm_types.specs.Txn.{Txn}
use Rattle.std.specs.Int.RustNames.{unsigned_abs}
use Rattle.bohm_types.specs.Keys.{place}
use Rattle.std.specs.Prelude.{slice_index_or}
use Rattle.std.proofs.lemmas.List.{length-map}

-- the function maps each valid name to a valid name
KeepsNames : (List ℕ → List ℕ) → Type 0
KeepsNames f = (k : List ℕ) → IsName k → IsName (f k)

term_sound : (f : List ℕ → List ℕ) → KeepsNames f → (minus : Bool) (a : Atom) → (is_term minus a ≡ true) × IsAtom a
    → (is_term minus (atom_with f a) ≡ true) × IsAtom (atom_with f a)
unfolding KeepsNames
term_sound f keeps minus (Lit n) h = h
term_sound f keeps minus (Read k) h = (refl, keeps k h.1)
term_sound f keeps minus (Local x) h = h

sum_sound : (f : List ℕ → List ℕ) → KeepsNames f → (sum : List (Bool × Atom)) → IsSum sum → IsSum (sum_with f sum)
sum_sound f keeps sum h = (omega (arith, h.0, length-map sum (term_with f)), each_map IsTerm IsTerm (term_with f) (λ t. term_sound f keeps t.0 t.1) sum h.1)

guard_sound : (f : List ℕ → List ℕ) → KeepsNames f → (o : Option Cond) → IsGuard o → IsGuard (guard_with f o)
guard_sound f keeps None h = tt
guard_sound f keeps (Some c) h = (sum_sound f keeps c.left h.0, sum_sound f keeps c.right h.1)

stmt_sound : (f : List ℕ → List ℕ) → KeepsNames f → (s : Stmt) → IsStmt s → IsStmt (stmt_with f s)
unfolding KeepsNames
stmt_sound f keeps (Bind x sum) h = (h.0, sum_sound f keeps sum h.1)
stmt_sound f keeps (Need c) h = (sum_sound f keeps c.left h.0, sum_sound f keeps c.right h.1)
stmt_sound f keeps (Has k) h = keeps k h
stmt_sound f keeps (Lacks k) h = keeps k h
stmt_sound f keeps (Put k sum guard) h = (keeps k h.0, sum_sound f keeps sum h.1, guard_sound f keeps guard h.2)
stmt_sound f keeps (Remove k) h = keeps k h
stmt_sound f keeps (Show sum) h = sum_sound f keeps sum h
stmt_sound f keeps Fail h = tt

-- ---- sets of keys

inserted_sound : (k : List ℕ) (xs : List (List ℕ)) → IsName k → AllByRecursion IsName xs → AllByRecursion IsName (inserted k xs)
inserted_sound k [] e h = (e, tt)
inserted_sound k (x ∷ xs) e h =
    elim (slice_cmp nat_cmp k x) as (λ o. AllByRecursion IsName (inserted_by o k x xs (inserted k xs))) [
      | Less ↦ (e, h)
      | Equal ↦ h
      | Greater ↦ (h.0, inserted_sound k xs e h.1)
    ]

key_set_sound : (ks : List (List ℕ)) → AllByRecursion IsName ks → AllByRecursion IsName (key_set ks)
key_set_sound [] h = tt
key_set_sound (k ∷ ks) h = inserted_sound k (key_set ks) h.0 (key_set_sound ks h.1)

-- ---- the `let` statements of values

sized : (v : ℤ) → IsNumber v → nat_lt (unsigned_abs v) (2 ^ 63) ≡ true → IsSum ((is_minus v, Lit (unsigned_abs v)) ∷ [])
sized (pos n) h e =
    let term : is_term false (Lit n) ≡ true = grind (arith, nat_tests, h) in
    (omega arith, ((term, h), tt))
sized (negsuc n) h e =
    let term : is_term true (Lit (suc n)) ≡ true = grind (arith, nat_tests, e) in
    let below : suc n < 2 ^ 63 = grind (arith, nat_tests, e) in
    (omega arith, ((term, below), tt))

two : (minus : Bool) → IsSum ((minus, Lit (2 ^ 63 - 1)) ∷ (minus, Lit 1) ∷ [])
two true = (omega arith, ((refl, omega arith), ((refl, omega arith), tt)))
two false = (omega arith, ((refl, omega arith), ((refl, omega arith), tt)))

sum_of_sound : (v : ℤ) → IsNumber v → IsSum (sum_of v)
sum_of_sound v h =
    elim (nat_lt (unsigned_abs v) (2 ^ 63)) as
    (λ b. nat_lt (unsigned_abs v) (2 ^ 63) ≡ b
    → IsSum (if b then (is_minus v, Lit (unsigned_abs v)) ∷ [] else (is_minus v, Lit (2 ^ 63 - 1)) ∷ (is_minus v, Lit 1) ∷ [])) [
      | true ↦ λ e. sized v h e
      | false ↦ λ e. two (is_minus v)
    ] refl

lets_sound : (xs : List (List ℕ)) (vs : List ℤ) → AllByRecursion IsName xs → AllByRecursion IsNumber vs → AllByRecursion IsStmt (lets xs vs)
lets_sound [] vs h g = tt
lets_sound (x ∷ xs) [] h g = tt
lets_sound (x ∷ xs) (v ∷ vs) h g = ((h.0, sum_of_sound v g.0), lets_sound xs vs h.1 g.1)

-- ---- the instance

argument_sound : (name : List ℕ) (ks : List (List ℕ)) (i : ℕ) → IsName name → AllByRecursion IsName ks → IsName (slice_index_or ks i name)
argument_sound name [] i e h = e
argument_sound name (k ∷ ks) zero e h = h.0
argument_sound name (k ∷ ks) (suc i) e h = argument_sound name ks i e h.1

stands_sound : (ps ks : List (List ℕ)) → AllByRecursion IsName ks → KeepsNames (stands_for ps ks)
unfolding KeepsNames
stands_sound ps ks h name e =
    elim (place ps name) as (λ o. IsName (argument_or name ks o)) [
      | None ↦ e
      | Some i ↦ argument_sound name ks i e h
    ]

pub instance_sound : (p : Procedure) (ks : List (List ℕ)) (vs : List ℤ) → IsSoundProcedure p → AllByRecursion IsName ks → AllByRecursion IsNumber vs
    → IsTxn p.edition (instance p ks vs)
unfolding KeepsNames
instance_sound p ks vs sound names numbers =
    let f : List ℕ → List ℕ = stands_for p.keys ks in
    let keeps : KeepsNames f = stands_sound p.keys ks names in
    record {
      same = refl;
      reads = key_set_sound (map f p.reads) (each_map IsName IsName f keeps p.reads sound.reads);
      writes = key_set_sound (map f p.writes) (each_map IsName IsName f keeps p.writes sound.writes);
      body = each_append IsStmt (lets p.values vs) (map (stmt_with f) p.body) (lets_sound p.values vs sound.values numbers)
          (each_map IsStmt IsStmt (stmt_with f) (stmt_sound f keeps) p.body sound.body);
    }

-- ---- the procedure of an own instance

dropped : {A : Type 0} (P : A → Type 0) (n : ℕ) (xs : List A) → AllByRecursion P xs → AllByRecursion P (drop n xs)
dropped P zero xs h = h
dropped P (suc n) [] h = tt
dropped P (suc n) (x ∷ xs) h = dropped P n xs h.1

pub procedure_sound : (t : Txn) (keys values : List (List ℕ)) → IsTxn t.edition t → AllByRecursion IsName keys → AllByRecursion IsName values
    → IsSoundProcedure (procedure_with t keys values)
procedure_sound t keys values h ks vs =
    record { keys = ks; values = vs; reads = h.reads; writes = h.writes; body = dropped IsStmt (length values) t.body h.body }
