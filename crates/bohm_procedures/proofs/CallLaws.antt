-- The transaction that a call runs by the compiled body of its procedure.
use Rattle.std.proofs.Common.{◌≡◌, ℕ, zero, suc, Bool, true, false, List, [], ◌∷◌, length, map, take, refl, sym, ap, ◌∙◌, arith}
use Rattle.std.specs.Prelude.{ℤ, not, ◌||◌, Option, Some, None}
use Rattle.std.specs.List.{AllByRecursion}
use Rattle.std.specs.Cmp.Lexicographic.{slice_cmp}
use Rattle.std.specs.Ordering.{nat_cmp, is_eq}
use Rattle.std.specs.Str.{bytes_eq}
use Rattle.std.specs.declared.cmp.Ordering.TheVariants.{Less, Equal, Greater}
use Rattle.std.proofs.lemmas.Bool.{and_parts, false≢true}
use Rattle.std.proofs.lemmas.List.{length-map}
use Rattle.std.proofs.lemmas.Map.Text.{is_eq-slice_cmp}
use Rattle.bohm_types.specs.Accesses.{OnSomeKey, StmtWrites}
use Rattle.bohm_types.specs.Keys.{is_among, IsAmong}
use Rattle.bohm_types.specs.KeySets.{inserted, inserted_by, key_set}
use Rattle.bohm_types.specs.Parts.{target}
use Rattle.bohm_types.specs.Procedure.{Procedure, instance, stands_for}
use Rattle.bohm_types.specs.Stmt.{Stmt}
use Rattle.bohm_log.proofs.ForCallers.{among_key_set}
use Rattle.bohm_txn.specs.Declares.{IsUsable}
use Rattle.bohm_txn.proofs.ForCallers.{key_itself, same_key, usable}
use Rattle.bohm_shapes.specs.Apart.{all_apart}
use Rattle.bohm_shapes.specs.declared.shape.Shape.{Shape}
use Rattle.bohm_shapes.specs.Filled.{txn_filled}
use Rattle.bohm_shapes.specs.Made.{IsLike}
use Rattle.bohm_shapes.specs.Running.{IsUsable as IsRunnableShape}
use Rattle.bohm_shapes.proofs.ForCallers.{call_body}
use Rattle.bohm_procedures.specs.Accepting.{IsAccepted, own as own_of}
use Rattle.bohm_procedures.specs.Compiling.{run_of}
use Rattle.bohm_procedures.proofs.InstanceLaw.{instance_well}

-- ---- keys that differ from one another

not_or : (a b : Bool) → (a || b) ≡ false → (a ≡ false) × (b ≡ false)
not_or true b e = absurd cc
not_or false b e = (refl, e)

fewer_among : (x : List ℕ) (n : ℕ) (xs : List (List ℕ)) → is_among xs x ≡ false → is_among (take n xs) x ≡ false
fewer_among x zero xs e = refl
fewer_among x (suc n) [] e = refl
fewer_among x (suc n) (y ∷ ys) e =
    let (first, rest) = not_or (bytes_eq y x) (is_among ys x) e in
    rw (first, fewer_among x n ys rest) refl

not_among : (b : Bool) → not b ≡ true → b ≡ false
not_among true e = absurd cc
not_among false e = refl

-- the first of some keys that differ from one another differ from one another
pub first_apart : (n : ℕ) (xs : List (List ℕ)) → all_apart xs ≡ true → all_apart (take n xs) ≡ true
first_apart zero xs e = refl
first_apart (suc n) [] e = refl
first_apart (suc n) (x ∷ xs) e =
    let (first, rest) = and_parts (not (is_among xs x)) (all_apart xs) e in
    let few : is_among (take n xs) x ≡ false = fewer_among x n xs (not_among (is_among xs x) first) in
    rw (few, first_apart n xs rest) refl

one_more : (k : List ℕ) (xs : List (List ℕ)) → is_among xs k ≡ false → length (inserted k xs) ≡ suc (length xs)
one_more k [] e = refl
one_more k (x ∷ xs) e =
    let (first, rest) = not_or (bytes_eq x k) (is_among xs k) e in
    elim (slice_cmp nat_cmp k x) as (λ o. slice_cmp nat_cmp k x ≡ o → length (inserted_by o k x xs (inserted k xs)) ≡ suc (suc (length xs))) [
      | Less ↦ λ h. refl
      | Equal ↦ λ h.
          let eq : bytes_eq k x ≡ true = sym (is_eq-slice_cmp k x) ∙ ap is_eq h in
          let same : k ≡ x = same_key k x eq in
          let there : bytes_eq x k ≡ true = ap (λ (y : List ℕ). bytes_eq y k) (sym same) ∙ key_itself k in
          absurd (false≢true (sym first ∙ there))
      | Greater ↦ λ h. ap suc (one_more k xs rest)
    ] refl

-- their set has as many keys
pub set_length : (xs : List (List ℕ)) → all_apart xs ≡ true → length (key_set xs) ≡ length xs
set_length [] e = refl
set_length (x ∷ xs) e =
    let (first, rest) = and_parts (not (is_among xs x)) (all_apart xs) e in
    let apart : is_among (key_set xs) x ≡ false = among_key_set xs x ∙ not_among (is_among xs x) first in
    one_more x (key_set xs) apart ∙ ap suc (set_length xs rest)

-- ---- the transaction that a call runs

on_more : (P Q : List ℕ → Type 0) → ((k : List ℕ) → P k → Q k) → (o : Option (List ℕ)) → OnSomeKey P o → OnSomeKey Q o
on_more P Q more None h = tt
on_more P Q more (Some k) h = more k h

writes_more : (P Q : List ℕ → Type 0) → ((k : List ℕ) → P k → Q k) → (ss : List Stmt) → AllByRecursion (StmtWrites P) ss
    → AllByRecursion (StmtWrites Q) ss
writes_more P Q more [] h = tt
writes_more P Q more (s ∷ ss) h = (on_more P Q more (target s) h.0, writes_more P Q more ss h.1)

-- it is within the limits, and reads and writes declared keys alone
pub run_usable : (p : Procedure) (ks : List (List ℕ)) (vs : List ℤ) → IsAccepted p → length vs ≡ length p.values → IsUsable (run_of p ks vs)
run_usable p ks vs accepted e =
    let f = stands_for p.keys ks in
    let whole : IsUsable (instance p ks vs) = usable (instance p ks vs) (instance_well p ks vs accepted e) in
    let own = usable (own_of p) accepted.own in
    record {
      few_stmts = whole.few_stmts;
      few_reads = whole.few_reads;
      few_writes = omega (arith, own.few_writes, length-map p.writes f);
      few_shows = whole.few_shows;
      short = whole.short;
      reads = whole.reads;
      writes = writes_more (IsAmong (key_set (map f p.writes))) (IsAmong (map f p.writes)) (λ k h. sym (among_key_set (map f p.writes) k) ∙ h)
          (instance p ks vs).body whole.writes;
    }

-- it does what the shape does
pub run_body : (p : Procedure) (s : Shape) (ks : List (List ℕ)) (vs : List ℤ) → IsLike p s → IsRunnableShape s → length vs ≡ length p.values
    → (run_of p ks vs).body ≡ (txn_filled s (map (stands_for p.keys ks) s.names.items) vs).body
run_body p s ks vs like shaped e = sym (call_body p s ks vs like shaped e)

take_map : (f : List ℕ → List ℕ) (n : ℕ) (xs : List (List ℕ)) → take n (map f xs) ≡ map f (take n xs)
take_map f zero xs = refl
take_map f (suc n) [] = refl
take_map f (suc n) (x ∷ xs) = ap (λ (ys : List (List ℕ)). f x ∷ ys) (take_map f n xs)

-- it writes the first keys of the call
pub run_writes : (p : Procedure) (s : Shape) (ks : List (List ℕ)) (vs : List ℤ) → IsLike p s
    → (run_of p ks vs).writes ≡ take s.writes (map (stands_for p.keys ks) s.names.items)
run_writes p s ks vs like =
    let f = stands_for p.keys ks in
    sym (take_map f s.writes s.names.items ∙ ap (map f) like.writes)

-- if the call's keys differ from one another, it writes as many keys as the instance
pub run_many : (p : Procedure) (s : Shape) (ks : List (List ℕ)) (vs : List ℤ) → IsLike p s
    → all_apart (map (stands_for p.keys ks) s.names.items) ≡ true → length (run_of p ks vs).writes ≡ length (instance p ks vs).writes
run_many p s ks vs like apart =
    let f = stands_for p.keys ks in
    let same = run_writes p s ks vs like in
    sym (set_length (map f p.writes) (ap all_apart same ∙ first_apart s.writes (map f s.names.items) apart))
