-- The bindings of a call's values come to their end, whatever the values are.
use Rattle.std.proofs.Common.{◌≡◌, ℕ, suc, ◌+◌, ◌-◌, ◌<◌, ◌≤◌, ◌^◌, Bool, true, false, List, [], ◌∷◌, ◌++◌, length, Ok, refl, ap, sym, ◌∙◌, arith, append_assoc, append-nil}
use Rattle.std.specs.Prelude.{ℤ, pos, negsuc, Result, Some, nat_lt, ◌+ℤ◌, ◌-ℤ◌}
use Rattle.std.specs.List.{AllByRecursion}
use Rattle.std.proofs.lemmas.Bool.Decides.{nat_tests}
use Rattle.std.proofs.lemmas.Int.{ints}
use Rattle.bohm_types.specs.Procedure.{lets, sum_by, sum_of}
use Rattle.bohm_types.specs.Sound.{IsNumber}
use Rattle.bohm_types.specs.Stmt.{Stmt, Bind}
use Rattle.bohm_types.specs.Term.{Lit}
use Rattle.bohm_types.specs.Txn.{Txn}
use Rattle.bohm_txn.specs.declared.outcome.Reason.{Reason}
use Rattle.bohm_txn.specs.Meaning.{Look, Locals, sum_value, then_do, bind, fits, in_range}
use Rattle.bohm_txn.specs.Tables.{Tables, cell_at, run_with, step, stop_at, tables_from, taken}
use Rattle.bohm_shapes.specs.Running.{bound_to}

-- ---- the value of a value's sum

in_range_if : (z : ℤ) → fits z ≡ true → in_range (Some z) ≡ Ok z
in_range_if z e = rw e refl

-- the sum of a size that is a literal, and of one that isn't
small_sum : (minus : Bool) (size : ℕ) → nat_lt size (2 ^ 63) ≡ true → sum_by minus size ≡ (minus, Lit size) ∷ []
small_sum minus size e = rw e refl

large_sum : (minus : Bool) (size : ℕ) → nat_lt size (2 ^ 63) ≡ false → sum_by minus size ≡ (minus, Lit (2 ^ 63 - 1)) ∷ (minus, Lit 1) ∷ []
large_sum minus size e = rw e refl

is_small : (n : ℕ) → n < 2 ^ 63 → nat_lt n (2 ^ 63) ≡ true
is_small n h = grind (arith, nat_tests)

module _ (look : Look) (locals : Locals) where
  positive : (n : ℕ) → n < 2 ^ 63 → sum_value look locals (sum_of (pos n)) ≡ Ok (pos n)
  positive n h =
      let total : pos 0 +ℤ pos n ≡ pos n = omega (arith, ints) in
      ap (sum_value look locals) (small_sum false n (is_small n h)) ∙ ap (λ (z : ℤ). in_range (Some z)) total ∙ in_range_if (pos n) (is_small n h)

  negative : (n : ℕ) (b : Bool) → nat_lt (suc n) (2 ^ 63) ≡ b → n < 2 ^ 63 → sum_value look locals (sum_of (negsuc n)) ≡ Ok (negsuc n)
  negative n true e h =
      let total : pos 0 -ℤ pos (suc n) ≡ negsuc n = omega (arith, ints) in
      ap (sum_value look locals) (small_sum true (suc n) e) ∙ ap (λ (z : ℤ). in_range (Some z)) total ∙ in_range_if (negsuc n) (is_small n h)
  negative n false e h =
      let least : n ≡ 2 ^ 63 - 1 = grind (arith, nat_tests) in
      let total : (pos 0 -ℤ pos (2 ^ 63 - 1)) -ℤ pos 1 ≡ negsuc n = omega (arith, ints, least) in
      ap (sum_value look locals) (large_sum true (suc n) e) ∙ ap (λ (z : ℤ). in_range (Some z)) total ∙ in_range_if (negsuc n) (is_small n h)

  pub value_sum : (v : ℤ) → IsNumber v → sum_value look locals (sum_of v) ≡ Ok v
  value_sum (pos n) h = positive n h
  value_sum (negsuc n) h = negative n (nat_lt (suc n) (2 ^ 63)) refl h

-- ---- the bindings

-- the tables with more locals
abbrev pub with_locals : Tables → Locals → Tables
with_locals w more = record w { locals = w.locals ++ more }

bound_next : (t : Txn) (w : Tables) (x : List ℕ) (v : ℤ) → IsNumber v → step t w (Bind x (sum_of v)) ≡ Ok (with_locals w ((x, v) ∷ []))
bound_next t w x v h =
    ap (λ (r : Result ℤ Reason). then_do (then_do r (bind (run_with w []) x)) (taken t w)) (value_sum (cell_at t.reads w.seen) w.locals v h)

no_more : (w : Tables) → with_locals w [] ≡ w
no_more w = ap (λ (ls : Locals). record w { locals = ls }) (append-nil w.locals)

-- after the bindings of values, the first of which has number n
pub lets_run : (t : Txn) (w : Tables) (n : ℕ) (xs : List (List ℕ)) (vs : List ℤ) (rest : List Stmt) → AllByRecursion IsNumber vs
    → length vs ≤ length xs → tables_from t w n (lets xs vs ++ rest) ≡ tables_from t (with_locals w (bound_to xs vs)) (length vs + n) rest
lets_run t w n [] [] rest numbers few = let count : n ≡ 0 + n = omega arith in λ i. tables_from t (sym (no_more w) i) (count i) rest
lets_run t w n [] (v ∷ vs) rest numbers few = absurd (omega (arith, few))
lets_run t w n (x ∷ xs) [] rest numbers few = let count : n ≡ 0 + n = omega arith in λ i. tables_from t (sym (no_more w) i) (count i) rest
lets_run t w n (x ∷ xs) (v ∷ vs) rest numbers few =
    let next = with_locals w ((x, v) ∷ []) in
    let count : length vs + (n + 1) ≡ suc (length vs) + n = omega arith in
    ap (λ r. stop_at n r (λ (u : Tables). tables_from t u (n + 1) (lets xs vs ++ rest))) (bound_next t w x v numbers.0)
    ∙ lets_run t next (n + 1) xs vs rest numbers.1 (omega (arith, few))
    ∙ (λ i. tables_from t (record w { locals = append_assoc w.locals ((x, v) ∷ []) (bound_to xs vs) i }) (count i) rest)
