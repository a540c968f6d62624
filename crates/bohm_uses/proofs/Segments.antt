-- The rest of a segment, and equal digests.
use Rattle.std.proofs.Common.{◌≡◌, ◌⊎◌, ◌++◌, ◌∙◌, ℕ, List, inl, inr, Result, Ok, Err, true, length, take, drop, sym, subst, arith}
use Rattle.std.specs.Result.{OnOk, is_ok}
use Rattle.std.proofs.lemmas.Bool.{false≢true}
use Rattle.std.proofs.lemmas.List.{take_all}
use Rattle.bohm.specs.Digests.{Collide}
use Rattle.bohm.specs.Txn.{Txn}

when_ok : {V E P : Type 0} (r : Result V E) → OnOk r P → is_ok r ≡ true → P
when_ok (Ok v) held ok = held
when_ok (Err e) held ok = absurd (false≢true ok)

-- the rest ran whole, and its replies were appended
pub rest_done : {R V E : Type 0} (Ran : List Txn → List R → Type 0) (Done : List R → Type 0) (n : ℕ) (log rest : List Txn) (before more after : List R)
    (kept : Result V E) → (Ran (drop n log) more → Done (before ++ more)) → Ran (take (length more) rest) more → length more ≡ length rest → rest ≡ drop n log
    → OnOk kept (after ≡ before ++ more) → is_ok kept ≡ true → Done after
rest_done Ran Done n log rest before more after kept completes ran whole is appended ok =
    let all : take (length more) rest ≡ drop n log = take_all (length more) rest (omega (arith, whole)) ∙ is in
    subst Done (sym (when_ok kept appended ok)) (completes (subst (λ (txns : List Txn). Ran txns more) all ran))

-- some two texts collide
pub found_collision : {A : Type 0} (a b : List ℕ) → A ⊎ Collide a b → A ⊎ ((a : List ℕ) × (b : List ℕ) × Collide a b)
found_collision a b (inl is) = inl is
found_collision a b (inr collide) = inr (a, b, collide)
