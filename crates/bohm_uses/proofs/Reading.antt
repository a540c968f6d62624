-- A read of the past that isn't refused is at or above the limit.
use Rattle.std.proofs.Common.{◌≡◌, ℕ, ◌<◌, ◌≤◌, Result, Ok, Err, is_ok, ap, sym, ◌∙◌, ⊎_elim}
use Rattle.std.proofs.lemmas.Bool.{cases_lt, true≢false}

pub not_below : {T E : Type 0} (r : Result T E) (v : T) (e : E) (a b : ℕ) → r ≡ Ok v → (a < b → r ≡ Err e) → b ≤ a
not_below r v e a b ok err = ⊎_elim
    (λ (low : a < b). absurd (true≢false (sym (ap is_ok ok) ∙ ap is_ok (err low))))
    (λ (high : b ≤ a). high)
    (cases_lt a b)

abbrev value : {T E : Type 0} → T → Result T E → T
value x (Ok y) = y
value x (Err e) = x

pub same_value : {T E : Type 0} (r : Result T E) (v w : T) → r ≡ Ok v → r ≡ Ok w → v ≡ w
same_value r v w is was = sym (ap (value v) is) ∙ ap (value v) was
