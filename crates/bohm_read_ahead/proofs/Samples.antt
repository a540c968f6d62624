-- Transactions at equal distances.
use Rattle.std.proofs.Common.{◌≡◌, ℕ, zero, suc, ◌+◌, ◌-◌, ◌<◌, List, [], ◌∷◌, length, drop, get_or, refl, ap, sym, ◌∙◌, arith}
use Rattle.std.proofs.lemmas.List.{drop_more, drop-drop}
use Rattle.bohm_types.specs.Txn.{Txn}
use Rattle.bohm_read_ahead.specs.Sharing.{every}

-- every step-th transaction after n others
every_after : (step n : ℕ) (txns : List Txn) → every step n txns ≡ every step 0 (drop n txns)
every_after step zero txns = refl
every_after step (suc n) [] = refl
every_after step (suc n) (t ∷ ts) = every_after step n ts

-- the sample from index i on is the transaction there, followed by the sample one step on
pub sample_on : (step i : ℕ) (txns : List Txn) (d : Txn) → 0 < step → i < length txns
    → every step 0 (drop i txns) ≡ get_or txns i d ∷ every step 0 (drop (i + step) txns)
sample_on step i txns d some inside =
    let there : (i + 1) + (step - 1) ≡ i + step = omega (arith, some) in
    ap (every step 0) (drop_more txns i d inside) ∙ ap (λ ts. get_or txns i d ∷ ts)
    (every_after step (step - 1) (drop (i + 1) txns) ∙ ap (every step 0) (drop-drop (step - 1) (i + 1) txns ∙ ap (λ n. drop n txns) there))
