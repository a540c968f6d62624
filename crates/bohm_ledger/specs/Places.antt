-- Which batch has a place.
use Rattle.std.specs.Prelude.{◌≡◌, ◌⊎◌, ℕ, ◌+◌, List, [], ◌∷◌, ⊤}
use Rattle.bohm_ledger.specs.Rules.{Rules}
use Rattle.bohm_ledger.specs.Ledgers.{MayGo}

-- the batch has this place, of batches of which the first has the place `from`
abbrev pub IsAt : ℕ → ℕ → List ℕ → List (List ℕ) → Type 0
IsAt place from b [] = ⊥
IsAt place from b (x ∷ xs) = ((place ≡ from) × (b ≡ x)) ⊎ IsAt place (from + 1) b xs

-- no batch has this place, or the one that has it may be gone; the first of them has the place `from` and this number of its first transaction
abbrev pub IsMissing : {Defs : Type 0} → Rules Defs → ℕ → ℕ → ℕ → ℕ → List (List ℕ) → Type 0
IsMissing rules checkpoint place from first [] = ⊤
IsMissing rules checkpoint place from first (b ∷ bs) =
    (place ≡ from → MayGo rules checkpoint first b bs) × IsMissing rules checkpoint place (from + 1) (first + rules.size b) bs
