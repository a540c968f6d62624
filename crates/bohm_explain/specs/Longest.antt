-- The longest chain of a part.
use Rattle.std.specs.Prelude.{◌≡◌, ℕ, ◌+◌, ◌<◌, ◌≤◌, ◌⊎◌, List, length, map}
use Rattle.bohm_types.specs.Txn.{Txn}
use Rattle.bohm_place.specs.Chains.{greatest}
use Rattle.bohm_explain.specs.Chains.{IsChainOf}
use Rattle.bohm_explain.specs.Figures.{depths}

-- a chain of these transactions, the first of which is at place `first` in the log, as long as the greatest depth
pub record IsLongestOf (first : ℕ) (txns : List Txn) (places : List ℕ) : Type 0 where
  pub chain : List ℕ
  pub is : IsChainOf txns chain
  pub placed : places ≡ map (λ p. first + p) chain
  pub long : length places ≡ greatest (depths txns)

-- the old chain if none of these transactions' is longer, else a longest chain of these transactions
abbrev pub IsLonger : ℕ → List Txn → List ℕ → List ℕ → Type 0
IsLonger first txns old new = ((new ≡ old) × (greatest (depths txns) ≤ length old)) ⊎ (IsLongestOf first txns new × (length old < length new))
