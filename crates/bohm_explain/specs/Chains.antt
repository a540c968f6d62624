-- Chains of wanted versions. A chain is a list of positions of a part, each of which but the first wants a version of the one before.
use Rattle.std.specs.Prelude.{◌≡◌, ℕ, ◌<◌, ◌≤◌, List, [], ◌∷◌, ◌++◌, Contains, length, slice_index, sum_by}
use Rattle.bohm_types.specs.Txn.{Txn}
use Rattle.bohm_explain.specs.declared.arrow.Arrow.{Arrow}
use Rattle.bohm_explain.specs.Wanted.{arrows}

-- q wants a version of p
abbrev pub IsWantedBy : List Arrow → ℕ → ℕ → Type 0
IsWantedBy arrows p q = (a : Arrow) × Contains arrows a × (a.from ≡ p) × (a.to ≡ q)

-- p followed by these is a chain, among n positions
abbrev pub IsChainFrom : ℕ → List Arrow → ℕ → List ℕ → Type 0
IsChainFrom n arrows p [] = p < n
IsChainFrom n arrows p (q ∷ rest) = (p < n) × IsWantedBy arrows p q × IsChainFrom n arrows q rest

abbrev pub IsChain : ℕ → List Arrow → List ℕ → Type 0
IsChain n arrows [] = ⊥
IsChain n arrows (p ∷ rest) = IsChainFrom n arrows p rest

-- a chain of a part's transactions
abbrev pub IsChainOf : List Txn → List ℕ → Type 0
IsChainOf txns chain = IsChain (length txns) (arrows txns) chain

abbrev pub BeginsAt : ℕ → List ℕ → Type 0
BeginsAt p [] = ⊥
BeginsAt p (q ∷ rest) = q ≡ p

abbrev pub last_of : ℕ → List ℕ → ℕ
last_of p [] = p
last_of p (q ∷ rest) = last_of q rest

abbrev pub EndsAt : ℕ → List ℕ → Type 0
EndsAt p [] = ⊥
EndsAt p (q ∷ rest) = last_of q rest ≡ p

-- q follows p in the chain
pub record LeadsOn (p q : ℕ) (chain : List ℕ) : Type 0 where
  pub before : List ℕ
  pub after : List ℕ
  pub parts : chain ≡ before ++ after
  pub to : EndsAt p before
  pub from : BeginsAt q after

-- the total weight of its positions
abbrev pub weight_of : List ℕ → List ℕ → ℕ
weight_of weights chain = sum_by (slice_index weights) chain

-- one of these chains has this measure, and none has a greater one
pub record IsGreatest (measure : List ℕ → ℕ) (Is : List ℕ → Type 0) (n : ℕ) : Type 0 where
  pub chain : List ℕ
  pub is : Is chain
  pub measures : measure chain ≡ n
  pub none_above : (other : List ℕ) → Is other → measure other ≤ n
