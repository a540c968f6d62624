-- The depths and heights of a part's transactions agree with its longest and heaviest chains.
use Rattle.std.proofs.Common.{◌≡◌, ℕ, ◌+◌, ◌<◌, List, length, slice_index, All, Contains, arith}
use Rattle.std.proofs.lemmas.List.{length-replicate, length-map}
use Rattle.bohm_types.specs.Txn.{Txn}
use Rattle.bohm_place.specs.Chains.{greatest}
use Rattle.bohm_explain.specs.declared.arrow.Arrow.{Arrow}
use Rattle.bohm_explain.specs.Chains.{IsChainOf, EndsAt, LeadsOn, weight_of, IsGreatest}
use Rattle.bohm_explain.specs.Figures.{alike, depths}
use Rattle.bohm_explain.specs.Heaviest.{IsInside, heaviest_to}
use Rattle.bohm_explain.specs.Printed.{heights}
use Rattle.bohm_explain.specs.Wanted.{arrows}
use Rattle.bohm_explain.specs.Weighing.{weight, weights}
use Rattle.bohm_explain.proofs.Chaining.{chain_of_all, chain_to, chain_by, count_of, measured}
use Rattle.bohm_explain.proofs.Inside.{inside_below}
use Rattle.bohm_explain.proofs.Rising.{rising}

module _ (txns : List Txn) where
  abbrev n : ℕ
  n = length txns

  inside : All (IsInside n) (arrows txns)
  inside = inside_below txns n n (omega arith)

  as_many : length (alike txns) ≡ n
  as_many = length-replicate {A = ℕ} n 1

  pub depth_is : 0 < n → IsGreatest length (IsChainOf txns) (greatest (depths txns))
  depth_is some = measured (weight_of (alike txns)) length (IsChainOf txns) (greatest (depths txns)) (count_of n (arrows txns))
      (chain_of_all (alike txns) n as_many (arrows txns) (rising txns) inside some)

  pub depth_at : (p : ℕ) → p < n → IsGreatest length (λ c. IsChainOf txns c × EndsAt p c) (slice_index (depths txns) p)
  depth_at p low = measured (weight_of (alike txns)) length (λ c. IsChainOf txns c × EndsAt p c) (slice_index (depths txns) p)
      (λ c is. count_of n (arrows txns) c is.0) (chain_to (alike txns) n as_many (arrows txns) (rising txns) inside p low)

  pub through_is : (a : Arrow) → Contains (arrows txns) a
      → IsGreatest length (λ c. IsChainOf txns c × LeadsOn a.from a.to c) (slice_index (depths txns) a.from + slice_index (heights txns) a.to)
  through_is a has = measured (weight_of (alike txns)) length (λ c. IsChainOf txns c × LeadsOn a.from a.to c)
      (slice_index (depths txns) a.from + slice_index (heights txns) a.to)
      (λ c is. count_of n (arrows txns) c is.0) (chain_by (alike txns) n as_many (arrows txns) (rising txns) inside a has)

  pub heaviest_is : 0 < n → IsGreatest (weight_of (weights txns)) (IsChainOf txns) (greatest (heaviest_to (weights txns) (arrows txns)))
  heaviest_is some = chain_of_all (weights txns) n (length-map txns weight) (arrows txns) (rising txns) inside some
