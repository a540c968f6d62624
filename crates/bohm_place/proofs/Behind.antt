-- Results of planning, by one worker or several: the rows of the plan, and the chains after the batch.
use Rattle.std.proofs.Common.{◌≡◌, ℕ, ◌+◌, ◌^◌, ◌<◌, ◌≤◌, ◌++◌, List, length, All, true, refl, arith}
use Rattle.bohm_types.specs.Txn.{Txn}
use Rattle.bohm_place.specs.declared.row.Row.{Row}
use Rattle.bohm_place.specs.Chains.{Keyed, placeholders_in, chain_in}
use Rattle.bohm_place.specs.Writers.{writers}
use Rattle.bohm_place.specs.Plans.{AreRows}
use Rattle.bohm_place.specs.Shares.{AreWellFormed, placeholders_made, rows_from}
use Rattle.bohm_place.proofs.Rising.{begins-append}
use Rattle.bohm_place.proofs.Placed.{Below, below_all, all_below}
use Rattle.bohm_place.proofs.Found.{hand_below}
use Rattle.bohm_place.proofs.Right.{begins-made}
use Rattle.bohm_place.proofs.Nested.{length-rows_from, laid-rows_from}
use Rattle.bohm_place.proofs.Parted.{writes_distinct}

-- the number of rows is below 2^32, and each row's accesses follow those of the rows before it
pub are_rows : (first : ℕ) (txns : List Txn) (rows : List Row) → 0 < first → first + length txns ≤ 2 ^ 32 → rows ≡ rows_from 0 0 txns → AreRows rows
are_rows first txns rows above room e = rw e (record { few = omega (arith, length-rows_from 0 0 txns, room, above); laid = laid-rows_from 0 0 txns })

-- all begins in the chains before the batch are below the first timestamp of the batch
pub early : (part : List ℕ → ℕ) (first : ℕ) (shards given : List Keyed) → given ≡ shards → ((k : List ℕ) → All (λ b. b < first) (chain_in part shards k))
    → (k : List ℕ) → Below first (placeholders_in part given k)
early part first shards given same earlier k = rw same (below_all first (placeholders_in part shards k) (earlier k))

module _ (part : List ℕ → ℕ) (first : ℕ) (txns : List Txn) (shards given left : List Keyed) (same : given ≡ shards) (k : List ℕ)
    (behind : placeholders_in part left k ≡ placeholders_in part given k ++ placeholders_made first txns k) where
  -- a chain after the batch is the chain before the batch, followed by the key's writers in the batch
  pub chain_on : AreWellFormed txns → chain_in part left k ≡ chain_in part shards k ++ writers first txns k
  chain_on formed = rw (
    behind,
    begins-append (placeholders_in part given k) (placeholders_made first txns k),
    begins-made first txns k (writes_distinct txns formed),
    same,
  ) refl

  -- all begins in a chain after the batch are below the first timestamp after the batch
  pub chain_below : ((q : List ℕ) → All (λ b. b < first) (chain_in part shards q)) → All (λ b. b < first + length txns) (chain_in part left k)
  chain_below earlier =
      let before = placeholders_in part given k in
      let after = placeholders_in part left k in
      all_below (first + length txns) after (hand_below true first (first + length txns) before after txns k (omega arith)
      (early part first shards given same earlier k) behind)
