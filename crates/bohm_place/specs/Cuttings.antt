-- Cuttings of a log into batches, and the plans that are right for them.
use Rattle.std.specs.Prelude.{◌≡◌, ℕ, ◌+◌, ◌<◌, ◌≤◌, List, length, take, drop, slice_get, slice_index}
use Rattle.std.specs.Prelude.{Bool, ◌&&◌, nat_le, Option, Some, None, if◌then◌else◌, All}
use Rattle.std.specs.List.{sum, list_all}
use Rattle.bohm_types.specs.Txn.{Txn}
use Rattle.bohm_place.specs.Plans.{Planned, IsRightPlan}
use Rattle.bohm_types.specs.Limits.{largest_batch, last_timestamp}

-- a log, the timestamp of its first transaction, and the sizes of its batches
pub record Cutting : Type 0 where
  pub first : ℕ
  pub log : List Txn
  pub sizes : List ℕ

-- the number of transactions before the batch at this index
abbrev pub ahead : List ℕ → ℕ → ℕ
ahead sizes i = sum (take i sizes)

-- the timestamp of the first transaction of the batch at this index
abbrev pub first_at : Cutting → ℕ → ℕ
first_at c i = c.first + ahead c.sizes i

-- the transactions of the batch at this index
abbrev pub txns_at : Cutting → ℕ → List Txn
txns_at c i = take (slice_index c.sizes i) (drop (ahead c.sizes i) c.log)

-- the plan is right for the batch at this index
pub record IsPlanAt (c : Cutting) (i : ℕ) (p : Planned) : Type 0 where
  pub first : p.first ≡ first_at c i
  pub right : ∥ IsRightPlan (txns_at c i) p ∥₁

-- each batch has its plan, in order
pub record ArePlans (c : Cutting) (plans : List Planned) : Type 0 where
  pub count : length plans ≡ length c.sizes
  pub each : (i : ℕ) (p : Planned) → slice_get plans i ≡ Some p → IsPlanAt c i p

-- ---- the sizes of batches

abbrev pub is_size : ℕ → Bool
is_size n = nat_le 1 n && nat_le n largest_batch

-- each size is a possible size of a batch, and their total is a possible length of a log
abbrev pub are_sizes : List ℕ → Bool
are_sizes sizes = list_all is_size sizes && nat_le (sum sizes) last_timestamp

-- these sizes, if they are possible sizes of a log's batches
abbrev pub cuts_of : List ℕ → Option (List ℕ)
cuts_of sizes = if are_sizes sizes then Some sizes else None

-- each size is from 1 to `batch`, and all but the last are `batch`
pub record IsEven (batch : ℕ) (sizes : List ℕ) : Type 0 where
  pub each : All (λ n. (1 ≤ n) × (n ≤ batch)) sizes
  pub full : (i : ℕ) → i + 1 < length sizes → slice_index sizes i ≡ batch
