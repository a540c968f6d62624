-- What a machine is after an entry.
use Rattle.std.specs.Prelude.{◌≡◌, ◌≤◌, ℕ, List, false}
use Rattle.bohm_types.specs.Keys.{is_among}
use Rattle.bohm_store.specs.Versions.{Timeline}
use Rattle.bohm_machine.specs.Machines.{floor_of, now_of, past_of, top_of}

-- the machine keeps its past from the last checkpoint on, and these keys are all that changed since
pub record IsSince (m : Timeline) (changed : List (List ℕ)) : Type 0 where
  pub ordered : floor_of m ≤ top_of m
  pub others : (k : List ℕ) → is_among changed k ≡ false → past_of m (floor_of m) k ≡ now_of m k

-- the machine went on, and what it held at the checkpoint is as before
pub record KeepsCheckpoint (was now : Timeline) : Type 0 where
  pub floor : floor_of now ≡ floor_of was
  pub past : floor_of was ≤ top_of was → past_of now (floor_of now) ≡ past_of was (floor_of was)
