-- Settings, their ranges and their defaults.
use Rattle.std.specs.Prelude.{ℕ, ◌≤◌, Option, None}
use Rattle.bohm_types.specs.Limits.{largest_batch}

-- workers of a side
abbrev pub most_workers : ℕ
most_workers = 16

-- partitions of the keys
abbrev pub most_parts : ℕ
most_parts = 64

-- timestamps below the end that stay readable
abbrev pub most_kept : ℕ
most_kept = 4096

pub record Given : Type 0 where
  pub cc : ℕ
  pub exec : ℕ
  pub parts : ℕ
  pub batch : ℕ
  pub keep : ℕ
  pub at : Option ℕ

abbrev pub IsBetween : ℕ → ℕ → ℕ → Type 0
IsBetween least most n = (least ≤ n) × (n ≤ most)

-- each number is in its range
pub record AreInRange (given : Given) : Type 0 where
  pub cc : IsBetween 1 most_workers given.cc
  pub exec : IsBetween 1 most_workers given.exec
  pub parts : IsBetween 1 most_parts given.parts
  pub batch : IsBetween 1 largest_batch given.batch
  pub keep : given.keep ≤ most_kept

abbrev pub defaults : Given
defaults = record { cc = 1; exec = 1; parts = 1; batch = largest_batch; keep = 0; at = None }
