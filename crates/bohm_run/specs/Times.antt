-- Timestamps whose store can be printed, or can't.
use Rattle.std.specs.Prelude.{◌≡◌, ℕ, ◌-◌, ◌<◌, ◌≤◌, unwrap_or}
use Rattle.bohm_settings.specs.Given.{Given}
use Rattle.bohm_answer.specs.declared.fault.RunFault.{RunFault}
use Rattle.bohm_answer.specs.declared.fault.RunFault.TheVariants.{Read, TooLong, Text, Check, Trimmed, Future, NoMemory, Write}

-- after this many transactions the timestamp is the requested one, and it is readable
pub record IsReadableAt (given : Given) (count ts : ℕ) : Type 0 where
  pub time : ts ≡ unwrap_or given.at count
  pub there : ts ≤ count
  pub kept : count - given.keep ≤ ts

-- a fault of the requested timestamp, after this many transactions
abbrev pub IsUnreadable : Given → ℕ → RunFault → Type 0
IsUnreadable given count Read = ⊥
IsUnreadable given count TooLong = ⊥
IsUnreadable given count (Text fault) = ⊥
IsUnreadable given count (Check fault) = ⊥
IsUnreadable given count Trimmed = unwrap_or given.at count < count - given.keep
IsUnreadable given count Future = count < unwrap_or given.at count
IsUnreadable given count NoMemory = ⊥
IsUnreadable given count (Write sent) = ⊥
