-- What two runs on the same bytes have in common.
use Rattle.std.specs.Prelude.{◌≡◌, List, ℕ, Option}
use Rattle.std.specs.Io.KnownBytes.{Appends}
use Rattle.bohm_settings.specs.Given.{Given}
use Rattle.bohm_answer.specs.declared.fault.RunFault.{RunFault}
use Rattle.bohm_answer.specs.declared.fault.RunFault.TheVariants.{Read, TooLong, Text, Check, Trimmed, Future, NoMemory, Write}

-- both settings keep as many timestamps readable, and request the store at the same one
pub record AskTheSame (one other : Given) : Type 0 where
  pub keep : one.keep ≡ other.keep
  pub at : one.at ≡ other.at

-- the refusal is of the bytes or of the requested timestamp: no read, write or allocation failed
abbrev pub IsOfTheLog : RunFault → Type 0
IsOfTheLog Read = ⊥
IsOfTheLog TooLong = Unit {0}
IsOfTheLog (Text fault) = Unit {0}
IsOfTheLog (Check fault) = Unit {0}
IsOfTheLog Trimmed = Unit {0}
IsOfTheLog Future = Unit {0}
IsOfTheLog NoMemory = ⊥
IsOfTheLog (Write sent) = ⊥

-- the same bytes were appended to the contents of two writers
pub record WriteTheSame (one one' other other' : Option (List ℕ)) : Type 0 where
  pub answer : List ℕ
  pub first : Appends one one' answer
  pub second : Appends other other' answer
