-- The meaning of faults in reading and in writing.
use Rattle.std.specs.Prelude.{ℕ, ◌≤◌, List, length, take, Option}
use Rattle.std.specs.Io.KnownBytes.{Consumes, IsAtEnd, Appends}
use Rattle.bohm_answer.specs.declared.fault.RunFault.{RunFault}
use Rattle.bohm_answer.specs.declared.fault.RunFault.TheVariants.{Read, TooLong, Text, Check, Trimmed, Future, NoMemory, Write}
use Rattle.bohm_types.specs.Limits.{longest_text}

-- a fault of reading
abbrev pub IsReadFault : RunFault → Type 0
IsReadFault Read = Unit {0}
IsReadFault TooLong = Unit {0}
IsReadFault (Text fault) = ⊥
IsReadFault (Check fault) = ⊥
IsReadFault Trimmed = ⊥
IsReadFault Future = ⊥
IsReadFault NoMemory = Unit {0}
IsReadFault (Write sent) = ⊥

-- the first `sent` bytes were written
pub record Sends (written written' : Option (List ℕ)) (bytes : List ℕ) (sent : ℕ) : Type 0 where
  pub within : sent ≤ length bytes
  pub wrote : Appends written written' (take sent bytes)

-- a fault of writing
abbrev pub IsWriteFault : Option (List ℕ) → Option (List ℕ) → List ℕ → RunFault → Type 0
IsWriteFault written written' bytes Read = ⊥
IsWriteFault written written' bytes TooLong = ⊥
IsWriteFault written written' bytes (Text fault) = ⊥
IsWriteFault written written' bytes (Check fault) = ⊥
IsWriteFault written written' bytes Trimmed = ⊥
IsWriteFault written written' bytes Future = ⊥
IsWriteFault written written' bytes NoMemory = ⊥
IsWriteFault written written' bytes (Write sent) = Sends written written' bytes sent

-- all that the reader had was read: this text, which is not too long
pub record ReadsAll (unread unread' : Option (List ℕ)) (text : List ℕ) : Type 0 where
  pub read : Consumes unread unread' text
  pub at_end : IsAtEnd unread'
  pub short : length text ≤ longest_text
