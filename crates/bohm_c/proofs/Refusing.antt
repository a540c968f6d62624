-- A refusal names a fault that the text has.
use Rattle.std.proofs.Common.{◌≡◌, ◌≢◌, ℕ, List, refl}
use Rattle.bohm_answer.specs.FaultLine.{fault_line}
use Rattle.bohm_answer.specs.declared.fault.RunFault.{RunFault}
use Rattle.bohm_answer.specs.declared.fault.RunFault.TheVariants.{Read, TooLong, Text, Check, Trimmed, Future, NoMemory, Write}
use Rattle.bohm_c.specs.Reading.{HasFault, IsRefusal, IsRefused}

pub has_fault : (text : List ℕ) (fault : RunFault) → fault ≢ NoMemory → IsRefused text fault → HasFault text fault
has_fault text Read other refused = refused
has_fault text TooLong other refused = refused
has_fault text (Text fault) other refused = refused
has_fault text (Check fault) other refused = refused
has_fault text Trimmed other refused = refused
has_fault text Future other refused = refused
has_fault text NoMemory other refused = absurd (other refl)
has_fault text (Write sent) other refused = refused

pub refusal : (text line : List ℕ) (fault : RunFault) → fault ≢ NoMemory → line ≡ fault_line fault → IsRefused text fault → IsRefusal text line
refusal text line fault other says refused = record { fault = fault; faulty = has_fault text fault other refused; says = says }
