-- Faults of the text and of reading it as faults of a run, and the faults that occur before writing.
use Rattle.bohm_text.specs.declared.fault.TextFault.{TextFault}
use Rattle.bohm_text.specs.declared.fault.TextFault.TheVariants as texts
use Rattle.bohm_reading.specs.declared.fault.ReadingFault.{ReadingFault}
use Rattle.bohm_reading.specs.declared.fault.ReadingFault.TheVariants as reading
use Rattle.bohm_answer.specs.declared.fault.RunFault.{RunFault}
use Rattle.bohm_answer.specs.declared.fault.RunFault.TheVariants.{Read, TooLong, Text, Check, Trimmed, Future, NoMemory, Write}

-- an allocation failure is no fault of the text
abbrev pub refusal_of : TextFault → RunFault
refusal_of (texts.Line n) = Text (texts.Line n)
refusal_of texts.Short = Text texts.Short
refusal_of texts.NoMemory = NoMemory

abbrev pub reading_refusal_of : ReadingFault → RunFault
reading_refusal_of reading.Read = Read
reading_refusal_of reading.TooLong = TooLong
reading_refusal_of (reading.Line n) = Text (texts.Line n)
reading_refusal_of reading.Short = Text texts.Short
reading_refusal_of reading.NoMemory = NoMemory

-- a refusal before anything is written
abbrev pub IsBeforeWriting : RunFault → Type 0
IsBeforeWriting Read = Unit {0}
IsBeforeWriting TooLong = Unit {0}
IsBeforeWriting (Text fault) = Unit {0}
IsBeforeWriting (Check fault) = Unit {0}
IsBeforeWriting Trimmed = Unit {0}
IsBeforeWriting Future = Unit {0}
IsBeforeWriting NoMemory = Unit {0}
IsBeforeWriting (Write sent) = ⊥
