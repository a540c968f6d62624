-- Why a text is refused as a procedure.
use Rattle.std.specs.Prelude.{◌⊎◌, ℕ, List, Option, None}
use Rattle.bohm_text.specs.Cut.{whole_lines}
use Rattle.bohm_text.specs.ProcedureFaults.{IsFirstBadLine, IsShort}
use Rattle.bohm_text.specs.declared.fault.TextFault.TheVariants as texts
use Rattle.bohm_procedures.specs.Accepting.{IsRefusedBy}
use Rattle.bohm_procedures.specs.declared.fault.ProcedureFault.{ProcedureFault}
use Rattle.bohm_procedures.specs.declared.fault.ProcedureFault.TheVariants as faults
use Rattle.bohm_settings.specs.Given.{Given}
use Rattle.bohm_answer.specs.Bytes.{ReadsAll}
use Rattle.bohm_run.specs.Headline.{Refuses}
use Rattle.bohm_answer.specs.declared.fault.RunFault.{RunFault}
use Rattle.bohm_answer.specs.declared.fault.RunFault.TheVariants.{Read, TooLong, Text, Check, Trimmed, Future, NoMemory, Write}

-- the refusal of a procedure
abbrev pub procedure_refusal : ProcedureFault → RunFault
procedure_refusal (faults.Line n) = Text (texts.Line n)
procedure_refusal faults.Short = Text texts.Short
procedure_refusal (faults.Check fault) = Check fault
procedure_refusal faults.NoMemory = NoMemory

-- why a text isn't that of an accepted procedure
abbrev pub RefusesProcedure : List ℕ → RunFault → Type 0
RefusesProcedure text Read = ⊥
RefusesProcedure text TooLong = ⊥
RefusesProcedure text (Text (texts.Line n)) = IsFirstBadLine (whole_lines text) n
RefusesProcedure text (Text texts.Short) = IsShort text
RefusesProcedure text (Text texts.NoMemory) = ⊥
RefusesProcedure text (Check fault) = IsRefusedBy text fault
RefusesProcedure text Trimmed = ⊥
RefusesProcedure text Future = ⊥
RefusesProcedure text NoMemory = Unit {0}
RefusesProcedure text (Write sent) = ⊥

-- what was read to the reader's end is refused as a procedure
pub record ReadsNoProcedure (unread unread' : Option (List ℕ)) (fault : RunFault) : Type 0 where
  pub text : List ℕ
  pub read : ReadsAll unread unread' text
  pub refuses : RefusesProcedure text fault

-- a refusal before writing: what it means of a run with any settings, or of a procedure
abbrev pub RefusesLogOrProcedure : Option (List ℕ) → Option (List ℕ) → RunFault → Type 0
RefusesLogOrProcedure unread unread' fault = ((given : Given) → Refuses given unread unread' None None fault) ⊎ ReadsNoProcedure unread unread' fault
