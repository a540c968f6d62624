-- What the functions on procedures, and on lists of their calls, guarantee.
use Rattle.std.specs.Prelude.{◌≡◌, ℕ, ℤ, ◌+◌, ◌<◌, ◌≤◌, ◌^◌, List, [], ◌∷◌, ◌++◌, length}
use Rattle.bohm_types.specs.Appending.{with_txn}
use Rattle.bohm_types.specs.Procedure.{Procedure, instance}
use Rattle.bohm_text.specs.Cut.{whole_lines}
use Rattle.bohm_text.specs.ProcedureFaults.{IsFirstBadLine, IsShort}
use Rattle.bohm_text.specs.ProcedureText.{IsProcedure, print_procedure}
use Rattle.bohm_text.specs.declared.fault.TextFault.TheVariants as texts
use Rattle.bohm_procedures.specs.Accepting.{IsAccepted, IsRefusedBy, Takes}
use Rattle.bohm_procedures.specs.declared.fault.ProcedureFault.{ProcedureFault}
use Rattle.bohm_procedures.specs.declared.fault.ProcedureFault.TheVariants as faults
use Rattle.bohm_answer.specs.FaultLine.{fault_line}
use Rattle.bohm_answer.specs.declared.fault.RunFault.{RunFault}
use Rattle.bohm_answer.specs.declared.fault.RunFault.TheVariants as runs
use Rattle.bohm_txn.specs.declared.outcome.Reply.{Reply}
use Rattle.bohm_txn.specs.Meaning.{body}
use Rattle.bohm_txn.specs.Serial.{reply_of}
use Rattle.bohm_store.specs.Versions.{Timeline}
use Rattle.bohm_machine.specs.Machines.{GoesOn, now_of, top_of}
use Rattle.bohm_machine.specs.Segments.{RunsOn}
use Rattle.bohm_c.specs.Listed.{Listed}

-- the text is that of this accepted procedure
pub record IsPrepared (text : List ℕ) (p : Procedure) : Type 0 where
  pub sound : IsProcedure p
  pub accepted : IsAccepted p
  pub printed : print_procedure p ≡ text

-- the text has this fault
abbrev pub HasProcedureFault : List ℕ → ProcedureFault → Type 0
HasProcedureFault text (faults.Line n) = IsFirstBadLine (whole_lines text) n
HasProcedureFault text faults.Short = IsShort text
HasProcedureFault text (faults.Check fault) = IsRefusedBy text fault
HasProcedureFault text faults.NoMemory = ⊥

-- why a text isn't prepared: an allocation failed, or the text has this fault
abbrev pub IsUnprepared : List ℕ → ProcedureFault → Type 0
IsUnprepared text (faults.Line n) = HasProcedureFault text (faults.Line n)
IsUnprepared text faults.Short = HasProcedureFault text faults.Short
IsUnprepared text (faults.Check fault) = HasProcedureFault text (faults.Check fault)
IsUnprepared text faults.NoMemory = Unit {0}

-- the fault of a log that the same line reports
abbrev pub told_as : ProcedureFault → RunFault
told_as (faults.Line n) = runs.Text (texts.Line n)
told_as faults.Short = runs.Text texts.Short
told_as (faults.Check fault) = runs.Check fault
told_as faults.NoMemory = runs.NoMemory

-- these bytes are the line that reports a fault of the procedure's text
pub record IsProcedureRefusal (text line : List ℕ) : Type 0 where
  pub fault : ProcedureFault
  pub faulty : HasProcedureFault text fault
  pub says : line ≡ fault_line (told_as fault)

-- these bytes begin with that line, and messages may follow
pub record IsProcedureReport (text report : List ℕ) : Type 0 where
  pub line : List ℕ
  pub refusal : IsProcedureRefusal text line
  pub messages : List ℕ
  pub begins : report ≡ line ++ messages

-- the list had room for one more call, and the procedure's instance is appended; handles keep their keys
pub record IsPushed (p : Procedure) (ks : List (List ℕ)) (vs : List ℤ) (was now : Listed) : Type 0 where
  pub takes : Takes was.calls p ks vs
  pub grown : now ≡ record { calls = with_txn was.calls (instance p ks vs); names = was.names }

-- ---- a call on a machine, without a list

-- the procedure has this many parameters of each kind
pub record Fits (p : Procedure) (key_count value_count : ℕ) : Type 0 where
  pub keys : key_count ≡ length p.keys
  pub values : value_count ≡ length p.values

-- the reply of a call that runs next on a machine
abbrev pub reply_now : Timeline → Procedure → List (List ℕ) → List ℤ → Reply
reply_now m p ks vs = reply_of (body (now_of m) (instance p ks vs))

-- the machine ran the call as a segment of its own
pub record Ran (was now : Timeline) (p : Procedure) (ks : List (List ℕ)) (vs : List ℤ) : Type 0 where
  pub timestamps : top_of was + 1 < 2 ^ 32
  pub goes_on : GoesOn was now (instance p ks vs ∷ []) (reply_now was p ks vs ∷ [])
  pub runs_on : RunsOn was now (instance p ks vs ∷ []) (reply_now was p ks vs ∷ [])

-- the machine's timestamps are used up
abbrev pub HasNoTime : Timeline → Type 0
HasNoTime m = 2 ^ 32 ≤ top_of m + 1
