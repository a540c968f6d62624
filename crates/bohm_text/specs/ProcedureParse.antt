-- The results of reading a procedure's text.
use Rattle.std.specs.Prelude.{◌≡◌, ℕ, List, Some, Result, Ok, Err}
use Rattle.bohm_text.specs.declared.fault.TextFault.{TextFault}
use Rattle.bohm_text.specs.declared.fault.TextFault.TheVariants.{Line, Short, NoMemory}
use Rattle.bohm_text.specs.declared.procedures.ParamPlace.TheVariants as places
use Rattle.bohm_text.specs.declared.procedures.ProcedureReader.{ProcedureReader}
use Rattle.bohm_text.specs.Print.{text_of}
use Rattle.bohm_text.specs.Cut.{whole_lines}
use Rattle.bohm_text.specs.Stepping.{IsFirstRefused, IsLeftOpen}
use Rattle.bohm_text.specs.ProcedureText.{Nothing, Done, stage_after, stages}
use Rattle.bohm_text.specs.ProcedureReading.{stage_of, IsReady}

-- line n is the first line such that the complete lines up to it begin no procedure's text
abbrev pub IsFirstFault : List (List ℕ) → ℕ → Type 0
IsFirstFault = IsFirstRefused stage_after Nothing

-- the complete lines begin some procedure's text, but the text isn't a procedure's
abbrev pub IsUnfinished : List ℕ → Type 0
IsUnfinished = IsLeftOpen stage_after Nothing Done

pub record IsRead (text : List ℕ) (r : ProcedureReader) : Type 0 where
  pub read : stages Nothing (whole_lines text) ≡ Some (stage_of r)
  pub done : r.place ≡ places.Done
  pub whole : text_of (whole_lines text) ≡ text
  pub ready : IsReady r

abbrev pub Reads : List ℕ → Result ProcedureReader TextFault → Type 0
Reads text (Ok r) = IsRead text r
Reads text (Err (Line n)) = IsFirstFault (whole_lines text) n
Reads text (Err Short) = IsUnfinished text
Reads text (Err NoMemory) = Unit {0}
