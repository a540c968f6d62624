-- The procedure that a reader has read.
use Rattle.std.specs.Prelude.{◌≡◌, ℕ, List}
use Rattle.bohm_types.specs.Procedure.{Procedure, procedure_with}
use Rattle.bohm_log.specs.Drafting.{IsBetween}
use Rattle.bohm_text.specs.declared.procedures.ProcedureReader.{ProcedureReader}
use Rattle.bohm_text.specs.ProcedureText.{IsProcedure, print_procedure}
use Rattle.bohm_text.specs.ProcedureReading.{HasLets}

abbrev pub procedure_in : ProcedureReader → Procedure
procedure_in r = procedure_with r.draft.txn r.keys.items r.values.items

-- the text is the procedure's, and the draft is its own instance
pub record IsProcedureOf (text : List ℕ) (r : ProcedureReader) : Type 0 where
  pub sound : IsProcedure (procedure_in r)
  pub text_is : print_procedure (procedure_in r) ≡ text
  pub edition : r.draft.txn.edition ≡ r.edition
  pub lets : HasLets r.values.items r.draft
  pub whole : IsBetween r.draft
