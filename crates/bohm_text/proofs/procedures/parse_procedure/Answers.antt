use Rattle.std.proofs.Common.{subst}
use Rattle.std.specs.Prelude.{Result}
use Rattle.bohm_text.specs.declared.fault.TextFault.{TextFault}
use Rattle.bohm_text.specs.declared.procedures.ProcedureReader.{ProcedureReader}
use Rattle.bohm_text.specs.ProcedureParse.{Reads}
use Rattle.bohm_text.proofs.ProcedureFronts.{bad_procedure_line, short_procedure, result_read}
use Rattle.bohm_text.proofs.procedures.parse_procedure.Goals as goal

pub returns-clause-line : goal.returns-clause-line
returns-clause-line c n e = bad_procedure_line _ n (subst (λ (r : Result ProcedureReader TextFault). Reads c.args.text.now r) e c.read_procedure.ensures)

pub returns-clause-short : goal.returns-clause-short
returns-clause-short c e = short_procedure c.args.text.now
    (subst (λ (r : Result ProcedureReader TextFault). Reads c.args.text.now r) e c.read_procedure.ensures)

pub returns-clause-read : goal.returns-clause-read
returns-clause-read c = result_read c.args.text.now c.read_procedure.result c.read_procedure.ensures
