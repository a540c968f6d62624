use Rattle.std.proofs.Common.{◌≡◌, ℕ, Err, ap, sym, subst}
use Rattle.std.proofs.lemmas.Result.{err_from_is_err_and}
use Rattle.bohm_procedures.specs.declared.fault.ProcedureFault.TheVariants as faults
use Rattle.bohm_types.specs.Txn.{Txn}
use Rattle.bohm_txn.specs.Faulty.{IsFirstFault, alone}
use Rattle.bohm_text.specs.Cut.{whole_lines}
use Rattle.bohm_text.specs.ProcedureFaults.{IsFirstBadLine}
use Rattle.bohm_text.specs.ProcedureRead.{procedure_in}
use Rattle.bohm_procedures.specs.Accepting.{own}
use Rattle.bohm_procedures.proofs.InstanceLaw.{own_is}
use Rattle.bohm_procedures.proofs.procedure.Procedure.read.Goals as goal

pub returns-in-Err-Line-clause-line : goal.returns-in-Err-Line-clause-line
returns-in-Err-Line-clause-line c n e =
    let same : c.in-Err-Line.n ≡ n = cc (c.in-Err-Line.n-is, e) in
    subst (λ (k : ℕ). IsFirstBadLine (whole_lines c.args.text.now) k) same (c.in-Err-Line.ensures.line c.in-Err-Line.n (ap Err c.in-Err-Line.field-0-is))

pub returns-in_err-template-in-Ok-parse_procedure-clause-check : goal.returns-in_err-template-in-Ok-parse_procedure-clause-check
returns-in_err-template-in-Ok-parse_procedure-clause-check c f e =
    let reader = c.in-Ok-parse_procedure.reader in
    let p = err_from_is_err_and c.from_residual.result c.from_residual.ensures.1 in
    let at : c.accept.result ≡ Err (faults.Check f) = cc (c.in_err-template-in-Ok-parse_procedure.was, p.1, p.2, e) in
    let whole : own (procedure_in reader) ≡ reader.draft.txn =
    own_is reader.draft.txn reader.keys.items reader.values.items c.in-Ok-parse_procedure.ensures.read.lets in
    record {
      procedure = procedure_in reader;
      sound = c.in-Ok-parse_procedure.ensures.read.sound;
      text_is = c.in-Ok-parse_procedure.ensures.read.text_is;
      fault = subst (λ (u : Txn). IsFirstFault (alone u) f) (sym whole) (c.accept.ensures.fault f at);
    }
