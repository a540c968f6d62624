use Rattle.std.proofs.Common.{◌≡◌, ℕ, List, ap, Err, refl, subst, sym}
use Rattle.bohm_text.specs.Cut.{whole_lines}
use Rattle.bohm_text.specs.ProcedureFaults.{IsFirstBadLine, IsShort}
use Rattle.bohm_txn.specs.declared.fault.CheckFault.{CheckFault}
use Rattle.bohm_procedures.specs.Accepting.{IsRefusedBy}
use Rattle.bohm_procedures.specs.declared.fault.ProcedureFault.{ProcedureFault}
use Rattle.bohm_procedures.specs.declared.fault.ProcedureFault.TheVariants as faults
use Rattle.bohm_report.specs.Procedures.{RefusesProcedure, procedure_refusal}
use Rattle.bohm_report.proofs.procedures.procedure_reported.Goals as goal

-- the library's refusal of a procedure
refused : (text : List ℕ) (fault : ProcedureFault) → ((n : ℕ) → fault ≡ faults.Line n → IsFirstBadLine (whole_lines text) n)
    → (fault ≡ faults.Short → IsShort text) → ((f : CheckFault) → fault ≡ faults.Check f → IsRefusedBy text f)
    → RefusesProcedure text (procedure_refusal fault)
refused text (faults.Line n) line short check = line n refl
refused text faults.Short line short check = short refl
refused text (faults.Check f) line short check = check f refl
refused text faults.NoMemory line short check = tt

pub returns-in-Err-clause-err : goal.returns-in-Err-clause-err
returns-in-Err-clause-err c =
    subst (RefusesProcedure c.args.text.now) (sym c.refusal_of.ensures.is) (refused c.args.text.now c.in-Err.fault
    (λ n e. c.in-Err.ensures.line n (ap (λ f. Err f) e)) (λ e. c.in-Err.ensures.short (ap (λ f. Err f) e))
    (λ f e. c.in-Err.ensures.check f (ap (λ g. Err g) e)))
