use Rattle.std.proofs.lemmas.Result.{IfOk-weaker}
use Rattle.bohm_check.proofs.Listing.{all_told, each_told, few_told}
use Rattle.bohm_check.proofs.Leading.{first_told}
use Rattle.bohm_check.proofs.finding.faults.Goals as goal

pub returns-clause-told : goal.returns-clause-told
returns-clause-told c = IfOk-weaker c.first_faults.result _ _ (λ v same. all_told c.args.doc.now v.items same) c.first_faults.ensures

pub returns-clause-few : goal.returns-clause-few
returns-clause-few c = IfOk-weaker c.first_faults.result _ _ (λ v same. few_told c.args.doc.now v.items same) c.first_faults.ensures

pub returns-clause-all : goal.returns-clause-all
returns-clause-all c = IfOk-weaker c.first_faults.result _ _ (λ v same. each_told c.args.doc.now v.items same) c.first_faults.ensures

pub returns-clause-first : goal.returns-clause-first
returns-clause-first c = IfOk-weaker c.first_faults.result _ _ (λ v same. first_told c.args.doc.now v.items same) c.first_faults.ensures
