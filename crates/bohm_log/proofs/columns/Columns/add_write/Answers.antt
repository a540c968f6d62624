use Rattle.bohm_log.specs.Columns.{shared_of}
use Rattle.bohm_log.proofs.Failing.{on_err}
use Rattle.bohm_log.proofs.Widening.{interns_itself, numbered_again}
use Rattle.bohm_log.proofs.columns.Columns.add_write.Goals as goal

pub returns-in_err-push-in-Some-clause-err : goal.returns-in_err-push-in-Some-clause-err
returns-in_err-push-in-Some-clause-err g c =
    let s = shared_of c.args.self.now in
    on_err _ (interns_itself s (record s { ids = c.push.new.self.items }) (λ i. record s { ids = c.in_err-push-in-Some.ensures.items i }))

pub returns-in_ok-push-in-Some-clause-ok : goal.returns-in_ok-push-in-Some-clause-ok
returns-in_ok-push-in-Some-clause-ok g c =
    let s = shared_of c.args.self.now in
    numbered_again s (record s { ids = c.push.new.self.items }) c.args.reads.now c.args.start c.in-Some.place c.index-id.result.now c.args.name
    c.requires c.in-Some.ensures.found c.index-id.ensures (λ i. record s { ids = c.in_ok-push-in-Some.ensures.items i })
