use Rattle.std.proofs.Common.{◌≡◌, length, ap, arith}
use Rattle.std.specs.Prelude.{is_ok}
use Rattle.bohm_durable.proofs.Since as lemma
use Rattle.bohm_durable.proofs.applying.apply_one.Goals as goal

pub returns-in-Ok-end-clause-now : goal.returns-in-Ok-end-clause-now
returns-in-Ok-end-clause-now c = λ t is.
    let whole : length c.in-Ok.applied.replies ≡ length c.args.log.now.log = c.in-Ok.ensures.whole (ap is_ok c.in-Ok-end.is) in
    let one : length c.in-Ok.applied.replies ≡ 1 = omega (arith, whole, c.requires) in
    lemma.one_ran c.args.machine.now c.apply.new.self t c.in-Ok.applied.replies
    (lemma.one_applied c.args.machine.now c.apply.new.self c.args.log.now.log c.in-Ok.applied.replies t one c.in-Ok.ensures.goes_on is)

pub returns-in-Ok-end-clause-since : goal.returns-in-Ok-end-clause-since
returns-in-Ok-end-clause-since c = λ changed since noted.
    lemma.one_since c.args.machine.now c.apply.new.self c.args.log.now.log (length c.in-Ok.applied.replies) c.in-Ok.applied.replies changed c.requires
    (λ t is. lemma.well_one c.log-well_formed.result c.args.log.now.log t c.log-well_formed.ensures.well_formed c.log-well_formed.ensures.same is)
    c.in-Ok.ensures.goes_on since noted

pub returns-in-Ok-end-clause-checkpoint : goal.returns-in-Ok-end-clause-checkpoint
returns-in-Ok-end-clause-checkpoint c = lemma.keeps c.args.machine.now c.apply.new.self _ c.in-Ok.applied.replies c.in-Ok.ensures.goes_on

pub returns-in-Err-clause-since : goal.returns-in-Err-clause-since
returns-in-Err-clause-since c = λ changed since noted.
    lemma.one_since c.args.machine.now c.apply.new.self c.args.log.now.log (length c.in-Ok.applied.replies) c.in-Ok.applied.replies changed c.requires
    (λ t is. lemma.well_one c.log-well_formed.result c.args.log.now.log t c.log-well_formed.ensures.well_formed c.log-well_formed.ensures.same is)
    c.in-Ok.ensures.goes_on since noted

pub returns-in-Err-clause-checkpoint : goal.returns-in-Err-clause-checkpoint
returns-in-Err-clause-checkpoint c = lemma.keeps c.args.machine.now c.apply.new.self _ c.in-Ok.applied.replies c.in-Ok.ensures.goes_on
