use Rattle.std.proofs.Common.{sym, ◌∙◌}
use Rattle.bohm.specs.Machines.{GoesOn}
use Rattle.bohm_uses.proofs.Segments.{rest_done}
use Rattle.bohm_uses.proofs.replicas.finish.Goals as goal

pub returns-then-is_ok : goal.returns-then-is_ok
returns-then-is_ok c was n log ordered ran is done =
    rest_done (GoesOn c.args.machine.now c.apply.new.self) (GoesOn was c.apply.new.self log) n log c.args.rest.now.log c.args.replies.now
    c.in_ok-more.field-0.replies c.append-appended.new.self c.append-appended.result
    (c.rest_completes.ensures was c.args.machine.now c.apply.new.self n log c.args.replies.now c.in_ok-more.field-0.replies ordered ran)
    c.in_ok-more.ensures.goes_on (c.in_ok-more.ensures.whole (sym c.is_ok.ensures.value ∙ c.if-is_ok.true)) is
    c.append-appended.ensures.ok (sym c.is_ok-then-is_ok.ensures.value ∙ done)
