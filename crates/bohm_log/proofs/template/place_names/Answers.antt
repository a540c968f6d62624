use Rattle.bohm_log.proofs.Locals.{place_next}
use Rattle.bohm_log.proofs.template.place_names.Goals as goal

pub loop-name-preserved : goal.loop-name-preserved
loop-name-preserved g c = place_next c.args.others.now c.loop-name.others c.id.new.self c.args.names.now _ _ c.loop-name.name-index
    c.in_ok-place.place c.name-item.result c.loop-name.invariant c.loop-name-test.true c.name-item.is c.in_ok-place.ensures.kept
    c.in_ok-place.ensures.longer c.in_ok-place.ensures.named c.in_ok-push.ensures.items
