use Rattle.bohm_check.proofs.Named.{one_more}
use Rattle.bohm_check.proofs.names.names_of.Goals as goal

pub loop-place-preserved : goal.loop-place-preserved
loop-place-preserved c = one_more c.args.keys.now c.loop-place.place c.key.result.now c.loop-place.names c.add_name.new.names c.key.ensures
    c.loop-place.invariant c.in_ok-add_name.ensures
