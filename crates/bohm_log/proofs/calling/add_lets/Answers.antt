use Rattle.std.proofs.Common.{◌<◌, length, rules, arith}
use Rattle.bohm_log.proofs.Lets.{rows_next, start_next}
use Rattle.bohm_log.proofs.Widening.{Begins-trans}
use Rattle.bohm_log.proofs.calling.add_lets.Goals as goal

pub loop-i-preserved : goal.loop-i-preserved
loop-i-preserved c =
    let within : c.loop-i.i < length c.args.values.now = search rules in (
      Begins-trans _ _ _ c.loop-i.invariant.0 (_, c.in_ok-push.ensures.items),
      search (rules, rows_next),
      start_next _ _ _ _ _ _ within c.index-values-i.is c.loop-i.invariant.2 (omega (arith, c.in_ok-end.ensures.ok, c.terms_len.ensures.length)),
    )
