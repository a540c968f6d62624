use Rattle.std.proofs.Common.{ap, drop, sym, ◌∙◌, arith}
use Rattle.bohm_types.specs.Keys.{rising}
use Rattle.bohm_txn.proofs.Checking.{rises_at, falls, climbs, last_rises}
use Rattle.bohm_txn.proofs.first_fault.are_rising.Goals as goal

pub returns-then-ge : goal.returns-then-ge
returns-then-ge c = rw (
  rises_at c.args.keys.now c.loop-place.place c.key.result.now c.key-in-loop-place.result.now c.loop-place.auto.place c.key.ensures
      c.key-in-loop-place.ensures,
  falls _ (sym c.ge.ensures ∙ c.if-ge.true),
) at c.loop-place.invariant

pub loop-place-preserved : goal.loop-place-preserved
loop-place-preserved c =
    ap (λ n. rising (drop n c.args.keys.now)) (omega arith)
    ∙ rw (
      rises_at c.args.keys.now c.loop-place.place c.key.result.now c.key-in-loop-place.result.now c.loop-place.auto.place c.key.ensures
          c.key-in-loop-place.ensures,
      climbs _ (sym c.ge.ensures ∙ c.if-ge.false),
    ) at c.loop-place.invariant

pub returns : goal.returns
returns c = sym (last_rises c.args.keys.now c.loop-place.place (omega (arith, c.loop-place-test.false, c.len-place-end.ensures))) ∙ c.loop-place.invariant
