use Rattle.std.proofs.Common.{◌≡◌, true, false}
use Rattle.std.specs.Str.{bytes_eq}
use Rattle.bohm_log.proofs.keys.Keys.place_of.Goals as goal
use Rattle.bohm_log.proofs.Lists.{drop_at}

pub returns-then-eq-clause-place : goal.returns-then-eq-clause-place
returns-then-eq-clause-place c =
    let same : bytes_eq c.key.result.now c.args.key.now ≡ true = cc in
    rw same at (rw (drop_at c.args.self.now c.loop-place.place c.key.result.now c.key.ensures) at c.loop-place.invariant)

pub loop-place-preserved : goal.loop-place-preserved
loop-place-preserved c =
    let other : bytes_eq c.key.result.now c.args.key.now ≡ false = cc in
    rw other at (rw (drop_at c.args.self.now c.loop-place.place c.key.result.now c.key.ensures) at c.loop-place.invariant)
