use Rattle.std.proofs.Common.{◌≡◌, ◌<◌, Some, sym, length, arith, slice_get}
use Rattle.std.proofs.lemmas.Option.{get_or_from_slice_get}
use Rattle.bohm_log.proofs.Placing.{placed_next, not_absent}
use Rattle.bohm_log.proofs.call_places.find_places.Goals as goal
use Rattle.bohm_log.proofs.call_places.find_places.Goals.{in-Some, in-None}

pub loop-i-preserved : goal.loop-i-preserved
loop-i-preserved c =
    let key = c.key.result.now in
    let is = sym (get_or_from_slice_get c.args.keys.now c.loop-i.i key key c.key.ensures) in
    let within : c.loop-i.i < length c.args.keys.now = omega (arith, c.loop-i-test.true, c.len-i-end.ensures) in
    let at : slice_get c.args.set.now c.match-place_in_set.place ≡ Some key =
    elim c.match-place_in_set.branch [
      | in-Some w ↦ rw w.place-is w.in-Some.ensures.found
      | in-None w ↦ absurd (not_absent c.args.keys.now c.args.set.now _ _ c.requires.set c.requires.few within is w.in-None.ensures.none)
    ] in
    placed_next c.args.keys.now c.args.set.now _ _ _ c.match-place_in_set.place key
    c.loop-i.invariant within is at c.in_ok-push.ensures.items
