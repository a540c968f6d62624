use Rattle.std.proofs.Common.{arith, length, drop, ◌-◌, length-drop}
use Rattle.std.proofs.lemmas.List.{length-take}
use Rattle.bohm_answer.proofs.Fronts.{appends_more}
use Rattle.bohm_answer.proofs.sending.send.Goals as goal

pub writes-preserved : goal.writes-preserved
writes-preserved g c = record {
  within = omega (
    arith,
    c.in-Ok.ensures.bound,
    length-take (length c.args.bytes.now - c.writes.sent) (drop c.writes.sent c.args.bytes.now),
    length-drop c.writes.sent c.args.bytes.now,
  );
  so_far = appends_more _ _ _ c.writes.sent c.in-Ok.count c.args.bytes.now c.writes.invariant.so_far c.in-Ok.ensures.bytes;
}
