use Rattle.std.proofs.Common.{◌≡◌}
use Rattle.crossbeam_channel.specs.Claims.{view, IsSeatAt}
use Rattle.crossbeam_channel.specs.Ends.{sends_on}
use Rattle.bohm_apply.proofs.plan_queue.ends.send_note.Given as goal

abbrev pub invariant-loop : goal.invariant-loop
invariant-loop g l = IsSeatAt (sends_on l.to) l.pass × (view l.pass ≡ view l.initial.pass) × (l.note ≡ l.initial.note)
