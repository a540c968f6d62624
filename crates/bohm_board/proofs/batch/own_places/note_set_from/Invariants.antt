use Rattle.std.proofs.Common.{◌-◌}
use Rattle.bohm_place.specs.Plans.{keys_in}
use Rattle.bohm_place.specs.Noting.{IsSetNoted}
use Rattle.bohm_board.specs.Bases.{keys_of}
use Rattle.bohm_board.proofs.batch.own_places.note_set_from.Given as goal

abbrev pub invariant-loop-place : goal.invariant-loop-place
invariant-loop-place l = IsSetNoted l.initial.plan l.plan l.set (l.t - l.initial.plan.first) (keys_in l.set l.txn) (keys_of l.entries) l.place
