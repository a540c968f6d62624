use Rattle.std.proofs.Common.{arith}
use Rattle.std.proofs.lemmas.List.Elements.{All-from_get_or}
use Rattle.bohm_board.specs.Batches.{IsIn}
use Rattle.bohm_exec.proofs.ForCallers.{next}
use Rattle.bohm_layer_trials.proofs.boards.assert_all_in.Goals as goal

pub loop-t-preserved : goal.loop-t-preserved
loop-t-preserved g c = next (IsIn c.args.batch.now) c.args.share.now c.loop-t.t-index c.loop-t.invariant c.assert_in.ensures

pub returns : goal.returns
returns g c = All-from_get_or (IsIn c.args.batch.now) c.args.share.now 0 (λ i l. c.loop-t.invariant i (omega arith))
