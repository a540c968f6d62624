use Rattle.std.proofs.Common.{sym, ap, ◌∙◌}
use Rattle.bohm_board.specs.declared.batch.Batch.{Batch}
use Rattle.bohm_board.specs.Batches.{is_sure_at}
use Rattle.bohm_board.specs.Closings.{batch_of_closed}
use Rattle.bohm_exec.proofs.Viewed.{reads_wanted, writes_wanted}
use Rattle.bohm_exec.proofs.completion.evaluate_left.Goals as goal

pub take_cells-requires-clause-wanted : goal.take_cells-requires-clause-wanted
take_cells-requires-clause-wanted c = reads_wanted (batch_of_closed c.args.closed.now) c.args.t

pub take_cells-requires-then-not-evaluator-clause-wanted : goal.take_cells-requires-then-not-evaluator-clause-wanted
take_cells-requires-then-not-evaluator-clause-wanted c =
    let b = batch_of_closed c.args.closed.now in
    writes_wanted b c.args.t (sym (c.sure-evaluator.ensures ∙ ap (λ (z : Batch). is_sure_at z c.args.t) c.batch.ensures) ∙ c.if-not-evaluator.true)
