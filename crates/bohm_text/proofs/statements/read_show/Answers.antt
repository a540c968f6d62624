use Rattle.std.specs.Option.{option_map}
use Rattle.bohm_types.specs.Stmt.{Show}
use Rattle.bohm_log.specs.Drafting.{with_stmt}
use Rattle.bohm_text.specs.Reading.{last_sum}
use Rattle.bohm_text.proofs.Ended.{last_long, not_taken}
use Rattle.bohm_text.proofs.statements.read_show.Goals as goal

pub returns-in_err-show : goal.returns-in_err-show
returns-in_err-show c =
    not_taken c.in_err-show.field-0.0 c.read_last_sum.new.draft.latest
    (last_long c.args.draft.now c.read_last_sum.new.draft c.args.words.now c.in_ok-read_last_sum.ensures)
    c.in_err-show.ensures.empty
    c.from_residual-in_err-show.result (option_map Show (last_sum c.args.words.now)) (with_stmt c.args.draft.now)
    c.show.new.self c.from_residual-in_err-show.ensures.1
