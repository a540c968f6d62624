use Rattle.bohm_log.specs.Drafting.{with_stmt}
use Rattle.bohm_text.specs.Reading.{bind_of}
use Rattle.bohm_text.proofs.Ended.{bound_long, not_taken}
use Rattle.bohm_text.proofs.statements.read_bind.Goals as goal

pub returns-in_err-bind : goal.returns-in_err-bind
returns-in_err-bind c =
    not_taken c.in_err-bind.field-0.0 c.read_bound.new.draft.latest
    (bound_long c.args.draft.now c.read_bound.new.draft c.next.new.self c.in_ok-read_bound.ensures)
    c.in_err-bind.ensures.empty
    c.from_residual-in_err-bind.result (bind_of c.args.words.now) (with_stmt c.args.draft.now)
    c.bind.new.self c.from_residual-in_err-bind.ensures.1
