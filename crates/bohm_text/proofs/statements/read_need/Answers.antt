use Rattle.std.proofs.Common.{subst, sym}
use Rattle.std.specs.Prelude.{Option}
use Rattle.bohm_types.specs.Stmt.{Stmt}
use Rattle.bohm_log.specs.Drafting.{with_stmt}
use Rattle.bohm_text.specs.Reading.{need_of}
use Rattle.bohm_text.specs.Taking.{TakesStmt}
use Rattle.bohm_text.proofs.Ended.{cond_long, not_taken}
use Rattle.bohm_text.proofs.Needs.{test_alone}
use Rattle.bohm_text.proofs.statements.read_need.Goals as goal

pub returns-in-Some : goal.returns-in-Some
returns-in-Some c =
    subst (λ (read : Option Stmt). TakesStmt c.read_presence.result read c.args.draft.now c.read_presence.new.draft)
    (sym (test_alone c.args.words.now c.in-Some.word.now c.in-Some.name.now c.in-Some.ensures)) c.read_presence.ensures

pub returns-in_err-need : goal.returns-in_err-need
returns-in_err-need c =
    not_taken c.in_err-need.field-0.0 c.read_cond.new.draft.latest
    (cond_long c.args.draft.now c.read_cond.new.draft c.args.words.now c.in_ok-cmp.cmp c.in_ok-cmp.ensures)
    c.in_err-need.ensures.empty
    c.from_residual-in_err-need.result (need_of c.args.words.now) (with_stmt c.args.draft.now)
    c.need.new.self c.from_residual-in_err-need.ensures.1
