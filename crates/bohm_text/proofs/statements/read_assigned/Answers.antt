use Rattle.std.proofs.Common.{ap, sym, subst, ◌∙◌}
use Rattle.bohm_log.specs.Drafting.{Drafted, with_stmt}
use Rattle.bohm_text.specs.Reading.{assigned_of, ending}
use Rattle.bohm_text.specs.Targets.{StandsIn, name_in}
use Rattle.bohm_text.proofs.Ended.{sum_long, cond_long, not_taken, sum_behind, cond_behind}
use Rattle.bohm_text.proofs.statements.read_assigned.Goals as goal

pub returns-in_err-put-in-End : goal.returns-in_err-put-in-End
returns-in_err-put-in-End c =
    not_taken c.in_err-put-in-End.field-0.0 c.read_sum.new.draft.latest
    (sum_long c.args.draft.now c.read_sum.new.draft c.args.words.now (ending c.in_ok-read_sum.field-0 c.read_sum.new.words) c.in_ok-read_sum.ensures)
    c.in_err-put-in-End.ensures.empty
    c.from_residual-in_err-put-in-End.result (assigned_of (name_in c.args.target.now) c.args.words.now) (with_stmt c.args.draft.now)
    c.put.new.draft c.from_residual-in_err-put-in-End.ensures.1

pub returns-in_err-next_sum-in-When : goal.returns-in_err-next_sum-in-When
returns-in_err-next_sum-in-When c =
    not_taken c.in_err-next_sum-in-When.field-0.0 c.read_sum.new.draft.latest
    (sum_long c.args.draft.now c.read_sum.new.draft c.args.words.now (ending c.in_ok-read_sum.field-0 c.read_sum.new.words) c.in_ok-read_sum.ensures)
    (λ _. c.in_err-next_sum-in-When.ensures.empty)
    c.from_residual-in_err-next_sum-in-When.result (assigned_of (name_in c.args.target.now) c.args.words.now) (with_stmt c.args.draft.now)
    c.next_sum.new.self c.from_residual-in_err-next_sum-in-When.ensures.1

pub returns-in_err-put_when-in-When : goal.returns-in_err-put_when-in-When
returns-in_err-put_when-in-When c =
    not_taken c.in_err-put_when-in-When.field-0.0 c.read_cond.new.draft.latest
    (cond_long c.next_sum.new.self c.read_cond.new.draft c.read_sum.new.words c.in_ok-cmp-in-When.cmp c.in_ok-cmp-in-When.ensures)
    c.in_err-put_when-in-When.ensures.empty
    c.from_residual-in_err-put_when-in-When.result (assigned_of (name_in c.args.target.now) c.args.words.now) (with_stmt c.args.draft.now)
    c.put_when.new.draft c.from_residual-in_err-put_when-in-When.ensures.1

pub put-requires-clause-stands : goal.put-requires-clause-stands
put-requires-clause-stands c =
    subst (StandsIn c.args.target.now)
    (sum_behind c.args.draft.now c.read_sum.new.draft c.args.words.now (ending c.in_ok-read_sum.field-0 c.read_sum.new.words) c.in_ok-read_sum.ensures)
    c.requires.stands

pub put_when-requires-clause-stands : goal.put_when-requires-clause-stands
put_when-requires-clause-stands c =
    subst (StandsIn c.args.target.now)
    (sum_behind c.args.draft.now c.read_sum.new.draft c.args.words.now (ending c.in_ok-read_sum.field-0 c.read_sum.new.words) c.in_ok-read_sum.ensures
    ∙ ap (λ (d : Drafted). d.txn.writes) (sym c.in_ok-next_sum-in-When.ensures.ok)
    ∙ cond_behind c.next_sum.new.self c.read_cond.new.draft c.read_sum.new.words c.in_ok-cmp-in-When.cmp c.in_ok-cmp-in-When.ensures)
    c.requires.stands
