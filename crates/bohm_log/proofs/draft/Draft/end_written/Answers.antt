use Rattle.std.proofs.Common.{◌≡◌, Some, slice_get, sym, subst, ap, ◌∙◌, arith}
use Rattle.bohm_log.specs.Drafting.{Drafted, with_stmt, made_of}
use Rattle.bohm_log.proofs.Drafts.{names_unseen}
use Rattle.bohm_log.proofs.Failing.{on_err}
use Rattle.bohm_log.proofs.Keeping.{unseen_keeps, stmt_keeps}
use Rattle.bohm_log.proofs.Statements.{stmt_added}
use Rattle.bohm_log.proofs.draft.Draft.end_written.Goals as goal

pub returns-in_err-add_written-clause-err : goal.returns-in_err-add_written-clause-err
returns-in_err-add_written-clause-err g c = on_err _ (names_unseen _ _ _ _ c.in_err-add_written.ensures.err c.self.invariant.0 ∙ c.self.view_is)

pub invariant_of-self : goal.invariant_of-self
invariant_of-self g c = unseen_keeps _ _ _ _ c.in_err-add_written.ensures.err c.in_err-add_written.ensures.compact c.self.invariant

pub invariant_of-self-2 : goal.invariant_of-self-2
invariant_of-self-2 g c =
    rw c.at-self-inside.ensures
    (stmt_keeps _ _ _ _ _ _ _ _ _ _ c.in_ok-add_written.ensures.ok c.ends-first.ensures.first c.ends-first.ensures.second (omega arith)
    c.in_ok-add_written.ensures.compact c.self.view_is c.requires.sound c.requires.counted c.self.invariant)

pub returns-clause-ok : goal.returns-clause-ok
returns-clause-ok g c =
    rw c.at-self-inside.ensures
    (stmt_added _ _ _ _ _ _ _ _ c.in_ok-add_written.ensures.ok c.ends-first.ensures.first c.ends-first.ensures.second c.self.invariant.0 (omega arith) _
    ∙ ap (λ (d : Drafted). with_stmt d (made_of d c.args.action c.args.name.now)) c.self.view_is)

pub add_written-requires-clause-place : goal.add_written-requires-clause-place
add_written-requires-clause-place g c = subst (λ (d : Drafted). slice_get d.txn.writes c.args.place ≡ Some c.args.name.now)
    (sym c.self.view_is) c.requires.place
