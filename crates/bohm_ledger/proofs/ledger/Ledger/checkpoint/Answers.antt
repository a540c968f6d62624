use Rattle.std.proofs.Common.{ap, sym, ◌∙◌}
use Rattle.std.proofs.lemmas.Result.{err_from_is_err_and}
use Rattle.bohm_ledger.specs.Rules.{State}
use Rattle.bohm_ledger.proofs.Ready as lemma
use Rattle.bohm_ledger.proofs.ledger.Ledger.checkpoint.Goals as goal

pub returns-in_err-replace-clause-any_moment : goal.returns-in_err-replace-clause-any_moment
returns-in_err-replace-clause-any_moment g c clean bs ready db left =
    let old = g.S.Store.view c.args.self.now.store in
    let sorted = lemma.alike _ _ _ old _ _ _ _ ready _ _ c.sort_changed.ensures.state c.sort_changed.ensures.saved in
    lemma.checkpoint_outcome _ _ _ old _ _ _ _ sorted db _ _
    (c.top-top.ensures ∙ ap (λ (s : State g.M.Machine.Defs). s.top) (sym c.sort_changed.ensures.state))
    (λ before. g.met.S.Store.settled c.args.self.now.store db (lemma.open_of old (g.met.S.Store.broken_if_shut c.args.self.now.store) ready.sound) before)
    (c.replace.ensures.crash clean (lemma.was_balance _ _ _ old _ _ _ _ sorted) db left)

pub returns-clause-any_moment : goal.returns-clause-any_moment
returns-clause-any_moment g c clean bs ready db left =
    let old = g.S.Store.view c.args.self.now.store in
    let sorted = lemma.alike _ _ _ old _ _ _ _ ready _ _ c.sort_changed.ensures.state c.sort_changed.ensures.saved in
    lemma.checkpoint_outcome _ _ _ old _ _ _ _ sorted db _ _
    (c.top-top.ensures ∙ ap (λ (s : State g.M.Machine.Defs). s.top) (sym c.sort_changed.ensures.state))
    (λ before. g.met.S.Store.settled c.args.self.now.store db (lemma.open_of old (g.met.S.Store.broken_if_shut c.args.self.now.store) ready.sound) before)
    (c.replace.ensures.crash clean (lemma.was_balance _ _ _ old _ _ _ _ sorted) db left)

pub returns-clause-ready : goal.returns-clause-ready
returns-clause-ready g c clean bs ready =
    let sorted = lemma.alike _ _ _ _ _ _ _ _ ready _ _ c.sort_changed.ensures.state c.sort_changed.ensures.saved in
    lemma.checkpoint_ready _ _ _ _ _ _ _ _ sorted _ _ _ _
    (c.top-top.ensures ∙ ap (λ (s : State g.M.Machine.Defs). s.top) (sym c.sort_changed.ensures.state))
    (c.in_ok-replace.ensures.ok clean (lemma.was_balance _ _ _ _ _ _ _ _ sorted)) (c.in_ok-replace.ensures.stored clean)
    c.note_checkpoint.ensures.state c.note_checkpoint.ensures.saved

pub returns-in_err-replace-clause-unchanged : goal.returns-in_err-replace-clause-unchanged
returns-in_err-replace-clause-unchanged g c =
    let p = err_from_is_err_and c.from_residual.result c.from_residual.ensures.1 in
    rw p.1 (λ clean is_open bs ready. lemma.undone _ _ _ _ _ _ _ _
    (lemma.alike _ _ _ _ _ _ _ _ ready _ _ c.sort_changed.ensures.state c.sort_changed.ensures.saved) _ (c.in_err-replace.ensures.err clean is_open))
