use Rattle.std.proofs.Common.{◌≡◌, ◌<◌, ◌∙◌, length, get_or, sym}
use Rattle.std.proofs.lemmas.List.{get_or_default}
use Rattle.bohm_store.proofs.older.OlderVersions.at.Goals as goal

pub returns-clause-others : goal.returns-clause-others
returns-clause-others c i d lt le =
    let os = c.self.inside.queue.items in
    let place = c.args.place in
    let one = c.index.result.now in
    let inside : place < length os = rw (← c.self.view_is) at c.requires in
    let at : get_or os place d ≡ one = get_or_default os place d one inside ∙ sym c.index.ensures in
    rw (← c.self.view_is) (rw at at (c.self.invariant.others i place d lt inside (rw at le)))
