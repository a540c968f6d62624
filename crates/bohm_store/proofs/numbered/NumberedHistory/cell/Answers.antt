use Rattle.std.proofs.Common.{◌≡◌, ◌∙◌, List, get_or, sym, ap}
use Rattle.bohm_hints.specs.declared.held.Held.{Held}
use Rattle.bohm_hints.specs.declared.held.Held.TheVariants.{Never}
use Rattle.bohm_hints.specs.Top.{held_cell}
use Rattle.bohm_store.specs.Numbered.{older_of, ends_of}
use Rattle.bohm_store.proofs.Linked.{as_many, cell_held}
use Rattle.bohm_store.proofs.numbered.NumberedHistory.cell.Goals as goal

pub returns : goal.returns
returns c =
    let n = c.args.number in
    let os = c.self.inside.older.items in
    let items = c.self.inside.newest.items in
    let v : Held = get_or items n Never in
    let here : c.held_of.result ≡ v = c.held_of.ensures ∙ ap (λ (xs : List Held). get_or xs n Never) c.deref.ensures.value in
    rw (← c.self.view_is) (c.cell.ensures ∙ ap held_cell here
    ∙ sym (cell_held c.self.inside.top (older_of os n) v (ends_of os n) (c.self.invariant.linked n) (as_many os n) (c.self.invariant.low n)))
