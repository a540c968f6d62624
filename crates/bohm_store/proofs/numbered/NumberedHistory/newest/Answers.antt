use Rattle.std.proofs.Common.{◌∙◌, List, get_or, sym, ap}
use Rattle.bohm_hints.specs.declared.held.Held.{Held}
use Rattle.bohm_hints.specs.declared.held.Held.TheVariants.{Never}
use Rattle.bohm_hints.specs.Top.{held_cell}
use Rattle.bohm_store.specs.Numbered.{older_of, ends_of}
use Rattle.bohm_store.proofs.Linked.{as_many, cell_held}
use Rattle.bohm_store.proofs.numbered.NumberedHistory.newest.Goals as goal

pub returns-clause-cells : goal.returns-clause-cells
returns-clause-cells c n =
    let os = c.self.inside.older.items in
    let items = c.self.inside.newest.items in
    rw (← c.self.view_is) (ap (λ (xs : List Held). held_cell (get_or xs n Never)) c.deref.ensures.value
    ∙ sym (cell_held c.self.inside.top (older_of os n) (get_or items n Never) (ends_of os n) (c.self.invariant.linked n) (as_many os n)
    (c.self.invariant.low n)))
