use Rattle.std.proofs.Common.{◌≡◌, ◌∙◌, ◌++◌, List, get_or, sym, ap}
use Rattle.bohm_types.specs.declared.cell.Cell.TheVariants as cells
use Rattle.bohm_store.specs.Versions.{cell_at}
use Rattle.bohm_hints.specs.declared.held.Held.{Held}
use Rattle.bohm_hints.specs.declared.held.Held.TheVariants.{Never}
use Rattle.bohm_store.specs.Held.{held_at, held_versions}
use Rattle.bohm_store.specs.Numbered.{first_after, older_of}
use Rattle.bohm_store.proofs.NewestVersion.{cell_at-newest}
use Rattle.bohm_store.proofs.OlderVersions.{first_seen}
use Rattle.bohm_store.proofs.numbered.NumberedHistory.cell_at.Goals as goal
use Rattle.bohm_store.proofs.numbered.NumberedHistory.cell_at.Goals.{After-cell_before}

seen : (c : After-cell_before)
    → c.cell_before.result ≡ cell_at c.args.ts
    (older_of c.self.inside.older.items c.args.number ++ held_at c.self.inside.newest.items c.args.number) cells.Absent
seen c =
    let n = c.args.number in
    let ts = c.args.ts in
    let os = c.self.inside.older.items in
    let items = c.self.inside.newest.items in
    let here : c.held_of.result ≡ get_or items n Never = c.held_of.ensures ∙ ap (λ (xs : List Held). get_or xs n Never) c.deref.ensures.value in
    c.cell_before.ensures
    ∙ ap (λ (v : Held). cell_at ts (first_after ts os n (held_versions v)) cells.Absent) here
    ∙ sym (first_seen ts os n (held_at items n) (c.self.invariant.rising n) (c.self.invariant.linked n))

pub returns-clause-cell : goal.returns-clause-cell
returns-clause-cell c = rw (← c.self.view_is) (seen c)

pub returns-clause-newest : goal.returns-clause-newest
returns-clause-newest c =
    rw (← c.self.view_is, seen c) (cell_at-newest c.args.ts
    (older_of c.self.inside.older.items c.args.number ++ held_at c.self.inside.newest.items c.args.number)
    (c.self.invariant.rising c.args.number))
