use Rattle.std.proofs.Common.{◌≡◌, ◌∙◌, ap, sym, ℕ, Some, slice_get}
use Rattle.std.specs.Prelude.{Option, slice_index_or}
use Rattle.std.specs.Option.{unwrap_or, option_map}
use Rattle.bohm_hints.specs.Top.{held_cell}
use Rattle.bohm_hints.specs.declared.held.Held.TheVariants.{Never}
use Rattle.bohm_hints.proofs.Places.{placed}
use Rattle.bohm_hints.proofs.top_cells.TopCells.cell.Goals as goal

pub returns-then-is_numbered : goal.returns-then-is_numbered
returns-then-is_numbered c =
    let names = c.args.self.now.names.now in
    let n = c.index-hint.result in
    let there : slice_get names n ≡ Some c.args.key.now = rw c.table.ensures.names at (c.is_numbered.ensures c.if-is_numbered.true) in
    c.cell.ensures ∙ ap held_cell (c.held_of.ensures
    ∙ ap (λ (o : Option ℕ). unwrap_or (option_map (λ m. slice_index_or c.args.self.now.newest.now m Never) o) Never)
    (sym (placed names n c.args.key.now c.table.ensures.apart there)))
