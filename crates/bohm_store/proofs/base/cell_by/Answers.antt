use Rattle.std.proofs.Common.{◌≡◌, ◌∙◌, Some, sym, slice_get}
use Rattle.bohm_store.proofs.Kept.{past_named, past_unnamed}
use Rattle.bohm_store.proofs.Names.{found_at, not_found, placed_at}
use Rattle.bohm_store.proofs.base.cell_by.Goals as goal

pub returns-then-is_numbered : goal.returns-then-is_numbered
returns-then-is_numbered c =
    let h = c.args.numbered.now in
    let n = c.index-hint.result in
    let there : slice_get c.args.names.now n ≡ Some c.args.key.now = rw c.table.ensures.names at (c.is_numbered.ensures c.if-is_numbered.true) in
    let (inside, is) = placed_at _ _ n there in
    c.cell.ensures ∙ sym (past_named _ h h.top n _ c.table.ensures.apart inside is)

pub returns-in-Some : goal.returns-in-Some
returns-in-Some c =
    let h = c.args.numbered.now in
    let n = c.in-Some.number in
    let (inside, is) = found_at _ _ n (sym c.find.ensures ∙ c.in-Some.is) in
    c.cell-in-Some.ensures ∙ sym (past_named _ h h.top n _ c.table.ensures.apart inside is)

pub returns-in-None : goal.returns-in-None
returns-in-None c =
    let h = c.args.numbered.now in
    sym (past_unnamed c.args.names.now h h.top c.args.key.now (not_found c.args.names.now c.args.key.now (sym c.find.ensures ∙ c.in-None.is)))
