use Rattle.std.proofs.Common.{◌∙◌, ◌++◌, List, ℕ, take, map, ap, sym}
use Rattle.std.proofs.lemmas.List.{map-append}
use Rattle.bohm_types.specs.declared.cell.Cell.{Cell}
use Rattle.bohm_board.specs.Bases.{declared_keys}
use Rattle.bohm_store.specs.Versions.{past}
use Rattle.bohm_store.proofs.DeclaredKeys.{declared_more}
use Rattle.bohm_store.proofs.history.History.cells_declared.Goals as goal

pub loop-index-preserved : goal.loop-index-preserved
loop-index-preserved c =
    let x = c.txn-txn.result in
    let f : List ℕ → List ℕ × Cell = λ k. (k, past c.args.self.now c.args.self.now.top k) in
    let ahead = declared_keys (take c.loop-index.index c.args.txns.now) in
    c.in_ok-add_cells-2.ensures
    ∙ (λ i. (c.in_ok-add_cells.ensures ∙ (λ j. c.loop-index.invariant j ++ map f (c.reads.ensures j))) i ++ map f (c.writes.ensures i))
    ∙ ap (λ (es : List (List ℕ × Cell)). es ++ map f x.writes) (sym (map-append f ahead x.reads))
    ∙ sym (map-append f (ahead ++ x.reads) x.writes)
    ∙ ap (map f) (sym (declared_more c.args.txns.now c.loop-index.index x c.txn-txn.ensures))
