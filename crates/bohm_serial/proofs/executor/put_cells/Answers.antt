use Rattle.std.proofs.Common.{◌≡◌, Some, length, refl, arith}
use Rattle.std.specs.List.{slice_get}
use Rattle.std.proofs.lemmas.Option.{slice_get_read}
use Rattle.bohm_txn.proofs.ForCallers.{drop_at}
use Rattle.bohm_serial.proofs.executor.put_cells.Goals as goal

pub loop-place-preserved : goal.loop-place-preserved
loop-place-preserved c =
    let i = c.loop-place.place in
    let cells = c.args.cells.now in
    let cell : slice_get cells i ≡ Some c.index-cells-place.result =
    slice_get_read cells (length cells) i c.index-cells-place.result refl (omega arith) c.index-cells-place.is in
    rw c.in_ok-put.ensures.ok (rw (drop_at c.args.keys.now i c.key.result.now c.key.ensures, drop_at cells i c.index-cells-place.result cell) at
    c.loop-place.invariant)
