-- The cell of the next key is pushed into the registers.
use Rattle.std.proofs.Common.{◌≡◌, ◌++◌, ◌∷◌, [], ap, append_assoc, arith, length, length-append}
use Rattle.bohm_shapes.specs.Results.{Results}
use Rattle.bohm_txn.proofs.ForCallers.{drop_at}
use Rattle.bohm_store.proofs.call_keys.push_others.Goals as goal

pub loop-i-preserved : goal.loop-i-preserved
loop-i-preserved c =
    let cells = c.loop-i.registers.cells in
    let more : c.push.new.self.cells ≡ cells ++ c.cell_by.result ∷ [] = ap (λ (r : Results). r.cells) c.push.ensures in
    record {
      so_far = rw (more, append_assoc, c.cell_by.ensures)
          (rw (drop_at c.args.keys.now c.loop-i.i c.key.result.now c.key.ensures) at c.loop-i.invariant.so_far);
      long = omega (arith, ap length more, length-append cells (c.cell_by.result ∷ []), c.loop-i.invariant.long);
    }
