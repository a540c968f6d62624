-- The cell of the next read is pushed into the scratch.
use Rattle.std.proofs.Common.{rules, ◌≡◌, ◌++◌, ◌∷◌, [], ap, append_assoc, arith, length, length-append}
use Rattle.bohm_txn.specs.Results.{Results}
use Rattle.bohm_txn.proofs.ForCallers.{drop_at}
use Rattle.bohm_store.proofs.base.push_reads.Goals as goal

pub loop-i-preserved : goal.loop-i-preserved
loop-i-preserved c =
    let seen = c.loop-i.scratch.seen in
    let more : c.push_read.new.self.seen ≡ seen ++ c.cell_by.result ∷ [] = ap (λ (r : Results). r.seen) c.push_read.ensures in
    record {
      so_far = rw (more, append_assoc, c.cell_by.ensures)
          (rw (drop_at c.args.keys.now c.loop-i.i c.key.result.now c.key.ensures) at c.loop-i.invariant.so_far);
      long = omega (arith, ap length more, length-append seen (c.cell_by.result ∷ []), c.loop-i.invariant.long);
      cells = search rules;
    }
