use Rattle.std.proofs.Common.{◌≡◌, ◌<◌, ◌+◌, ◌∷◌, ap, length, drop, subst, sym, arith, append_assoc}
use Rattle.std.proofs.lemmas.Option.{get_or_from_slice_get}
use Rattle.bohm_txn.specs.Faulty.{IsWellFormedTxn}
use Rattle.bohm_txn.proofs.ForCallers.{front, usable}
use Rattle.bohm_place.proofs.Offsets.{next_offset, offset_few}
use Rattle.bohm_place.proofs.row.rows.Goals as goal

pub overflow_cast-reads : goal.overflow_cast-reads
overflow_cast-reads c =
    let txn = c.txn-txn.result in
    let few = (usable txn (subst IsWellFormedTxn (get_or_from_slice_get c.args.txns.now c.loop-index.index txn txn c.txn-txn.ensures)
    (c.requires.formed c.loop-index.index txn (omega arith)))).few_reads in
    omega (arith, few, c.len-reads.ensures, ap length c.reads.ensures)

pub overflow_cast-writes : goal.overflow_cast-writes
overflow_cast-writes c =
    let txn = c.txn-txn.result in
    let few = (usable txn (subst IsWellFormedTxn (get_or_from_slice_get c.args.txns.now c.loop-index.index txn txn c.txn-txn.ensures)
    (c.requires.formed c.loop-index.index txn (omega arith)))).few_writes in
    omega (arith, few, c.len-writes.ensures, ap length c.writes.ensures)

pub overflow_add-slots : goal.overflow_add-slots
overflow_add-slots c =
    let before = offset_few c.args.txns.now c.loop-index.index c.requires.formed in
    omega (arith, c.width.ensures.few, before, c.loop-index.invariant.slots)

pub loop-index-preserved : goal.loop-index-preserved
loop-index-preserved c =
    let txns = c.args.txns.now in
    let i = c.loop-index.index in
    let txn = c.txn-txn.result in
    let use_of = usable txn (subst IsWellFormedTxn (get_or_from_slice_get c.args.txns.now c.loop-index.index txn txn c.txn-txn.ensures)
    (c.requires.formed i txn (omega arith))) in
    let inside : i < length txns = omega arith in
    let at : drop i txns ≡ txn ∷ drop (i + 1) txns = front txns i txn inside (sym (get_or_from_slice_get txns i txn txn c.txn-txn.ensures)) in
    let whole = rw at at c.loop-index.invariant.rows in
    let start = c.loop-index.start in
    let sum : (start + length txn.reads) + length txn.writes ≡ start + (length txn.reads + length txn.writes) = omega arith in
    let next = rw sum at whole in
    let wide = c.width.ensures.width in
    let reads = rw c.reads.ensures at c.len-reads.ensures in
    let writes = rw c.writes.ensures at c.len-writes.ensures in
    record {
      few = omega (arith, use_of.few_reads, use_of.few_writes, reads, writes, c.loop-index.invariant.few);
      slots = omega (arith, wide, next_offset txns i txn c.txn-txn.ensures, c.loop-index.invariant.slots);
      rows = rw (c.in_ok-push.ensures.items, c.sure.ensures, wide, reads, writes) (rw append_assoc next);
    }
