use Rattle.std.proofs.Common.{arith}
use Rattle.bohm_types.specs.Keys.{is_among}
use Rattle.bohm_place.specs.declared.declared_set.DeclaredSet.TheVariants.{Reads, Writes}
use Rattle.bohm_explain.specs.Tallies.{lists, tally}
use Rattle.bohm_explain.proofs.Tallying.{counted_txn, listed_txn, rising_item, room_behind, room_inside}
use Rattle.bohm_explain.proofs.tallies.count_all.Goals as goal

pub count_keys-requires-clause-rises : goal.count_keys-requires-clause-rises
count_keys-requires-clause-rises c = rw c.keys.ensures
    (rising_item Reads c.args.txns.now c.loop-index.index c.txn-txn.result c.requires.formed c.txn-txn.ensures)

pub count_keys-requires-clause-room : goal.count_keys-requires-clause-room
count_keys-requires-clause-room c k = room_inside Reads c.args.txns.now c.loop-index.index k (tally c.args.tallies.now k) (tally c.loop-index.tallies k)
    (omega arith) (c.requires.room Reads k) (c.loop-index.invariant.counts k)

pub count_keys-requires-in-loop-index-clause-rises : goal.count_keys-requires-in-loop-index-clause-rises
count_keys-requires-in-loop-index-clause-rises c =
    rw c.keys-in-loop-index.ensures (rising_item Writes c.args.txns.now c.loop-index.index c.txn-txn.result c.requires.formed c.txn-txn.ensures)

pub count_keys-requires-in-loop-index-clause-room : goal.count_keys-requires-in-loop-index-clause-room
count_keys-requires-in-loop-index-clause-room c k =
    let before = room_inside Writes c.args.txns.now c.loop-index.index k (tally c.args.tallies.now k) (tally c.loop-index.tallies k) (omega arith)
    (c.requires.room Writes k) (c.loop-index.invariant.counts k) in
    room_behind (is_among c.keys.result k) (tally c.loop-index.tallies k) (tally c.count_keys.new.tallies k) (c.in_ok-count_keys.ensures.counts k) before

pub loop-index-preserved : goal.loop-index-preserved
loop-index-preserved c =
    let txns = c.args.txns.now in
    let i = c.loop-index.index in
    let t = c.txn-txn.result in
    record {
      counts = λ k. counted_txn txns i t c.txn-txn.ensures k (tally c.args.tallies.now k) (tally c.loop-index.tallies k) (tally c.count_keys.new.tallies k)
          (tally c.count_keys-in-loop-index.new.tallies k) (c.loop-index.invariant.counts k) (rw c.keys.ensures at (c.in_ok-count_keys.ensures.counts k))
          (rw c.keys-in-loop-index.ensures at (c.in_ok-count_keys-2.ensures.counts k));
      listed = λ k. listed_txn txns i t c.txn-txn.ensures k (lists c.args.tallies.now k) (lists c.loop-index.tallies k) (lists c.count_keys.new.tallies k)
          (lists c.count_keys-in-loop-index.new.tallies k) (c.loop-index.invariant.listed k) (rw c.keys.ensures at (c.in_ok-count_keys.ensures.listed k))
          (rw c.keys-in-loop-index.ensures at (c.in_ok-count_keys-2.ensures.listed k));
    }
