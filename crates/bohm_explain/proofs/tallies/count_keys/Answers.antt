use Rattle.std.proofs.Common.{◌≡◌}
use Rattle.bohm_explain.specs.Tallies.{tally, lists}
use Rattle.bohm_explain.proofs.Tallying.{counted_key, listed_key, not_yet}
use Rattle.bohm_explain.proofs.tallies.count_keys.Goals as goal

pub count-requires : goal.count-requires
count-requires c =
    let key = c.key.result.now in
    let new = not_yet c.args.keys.now c.loop-index.index key c.requires.rises c.key.ensures in
    let same : tally c.loop-index.tallies key ≡ tally c.args.tallies.now key = rw new at (c.loop-index.invariant.counts key) in
    record { room = rw same (c.requires.room key) }

pub loop-index-preserved : goal.loop-index-preserved
loop-index-preserved c =
    let keys = c.args.keys.now in
    let i = c.loop-index.index in
    let key = c.key.result.now in
    record {
      counts = λ k. counted_key c.args.set (tally c.args.tallies.now k) (tally c.loop-index.tallies k)
          (tally c.count.new.tallies k) keys i key k c.requires.rises c.key.ensures (c.loop-index.invariant.counts k) (c.in_ok-count.ensures.counts k);
      listed = λ k. listed_key keys i key k (lists c.args.tallies.now k) (lists c.loop-index.tallies k) (lists c.count.new.tallies k) c.key.ensures
          (c.loop-index.invariant.listed k) (c.in_ok-count.ensures.listed k);
    }
