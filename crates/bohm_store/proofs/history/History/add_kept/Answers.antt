use Rattle.std.proofs.Common.{◌≡◌, ℕ, arith, length, subst}
use Rattle.std.specs.Map.{keys_of}
use Rattle.bohm_board.specs.declared.batch.Batch.{Batch}
use Rattle.bohm_board.specs.Batches.{txns_of}
use Rattle.bohm_store.specs.Numbered.{timeline, versions_at}
use Rattle.bohm_store.specs.Nexts.{IsNext, IsSame}
use Rattle.bohm_store.specs.Writes.{AreNextWrites, AreWritesBehind}
use Rattle.bohm_store.proofs.Entries.{keys_named}
use Rattle.bohm_store.proofs.Grown.{batch_behind}
use Rattle.bohm_store.proofs.Same.{covered_same, kept_same, next_same}
use Rattle.bohm_store.proofs.history.History.add_kept.Goals.{After-cover}
use Rattle.bohm_store.proofs.history.History.add_kept.Goals as goal

-- with more room the history is the same, the batch still follows it, and the writes are the batch's
covered : (c : After-cover) (b : Batch) → AreNextWrites (keys_of c.args.self.now.chains) c.args.self.now b c.args.count c.args.writes.now
    → let names = c.self.inside.names in let mid = timeline names c.cover.new.self in
    IsSame (timeline names c.self.inside.numbered) mid × IsNext mid b × (length (txns_of b) ≡ c.args.count)
    × AreWritesBehind names mid c.args.count (txns_of b) c.args.writes.now
covered c b are =
    let names = c.self.inside.names in
    let old = c.self.inside.numbered in
    let same = covered_same names old c.cover.new.self c.cover.ensures.floor c.cover.ensures.top c.cover.ensures.versions in
    let next = rw (← c.self.view_is) at are.next in
    let many = are.many in
    let writes = rw (← c.self.view_is, keys_named (versions_at old) 0 names) at are.writes in
    let mid = timeline names c.cover.new.self in
    let after_it = next_same _ mid b same next in
    let ws = c.args.writes.now in
    (same, after_it, many, subst (λ (n : ℕ). AreWritesBehind names mid n (txns_of b) ws) many (batch_behind names mid b ws after_it writes))

pub add_above-requires : goal.add_above-requires
add_above-requires c =
    let (b, are) = c.requires.writes in
    let (same, next, many, writes) = covered (goal.at.add_above-requires c).After-cover b are in
    let low = rw (← c.self.view_is) at c.requires.floor in
    rw c.table.ensures.names (record {
      names = c.table.ensures.apart;
      long = omega (arith, c.in_ok-cover.ensures.long, c.len.ensures);
      timestamps = omega (arith, b.batched.timestamps, next.first, many);
      writes = (txns_of b, writes);
      floor = omega (arith, low, c.cover.ensures.top);
    })

pub returns-clause-ok : goal.returns-clause-ok
returns-clause-ok c b are =
    let names = c.self.inside.names in
    let (same, next, many, writes) = covered (goal.at.returns-clause-ok c).After-cover b are in
    let told = rw c.table.ensures.names at c.in_ok-add_above.ensures.ok in
    let mid = timeline names c.cover.new.self in
    let now = timeline names c.add_above.new.self in
    rw (← c.self.view_is) (kept_same _ mid now (txns_of b) c.args.floor same (told (txns_of b) writes))
