use Rattle.std.proofs.Common.{sym}
use Rattle.std.specs.Map.{keys_of}
use Rattle.bohm_board.specs.Batches.{txns_of}
use Rattle.bohm_exec.specs.Answers.{batch_of_finished}
use Rattle.bohm_store.specs.Writes.{AreNextWrites, AreShares}
use Rattle.bohm_store.proofs.Same.{next_same, settled_same}
use Rattle.bohm_store.proofs.Shares.{one_share}
use Rattle.bohm_store.proofs.history.History.settle.Goals.{After-from_ref, After-deref}
use Rattle.bohm_store.proofs.history.History.settle.Goals as goal

-- the list of all writes is the batch's only share
all_shares : (c : After-from_ref) → AreShares (keys_of c.args.self.now.chains) (batch_of_finished c.args.finished.now) c.from_ref.result.now
all_shares c =
    let b = batch_of_finished c.args.finished.now in
    rw c.from_ref.ensures.value
    (one_share (keys_of c.args.self.now.chains) b c.len-count.result c.in_ok-listed.listed (sym c.len-count.ensures) c.in_ok-listed.ensures)

pub number_shares-requires : goal.number_shares-requires
number_shares-requires c = (batch_of_finished c.args.finished.now, all_shares (goal.at.number_shares-requires c).After-from_ref)

next_writes : (c : After-deref) → AreNextWrites (keys_of c.number_shares.new.self.chains) c.number_shares.new.self (batch_of_finished c.args.finished.now)
    c.len-count.result c.deref.result.now
next_writes c =
    let b = batch_of_finished c.args.finished.now in
    rw c.deref.ensures.value (record {
      next = next_same _ _ b c.number_shares.ensures.same c.requires;
      many = sym c.len-count.ensures;
      writes = c.in_ok-writes.ensures.writes b (all_shares (goal.at.After-deref c).After-from_ref);
    })

pub add_all-requires : goal.add_all-requires
add_all-requires c = (batch_of_finished c.args.finished.now, next_writes (goal.at.add_all-requires c).After-deref)

pub returns-clause-ok : goal.returns-clause-ok
returns-clause-ok c =
    let b = batch_of_finished c.args.finished.now in
    settled_same c.args.self.now c.number_shares.new.self c.add_all.new.self (txns_of b) c.number_shares.ensures.same
    (c.in_ok-add_all.ensures.ok b (next_writes (goal.at.returns-clause-ok c).After-deref))
