use Rattle.std.proofs.Common.{sym}
use Rattle.std.specs.Map.{keys_of}
use Rattle.bohm_exec.specs.Answers.{batch_of_finished}
use Rattle.bohm_store.specs.Writes.{AreNextShares}
use Rattle.bohm_store.proofs.Shares.{one_share}
use Rattle.bohm_store.proofs.history.History.settle_kept.Goals.{After-from_ref}
use Rattle.bohm_store.proofs.history.History.settle_kept.Goals as goal

-- the list of all writes is the batch's only share
next_shares : (c : After-from_ref) → AreNextShares c.args.self.now (batch_of_finished c.args.finished.now) c.len-count.result c.from_ref.result.now
next_shares c =
    let b = batch_of_finished c.args.finished.now in
    rw c.from_ref.ensures.value (record {
      next = c.requires.next;
      many = sym c.len-count.ensures;
      parts = one_share (keys_of c.args.self.now.chains) b c.len-count.result c.in_ok-listed.listed (sym c.len-count.ensures) c.in_ok-listed.ensures;
    })

pub install-requires-clause-shares : goal.install-requires-clause-shares
install-requires-clause-shares c = (batch_of_finished c.args.finished.now, next_shares (goal.at.install-requires-clause-shares c).After-from_ref)

pub returns-clause-ok : goal.returns-clause-ok
returns-clause-ok c = c.in_ok-install.ensures.ok (batch_of_finished c.args.finished.now) (next_shares (goal.at.returns-clause-ok c).After-from_ref)
