use Rattle.std.proofs.Common.{◌≡◌, ◌+◌, ◌-◌, ◌∙◌, List, ℕ, sym, subst, length}
use Rattle.bohm_types.specs.Txn.{Txn}
use Rattle.bohm_store.specs.Nexts.{IsSettledKept}
use Rattle.bohm_store.specs.Writes.{AreNextShares}
use Rattle.bohm_apply.proofs.Going.{settled_on}
use Rattle.bohm_apply.proofs.executing.Executor.try_batch.Goals.{After-deref}
use Rattle.bohm_apply.proofs.executing.Executor.try_batch.Goals as goal

-- the lists are those of the evaluated batch
next_shares : (g : _) (c : After-deref g) → let e = c.in_ok-shares.ensures.evaluated in
    AreNextShares c.args.history.now e.batch c.len-count.result c.deref.result.now
next_shares g c =
    let h = c.args.history.now in
    let e = c.in_ok-shares.ensures.evaluated in
    rw c.deref.ensures.value
    (subst (λ (n : ℕ). AreNextShares h e.batch n c.in_ok-shares.shares.items) (sym c.len-count.ensures) e.listed)

pub install-requires-clause-shares : goal.install-requires-clause-shares
install-requires-clause-shares g c = (c.in_ok-shares.ensures.evaluated.batch, next_shares g (goal.at.install-requires-clause-shares g c).After-deref)

pub returns-clause-applied : goal.returns-clause-applied
returns-clause-applied g c =
    let h = c.args.history.now in
    let new = c.install.new.self in
    let keep = c.args.self.now.keep in
    let txns = c.args.txns.now in
    let e = c.in_ok-shares.ensures.evaluated in
    let settled = c.in_ok-install.ensures.ok e.batch (next_shares g (goal.at.returns-clause-applied g c).After-deref) in
    let floor : c.saturating_sub-floor.result ≡ (h.top + length txns) - keep =
    c.saturating_sub-floor.ensures ∙ (λ i. (c.top.ensures.top i + c.len-count.ensures i) - keep) in
    let done : IsSettledKept h new txns ((h.top + length txns) - keep) =
    subst (IsSettledKept h new txns) floor (subst (λ (ts : List Txn). IsSettledKept h new ts c.saturating_sub-floor.result) e.same settled) in
    settled_on h new txns keep c.requires.batched.some done
