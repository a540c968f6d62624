use Rattle.std.proofs.Common.{◌≡◌, ◌∙◌, List, ℕ, ap, subst, sym}
use Rattle.std.specs.Map.{keys_of}
use Rattle.std.specs.Prelude.{IfOk}
use Rattle.bohm_board.specs.declared.batch.Batch.{Batch}
use Rattle.bohm_store.specs.Versions.{Timeline}
use Rattle.bohm_store.specs.Numbered.{timeline, versions_at}
use Rattle.bohm_store.specs.Writes.{AreShares, AreWritesOf}
use Rattle.bohm_store.proofs.Entries.{keys_named}
use Rattle.bohm_store.proofs.Same.{named_more}
use Rattle.bohm_store.proofs.history.History.number_shares.Goals as goal

pub gather_shares-requires : goal.gather_shares-requires
gather_shares-requires c =
    let (b, are) = rw (← c.self.view_is) at c.requires in
    (b, subst (λ (names : List (List ℕ)). AreShares names b c.args.shares.now) (keys_named (versions_at c.self.inside.numbered) 0 c.self.inside.names) are)

pub returns-clause-same : goal.returns-clause-same
returns-clause-same c =
    rw (← c.self.view_is) (named_more c.self.inside.numbered _ _ c.self.invariant c.len.ensures.behind c.gather_shares.ensures.longer)

pub returns-clause-writes : goal.returns-clause-writes
returns-clause-writes c =
    let by = versions_at c.self.inside.numbered in
    let now : c.self.inside.names ≡ keys_of c.args.self.now.chains =
    sym (keys_named by 0 c.self.inside.names) ∙ ap (λ (t : Timeline). keys_of t.chains) c.self.view_is in
    let new : c.gather_shares.new.names ≡ keys_of (timeline c.gather_shares.new.names c.self.inside.numbered).chains =
    sym (keys_named by 0 c.gather_shares.new.names) in
    subst (λ (names : List (List ℕ)). IfOk c.gather_shares.result
    (λ v. (b : Batch) → AreShares (keys_of c.args.self.now.chains) b c.args.shares.now → AreWritesOf names b v.items)) new
    (subst (λ (names : List (List ℕ)). IfOk c.gather_shares.result
    (λ v. (b : Batch) → AreShares names b c.args.shares.now → AreWritesOf c.gather_shares.new.names b v.items)) now c.gather_shares.ensures.writes)
