use Rattle.std.proofs.Common.{◌++◌, ◌∷◌, [], All, subst}
use Rattle.std.proofs.lemmas.List.Elements.{All-contains, Contains-push}
use Rattle.bohm_apply.specs.Sweeps.{IsReady}
use Rattle.bohm_apply.proofs.shared_batch.SharedBatch.next_worker.Goals as goal

pub invariant_of-result : goal.invariant_of-result
invariant_of-result c =
    let s = c.args.self.now in
    let rest = c.pop.new.self.items in
    let job = c.in-Some.job in
    let all = subst (All (IsReady s.board.value)) c.in-Some.ensures.items s.ready in
    record { ready = rw c.in_ok-board.ensures (All-contains (IsReady s.board.value) (rest ++ job ∷ []) job all (Contains-push rest job)) }
