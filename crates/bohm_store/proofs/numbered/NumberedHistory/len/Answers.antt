use Rattle.bohm_store.specs.Numbered.{Numbered}
use Rattle.bohm_store.proofs.Longer.{none_behind}
use Rattle.bohm_store.proofs.numbered.NumberedHistory.len.Goals as goal

pub returns-clause-behind : goal.returns-clause-behind
returns-clause-behind c =
    let h : Numbered =
    record { floor = c.self.inside.floor; top = c.self.inside.top; newest = c.self.inside.newest.items; older = c.self.inside.older.items } in
    rw (← c.self.view_is) (λ n le. none_behind h n c.self.invariant le)
