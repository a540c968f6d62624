use Rattle.std.proofs.Common.{List, ℕ, take, subst, sym}
use Rattle.std.specs.Prelude.{OnOk}
use Rattle.bohm_store.specs.Numbered.{versions_at}
use Rattle.bohm_store.specs.Writes.{AreNumbersOf}
use Rattle.bohm_store.proofs.Entries.{keys_named}
use Rattle.bohm_store.proofs.Same.{named_more}
use Rattle.bohm_store.proofs.history.History.number_first.Goals as goal

pub returns-clause-same : goal.returns-clause-same
returns-clause-same c =
    rw (← c.self.view_is) (named_more c.self.inside.numbered _ _ c.self.invariant c.len.ensures.behind c.number_first.ensures.longer)

pub returns-clause-numbers : goal.returns-clause-numbers
returns-clause-numbers c =
    subst (λ (names : List (List ℕ)). OnOk c.number_first.result (AreNumbersOf names c.number_first.new.numbers.items (take c.args.count c.args.keys.now)))
    (sym (keys_named (versions_at c.self.inside.numbered) 0 c.number_first.new.names)) c.number_first.ensures.numbers
