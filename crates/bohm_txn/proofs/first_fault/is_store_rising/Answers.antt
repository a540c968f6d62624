use Rattle.std.proofs.Common.{rules, ◌≡◌}
use Rattle.std.proofs.lemmas.Fn.{always_returns_same}
use Rattle.bohm_txn.proofs.Rises.{below, rising_answer}
use Rattle.bohm_txn.proofs.first_fault.is_store_rising.Goals as goal

pub returns : goal.returns
returns c = rising_answer (λ e. e.0) c.args.store.now c.is_sorted_by.result
    (c.is_sorted_by.ensures.cases (λ x y. below x.0 y.0) (always_returns_same _ (λ a r. r ≡ below a.0.now.0 a.1.0.now.0) _ (λ a r f k. search rules)))
