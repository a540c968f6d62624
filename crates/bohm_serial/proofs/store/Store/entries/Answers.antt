use Rattle.std.proofs.Common.{◌≡◌, ◌∙◌, ap, rules, subst, List, ℕ}
use Rattle.std.specs.Prelude.{ℤ}
use Rattle.std.specs.List.Sorted.{IsPermutation}
use Rattle.std.specs.Ordering.{nat_cmp, is_lt}
use Rattle.std.specs.FinMap as finite
use Rattle.std.specs.Cmp.Lexicographic.{slice_cmp, nat_list_cmp_total}
use Rattle.std.proofs.lemmas.List.Sorted.{ranks_by, answers_always}
use Rattle.bohm_txn.specs.Stores.{Store}
use Rattle.bohm_txn.proofs.ForCallers.{entries_listed, same_moved}
use Rattle.bohm_serial.proofs.store.Store.entries.Goals as goal

pub returns : goal.returns
returns c =
    let moved : IsPermutation c.self.inside.values.entries c.sort_unstable_by.new.self.items = subst
    (λ (es : List (List ℕ × ℤ)). IsPermutation es c.sort_unstable_by.new.self.items) c.in_ok-list.ensures.all c.sort_unstable_by.ensures.permutation in
    rw (← c.self.view_is) (entries_listed c.self.inside.values.entries c.sort_unstable_by.new.self.items moved c.in_ok-list.ensures.distinct
    (c.sort_unstable_by.ensures.sorted (λ x y. is_lt (slice_cmp nat_cmp x.0 y.0)) (ranks_by nat_list_cmp_total (λ e. e.0))
    (answers_always _ (λ a r. is_lt r ≡ is_lt (slice_cmp nat_cmp a.0.now.0 a.1.0.now.0)) _ (λ f a r g q. search rules)))
    ∙ ap (λ (s : Store). finite.entries s) (same_moved c.self.inside.values.entries c.sort_unstable_by.new.self.items moved c.in_ok-list.ensures.distinct))
