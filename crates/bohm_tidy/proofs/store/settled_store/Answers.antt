use Rattle.std.proofs.Common.{◌≡◌, ◌++◌, false, true, List, ℕ, ap, rules, sym, subst, ◌∙◌}
use Rattle.std.specs.Prelude.{ℤ}
use Rattle.std.specs.Cmp.Lexicographic.{slice_cmp, nat_list_cmp_total}
use Rattle.std.specs.List.Sorted.{IsPermutation}
use Rattle.std.specs.Ordering.{nat_cmp, is_lt}
use Rattle.std.proofs.lemmas.List.Sorted.{ranks_by, answers_always}
use Rattle.bohm_types.specs.Keys.{names_of, rising}
use Rattle.bohm_tidy.proofs.Stores.{distinct_moved, double_moved, entries_moved}
use Rattle.bohm_tidy.proofs.store.settled_store.Goals as goal

pub returns-clause-listed : goal.returns-clause-listed
returns-clause-listed c =
    let sorted : List (List ℕ × ℤ) = c.sort_unstable_by.new.self.items in
    let copied : c.extend_from_slice.new.self.items ≡ c.args.store.now =
    c.in_ok-extend_from_slice.ensures.items ∙ ap (λ (es : List (List ℕ × ℤ)). es ++ c.args.store.now) c.in_ok-list.ensures.items in
    let moved : IsPermutation c.args.store.now sorted =
    subst (λ (es : List (List ℕ × ℤ)). IsPermutation es sorted) copied c.sort_unstable_by.ensures.permutation in
    let rises : rising (names_of sorted) ≡ true =
    ap (λ (es : List (List ℕ × ℤ)). rising (names_of es)) (sym c.as_slice.ensures.value) ∙ sym c.if-not-is_store_rising.ensures in
    entries_moved c.args.store.now sorted moved rises

pub returns-clause-distinct : goal.returns-clause-distinct
returns-clause-distinct c =
    let sorted : List (List ℕ × ℤ) = c.sort_unstable_by.new.self.items in
    let copied : c.extend_from_slice.new.self.items ≡ c.args.store.now =
    c.in_ok-extend_from_slice.ensures.items ∙ ap (λ (es : List (List ℕ × ℤ)). es ++ c.args.store.now) c.in_ok-list.ensures.items in
    let moved : IsPermutation c.args.store.now sorted =
    subst (λ (es : List (List ℕ × ℤ)). IsPermutation es sorted) copied c.sort_unstable_by.ensures.permutation in
    let rises : rising (names_of sorted) ≡ true =
    ap (λ (es : List (List ℕ × ℤ)). rising (names_of es)) (sym c.as_slice.ensures.value) ∙ sym c.if-not-is_store_rising.ensures in
    distinct_moved c.args.store.now sorted moved rises

pub returns-then-not-is_store_rising-clause-twice : goal.returns-then-not-is_store_rising-clause-twice
returns-then-not-is_store_rising-clause-twice c is =
    let sorted : List (List ℕ × ℤ) = c.sort_unstable_by.new.self.items in
    let copied : c.extend_from_slice.new.self.items ≡ c.args.store.now =
    c.in_ok-extend_from_slice.ensures.items ∙ ap (λ (es : List (List ℕ × ℤ)). es ++ c.args.store.now) c.in_ok-list.ensures.items in
    let moved : IsPermutation c.args.store.now sorted =
    subst (λ (es : List (List ℕ × ℤ)). IsPermutation es sorted) copied c.sort_unstable_by.ensures.permutation in
    let falls : rising (names_of sorted) ≡ false =
    ap (λ (es : List (List ℕ × ℤ)). rising (names_of es)) (sym c.as_slice.ensures.value) ∙ sym c.if-not-is_store_rising.ensures in
    double_moved c.args.store.now sorted moved
    (c.sort_unstable_by.ensures.sorted (λ x y. is_lt (slice_cmp nat_cmp x.0 y.0)) (ranks_by nat_list_cmp_total (λ e. e.0))
    (answers_always _ (λ a r. is_lt r ≡ is_lt (slice_cmp nat_cmp a.0.now.0 a.1.0.now.0)) _ (λ f a r g q. search rules)))
    falls
