use Rattle.std.proofs.Common.{◌≡◌, ◌∙◌, rules, subst, List, ℕ, ap, sym, length, arith}
use Rattle.std.specs.Prelude.{ℤ}
use Rattle.std.specs.List.{IsDistinct}
use Rattle.std.specs.List.Sorted.{IsPermutation}
use Rattle.std.specs.Map.{keys_of}
use Rattle.std.specs.Ordering.{nat_cmp, is_lt}
use Rattle.std.specs.Str.{bytes_eq}
use Rattle.std.specs.Cmp.Lexicographic.{slice_cmp, nat_list_cmp_total}
use Rattle.std.proofs.lemmas.List.Sorted.{ranks_by, answers_always}
use Rattle.bohm_types.specs.declared.cell.Cell.TheVariants as cells
use Rattle.bohm_log.specs.Layers.{all_names}
use Rattle.bohm_store.specs.Versions.{cell_at}
use Rattle.bohm_hints.specs.declared.held.Held.{Held}
use Rattle.bohm_txn.specs.Stores.{Store, cell_in}
use Rattle.bohm_store.specs.Chains.{timeline_entries_at}
use Rattle.bohm_store.proofs.StoreEntries.{cell_held, distinct_held}
use Rattle.bohm_txn.proofs.ForCallers.{entries_listed, same_moved}
use Rattle.bohm_store.specs.Held.{held_at}
use Rattle.bohm_store.specs.Numbered.{Numbered, first_after, named, versions_at}
use Rattle.bohm_store.proofs.Entries.{entries_same, keys_named}
use Rattle.bohm_store.proofs.OlderVersions.{first_seen}
use Rattle.bohm_store.proofs.numbered.NumberedHistory.store_at.Goals as goal

pub present_at-requires : goal.present_at-requires
present_at-requires c =
    let long = rw (← c.self.view_is) at c.requires.long in
    record { long = omega (arith, ap length c.deref.ensures.value, long); climbs = (c.self.inside.top, c.self.invariant.climbs) }

pub returns-in-Ok : goal.returns-in-Ok
returns-in-Ok c =
    let ts = c.args.ts in
    let names = all_names c.args.names in
    let items = c.self.inside.newest.items in
    let os = c.self.inside.older.items in
    let h : Numbered = record { floor = c.self.inside.floor; top = c.self.inside.top; newest = items; older = os } in
    let es = named (versions_at h) 0 names in
    let sorted = c.sort_unstable_by.new.self.items in
    let unique : IsDistinct bytes_eq (keys_of es) = rw (keys_named (versions_at h) 0 names) c.requires.names in
    let each : (n : ℕ) → cell_at ts (first_after ts os n (held_at c.deref.result.now n)) cells.Absent ≡ cell_at ts (versions_at h n) cells.Absent =
    λ n. ap (λ (xs : List Held). cell_at ts (first_after ts os n (held_at xs n)) cells.Absent) c.deref.ensures.value
    ∙ sym (first_seen ts os n (held_at items n) (c.self.invariant.rising n) (c.self.invariant.linked n)) in
    let is : c.in-Ok.list.items ≡ timeline_entries_at ts es =
    c.in-Ok.ensures ∙ entries_same ts (λ n. first_after ts os n (held_at c.deref.result.now n)) (versions_at h) 0 names (λ n low high. each n) in
    let moved : IsPermutation (timeline_entries_at ts es) sorted =
    subst (λ (xs : List (List ℕ × ℤ)). IsPermutation xs sorted) is c.sort_unstable_by.ensures.permutation in
    let same : (k : List ℕ) → _ =
    λ k. ap (λ (s : Store). cell_in s k) (same_moved (timeline_entries_at ts es) sorted moved (distinct_held ts es unique)) ∙ cell_held ts k es unique in
    record {
      past = rw (← c.self.view_is) (λ i k. same k i);
      entries = entries_listed (timeline_entries_at ts es) sorted moved (distinct_held ts es unique)
          (c.sort_unstable_by.ensures.sorted (λ x y. is_lt (slice_cmp nat_cmp x.0 y.0)) (ranks_by nat_list_cmp_total (λ e. e.0))
          (answers_always _ (λ a r. is_lt r ≡ is_lt (slice_cmp nat_cmp a.0.now.0 a.1.0.now.0)) _ (λ f a r g q. search rules)));
    }
