use Rattle.std.proofs.Common.{◌≡◌, ◌∙◌, ◌++◌, [], ◌<◌, ℕ, List, length, drop, get_or, ap, sym, append-nil, arith}
use Rattle.std.proofs.lemmas.List.{drop_all, get_or_default}
use Rattle.std.proofs.lemmas.Option.{get_or_from_slice_get}
use Rattle.bohm_types.specs.declared.cell.Cell.TheVariants as cells
use Rattle.bohm_log.specs.Layers.{all_names}
use Rattle.bohm_store.specs.Versions.{cell_at}
use Rattle.bohm_store.specs.Chains.{cell_entry, timeline_entries_at}
use Rattle.bohm_hints.specs.declared.held.Held.{Held}
use Rattle.bohm_hints.specs.declared.held.Held.TheVariants.{Never}
use Rattle.bohm_store.specs.Held.{held_at, held_versions}
use Rattle.bohm_store.specs.Numbered.{named}
use Rattle.bohm_store.proofs.Entries.{listed_more}
use Rattle.bohm_store.proofs.listing.present.Goals as goal

pub loop-i-preserved : goal.loop-i-preserved
loop-i-preserved c =
    let ts = c.args.ts in
    let now = c.args.newest.now in
    let names = all_names c.args.names in
    let i = c.loop-i.i in
    let k = c.name.result.now in
    let v = c.index-newest-i.result in
    let inside : i < length now = omega (arith, c.requires, c.loop-i-test.true, c.len-i-end.ensures) in
    let at : get_or names i [] ≡ k = get_or_from_slice_get names i k [] c.name.ensures in
    let held : v ≡ get_or now i Never = c.index-newest-i.is ∙ get_or_default now i v Never inside in
    let known : i < length names = omega (arith, c.loop-i-test.true, c.len-i-end.ensures) in
    listed_more ts (held_at now) names i k c.loop-i.out.items c.list_one.new.out.items
    (timeline_entries_at ts (named (held_at now) 0 names)) known at c.loop-i.invariant
    (c.in_ok-list_one.ensures ∙ ap (λ (w : Held). c.loop-i.out.items ++ cell_entry k (cell_at ts (held_versions w) cells.Absent) []) held)

pub returns : goal.returns
returns c =
    let names = all_names c.args.names in
    let none : drop c.loop-i.i names ≡ [] = drop_all c.loop-i.i names (omega (arith, c.loop-i-test.false, c.len-i-end.ensures)) in
    sym (append-nil c.loop-i.out.items)
    ∙ sym (ap (λ (ks : List (List ℕ)). c.loop-i.out.items ++ timeline_entries_at c.args.ts (named (held_at c.args.newest.now) c.loop-i.i ks)) none)
    ∙ c.loop-i.invariant
