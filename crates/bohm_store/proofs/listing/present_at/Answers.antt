use Rattle.std.proofs.Common.{◌≡◌, ◌∙◌, ◌++◌, ◌<◌, ℕ, List, length, ap, arith}
use Rattle.std.proofs.lemmas.List.{with_items_is}
use Rattle.bohm_types.specs.declared.cell.Cell.TheVariants as cells
use Rattle.bohm_log.specs.Layers.{all_names}
use Rattle.bohm_store.specs.declared.version.Version.{Version}
use Rattle.bohm_store.specs.Versions.{cell_at}
use Rattle.bohm_hints.specs.declared.held.Held.{Held}
use Rattle.bohm_store.specs.Held.{held_at}
use Rattle.bohm_store.specs.Numbered.{first_after}
use Rattle.bohm_store.proofs.Entries.{entries_same}
use Rattle.bohm_store.proofs.listing.present_at.Goals.{After-deref}
use Rattle.bohm_store.proofs.listing.present_at.Goals as goal

-- `rewind` gets the newest versions, and `present` gets the versions that `rewind` leaves
same : (c : After-deref) → (c.as_mut_slice.result.now ≡ c.args.newest.now) × (c.deref.result.now ≡ c.rewind.new.newest)
same c =
    let now = c.args.newest.now in
    let given = c.as_mut_slice.ensures.value ∙ c.in_ok-extend_from_slice.ensures.items ∙ ap (λ (xs : List Held). xs ++ now) c.in_ok-then.ensures.items in
    let is = with_items_is c.extend_from_slice.new.self c.rewind.new.newest (omega (arith, c.rewind.auto.newest, c.as_mut_slice.ensures.len)) in
    (given, c.deref.ensures.value ∙ is)

pub present-requires : goal.present-requires
present-requires c =
    let (given, at) = same c in
    omega (arith, c.rewind.auto.newest, ap length given, ap length at, c.requires.long)

pub returns : goal.returns
returns c =
    let (given, at) = same (goal.at.returns c).After-deref in
    let now = c.args.newest.now in
    let names = all_names c.args.names in
    let ts = c.args.ts in
    let os = c.args.older.now.items in
    let told = rw given at c.rewind.ensures in
    let each : (n : ℕ) → n < length now → held_at c.deref.result.now n ≡ first_after ts os n (held_at now n) =
    λ n lt. ap (λ (xs : List Held). held_at xs n) at ∙ told n lt in
    c.in_ok-list.ensures
    ∙ entries_same ts (held_at c.deref.result.now) (λ n. first_after ts os n (held_at now n)) 0 names
    (λ n low high. ap (λ (vs : List Version). cell_at ts vs cells.Absent) (each n (omega (arith, c.requires.long))))
