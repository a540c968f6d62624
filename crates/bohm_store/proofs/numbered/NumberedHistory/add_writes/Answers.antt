use Rattle.std.proofs.Common.{◌≡◌, List, ◌++◌, ◌+◌, ◌<◌, ◌∙◌, ℕ, length, ap, refl, arith}
use Rattle.std.proofs.lemmas.List.{with_items_is}
use Rattle.bohm_log.specs.Layers.{all_names}
use Rattle.bohm_store.specs.Numbered.{EndsRise, IsNumbered, Numbered, timeline, versions_at}
use Rattle.bohm_store.specs.Writes.{AreWritesBehind, listed_in, versions_by}
use Rattle.bohm_store.proofs.OlderVersions.{rise_higher}
use Rattle.bohm_store.proofs.Grown.{climb, grown_low, grown_rises, grown_settled}
use Rattle.bohm_types.specs.Txn.{Txn}
use Rattle.std.specs.Vec.{with_items}
use Rattle.bohm_store.specs.Nexts.{IsSettled}
use Rattle.bohm_store.proofs.numbered.NumberedHistory.add_writes.Goals.{In-Err, In-Ok}
use Rattle.bohm_store.proofs.numbered.NumberedHistory.add_writes.Goals as goal

pub add-requires : goal.add-requires
add-requires c =
    let long = rw (← c.self.view_is) at c.requires.long in
    record { numbers = λ i d lt. (let low = c.requires.writes.1.below i d lt in let value = ap length c.as_mut_slice.ensures.value in omega arith) }

abbrev old : In-Ok → Numbered
old c = record { floor = c.self.inside.floor; top = c.self.inside.top; newest = c.self.inside.newest.items; older = c.self.inside.older.items }

abbrev new : In-Ok → Numbered
new c = record {
  floor = c.self.inside.floor;
  top = c.self.inside.top + c.args.count;
  newest = (with_items c.self.inside.newest c.add.new.newest).items;
  older = c.add.new.older.items;
}

-- the resulting history keeps the invariant and has settled the transactions
left : (c : In-Ok) (txns : List Txn)
    → AreWritesBehind (all_names c.args.names) (timeline (all_names c.args.names) (old c)) c.args.count txns (listed_in c.args.writes)
    → IsNumbered (new c) × IsSettled (timeline (all_names c.args.names) (old c)) (timeline (all_names c.args.names) (new c)) txns
left c txns h =
    let names = all_names c.args.names in
    let ws = (listed_in c.args.writes) in
    let os = c.self.inside.older.items in
    let was = c.self.invariant in
    let value = c.as_mut_slice.ensures.value in
    let is = with_items_is c.self.inside.newest c.add.new.newest (omega (arith, c.add.auto.newest, ap length value, c.as_mut_slice.ensures.len)) in
    let start : ℕ = c.self.inside.top + 1 in
    let stop : ℕ = c.self.inside.top + length txns in
    let end : (new c).top ≡ stop = omega (arith, h.many) in
    let some : 0 < length txns = omega (arith, h.many, h.some) in
    let versions = rw value at c.in-Ok.ensures.versions in
    let linked = rw value at c.in-Ok.ensures.linked in
    let grew : (n : ℕ) → versions_at (new c) n ≡ versions_at (old c) n ++ versions_by ws n = rw is (λ n. versions n (was.linked n)) in
    let climbs = climb names h.base txns h.formed some (old c) ws was c.requires.names h.agree h.below h.listed in
    let rise : EndsRise start os = rise_higher c.self.inside.top start os was.climbs (omega arith) in (
      record {
        ordered = omega (arith, was.ordered);
        low = grown_low names h.base txns h.formed some (old c) ws was c.requires.names h.agree h.below h.listed (new c) refl end grew;
        rising = grown_rises names h.base txns h.formed some (old c) ws was c.requires.names h.agree h.below h.listed (new c) refl end grew;
        linked = rw is (λ n. linked n (was.linked n));
        climbs = rw end (c.in-Ok.ensures.climbs start stop rise climbs);
        due = c.in-Ok.ensures.due c.self.inside.floor start stop rise climbs was.due (omega (arith, was.ordered));
      },
      grown_settled names h.base txns h.formed some (old c) ws was c.requires.names h.agree h.below h.listed (new c) refl end grew,
    )

pub invariant_of-self : goal.invariant_of-self
invariant_of-self c = (left (goal.at.invariant_of-self c).In-Ok c.requires.writes.0 (rw (← c.self.view_is) at c.requires.writes.1)).0

pub returns-in-Ok-clause-ok : goal.returns-in-Ok-clause-ok
returns-in-Ok-clause-ok c = λ txns given.
    rw (← c.self.view_is) (left (goal.at.returns-in-Ok-clause-ok c).In-Ok txns (rw (← c.self.view_is) at given)).1

-- an error leaves the newest versions unchanged
same : (c : In-Err) → (with_items c.self.inside.newest c.add.new.newest).items ≡ c.self.inside.newest.items
same c =
    let value = c.as_mut_slice.ensures.value in
    with_items_is c.self.inside.newest c.add.new.newest (omega (arith, c.add.auto.newest, ap length value, c.as_mut_slice.ensures.len))
    ∙ c.in-Err.ensures.err.0 ∙ value

pub invariant_of-self-in-Err : goal.invariant_of-self-in-Err
invariant_of-self-in-Err c = rw (same c, c.in-Err.ensures.err.1) c.self.invariant

pub returns-in-Err-clause-err : goal.returns-in-Err-clause-err
returns-in-Err-clause-err c = rw (same c, c.in-Err.ensures.err.1) c.self.view_is
