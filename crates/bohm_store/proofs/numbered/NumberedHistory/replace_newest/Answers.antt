use Rattle.std.proofs.Common.{◌≡◌, ◌+◌, ℕ, List, length, ap, arith, subst, sym}
use Rattle.std.proofs.lemmas.List.{with_items_is}
use Rattle.std.specs.Vec.{with_items}
use Rattle.bohm_types.specs.Txn.{Txn}
use Rattle.bohm_log.specs.Layers.{all_names}
use Rattle.bohm_store.specs.Nexts.{IsSettledKept}
use Rattle.bohm_store.specs.Numbered.{IsNumbered, Numbered, timeline}
use Rattle.bohm_store.specs.Writes.{AreWritesBehind, listed_in}
use Rattle.bohm_store.proofs.Settled.{settled}
use Rattle.bohm_store.proofs.numbered.NumberedHistory.replace_newest.Goals.{After-replace_all}
use Rattle.bohm_store.proofs.numbered.NumberedHistory.replace_newest.Goals as goal

pub replace_all-requires : goal.replace_all-requires
replace_all-requires c =
    let long = rw (← c.self.view_is) at c.requires.long in
    λ i d lt. (let low = c.requires.writes.1.below i d lt in let value = ap length c.as_mut_slice.ensures.value in omega arith)

abbrev old : After-replace_all → Numbered
old c = record { floor = c.self.inside.floor; top = c.self.inside.top; newest = c.self.inside.newest.items; older = c.self.inside.older.items }

abbrev new : After-replace_all → Numbered
new c = record {
  floor = c.self.inside.top + c.args.count;
  top = c.self.inside.top + c.args.count;
  newest = (with_items c.self.inside.newest c.replace_all.new.newest).items;
  older = c.clear.new.self.items;
}

-- the resulting history keeps the invariant and has settled the transactions, trimmed at the new top
left : (c : After-replace_all) (txns : List Txn)
    → AreWritesBehind (all_names c.args.names) (timeline (all_names c.args.names) (old c)) c.args.count txns (listed_in c.args.writes)
    → IsNumbered (new c)
    × IsSettledKept (timeline (all_names c.args.names) (old c)) (timeline (all_names c.args.names) (new c)) txns ((old c).top + c.args.count)
left c txns h =
    let names = all_names c.args.names in
    let value = c.as_mut_slice.ensures.value in
    let is = with_items_is c.self.inside.newest c.replace_all.new.newest
    (omega (arith, c.replace_all.auto.newest, ap length value, c.as_mut_slice.ensures.len)) in
    let end : (old c).top + c.args.count ≡ (old c).top + length txns = omega (arith, h.many) in
    let (numbered, kept) = settled names h.base txns h.formed (omega (arith, h.many, h.some)) (old c) (new c) (listed_in c.args.writes)
    c.self.invariant c.requires.names h.agree h.below h.listed end end c.clear.ensures.items (rw is (rw value at c.replace_all.ensures)) in
    (numbered, subst (λ (low : ℕ). IsSettledKept (timeline names (old c)) (timeline names (new c)) txns low) (sym end) kept)

pub invariant_of-self : goal.invariant_of-self
invariant_of-self c = (left (goal.at.invariant_of-self c).After-replace_all c.requires.writes.0 (rw (← c.self.view_is) at c.requires.writes.1)).0

pub returns-clause-settled : goal.returns-clause-settled
returns-clause-settled c = λ txns given.
    rw (← c.self.view_is) (left (goal.at.returns-clause-settled c).After-replace_all txns (rw (← c.self.view_is) at given)).1
