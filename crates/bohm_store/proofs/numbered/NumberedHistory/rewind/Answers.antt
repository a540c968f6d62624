use Rattle.std.proofs.Common.{◌≡◌, length, ap, arith}
use Rattle.std.proofs.lemmas.List.{with_items_is}
use Rattle.bohm_store.specs.Numbered.{Numbered}
use Rattle.bohm_store.proofs.Rewound.{rewound, rewound_numbered}
use Rattle.bohm_store.proofs.numbered.NumberedHistory.rewind.Goals as goal

pub rewind-requires : goal.rewind-requires
rewind-requires c = (c.self.inside.top, c.self.invariant.climbs)

pub invariant_of-self : goal.invariant_of-self
invariant_of-self c =
    let items = c.self.inside.newest.items in
    let old : Numbered = record { floor = c.self.inside.floor; top = c.self.inside.top; newest = items; older = c.self.inside.older.items } in
    let value = c.as_mut_slice-newest.ensures.value in
    let slice = ap length value in
    let is = with_items_is c.self.inside.newest c.forget_after.new.newest
    (omega (arith, c.forget_after.auto.newest, c.rewind.auto.newest, slice, c.as_mut_slice-newest.ensures.len)) in
    let long : length c.forget_after.new.newest ≡ length items = omega (arith, c.forget_after.auto.newest, c.rewind.auto.newest, slice) in
    let low = rw (← c.self.view_is) at c.requires in
    rw (is, c.cut_off.ensures c.self.inside.top c.self.invariant.climbs)
    (rewound_numbered c.args.ts old c.rewind.new.newest c.forget_after.new.newest c.self.invariant long
    (rw value at c.rewind.ensures) c.forget_after.ensures low)

pub returns-clause-versions : goal.returns-clause-versions
returns-clause-versions c =
    let items = c.self.inside.newest.items in
    let old : Numbered = record { floor = c.self.inside.floor; top = c.self.inside.top; newest = items; older = c.self.inside.older.items } in
    let value = c.as_mut_slice-newest.ensures.value in
    let slice = ap length value in
    let is = with_items_is c.self.inside.newest c.forget_after.new.newest
    (omega (arith, c.forget_after.auto.newest, c.rewind.auto.newest, slice, c.as_mut_slice-newest.ensures.len)) in
    let long : length c.forget_after.new.newest ≡ length items = omega (arith, c.forget_after.auto.newest, c.rewind.auto.newest, slice) in
    rw (← c.self.view_is) (rw (is, c.cut_off.ensures c.self.inside.top c.self.invariant.climbs)
    (rewound c.args.ts old c.rewind.new.newest c.forget_after.new.newest c.self.invariant long
    (rw value at c.rewind.ensures) c.forget_after.ensures))
