use Rattle.std.proofs.Common.{◌≡◌, ◌∙◌, ◌++◌, ◌∷◌, [], ap, refl, sym, arith, length, length-append}
use Rattle.bohm_store.specs.Numbered.{ended_by}
use Rattle.bohm_store.proofs.Rewound.{climbs_front, cut_one, uncut}
use Rattle.bohm_store.proofs.older.cut_off.Goals as goal

pub loop-init : goal.loop-init
loop-init c top climbs = (climbs, refl)

pub loop-smaller : goal.loop-smaller
loop-smaller c =
    let new = c.take_ended_after.new.self.items in
    let long = length-append new (c.in-Some.field-0 ∷ []) in
    omega (arith, ap length c.in-Some.ensures.0, long)

pub loop-preserved : goal.loop-preserved
loop-preserved c top climbs =
    let o = c.in-Some.field-0 in
    let new = c.take_ended_after.new.self.items in
    let at : c.loop.older.items ≡ new ++ o ∷ [] = c.in-Some.ensures.0 in
    let was = c.loop.invariant top climbs in
    let before : ended_by c.args.ts (new ++ o ∷ []) ≡ ended_by c.args.ts c.args.older.now.items = rw at at was.1 in
    (climbs_front top new o (rw at at was.0), sym (cut_one c.args.ts new o c.in-Some.ensures.1) ∙ before)

pub returns : goal.returns
returns c top climbs =
    let was = c.loop.invariant top climbs in
    let same = c.in_default.ensures.0 in
    rw same (sym (uncut c.args.ts top c.loop.older.items was.0 c.in_default.ensures.1) ∙ was.1)
