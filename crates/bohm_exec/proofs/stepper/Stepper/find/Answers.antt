use Rattle.std.proofs.Common.{None, Some, length, refl, ap, arith, sym, subst}
use Rattle.std.specs.Prelude.{Contains, Option}
use Rattle.bohm_board.specs.declared.batch.Batch.{Batch}
use Rattle.bohm_board.specs.declared.slot.Slot.{Slot}
use Rattle.bohm_board.specs.declared.knowledge.View.{View}
use Rattle.bohm_board.specs.Batches.{IsRightCell, IsSlot, accesses_in}
use Rattle.bohm_board.specs.Passes.{batch_of, view}
use Rattle.bohm_board.specs.Views.{Knows}
use Rattle.bohm_board.proofs.ForCallers.{keeps_same, keeps_along, keeps_looked, knows_looked, contains_at}
use Rattle.bohm_exec.specs.Handed.{TakesSlot}
use Rattle.bohm_exec.proofs.Seen.{earlier_at, known_base, found_base, known_within, found_within, knows_all, are_found, taken_before, taken_within}
use Rattle.bohm_exec.proofs.Viewed.{no_looks, one_look}
use Rattle.bohm_exec.proofs.stepper.Stepper.find.Goals as goal
use Rattle.bohm_exec.proofs.stepper.Stepper.find.Goals.{After-slot_at, In-Some, in-Some+in-Some-look, in_default}

taken : (c : After-slot_at) → TakesSlot (accesses_in c.args.set (batch_of c.args.self.now.board.now) c.args.t) c.loop-index.index c.slot_at.result
taken c = subst (λ (b : Batch). TakesSlot (accesses_in c.args.set b c.args.t) c.loop-index.index c.slot_at.result) c.batch-batch.ensures c.slot_at.ensures

here : (c : In-Some) → TakesSlot (accesses_in c.args.set (batch_of c.args.self.now.board.now) c.args.t) c.loop-index.index (Some c.in-Some.slot)
here c = subst (λ (o : Option Slot). TakesSlot (accesses_in c.args.set (batch_of c.args.self.now.board.now) c.args.t) c.loop-index.index o) c.in-Some.is
    (taken (goal.at.In-Some c).After-slot_at)

pub loop-index-init : goal.loop-index-init
loop-index-init c = record {
  own = c.requires.pass.own;
  looks = no_looks (view c.args.self.now.pass.now);
  known = λ j a u l at is. absurd (omega arith);
  found = λ j a u cell l at is here. absurd (omega arith);
}

pub look-requires-clause-inside : goal.look-requires-clause-inside
look-requires-clause-inside c =
    let b = batch_of c.args.self.now.board.now in
    let n = c.loop-index.index in
    let at = here (goal.at.look-requires-clause-inside c).In-Some in
    let within = taken_within (accesses_in c.args.set b c.args.t) n c.in-Some.slot at in
    let earlier = earlier_at b c.args.t c.args.set n at.access c.in-Some.slot.txn c.requires.pass.inside c.requires.wanted at.at within.0 in
    subst (λ (z : Slot). IsSlot b z) within.1 earlier.slot

pub returns-in-None-clause-looks : goal.returns-in-None-clause-looks
returns-in-None-clause-looks c = record {
  same = record { board = refl; pass = refl };
  own = c.look.ensures.own;
  view = one_look (view c.args.self.now.pass.now) (view c.loop-index.pass)
      (view c.look.new.pass) c.in-Some.slot None c.loop-index.invariant.looks c.in-None.ensures.view;
}

pub returns-in-None-clause-missing : goal.returns-in-None-clause-missing
returns-in-None-clause-missing c =
    let accesses = accesses_in c.args.set (batch_of c.args.self.now.board.now) c.args.t in
    let u = c.in-Some.slot.txn in
    let at = here (goal.at.returns-in-None-clause-missing c).In-Some in
    let within = taken_within accesses c.loop-index.index c.in-Some.slot at in
    let wanted = c.requires.wanted at.access (contains_at accesses c.loop-index.index at.access at.at) in
    ((at.access, wanted, within.0), λ done. (c.in-None.ensures.none refl).done (subst (λ xs. Contains xs u) (sym c.loop-index.invariant.looks.done) done))

pub loop-index-preserved : goal.loop-index-preserved
loop-index-preserved c =
    let b = batch_of c.args.self.now.board.now in
    let accesses = accesses_in c.args.set b c.args.t in
    let n = c.loop-index.index in
    let inv = c.loop-index.invariant in
    let v = view c.loop-index.pass in
    let took = taken (goal.at.loop-index-preserved c).After-slot_at in
    elim c.match-slot_at.branch [
      | in-Some+in-Some-look w ↦
          let slot = w.in-Some.slot in
          let at = subst (λ (o : Option Slot). TakesSlot accesses n o) w.in-Some.is took in
          let within = taken_within accesses n slot at in
          let cell = w.in-Some-look.cell in
          let now = w.in-Some-look.ensures.view in
          let new = view w.look.new.pass in
          let knows = subst (λ (z : View). Knows z slot) (sym now) (knows_looked v slot cell) in
          record {
            own = rw w.pass-is w.look.ensures.own;
            looks = rw w.pass-is (one_look (view c.args.self.now.pass.now) v new slot (Some cell) inv.looks now);
            known = rw w.pass-is (known_within b v new accesses n at.access slot.txn (keeps_along v _ new now (keeps_looked v slot (Some cell))) inv.known
                at.at within.0 (subst (λ (z : Slot). Knows new z) (sym within.1) knows));
            found = rw w.cells-is (found_within b accesses c.loop-index.cells n at.access slot.txn cell (omega arith) inv.found at.at within.0
                (subst (λ (z : Slot). IsRightCell b z cell) (sym within.1) w.in-Some-look.ensures.right));
          }
      | in_default w ↦
          let at = subst (λ (o : Option Slot). TakesSlot accesses n o) w.in_default.is took in
          let source = taken_before accesses n at in
          record {
            own = rw w.pass-is inv.own;
            looks = rw w.pass-is inv.looks;
            known = rw w.pass-is (known_base b v accesses n at.access (keeps_same v) inv.known at.at source);
            found = rw w.cells-is (found_base b accesses c.loop-index.cells n at.access inv.found at.at source);
          }
    ]

pub returns-clause-known : goal.returns-clause-known
returns-clause-known c = λ _.
    let b = batch_of c.args.self.now.board.now in
    knows_all b (view c.loop-index.pass) (accesses_in c.args.set b c.args.t) c.loop-index.index
    (omega (arith, ap (λ (z : Batch). length (accesses_in c.args.set z c.args.t)) c.batch-batch.ensures)) c.loop-index.invariant.known

pub returns-clause-found : goal.returns-clause-found
returns-clause-found c = λ _.
    let b = batch_of c.args.self.now.board.now in
    are_found b (accesses_in c.args.set b c.args.t) c.loop-index.cells c.loop-index.index
    (omega (arith, ap (λ (z : Batch). length (accesses_in c.args.set z c.args.t)) c.batch-batch.ensures)) c.loop-index.invariant.found
