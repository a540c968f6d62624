use Rattle.std.proofs.Common.{List, [], arith, sym, subst}
use Rattle.std.specs.Prelude.{Contains}
use Rattle.bohm_board.specs.declared.slot.Slot.{Slot}
use Rattle.bohm_board.specs.Passes.{batch_of, view}
use Rattle.bohm_exec.specs.Handed.{slot_of}
use Rattle.bohm_exec.proofs.Viewed.{no_fills, one_fill, wanted_stays, below_fill, all_fill}
use Rattle.bohm_exec.proofs.sweeper.Sweeper.settle.Goals as goal

none_in : (k : Slot) → ¬ Contains [] k
none_in k c = let l = c.1 in absurd (omega arith)

pub loop-index-init : goal.loop-index-init
loop-index-init g c = record {
  own = c.requires.claimed.own;
  fills = no_fills (view c.args.self.now.stepper.pass.now);
  below = λ k h. absurd (none_in k (subst (λ (xs : List Slot). Contains xs k) c.requires.claimed.empty h));
  all = λ j l. absurd (omega arith);
}

pub fill-requires-clause-empty : goal.fill-requires-clause-empty
fill-requires-clause-empty g c = λ h. let l = c.loop-index.invariant.below (slot_of c.args.t c.loop-index.index) h in omega arith

pub fill-requires-clause-wanted : goal.fill-requires-clause-wanted
fill-requires-clause-wanted g c =
    let fills = c.loop-index.invariant.fills in
    wanted_stays (batch_of c.args.self.now.stepper.board.now) (view c.args.self.now.stepper.pass.now)
    (view c.loop-index.pass) c.args.t fills.absent fills.present c.requires.claimed.wanted

pub loop-index-preserved : goal.loop-index-preserved
loop-index-preserved g c =
    let v = view c.loop-index.pass in
    let n = c.loop-index.index in
    let x = slot_of c.args.t n in
    let inv = c.loop-index.invariant in
    let both = one_fill (view c.args.self.now.stepper.pass.now) v (view c.fill.new.pass) x c.slot_cell.result inv.fills c.fill.ensures.view in
    record {
      own = c.fill.ensures.own;
      fills = both.0;
      below = λ y h. below_fill v.filled c.args.t n inv.below y (subst (λ (xs : List Slot). Contains xs y) both.1 h);
      all = λ j l. subst (λ (xs : List Slot). Contains xs (slot_of c.args.t j)) (sym both.1) (all_fill v.filled c.args.t n inv.all j l);
    }

pub finish-requires-clause-wanted : goal.finish-requires-clause-wanted
finish-requires-clause-wanted g c =
    let fills = c.loop-index.invariant.fills in
    wanted_stays (batch_of c.args.self.now.stepper.board.now) (view c.args.self.now.stepper.pass.now)
    (view c.loop-index.pass) c.args.t fills.absent fills.present c.requires.claimed.wanted
