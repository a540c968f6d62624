use Rattle.std.proofs.Common.{arith, length, ℕ, List, [], ◌∷◌, ◌++◌, refl, sym, ap, ◌∙◌, subst}
use Rattle.std.specs.Borrow.{Bor}
use Rattle.bohm_board.specs.declared.board.Board.{Board}
use Rattle.bohm_board.specs.declared.status.Status.TheVariants.{Open}
use Rattle.bohm_board.specs.declared.knowledge.View.{View}
use Rattle.bohm_board.specs.Batches.{IsIn}
use Rattle.bohm_board.specs.Passes.{KnowsWanted, batch_of, view}
use Rattle.bohm_board.proofs.ForCallers.{keeps_then, keeps_along, keeps_claimed}
use Rattle.bohm_exec.specs.Counts.{counted_on}
use Rattle.bohm_exec.specs.Steps.{IsFree}
use Rattle.bohm_exec.proofs.Counting.{counted_same}
use Rattle.bohm_exec.proofs.Viewed.{wanted_stays}
use Rattle.bohm_exec.proofs.sweeper.Sweeper.attempt.Goals as goal

pub settle-requires-clause-claimed : goal.settle-requires-clause-claimed
settle-requires-clause-claimed g c =
    let now = c.in-Mine.ensures.view in
    let found = view c.find_wanted.new.self.stepper.pass.now in
    let here = sym c.find_wanted.ensures.looks.same.board in
    let known = subst (λ (z : Bor Board). KnowsWanted (batch_of z.now) found c.args.t) here (c.in_default.ensures.known refl) in record {
      own = c.claim.ensures.own;
      inside = subst (λ (z : Bor Board). IsIn (batch_of z.now) c.args.t) here c.requires.inside;
      held = ap (λ (z : View). z.held) now;
      wanted = wanted_stays (batch_of c.find_wanted.new.self.stepper.board.now) found (view c.claim.new.pass) c.args.t (ap (λ (z : View). z.absent) now)
          (ap (λ (z : View). z.present) now) known;
      empty = ap (λ (z : View). z.filled) now;
    }

pub returns-in-Mine-clause-step_on : goal.returns-in-Mine-clause-step_on
returns-in-Mine-clause-step_on g c =
    let v = view c.find_wanted.new.self.stepper.pass.now in
    let w = view c.claim.new.pass in
    let new = c.settle.new.self.stepper.pass.now in
    let now = c.in-Mine.ensures.view in
    let found = c.find_wanted.ensures.looks in
    let looks = found.view in
    let settled = c.settle.ensures.step_on in
    let claims = keeps_along v _ w now (keeps_claimed v c.args.t Open) in record {
      same = record { board = settled.same.board ∙ found.same.board; pass = settled.same.pass ∙ found.same.pass };
      free = subst (λ (z : Bor Board). IsFree z.now new) found.same.board settled.free;
      keeps = keeps_then (view c.args.self.now.stepper.pass.now) v (view new) looks.keeps (keeps_then v w (view new) claims settled.keeps);
      took = record {
        done = settled.took.done ∙ ap (λ (xs : List ℕ). xs ++ c.args.t ∷ []) (ap (λ (z : View). z.done) now ∙ looks.done);
        busy = settled.took.busy ∙ (ap (λ (z : View). z.busy) now ∙ looks.busy);
      };
    }

pub returns-in-Mine-clause-counted : goal.returns-in-Mine-clause-counted
returns-in-Mine-clause-counted g c =
    let claimed = ap (λ (z : View). length z.finished) c.in-Mine.ensures.view in
    let looked = ap length c.find_wanted.ensures.looks.view.finished in
    let same = c.find_wanted.ensures.evaluations in record {
      more = 1;
      finished = omega (arith, c.settle.ensures.finished, claimed, looked);
      counted = c.settle.ensures.evaluations ∙ c.evaluate-outcome.ensures.count ∙ ap (λ n. counted_on n 1) same;
    }

pub returns-in-Some-clause-counted : goal.returns-in-Some-clause-counted
returns-in-Some-clause-counted g c = counted_same _ _ _ _ c.find_wanted.ensures.evaluations c.find_wanted.ensures.looks.view.finished

pub returns-in-Busy-clause-counted : goal.returns-in-Busy-clause-counted
returns-in-Busy-clause-counted g c = counted_same _ _ _ _ c.find_wanted.ensures.evaluations
    (ap (λ (z : View). z.finished) c.in-Busy.ensures.view ∙ c.find_wanted.ensures.looks.view.finished)

pub returns-in-Done-clause-counted : goal.returns-in-Done-clause-counted
returns-in-Done-clause-counted g c = counted_same _ _ _ _ c.find_wanted.ensures.evaluations
    (ap (λ (z : View). z.finished) c.in-Done.ensures.view ∙ c.find_wanted.ensures.looks.view.finished)
