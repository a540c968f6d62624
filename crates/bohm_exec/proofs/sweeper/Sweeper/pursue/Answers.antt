use Rattle.std.proofs.Common.{rules, arith, ◌≡◌, ℕ, ◌+◌, ◌<◌, List, ◌∷◌, [], ◌++◌, length, sym, refl, ap, ◌∙◌, subst, vec_len}
use Rattle.std.specs.Prelude.{Contains, MatchOption, Vec}
use Rattle.std.specs.Borrow.{Bor}
use Rattle.std.specs.Global.{Global}
use Rattle.std.specs.Vec.{vec_capacity}
use Rattle.std.proofs.lemmas.List.Elements.{Contains-push}
use Rattle.bohm_board.specs.declared.board.Board.{Board}
use Rattle.bohm_board.specs.Batches.{Wants}
use Rattle.bohm_board.specs.Passes.{batch_of, view}
use Rattle.bohm_board.proofs.ForCallers.{keeps_same, keeps_then}
use Rattle.bohm_exec.specs.Steps.{IsFree}
use Rattle.bohm_exec.proofs.Descents.{shorter, IsDescent, starts, pushed, last_of, top_of, left_to_do, top_is, only, pop_falls, push_falls, fits_below}
use Rattle.bohm_exec.proofs.Counting.{counted_same, counted_then}
use Rattle.bohm_exec.proofs.Steppers.{same_then}
use Rattle.bohm_exec.proofs.sweeper.Sweeper.pursue.Given as given
use Rattle.bohm_exec.proofs.sweeper.Sweeper.pursue.Goals as goal
use Rattle.bohm_exec.proofs.sweeper.Sweeper.pursue.Goals.{After-pop, In-Needs}

pub descent-init : goal.descent-init
descent-init g c =
    let b = batch_of c.args.self.now.stepper.board.now in
    let done = (view c.args.self.now.stepper.pass.now).done in record {
      same = record { board = refl; pass = refl };
      free = c.requires.start.free;
      room = c.push.ensures.capacity;
      keeps = keeps_same (view c.args.self.now.stepper.pass.now);
      counted = counted_same _ _ _ _ refl refl;
      busy = refl;
      stack = subst (λ (xs : List ℕ). IsDescent b c.args.start done xs)
          (sym (c.in-Ok.ensures.items ∙ ap (λ (xs : List ℕ). xs ++ c.args.start ∷ []) c.requires.stack.empty))
          (starts b c.args.start done c.requires.start.inside);
    }

-- the pop removed the top of the stack
top_taken : (g : given.Over) (c : After-pop g) → c.descent.self.stack.now.items ≡ c.pop.new.self.items ++ top_of c.descent.self.stack.now.items ∷ []
top_taken g c =
    let xs = c.descent.self.stack.now.items in
    let ys = c.pop.new.self.items in
    let some = c.descent.invariant.stack.some in
    let kept = c.step_on.ensures.stack in
    let cases = subst
    (λ (z : Vec ℕ Global). MatchOption c.pop.result ((vec_len z ≡ 0) × (vec_len c.pop.new.self ≡ 0)) (λ _. vec_len c.pop.new.self + 1 ≡ vec_len z)) kept
    c.pop.ensures.cases in
    let less = shorter _ (vec_len c.descent.self.stack.now) (vec_len c.pop.new.self) cases (search (rules, some)) in
    let less' : length ys < length xs = search (rules, less) in
    last_of xs ys c.pop.result (ap (λ (z : Vec ℕ Global). z.items) (sym kept) ∙ c.pop.ensures.items) less'

-- the top of the stack wants the position that is pushed
wanted : (g : given.Over) (c : In-Needs g) → Wants (batch_of c.args.self.now.stepper.board.now) (top_of c.descent.self.stack.now.items) c.in-Needs.u
wanted g c =
    let inv = c.descent.invariant in
    let top = top_is c.descent.self.stack.now.items c.len.result c.index-top.result.now inv.stack.some (search rules) c.index-top.ensures in
    subst (λ (z : ℕ × Bor Board). Wants (batch_of z.1.now) z.0 c.in-Needs.u) (λ i. (top i, inv.same.board i)) c.in-Needs.ensures.step_on.took.wants

-- if the popped stack isn't empty, its measure is smaller, and it is still a descent
popped : (g : given.Over) (c : After-pop g) → 0 < length c.pop.new.self.items
    → (left_to_do (batch_of c.args.self.now.stepper.board.now) (view c.step_on.new.self.stepper.pass.now).done c.pop.new.self.items
    < left_to_do (batch_of c.args.self.now.stepper.board.now) (view c.descent.self.stepper.pass.now).done c.descent.self.stack.now.items)
    × IsDescent (batch_of c.args.self.now.stepper.board.now) c.args.start (view c.step_on.new.self.stepper.pass.now).done c.pop.new.self.items
popped g c = pop_falls (batch_of c.args.self.now.stepper.board.now) c.args.start (view c.descent.self.stepper.pass.now).done
    (view c.step_on.new.self.stepper.pass.now).done c.descent.self.stack.now.items c.pop.new.self.items c.index-top.result.now
    c.descent.invariant.stack (top_taken g c)
    (top_is c.descent.self.stack.now.items c.len.result c.index-top.result.now c.descent.invariant.stack.some (search rules) c.index-top.ensures)
    c.in-Done.ensures.step_on.took.done

pub returns-then-is_empty-clause-done : goal.returns-then-is_empty-clause-done
returns-then-is_empty-clause-done g c =
    let b = batch_of c.args.self.now.stepper.board.now in
    let xs = c.descent.self.stack.now.items in
    let ys = c.pop.new.self.items in
    let done = (view c.descent.self.stepper.pass.now).done in
    let d = c.descent.invariant.stack in
    let top = top_is xs c.len.result c.index-top.result.now d.some (search rules) c.index-top.ensures in
    let first = only b c.args.start done xs ys d (top_taken g (goal.at.returns-then-is_empty-clause-done g c).After-pop) (search rules) in
    let here : Contains (done ++ c.index-top.result.now ∷ []) c.args.start =
    subst (λ (z : ℕ). Contains (done ++ c.index-top.result.now ∷ []) z) (top ∙ first) (Contains-push _ _) in
    subst (λ (z : List ℕ). Contains z c.args.start) (sym c.in-Done.ensures.step_on.took.done) here

pub descent-smaller-else-is_empty : goal.descent-smaller-else-is_empty
descent-smaller-else-is_empty g c = (popped g (goal.at.descent-smaller-else-is_empty g c).After-pop (search rules)).0

pub descent-preserved-else-is_empty : goal.descent-preserved-else-is_empty
descent-preserved-else-is_empty g c =
    let s = c.args.self.now.stepper in
    let now = c.descent.self.stepper in
    let new = c.step_on.new.self.stepper in
    let inv = c.descent.invariant in
    let wide = ap (λ (z : Vec ℕ Global). vec_capacity z) c.step_on.ensures.stack in record {
      same = same_then s now new inv.same c.step_on.ensures.step_on.same;
      free = subst (λ (z : Bor Board). IsFree z.now new.pass.now) inv.same.board c.step_on.ensures.step_on.free;
      room = search (rules, wide);
      keeps = keeps_then (view s.pass.now) (view now.pass.now) (view new.pass.now) inv.keeps c.step_on.ensures.step_on.keeps;
      counted = counted_then _ _ _ (view s.pass.now) (view now.pass.now) (view new.pass.now) inv.counted c.step_on.ensures.counted;
      busy = c.in-Done.ensures.step_on.took.busy ∙ inv.busy;
      stack = (popped g (goal.at.descent-preserved-else-is_empty g c).After-pop (search rules)).1;
    }

pub descent-smaller : goal.descent-smaller
descent-smaller g c =
    let b = batch_of c.args.self.now.stepper.board.now in
    let xs = c.descent.self.stack.now.items in
    let u = c.in-Needs.u in
    let need = c.in-Needs.ensures.step_on.took in
    let inv = c.descent.invariant in
    let wants = wanted g (goal.at.descent-smaller g c).In-Needs in
    let grown = c.in-Ok-push.ensures.items ∙ ap (λ (z : Vec ℕ Global). z.items ++ u ∷ []) c.step_on.ensures.stack in
    push_falls b c.args.start (view c.descent.self.stepper.pass.now).done
    (view c.step_on.new.self.stepper.pass.now).done xs c.push-in-Needs.new.self.items u inv.stack grown wants need.done

pub descent-preserved : goal.descent-preserved
descent-preserved g c =
    let s = c.args.self.now.stepper in
    let now = c.descent.self.stepper in
    let new = c.step_on.new.self.stepper in
    let b = batch_of s.board.now in
    let xs = c.descent.self.stack.now.items in
    let u = c.in-Needs.u in
    let need = c.in-Needs.ensures.step_on.took in
    let inv = c.descent.invariant in
    let wants = wanted g (goal.at.descent-preserved g c).In-Needs in
    let grown = c.in-Ok-push.ensures.items ∙ ap (λ (z : Vec ℕ Global). z.items ++ u ∷ []) c.step_on.ensures.stack in
    let wide = ap (λ (z : Vec ℕ Global). vec_capacity z) c.step_on.ensures.stack in
    let d' = pushed b c.args.start (view now.pass.now).done xs u inv.stack wants need.undone in record {
      same = same_then s now new inv.same c.step_on.ensures.step_on.same;
      free = subst (λ (z : Bor Board). IsFree z.now new.pass.now) inv.same.board c.step_on.ensures.step_on.free;
      room = search (rules, wide);
      keeps = keeps_then (view s.pass.now) (view now.pass.now) (view new.pass.now) inv.keeps c.step_on.ensures.step_on.keeps;
      counted = counted_then _ _ _ (view s.pass.now) (view now.pass.now) (view new.pass.now) inv.counted c.step_on.ensures.counted;
      busy = need.busy ∙ inv.busy;
      stack = subst (λ (z : List ℕ × List ℕ). IsDescent b c.args.start z.0 z.1) (λ i. (sym need.done i, sym grown i)) d';
    }

pub unreachable-requires-in_default-push : goal.unreachable-requires-in_default-push
unreachable-requires-in_default-push g c =
    let b = batch_of c.args.self.now.stepper.board.now in
    let xs = c.descent.self.stack.now.items in
    let u = c.in-Needs.u in
    let inv = c.descent.invariant in
    let wants = wanted g (goal.at.unreachable-requires-in_default-push g c).In-Needs in
    let fits = fits_below b c.args.start (view c.descent.self.stepper.pass.now).done xs u inv.stack wants in
    let full = c.in_default-push.ensures.full in
    let room = c.requires.stack.room in
    let kept = inv.room in
    let wide = ap (λ (z : Vec ℕ Global). vec_capacity z) c.step_on.ensures.stack in
    let long = ap (λ (z : Vec ℕ Global). length z.items) c.step_on.ensures.stack in
    omega (arith, fits, full, room, kept, wide, long)

pub returns-then-is_empty-clause-counted : goal.returns-then-is_empty-clause-counted
returns-then-is_empty-clause-counted g c = counted_then _ _ _ (view c.args.self.now.stepper.pass.now) (view c.descent.self.stepper.pass.now)
    (view c.step_on.new.self.stepper.pass.now) c.descent.invariant.counted c.step_on.ensures.counted

pub returns-in-Busy-clause-counted : goal.returns-in-Busy-clause-counted
returns-in-Busy-clause-counted g c = counted_then _ _ _ (view c.args.self.now.stepper.pass.now) (view c.descent.self.stepper.pass.now)
    (view c.step_on.new.self.stepper.pass.now) c.descent.invariant.counted c.step_on.ensures.counted
