use Rattle.std.proofs.Common.{rules, arith, refl, ◌≡◌, ℕ, ◌∷◌, [], ◌++◌, get_or, take, ap, ◌∙◌, subst, inl}
use Rattle.std.specs.Prelude.{Vec}
use Rattle.std.specs.Borrow.{Bor}
use Rattle.std.specs.Global.{Global}
use Rattle.std.proofs.lemmas.List.{take_more}
use Rattle.std.proofs.lemmas.List.Elements.{All-push, All-from_get_or}
use Rattle.bohm_board.specs.declared.board.Board.{Board}
use Rattle.bohm_board.specs.Batches.{Leads}
use Rattle.bohm_board.specs.Passes.{batch_of, view}
use Rattle.bohm_board.proofs.ForCallers.{keeps_then}
use Rattle.bohm_exec.specs.Asides.{IsAccountedFor, positions_in}
use Rattle.bohm_exec.specs.Steps.{IsEmptyFor, IsFree}
use Rattle.bohm_exec.proofs.Accounts.{accounted_later, accounted_pushed, accounted_here, accounted_as, next, busy_more, picked_skip, picked_pair}
use Rattle.bohm_exec.proofs.Counting.{counted_same, counted_then}
use Rattle.bohm_exec.proofs.sweeping.sweep.Goals as goal
use Rattle.bohm_exec.proofs.sweeping.sweep.Goals.{in-Some+in-Ok, in_default}

pub loop-start-preserved : goal.loop-start-preserved
loop-start-preserved g c =
    let b = batch_of c.args.board.now in
    let inv = c.loop-start.invariant in
    let share = c.args.share.now in
    let n = c.loop-start.start-index in
    let start = get_or share n 0 in
    let old = view c.loop-start.sweeper.stepper.pass.now in
    let new = view c.pursue.new.self.stepper.pass.now in
    let pairs = c.loop-start.pairs.items in
    let keeps = c.pursue.ensures.keeps in
    let all = keeps_then (view c.args.pass.now) old new inv.keeps keeps in
    let free = subst (λ (z : Board). IsFree z c.pursue.new.self.stepper.pass.now) inv.board c.pursue.ensures.free in
    let stack = subst (λ (z : Board). IsEmptyFor (batch_of z) c.pursue.new.self.stack.now) inv.board c.pursue.ensures.stack in
    let board = ap (λ (z : Bor Board). z.now) c.pursue.ensures.same.board ∙ inv.board in
    let pass = c.pursue.ensures.same.pass ∙ inv.pass in
    let counted = counted_then _ _ _ (view c.args.pass.now) old new inv.counted c.pursue.ensures.counted in
    let front = take_more share n 0 c.loop-start-test.true in
    elim c.match-pursue.branch [
      | in-Some+in-Ok w ↦
          let v = w.in-Some.busy in
          let p : ℕ × ℕ = (start, v) in
          let grown : c.match-pursue.pairs.items ≡ pairs ++ p ∷ [] = ap (λ (z : Vec (ℕ × ℕ) Global). z.items) w.pairs-is ∙ w.in-Ok.ensures.items in
          let wide = w.push.ensures.capacity in
          let long = w.in-Ok.ensures.len in
          let leads = subst (λ (z : Board). Leads (batch_of z) start v) inv.board w.in-Some.ensures.done in
          record {
            board = board;
            pass = pass;
            free = free;
            stack = stack;
            space = rw w.pairs-is (omega (arith, inv.space, wide));
            count = rw w.pairs-is (omega (arith, inv.count, long));
            keeps = all;
            counted = counted;
            leads = rw grown (All-push (λ (q : ℕ × ℕ). Leads b q.0 q.1) pairs p inv.leads leads);
            busy = rw grown (busy_more (view c.args.pass.now).busy old.busy new.busy pairs p inv.busy w.in-Some.ensures.busy);
            each = rw grown (next (IsAccountedFor b new (pairs ++ p ∷ [])) share n
                (λ i l. accounted_pushed b new pairs p (get_or share i 0) (accounted_later b old new pairs (get_or share i 0) keeps (inv.each i l)))
                (accounted_here b new pairs p));
            order = rw grown (rw front (picked_pair pairs p (take n share) inv.order));
          }
      | in_default w ↦ record {
        board = board;
        pass = pass;
        free = free;
        stack = stack;
        space = rw w.pairs-is inv.space;
        count = rw w.pairs-is (omega (arith, inv.count));
        keeps = all;
        counted = counted;
        leads = rw w.pairs-is inv.leads;
        busy = rw w.pairs-is (w.in_default.ensures.busy ∙ inv.busy);
        each = rw w.pairs-is (next (IsAccountedFor b new pairs) share n (λ i l. accounted_later b old new pairs (get_or share i 0) keeps (inv.each i l))
            (inl w.in_default.ensures.done));
        order = rw w.pairs-is (rw front (picked_skip (positions_in pairs) (take n share) start inv.order));
      }
    ]

pub returns-in_err-stack-clause-counted : goal.returns-in_err-stack-clause-counted
returns-in_err-stack-clause-counted g c = counted_same _ _ _ _ refl refl

pub returns-in_err-pairs-clause-counted : goal.returns-in_err-pairs-clause-counted
returns-in_err-pairs-clause-counted g c = counted_same _ _ _ _ refl refl

pub returns-clause-each : goal.returns-clause-each
returns-clause-each g c =
    let b = batch_of c.args.board.now in
    let share = c.args.share.now in
    let each = All-from_get_or (IsAccountedFor b (view c.loop-start.sweeper.stepper.pass.now) c.loop-start.pairs.items) share 0
    (λ i l. c.loop-start.invariant.each i (omega arith)) in
    rw c.new.ensures (accounted_as b (view c.loop-start.sweeper.stepper.pass.now) c.loop-start.pairs.items share _ (search rules) each)
