use Rattle.std.proofs.Common.{◌≡◌, ℕ, ◌+◌, ◌<◌, refl, sym, ap, ◌∙◌, subst, arith}
use mathlib.Core.Logic.{dite}
use native.Mathlib.Decide.{ℕ_discrete}
use Rattle.bohm_board.specs.declared.batch.Batch.{Batch}
use Rattle.bohm_board.specs.Batches.{first_of, position}
use Rattle.bohm_board.specs.Closings.{batch_of_closed, status_in}
use Rattle.bohm_exec.specs.Asides.{IsSetAside}
use Rattle.bohm_layer_trials.proofs.boards.assert_set_aside.Goals as goal
use Rattle.bohm_layer_trials.proofs.boards.assert_set_aside.Goals.{in-Some, in-None}

pub loop-i-preserved : goal.loop-i-preserved
loop-i-preserved g c = λ u is below open_still.
    let b = batch_of_closed c.args.closed.now in
    let t : ℕ = c.first-first.result + c.loop-i.i in
    let first : c.first-first.result ≡ first_of b = c.first-first.ensures ∙ ap (λ (z : Batch). first_of z) c.batch.ensures in
    dite (ℕ_discrete (position b u) c.loop-i.i)
    (λ e.
    let here : t ≡ u = omega (arith, first, is.from, e) in
    elim c.match-outcome.branch [
      | in-Some w ↦
          let done = w.in-Some.ensures.some.0 refl in
          let busy : status_in c.args.closed.now t < 2 = subst (λ (z : ℕ). status_in c.args.closed.now z < 2) (sym here) open_still in
          absurd (omega (arith, done, busy))
      | in-None w ↦ subst (λ (z : ℕ). IsSetAside c.args.asides.now z) here w.assert_aside.ensures
    ])
    (λ ne. c.loop-i.invariant u is (omega (arith, ne)) open_still)
