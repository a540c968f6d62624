use Rattle.std.proofs.Common.{ℕ, ◌≢◌, ◌<◌, ◌≤◌, arith, get_or, sym, ◌∙◌, subst, set, length-set}
use Rattle.bohm_board.specs.Shown.{AreSound, words_of}
use Rattle.bohm_board.specs.Batches.{number, position, width_at}
use Rattle.bohm_board.proofs.FinishedOnce.{one_less}
use Rattle.bohm_board.proofs.SlotNumbers.{position_inside}
use Rattle.bohm_board.proofs.SlotPlaces.{outcomes_long}
use Rattle.bohm_board.proofs.StepEvents.{two_at_least}
use Rattle.bohm_board.proofs.Inputs.{short_outcome}
use Rattle.bohm_board.proofs.ClosedWords.{outcome_put}
use Rattle.bohm_board.proofs.closed.Closed.set_outcome.Goals as goal

pub outcome_word-requires : goal.outcome_word-requires
outcome_word-requires c = short_outcome c.args.self.now.batch _ c.args.outcome c.requires.right

pub invariant_of-self-clause-sound : goal.invariant_of-self-clause-sound
invariant_of-self-clause-sound c =
    let b = c.args.self.now.batch in
    let w = words_of c.args.self.now.columns in
    let x = c.outcome_word.result in
    let sound = outcome_put b w c.args.t c.args.outcome x c.args.self.now.sized c.args.self.now.sound c.requires.inside c.requires.right c.outcome_word.ensures
    (λ y is e. subst (λ (u : ℕ). get_or w.presences (number b (record { txn = u; index = y.index })) 0 ≢ 0) (sym e)
    (c.requires.filled y.index (subst (λ (u : ℕ). y.index < width_at b u) e is.index))) in
    subst (λ (i : ℕ). AreSound b (record w { statuses = set w.statuses i x })) (sym c.position-position.ensures.position) sound

pub invariant_of-self-clause-sized : goal.invariant_of-self-clause-sized
invariant_of-self-clause-sized c =
    let w = words_of c.args.self.now.columns in
    let sized = c.args.self.now.sized in
    record {
      statuses = length-set w.statuses c.position-position.result c.outcome_word.result ∙ sized.statuses;
      presences = sized.presences;
      values = sized.values;
    }

pub returns-clause-left : goal.returns-clause-left
returns-clause-left c =
    let b = c.args.self.now.batch in
    let w = words_of c.args.self.now.columns in
    let long = c.args.self.now.sized.statuses in
    let inside = position_inside b c.args.t c.requires.inside in
    let word = subst (λ (n : ℕ). 2 ≤ n) (sym c.outcome_word.ensures) (two_at_least c.args.outcome) in
    let left = one_less w.statuses (position b c.args.t) c.outcome_word.result (omega (arith, inside, outcomes_long b, long)) c.requires.unfinished word in
    rw c.position-position.ensures.position left
