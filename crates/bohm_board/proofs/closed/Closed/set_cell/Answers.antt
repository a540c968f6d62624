use Rattle.std.proofs.Common.{ℕ, sym, ◌∙◌, subst, set, length-set}
use Rattle.bohm_board.specs.Shown.{AreSound, words_of}
use Rattle.bohm_board.proofs.ClosedWords.{cell_put}
use Rattle.bohm_board.proofs.closed.Closed.set_cell.Goals as goal

pub invariant_of-self-clause-sound : goal.invariant_of-self-clause-sound
invariant_of-self-clause-sound c =
    let b = c.args.self.now.batch in
    let w = words_of c.args.self.now.columns in
    let p = c.slot_words-presence.result.0 in
    let n = c.slot_words-presence.result.1 in
    let sound = cell_put b w c.args.slot c.args.cell p n c.args.self.now.sized c.args.self.now.sound c.requires.inside c.requires.right
    c.slot_words-presence.ensures.presence c.slot_words-presence.ensures.value in
    subst (λ (k : ℕ). AreSound b (record w { presences = set w.presences k p; values = set w.values k n })) (sym c.number-number.ensures.number) sound

pub invariant_of-self-clause-sized : goal.invariant_of-self-clause-sized
invariant_of-self-clause-sized c =
    let w = words_of c.args.self.now.columns in
    let sized = c.args.self.now.sized in
    record {
      statuses = sized.statuses;
      presences = length-set w.presences c.number-number.result c.slot_words-presence.result.0 ∙ sized.presences;
      values = length-set w.values c.number-number.result c.slot_words-presence.result.1 ∙ sized.values;
    }
