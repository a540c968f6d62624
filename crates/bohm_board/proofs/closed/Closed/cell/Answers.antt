use Rattle.std.proofs.Common.{rules, arith, ◌≡◌, ℕ, get_or, sym, ap, ◌∙◌, subst}
use Rattle.std.proofs.lemmas.Grind.{get_or_default_zero}
use Rattle.bohm_board.specs.Shown.{words_of}
use Rattle.bohm_board.specs.Encoding.{present_at}
use Rattle.bohm_board.specs.Batches.{number, IsRightCell}
use Rattle.bohm_board.proofs.ClosedWords.{two_word}
use Rattle.bohm_board.proofs.SlotNumbers.{right_there, right_by_word}
use Rattle.bohm_board.proofs.closed.Closed.cell.Goals as goal
use Rattle.bohm_board.proofs.closed.Closed.cell.Goals.{After-index}

-- the word that is read is the slot's presence word
word : (c : After-index) → c.index.result.now ≡ get_or (words_of c.args.self.now.columns).presences (number c.args.self.now.batch c.args.slot) 0
word c = c.index.ensures ∙ (get_or_default_zero (words_of c.args.self.now.columns).presences c.number-number.result c.index.result.now (search rules)
    ∙ ap (λ (k : ℕ). get_or (words_of c.args.self.now.columns).presences k 0) c.number-number.ensures.number)

pub returns-in-1-clause-right : goal.returns-in-1-clause-right
returns-in-1-clause-right c =
    let b = c.args.self.now.batch in
    let (cell, right) = right_there b c.args.slot c.requires in
    let here = word (goal.at.returns-in-1-clause-right c).After-index in
    let one = c.in-1.is in
    let found = c.args.self.now.sound.presences c.args.slot cell c.requires right (λ z. omega arith) in
    right_by_word b c.args.slot cell right (omega arith)

pub returns-in_default-clause-right : goal.returns-in_default-clause-right
returns-in_default-clause-right c =
    let b = c.args.self.now.batch in
    let (cell, right) = right_there b c.args.slot c.requires in
    let here = word (goal.at.returns-in_default-clause-right c).After-index in
    let found = c.args.self.now.sound.presences c.args.slot cell c.requires right (λ z. omega arith) in
    let two = two_word cell (λ z. omega arith) in
    let values = (words_of c.args.self.now.columns).values in
    let n : ℕ = c.index-in_default.result.now in
    let value : n ≡ get_or values (number b c.args.slot) 0 = c.index-in_default.ensures
    ∙ (get_or_default_zero values c.number-number.result n (search rules) ∙ ap (λ (k : ℕ). get_or values k 0) c.number-number.ensures.number) in
    rw c.present_cell.ensures (subst (λ (m : ℕ). IsRightCell b c.args.slot (present_at m)) (sym value)
    (c.args.self.now.sound.values c.args.slot c.requires (omega arith)))

pub returns-in-0-clause-whole : goal.returns-in-0-clause-whole
returns-in-0-clause-whole c =
    λ done. absurd (c.args.self.now.sound.whole c.args.slot c.requires done (sym (word (goal.at.returns-in-0-clause-whole c).After-index) ∙ c.in-0.is))
