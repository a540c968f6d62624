use Rattle.std.proofs.Common.{◌≡◌, arith, ℕ, ◌+◌, ◌<◌, ◌≤◌, ◌∙◌, length, sym, ap, subst}
use Rattle.bohm_board.specs.Batches.{rights_of}
use Rattle.bohm_board.specs.Passes.{view}
use Rattle.bohm_board.specs.Encoding.{progress_word, presence_word}
use Rattle.bohm_board.proofs.ClosedWords.{IsEnd, settles, left_sound, open_word}
use Rattle.bohm_board.proofs.SlotPlaces.{outcomes_long}
use Rattle.bohm_board.proofs.StepEvents.{two_at_least}
use Rattle.bohm_board.proofs.FinishedOnce.{finished_few}
use Rattle.bohm_board.proofs.EventRuns.{reached_lawful}
use Rattle.bohm_board.proofs.board.Board.close.Goals as goal
use Rattle.bohm_board.proofs.board.Board.close.Goals.{After-copy_words-3}

positions : (c : After-copy_words-3) → c.len-positions.result ≡ length (rights_of c.args.self.batch).outcomes
positions c = c.len-positions.ensures ∙ sym (outcomes_long c.args.self.batch)

pub copy_words-requires-2-clause-inside : goal.copy_words-requires-2-clause-inside
copy_words-requires-2-clause-inside c =
    let b = c.args.self.batch in
    omega (
      arith,
      c.len-positions.ensures,
      outcomes_long b,
      c.args.self.columns.presences.ok.0,
      c.args.self.room.presences,
      c.args.self.sized,
      c.close_with-words.ensures.counts.0,
    )

pub copy_words-requires-3-clause-inside : goal.copy_words-requires-3-clause-inside
copy_words-requires-3-clause-inside c =
    let b = c.args.self.batch in
    omega (
      arith,
      c.len-positions.ensures,
      outcomes_long b,
      c.slots-slots.ensures.slots,
      c.args.self.columns.values.ok.0,
      c.args.self.room.values,
      c.args.self.sized,
      c.close_with-words.ensures.counts.0,
    )

end : (c : After-copy_words-3) → IsEnd c.args.self.batch
    (record { statuses = c.copy_words.new.into.items; presences = c.copy_words-2.new.into.items; values = c.copy_words-3.new.into.items }) c.args.pass.seat.id
    (view c.args.pass)
end c = settles c.args.self.batch c.args.pass.seat.id (view c.args.pass) _ _
    (record { statuses = c.copy_words.new.into.items; presences = c.copy_words-2.new.into.items; values = c.copy_words-3.new.into.items })
    c.len-positions.result (c.len-positions.result + c.slots-slots.result)
    c.requires.own.seat.right
    (rw c.args.self.keyed at c.close_with-words.ensures.values.2)
    (record {
      statuses = c.copy_words.ensures.len ∙ c.args.self.room.statuses;
      presences = c.copy_words-2.ensures.len ∙ c.args.self.room.presences;
      values = c.copy_words-3.ensures.len ∙ c.args.self.room.values;
    })
    (positions c) (ap (λ n. c.len-positions.result + n) c.slots-slots.ensures.slots)
    (λ j h. c.copy_words.ensures.each j (subst (λ (z : ℕ). j < z) c.copy_words.ensures.len h))
    (λ j h. c.copy_words-2.ensures.each j (subst (λ (z : ℕ). j < z) c.copy_words-2.ensures.len h))
    (λ j h. c.copy_words-3.ensures.each j (subst (λ (z : ℕ). j < z) c.copy_words-3.ensures.len h))

pub invariant_of-result-clause-sound : goal.invariant_of-result-clause-sound
invariant_of-result-clause-sound c =
    let e = end (goal.at.invariant_of-result-clause-sound c).After-copy_words-3 in
    left_sound c.args.self.batch _ e.state (reached_lawful c.args.self.batch e.state e.reached).sound e.shown

pub returns-clause-state : goal.returns-clause-state
returns-clause-state c =
    let e = end (goal.at.returns-clause-state c).After-copy_words-3 in
    record { state = e.state; shown = e.shown; reached = e.reached; lawful = reached_lawful c.args.self.batch e.state e.reached }

pub returns-clause-done : goal.returns-clause-done
returns-clause-done c t saw =
    let e = end (goal.at.returns-clause-done c).After-copy_words-3 in
    let (o, is) = e.saw.done t saw in
    let inside = (reached_lawful c.args.self.batch e.state e.reached).sound.inside t o is in
    subst (λ (n : ℕ). 2 ≤ n) (sym (e.shown.positions t inside ∙ ap progress_word is)) (two_at_least o)

pub returns-clause-untaken : goal.returns-clause-untaken
returns-clause-untaken c s is untaken cell =
    let e = end (goal.at.returns-clause-untaken c).After-copy_words-3 in
    let open_there = open_word (e.state.positions s.txn) (sym (e.shown.positions s.txn is.txn) ∙ untaken) in
    cell (e.shown.presences s is ∙ ap presence_word ((reached_lawful c.args.self.batch e.state e.reached).sound.untouched s open_there))

pub returns-clause-finished : goal.returns-clause-finished
returns-clause-finished c =
    let e = end (goal.at.returns-clause-finished c).After-copy_words-3 in
    finished_few c.args.self.batch _ e.state c.args.pass.seat.id (view c.args.pass) e.shown e.reached e.mine
