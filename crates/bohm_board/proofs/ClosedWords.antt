-- The words of a closed board are sound, and stay sound as missing cells and outcomes are stored.
use Rattle.std.proofs.Common.{◌≡◌, ◌≢◌, ℕ, ◌+◌, ◌<◌, ◌≤◌, List, length, get_or, set, sym, ap, ◌∙◌, subst, arith, refl, Option, None, Some}
use Rattle.std.specs.Prelude.{ℤ}
use Rattle.atomic_table.specs.Table.{Final, Seen}
use Rattle.bohm_types.specs.declared.cell.Cell.{Cell}
use Rattle.bohm_types.specs.declared.cell.Cell.TheVariants as cells
use Rattle.bohm_txn.specs.declared.outcome.Outcome.{Outcome}
use Rattle.bohm_board.specs.declared.batch.Batch.{Batch}
use Rattle.bohm_board.specs.declared.slot.Slot.{Slot}
use Rattle.bohm_board.specs.declared.knowledge.View.{View}
use Rattle.bohm_board.specs.Batches.{position, number, rights_of, IsIn, IsSlot, IsRightCell, IsRightOutcome}
use Rattle.bohm_board.specs.Core.{Progress, Open, Claimed, Done, State}
use Rattle.bohm_board.specs.Events.{IsReached}
use Rattle.bohm_board.specs.Shown.{Words, IsSized, AreShown, AreSound, IsRuled}
use Rattle.bohm_board.specs.Views.{Presence, Absent, Present}
use Rattle.bohm_board.specs.Encoding.{word_of, outcome_at, progress_word, presence_word, filled_word, present_at}
use Rattle.bohm_board.proofs.Inputs.{short_outcome}
use Rattle.bohm_board.specs.Law.{IsTrueOf, IsSound}
use Rattle.bohm_board.proofs.StateUpdates.{put_at, same_words}
use Rattle.bohm_board.proofs.StepEvents.{outcome_back, two_at_least, mine}
use Rattle.bohm_board.proofs.Refinement.{true_of, right_presence}
use Rattle.bohm_board.proofs.SlotNumbers.{number_inside, one_number, one_position, position_inside}
use Rattle.bohm_board.proofs.SlotPlaces.{outcomes_long}
use Rattle.bohm_board.proofs.BoardLaw.{one_cell}

finished_at : (o : Progress) → 2 ≤ progress_word o → (r : Outcome) × (o ≡ Done r)
finished_at Open two = absurd (omega arith)
finished_at (Claimed p) two = absurd (omega arith)
finished_at (Done r) two = (r, refl)

pub open_word : (o : Progress) → progress_word o ≡ 0 → o ≡ Open
open_word Open e = refl
open_word (Claimed p) e = absurd (omega arith)
open_word (Done r) e = let two = two_at_least r in absurd (omega arith)

-- words that show a sound state are sound
pub left_sound : (b : Batch) (w : Words) (s : State) → IsSound b s → AreShown b w s → AreSound b w
left_sound b w s sound shown = record {
  outcomes = λ t is two.
      let (o, e) = finished_at (s.positions t) (subst (λ (n : ℕ). 2 ≤ n) (shown.positions t is) two) in
      let right = sound.outcomes t o e in
      let word : get_or w.statuses (position b t) 0 ≡ word_of o = shown.positions t is ∙ ap progress_word e in
      right ∙ ap Some (sym (ap outcome_at word ∙ outcome_back o (short_outcome b (position b t) o right)));
  presences = λ x c is right ne. shown.presences x is ∙ right_presence b s x c sound right (λ z. ne (shown.presences x is ∙ z));
  values = λ x is two.
      let there : s.presences x ≡ Some Present = present_there (s.presences x) (sym (shown.presences x is) ∙ two) in
      sound.present x there ∙ ap (λ (z : ℤ). Some (cells.Present z)) (sym (shown.values x is));
  whole = λ x is two empty.
      let (o, e) = finished_at (s.positions x.txn) (subst (λ (n : ℕ). 2 ≤ n) (shown.positions x.txn is.txn) two) in
      let (k, full) = sound.whole x o is e in
      full_word k (sym (ap presence_word full) ∙ (sym (shown.presences x is) ∙ empty));
}
  where
    present_there : (k : Option Presence) → presence_word k ≡ 2 → k ≡ Some Present
    present_there None e = absurd (omega arith)
    present_there (Some Absent) e = absurd (omega arith)
    present_there (Some Present) e = refl

    full_word : (k : Presence) → presence_word (Some k) ≢ 0
    full_word Absent e = omega arith
    full_word Present e = omega arith

pub record IsEnd (b : Batch) (w : Words) (id : ℕ) (v : View) : Type 0 where
  pub state : State
  pub shown : AreShown b w state
  pub reached : IsReached b state
  pub saw : IsTrueOf b state id v
  pub mine : state.views id ≡ v

-- a table's final words, copied into three vectors, show a reached state in which the pass's view is true
pub settles : (b : Batch) (id : ℕ) (v : View) (ws : List ℕ) (xs : List (Unit {0})) (c : Words) (n m : ℕ) → v.right ≡ rights_of b
    → Final (Seen (IsRuled b) id v) ws xs → IsSized (rights_of b) c → n ≡ length (rights_of b).outcomes → m ≡ n + length (rights_of b).slots
    → ((j : ℕ) → j < length c.statuses → get_or c.statuses j 0 ≡ get_or ws (0 + j) 0)
    → ((j : ℕ) → j < length c.presences → get_or c.presences j 0 ≡ get_or ws (n + j) 0)
    → ((j : ℕ) → j < length c.values → get_or c.values j 0 ≡ get_or ws (m + j) 0)
    → IsEnd b c id v
settles b id v ws xs c n m own final sized is_n is_m at_a at_b at_c =
    let rule = final.1.0 in
    let old = rule.shows.shown.sized in
    let w = rule.shows.words in
    let first : n ≡ length c.statuses = is_n ∙ sym sized.statuses in
    let second : m ≡ length c.statuses + length c.presences = is_m ∙ (λ i. first i + sym sized.presences i) in
    let same : w ≡ c = same_words w ws c.statuses c.presences c.values (sym final.2 ∙ rule.shows.line) (sized.statuses ∙ sym old.statuses)
    (sized.presences ∙ sym old.presences) (sized.values ∙ sym old.values)
    at_a (subst (λ (z : ℕ). (j : ℕ) → j < length c.presences → get_or c.presences j 0 ≡ get_or ws (z + j) 0) first at_b)
    (subst (λ (z : ℕ). (j : ℕ) → j < length c.values → get_or c.values j 0 ≡ get_or ws (z + j) 0) second at_c) in
    record {
      state = rule.state;
      shown = subst (λ (z : Words). AreShown b z rule.state) same rule.shows.shown;
      reached = rule.reached;
      saw = true_of b final.0 rule id v final.1.1 own;
      mine = mine b final.0 rule.state id v (record { shows = rule.shows; reached = rule.reached; view = final.1.1; right = own });
    }

pub two_word : (c : Cell) → filled_word c ≢ 1 → filled_word c ≡ 2
two_word cells.Absent ne = absurd (ne refl)
two_word (cells.Present z) ne = refl

-- ---- stores of missing cells and outcomes

-- words stay sound when a slot's right cell is stored
pub cell_put : (b : Batch) (w : Words) (s : Slot) (c : Cell) (p n : ℕ) → IsSized (rights_of b) w → AreSound b w → IsSlot b s → IsRightCell b s c
    → p ≡ filled_word c → (filled_word c ≡ 2 → present_at n ≡ c)
    → AreSound b (record w { presences = set w.presences (number b s) p; values = set w.values (number b s) n })
cell_put b w s c p n sized sound is right word value =
    let k : ℕ = number b s in
    let inside = number_inside b s is in
    let wide = sized.presences in
    let long = sized.values in
    let in_presences : k < length w.presences = omega arith in
    let in_values : k < length w.values = omega arith in
    let some_word : p ≢ 0 = λ z. some_cell c (sym word ∙ z) in
    let same : (x : Slot) → IsSlot b x → number b x ≡ k → s ≡ x = λ x also e. one_number b s x is also (sym e) in record {
      outcomes = sound.outcomes;
      presences = λ x d also this. put_at (λ z. z ≢ 0 → z ≡ filled_word d) w.presences k p (number b x) in_presences
          (λ e _. word ∙ ap filled_word (one_cell b x c d (subst (λ (z : Slot). IsRightCell b z c) (same x also e) right) this))
          (λ _. sound.presences x d also this);
      values = λ x also. put_at (λ z. z ≡ 2 → IsRightCell b x (present_at (get_or (set w.values k n) (number b x) 0))) w.presences k p (number b x) in_presences
          (λ e two. put_at (λ z. IsRightCell b x (present_at z)) w.values k n (number b x) in_values
          (λ _. subst (λ (z : Slot). IsRightCell b z (present_at n)) (same x also e) (right ∙ ap Some (sym (value (sym word ∙ two))))) (λ ne. absurd (ne e)))
          (λ ne two. put_at (λ z. IsRightCell b x (present_at z)) w.values k n (number b x) in_values (λ e. absurd (ne e)) (λ _. sound.values x also two));
      whole = λ x also two. put_at (λ z. z ≢ 0) w.presences k p (number b x) in_presences (λ _. some_word) (λ _. sound.whole x also two);
    }
  where
    some_cell : (c : Cell) → filled_word c ≢ 0
    some_cell cells.Absent e = omega arith
    some_cell (cells.Present z) e = omega arith

-- words stay sound when a position's right outcome is stored, if each slot of the position has a cell
pub outcome_put : (b : Batch) (w : Words) (t : ℕ) (o : Outcome) (x : ℕ) → IsSized (rights_of b) w → AreSound b w → IsIn b t → IsRightOutcome b t o
    → x ≡ word_of o → ((y : Slot) → IsSlot b y → y.txn ≡ t → get_or w.presences (number b y) 0 ≢ 0)
    → AreSound b (record w { statuses = set w.statuses (position b t) x })
outcome_put b w t o x sized sound is right word full =
    let i : ℕ = position b t in
    let long = sized.statuses in
    let inside : i < length w.statuses = omega (arith, position_inside b t is, outcomes_long b) in
    let back : outcome_at x ≡ o = ap outcome_at word ∙ outcome_back o (short_outcome b i o right) in record {
      outcomes = λ u also. put_at (λ z. 2 ≤ z → IsRightOutcome b u (outcome_at z)) w.statuses i x (position b u) inside
          (λ e _. subst (λ (z : ℕ). IsRightOutcome b z (outcome_at x)) (one_position b t u is also (sym e)) (right ∙ ap Some (sym back)))
          (λ _. sound.outcomes u also);
      presences = sound.presences;
      values = sound.values;
      whole = λ y also. put_at (λ z. 2 ≤ z → get_or w.presences (number b y) 0 ≢ 0) w.statuses i x (position b y.txn) inside
          (λ e _. full y also (one_position b y.txn t also.txn is e)) (λ _. sound.whole y also);
    }
