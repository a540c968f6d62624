-- Each step on a board preserves the rule of its table, since the step is the event of the same name.
use Rattle.std.proofs.Common.{◌≡◌, ◌≢◌, ℕ, zero, suc, ◌+◌, ◌<◌, List, ◌∷◌, [], ◌++◌, length, get_or}
use Rattle.std.proofs.Common.{sym, refl, ap, ◌∙◌, subst, ⊎_elim, arith, Option, None, Some, eqb}
use Rattle.std.specs.Prelude.{Contains, ℤ, slice_get}
use Rattle.std.proofs.lemmas.List.{replicate-append-replicate}
use Rattle.std.proofs.lemmas.List.Elements.{Contains-append_cases}
use mathlib.Core.Option.{some, none}
use lib.ListN.{get_elem?, replicate, length-replicate}
use prog.Atomic.{either}
use Rattle.atomic_table.specs.Table.{step, keeps, stepped, opening, Allows, Splits, Joins}
use Rattle.atomic_table.proofs.Lists.{set_else}
use Rattle.bohm_types.specs.declared.cell.Cell.{Cell}
use Rattle.bohm_types.specs.declared.cell.Cell.TheVariants as cells
use Rattle.bohm_txn.specs.declared.outcome.Outcome.{Outcome}
use Rattle.bohm_board.specs.declared.batch.Batch.{Batch}
use Rattle.bohm_board.specs.declared.slot.Slot.{Slot}
use Rattle.bohm_board.specs.declared.status.Status.TheVariants as seen
use Rattle.bohm_board.specs.declared.knowledge.Rights.{Rights}
use Rattle.bohm_board.specs.declared.knowledge.View.{View}
use Rattle.bohm_board.specs.Batches.{position, number, timestamp, slot_numbered, right_cell, rights_of, IsSlot, IsRightCell}
use Rattle.bohm_board.specs.Core.{Progress, Open, Claimed, Done, State, empty_state}
use Rattle.bohm_board.specs.Events.{Event, LookPresence, LookValue, Status, Claim, FillValue, FillPresence, Finish, Split, Join, status_of_progress, next_state}
use Rattle.bohm_board.specs.Shown.{Words, all_words, IsRuled, IsBefore, IsStep, presence_place, value_place}
use Rattle.bohm_board.specs.Steps.{MeetsStatus, MeetsClaim, MeetsFinish, MeetsPresence, MeetsValue, MeetsStore, MeetsFill, IsFillable}
use Rattle.bohm_board.specs.Views.{Presence, Absent, Present, new_view, spent_view, after_status, after_claim, after_presence_look, after_value_store}
use Rattle.bohm_board.specs.Views.{after_presence_store, after_finish, after_split, after_join, Holds, HasStored, KnowsWanted, HasFilledAll, Recalls, IsUnseen}
use Rattle.bohm_board.specs.Encoding.{status_of, claim_of_word, word_of, progress_word, presence_word, presence_at, filled_word, value_at, present_at}
use Rattle.bohm_board.proofs.LawPreservation.{held_learnt, right_learnt}
use Rattle.bohm_board.specs.Law.{IsTrueOf, IsSound}
use Rattle.bohm_board.proofs.BoardLaw.{presence_right}
use Rattle.bohm_board.proofs.SlotNumbers.{number_named, stamp_inside}
use Rattle.bohm_board.proofs.EventRuns.{reached_lawful, reached_more}
use Rattle.bohm_board.proofs.StepEvents.{T, M, is_done, seen_word, mine, status_word, status_step, claim_step, finish_step, presence_is}
use Rattle.bohm_board.proofs.StepEvents.{value_is, presence_step, value_step, store_step, fill_step, split_step, join_step}

-- ---- steps on status words

goes : (b : Batch) (t after : T) (rule : IsRuled b t) (e : Event) → IsStep b rule.state e after → IsRuled b after
goes b t after rule e is = record { state = next_state rule.state e; shows = is.shows; reached = reached_more b rule.state e rule.reached is.allowed }

before : (b : Batch) (t : T) (rule : IsRuled b t) (p : ℕ) (v : View) → get_elem? t.views p ≡ some v → v.right ≡ rights_of b → IsBefore b t rule.state p v
before b t rule p v at own = record { shows = rule.shows; reached = rule.reached; view = at; right = own }

pub true_of : (b : Batch) (t : T) (rule : IsRuled b t) (p : ℕ) (v : View) → get_elem? t.views p ≡ some v → v.right ≡ rights_of b → IsTrueOf b rule.state p v
true_of b t rule p v at own = subst (λ (w : View). IsTrueOf b rule.state p w) (mine b t rule.state p v (before b t rule p v at own))
    ((reached_lawful b rule.state rule.reached).each p)

recalls : (b : Batch) (s : State) (p : ℕ) (v : View) (u n : ℕ) → IsTrueOf b s p v → n ≡ progress_word (s.positions u) → Recalls v u (status_of n)
recalls b s p v u n k e = record {
  done = λ c. let (o, is) = k.done u c in ap status_of (e ∙ ap progress_word is) ∙ seen_word (Done o);
  busy = λ c h. k.busy u c (opened (s.positions u) (sym (ap status_of e ∙ seen_word (s.positions u)) ∙ h));
}
  where
    opened : (o : Progress) → status_of_progress o ≡ seen.Open → o ≡ Open
    opened Open h = refl
    opened (Claimed q) h = absurd cc
    opened (Done o) h = absurd cc

pub sees : (b : Batch) (slots id : ℕ) (me : M) (i : ℕ) → i < length (rights_of b).outcomes → me.0.right ≡ rights_of b
    → me.0.held ≢ Some (timestamp me.0.right i)
    → Allows (IsRuled b) slots id me i (λ n. n) (MeetsStatus (step slots i 0 0 none) me)
sees b slots id me i inside own apart t rule homes at small =
    let u : ℕ = timestamp me.0.right i in
    let (is, place) = stamp_inside b me.0.right i own inside in
    let n : ℕ = get_or t.words i 0 in
    let word = status_word b t rule.state id me.0 (before b t rule id me.0 at own) u i is (sym place) in
    let e = status_step b t rule.state id me.0 (before b t rule id me.0 at own) u i n is (sym place) refl apart in (
      after_status me.0 u (status_of n),
      keeps,
      tt,
      goes b t _ rule (Status id u (status_of n)) e,
      (refl, refl, recalls b rule.state id me.0 u n (true_of b t rule id me.0 at own) word),
    )

pub claims : (b : Batch) (slots id : ℕ) (me : M) (i : ℕ) → i < length (rights_of b).outcomes → me.0.right ≡ rights_of b → me.0.held ≡ None
    → Allows (IsRuled b) slots id me i (λ n. either (eqb n 0) 1 n) (MeetsClaim (step slots i 0 1 none) me)
claims b slots id me i inside own free t rule homes at small =
    let u : ℕ = timestamp me.0.right i in
    let (is, place) = stamp_inside b me.0.right i own inside in
    let n : ℕ = get_or t.words i 0 in
    let word = status_word b t rule.state id me.0 (before b t rule id me.0 at own) u i is (sym place) in
    let e = claim_step b t rule.state id me.0 (before b t rule id me.0 at own) u i n is (sym place) refl free in (
      after_claim me.0 u (status_of n),
      keeps,
      tt,
      goes b t _ rule (Claim id u (claim_of_word n)) e,
      (refl, refl, recalls b rule.state id me.0 u n (true_of b t rule id me.0 at own) word),
    )

pub finishes : (b : Batch) (slots id : ℕ) (me : M) (i : ℕ) (o : Outcome) (x : ℕ) → x ≡ word_of o → i < length (rights_of b).outcomes → me.0.right ≡ rights_of b
    → Holds b me.0 (timestamp me.0.right i) → HasFilledAll b me.0 (timestamp me.0.right i) → KnowsWanted b me.0 (timestamp me.0.right i)
    → slice_get (rights_of b).outcomes i ≡ Some o
    → Allows (IsRuled b) slots id me i (λ _. x) (λ _. MeetsFinish (step slots i x 0 none) me x)
finishes b slots id me i o x word inside own holds all knows right t rule homes at small =
    let u : ℕ = timestamp me.0.right i in
    let (is, place) = stamp_inside b me.0.right i own inside in
    let e = finish_step b t rule.state id me.0 (before b t rule id me.0 at own) u i o is (sym place) holds all knows
    (ap (λ (z : ℕ). slice_get (rights_of b).outcomes z) place ∙ right) in
    let ruled = goes b t _ rule (Finish id u o) e in
    (after_finish me.0 u, keeps, tt, subst (λ (z : ℕ). IsRuled b (stepped t i z id me.1 (after_finish me.0 u) keeps)) (sym word) ruled, (refl, refl))

-- ---- steps on a slot's words

same_number : (q r : Rights) (i k j : ℕ) → q ≡ r → i ≡ length r.outcomes + k → i ≡ length q.outcomes + j → j ≡ k
same_number q r i k j own place other = let long : length q.outcomes ≡ length r.outcomes = ap (λ (z : Rights). length z.outcomes) own in omega arith

same_value : (q r : Rights) (i k j : ℕ) → q ≡ r → i ≡ length r.outcomes + (length r.slots + k) → i ≡ length q.outcomes + (length q.slots + j) → j ≡ k
same_value q r i k j own place other =
    let long : length q.outcomes ≡ length r.outcomes = ap (λ (z : Rights). length z.outcomes) own in
    let wide : length q.slots ≡ length r.slots = ap (λ (z : Rights). length z.slots) own in omega arith

pub presence_at_view : (q r : Rights) (i k : ℕ) → q ≡ r → i ≡ length r.outcomes + k → i ≡ length q.outcomes + k
presence_at_view q r i k e p = p ∙ ap (λ (z : Rights). length z.outcomes + k) (sym e)

pub value_at_view : (q r : Rights) (i k : ℕ) → q ≡ r → i ≡ length r.outcomes + (length r.slots + k) → i ≡ length q.outcomes + (length q.slots + k)
value_at_view q r i k e p = p ∙ ap (λ (z : Rights). length z.outcomes + (length z.slots + k)) (sym e)

-- the slot that a view's rights have for the number k is in the batch, and its number is k
named_by : (b : Batch) (q : Rights) (k : ℕ) → q ≡ rights_of b → k < length (rights_of b).slots
    → IsSlot b (slot_numbered q k) × (number b (slot_numbered q k) ≡ k)
named_by b q k own inside = subst (λ (r : Rights). IsSlot b (slot_numbered r k) × (number b (slot_numbered r k) ≡ k)) (sym own) (number_named b k inside)

empty_slot : (k : Option Presence) → presence_word k ≡ 0 → k ≡ None
empty_slot None e = refl
empty_slot (Some Absent) e = absurd (omega arith)
empty_slot (Some Present) e = absurd (omega arith)

full_slot : (k : Option Presence) → presence_word k ≢ 0 → (w : Presence) × (k ≡ Some w)
full_slot None ne = absurd (ne refl)
full_slot (Some w) ne = (w, refl)

-- if a slot is empty, nothing in a true view says that it is filled
unseen : (b : Batch) (s : State) (p : ℕ) (v : View) (x : Slot) → IsSound b s → IsTrueOf b s p v → IsSlot b x → s.presences x ≡ None → IsUnseen v x
unseen b s p v x sound k is none_there =
    let no : (w : Presence) → s.presences x ≡ Some w → ⊥ = λ w h. let clash : None ≡ Some w = sym none_there ∙ h in cc in record {
      known = λ c. ⊎_elim (λ (a : Contains v.absent x). no Absent (k.absent x a)) (λ (a : Contains v.present x). no Present (k.present x a))
          (Contains-append_cases v.absent v.present x c);
      filled = λ c. let full = k.filled x c in no full.0 full.1;
      done = λ c. let (o, is_done) = k.done x.txn c in let full = sound.whole x o is is_done in no full.0 full.1;
    }

-- the presence word of a filled slot is that of its right cell
pub right_presence : (b : Batch) (s : State) (x : Slot) (c : Cell) → IsSound b s → IsRightCell b x c → presence_word (s.presences x) ≢ 0
    → presence_word (s.presences x) ≡ filled_word c
right_presence b s x c sound right ne =
    let (w, is) = full_slot (s.presences x) ne in
    ap presence_word (is ∙ ap Some (sym (presence_right b s x w c sound is right)))

pub sees_presence : (b : Batch) (slots id : ℕ) (me : M) (i k : ℕ) → i ≡ length (rights_of b).outcomes + k → k < length (rights_of b).slots
    → me.0.right ≡ rights_of b
    → Allows (IsRuled b) slots id me i (λ n. n) (MeetsPresence (step slots i 0 0 none) me)
sees_presence b slots id me i k place inside own t rule homes at small =
    let x : Slot = slot_numbered me.0.right k in
    let (is, num) = named_by b me.0.right k own inside in
    let here : i ≡ presence_place b x = place ∙ ap (λ (z : ℕ). length (rights_of b).outcomes + z) (sym num) in
    let n : ℕ = get_or t.words i 0 in
    let kept = reached_lawful b rule.state rule.reached in
    let word : n ≡ presence_word (rule.state.presences x) = presence_is b t rule.state id me.0 (before b t rule id me.0 at own) x i is here in
    let e = presence_step b t rule.state id me.0 (before b t rule id me.0 at own) x i n is here refl in
    let right : (c : Cell) → right_cell me.0.right k ≡ Some c → n ≢ 0 → n ≡ filled_word c = λ c cell ne.
    word ∙ right_presence b rule.state x c kept.sound (ap (right_cell (rights_of b)) num ∙ (ap (λ (z : Rights). right_cell z k) (sym own) ∙ cell))
    (λ z. ne (word ∙ z)) in (
      after_presence_look me.0 x (presence_at n),
      keeps,
      tt,
      goes b t _ rule (LookPresence id x (presence_at n)) e,
      (
        (refl, right_learnt me.0 x (presence_at n), held_learnt me.0 x (presence_at n)),
        λ j q. let same : k ≡ j = sym (same_number me.0.right (rights_of b) i k j own place q) in record {
          view = ap (λ (z : ℕ). after_presence_look me.0 (slot_numbered me.0.right z) (presence_at n)) same;
          empty = λ z. subst (λ (m : ℕ). IsUnseen me.0 (slot_numbered me.0.right m)) same
              (unseen b rule.state id me.0 x kept.sound (true_of b t rule id me.0 at own) is (empty_slot (rule.state.presences x) (sym word ∙ z)));
          right = λ full c cell. right c (ap (right_cell me.0.right) same ∙ cell) full;
        },
      ),
    )

pub sees_value : (b : Batch) (slots id : ℕ) (me : M) (i k : ℕ) → i ≡ length (rights_of b).outcomes + (length (rights_of b).slots + k)
    → k < length (rights_of b).slots → me.0.right ≡ rights_of b → Contains me.0.present (slot_numbered me.0.right k)
    → Allows (IsRuled b) slots id me i (λ n. n) (MeetsValue (step slots i 0 0 none) me)
sees_value b slots id me i k place inside own known t rule homes at small =
    let x : Slot = slot_numbered me.0.right k in
    let (is, num) = named_by b me.0.right k own inside in
    let here : i ≡ value_place b x = place ∙ ap (λ (z : ℕ). length (rights_of b).outcomes + (length (rights_of b).slots + z)) (sym num) in
    let n : ℕ = get_or t.words i 0 in
    let kept = reached_lawful b rule.state rule.reached in
    let e = value_step b t rule.state id me.0 (before b t rule id me.0 at own) x i n is here refl known in
    let value : value_at n ≡ rule.state.values x = value_is b t rule.state id me.0 (before b t rule id me.0 at own) x i is here in
    let right : IsRightCell b x (cells.Present (rule.state.values x)) = kept.sound.present x ((true_of b t rule id me.0 at own).present x known) in
    let found : right_cell me.0.right k ≡ Some (present_at n) =
    ap (λ (z : Rights). right_cell z k) own ∙ (ap (right_cell (rights_of b)) (sym num) ∙ (right ∙ ap (λ (z : ℤ). Some (cells.Present z)) (sym value))) in (
      me.0,
      keeps,
      tt,
      goes b t _ rule (LookValue id x (value_at n)) e,
      (refl, λ j q. ap (right_cell me.0.right) (same_value me.0.right (rights_of b) i k j own place q) ∙ found),
    )

pub stores_value : (b : Batch) (slots id : ℕ) (me : M) (i k n : ℕ) → i ≡ length (rights_of b).outcomes + (length (rights_of b).slots + k)
    → k < length (rights_of b).slots → me.0.right ≡ rights_of b
    → IsFillable b me.0 (slot_numbered me.0.right k) → ¬ Contains me.0.stored (slot_numbered me.0.right k) → right_cell (rights_of b) k ≡ Some (present_at n)
    → Allows (IsRuled b) slots id me i (λ _. n) (λ _. MeetsStore (step slots i n 0 none) me n)
stores_value b slots id me i k n place inside own may once right t rule homes at small =
    let x : Slot = slot_numbered me.0.right k in
    let (is, num) = named_by b me.0.right k own inside in
    let here : i ≡ value_place b x = place ∙ ap (λ (z : ℕ). length (rights_of b).outcomes + (length (rights_of b).slots + z)) (sym num) in
    let e = store_step b t rule.state id me.0 (before b t rule id me.0 at own) x i n is here may once (ap (right_cell (rights_of b)) num ∙ right) in (
      after_value_store me.0 x,
      keeps,
      tt,
      goes b t _ rule (FillValue id x (value_at n)) e,
      (
        (refl, refl, refl),
        λ j q. ap (λ (z : ℕ). after_value_store me.0 (slot_numbered me.0.right z))
            (sym (same_value me.0.right (rights_of b) i k j own place q)),
      ),
    )

pub fills : (b : Batch) (slots id : ℕ) (me : M) (i k : ℕ) (d : Cell) (n : ℕ) → n ≡ filled_word d → i ≡ length (rights_of b).outcomes + k
    → k < length (rights_of b).slots → me.0.right ≡ rights_of b
    → IsFillable b me.0 (slot_numbered me.0.right k) → HasStored me.0 (slot_numbered me.0.right k) d → right_cell (rights_of b) k ≡ Some d
    → Allows (IsRuled b) slots id me i (λ _. n) (λ _. MeetsFill (step slots i n 0 none) me n)
fills b slots id me i k d n word place inside own may has right t rule homes at small =
    let x : Slot = slot_numbered me.0.right k in
    let (is, num) = named_by b me.0.right k own inside in
    let here : i ≡ presence_place b x = place ∙ ap (λ (z : ℕ). length (rights_of b).outcomes + z) (sym num) in
    let e = fill_step b t rule.state id me.0 (before b t rule id me.0 at own) x i d is here may has (ap (right_cell (rights_of b)) num ∙ right) in
    let ruled = goes b t _ rule (FillPresence id x d) e in (
      after_presence_store me.0 x,
      keeps,
      tt,
      subst (λ (z : ℕ). IsRuled b (stepped t i z id me.1 (after_presence_store me.0 x) keeps)) (sym word) ruled,
      (
        (refl, refl, refl),
        λ j q. ap (λ (z : ℕ). after_presence_store me.0 (slot_numbered me.0.right z))
            (sym (same_number me.0.right (rights_of b) i k j own place q)),
      ),
    )

-- ---- splits and joins

pub splits : (b : Batch) (id : ℕ) (v : View) → v.right ≡ rights_of b → v.held ≡ None → Splits (IsRuled b) id v v (after_split v)
splits b id v own free t rule at = goes b t _ rule (Split id (length t.views)) (split_step b t rule.state id v (before b t rule id v at own) free)

pub joins : (b : Batch) (id : ℕ) (v : View) (other : ℕ) (x : View) → v.right ≡ rights_of b → v.held ≡ None → x.held ≡ None
    → Joins (IsRuled b) id v other x (after_join v x) spent_view
joins b id v other x own free free_too t rule at apart there =
    goes b t _ rule (Join id other) (join_step b t rule.state id v (before b t rule id v at own) other x free free_too apart
    (sym (set_else t.views id other (after_join v x) apart) ∙ there))

-- ---- the empty board

zeros : (n t : ℕ) → ◌≡◌ {A = ℕ} (get_or (replicate n 0) t 0) 0
zeros zero t = refl
zeros (suc n) zero = refl
zeros (suc n) (suc t) = zeros n t

abbrev blank : Rights → Words
blank r = record { statuses = replicate (length r.outcomes) 0; presences = replicate (length r.slots) 0; values = replicate (length r.slots) 0 }

one_view : (d : View) (q : ℕ) → d ≡ get_or (d ∷ []) q d
one_view d zero = refl
one_view d (suc q) = refl

pub opens : (b : Batch) (ws : List ℕ) → ws ≡ all_words (blank (rights_of b)) → IsRuled b (opening ws [] (new_view (rights_of b)))
opens b ws line = record {
  state = empty_state b;
  shows = record {
    words = blank (rights_of b);
    line = line;
    shown = record {
      sized = record {
        statuses = length-replicate (length (rights_of b).outcomes) 0;
        presences = length-replicate (length (rights_of b).slots) 0;
        values = length-replicate (length (rights_of b).slots) 0;
      };
      positions = λ t is. zeros (length (rights_of b).outcomes) (position b t);
      presences = λ x is. zeros (length (rights_of b).slots) (number b x);
      values = λ x is. ap value_at (zeros (length (rights_of b).slots) (number b x));
    };
    views = one_view (new_view (rights_of b));
  };
  reached = ([], tt {0}, refl);
}

pub blank_line : (r : Rights) (n : ℕ) → n ≡ length r.outcomes + (length r.slots + length r.slots) → replicate n 0 ≡ all_words (blank r)
blank_line r n e = ap (λ (z : ℕ). replicate z 0) e ∙ (sym (replicate-append-replicate (length r.outcomes) (length r.slots + length r.slots) 0)
    ∙ ap (λ (ys : List ℕ). replicate (length r.outcomes) 0 ++ ys) (sym (replicate-append-replicate (length r.slots) (length r.slots) 0)))
