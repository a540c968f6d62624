-- Each step on a board is the core's event of the same name.
use Rattle.std.proofs.Common.{◌≡◌, ◌≢◌, ℕ, zero, suc, ◌+◌, ◌*◌, ◌/◌, ◌%◌, ◌<◌, ◌≤◌, ◌∷◌, [], ◌++◌, length}
use Rattle.std.proofs.Common.{get_or, set, sym, refl, ap, ◌∙◌, subst, arith, Option, None, Some, eqb, length-set}
use Rattle.std.specs.Prelude.{Contains}
use Rattle.std.proofs.lemmas.List.{get_or_past}
use mathlib.Core.Option.{some}
use lib.ListN.{get_elem?}
use lib.Seq.{set-get_or}
use prog.Atomic.{either}
use Rattle.atomic_table.specs.Table.{State as Table, Me}
use Rattle.atomic_table.proofs.Lists.{exchanged, set_else}
use Rattle.bohm_types.specs.declared.cell.Cell.{Cell}
use Rattle.bohm_txn.specs.declared.outcome.Outcome.{Outcome}
use Rattle.bohm_txn.specs.declared.outcome.Outcome.TheVariants.{Commit, Abort}
use Rattle.bohm_txn.specs.declared.outcome.Reason.TheVariants as reasons
use Rattle.bohm_board.specs.declared.batch.Batch.{Batch}
use Rattle.bohm_board.specs.declared.slot.Slot.{Slot}
use Rattle.bohm_board.specs.declared.status.Status.TheVariants as seen
use Rattle.bohm_board.specs.declared.status.Claimed.TheVariants as won
use Rattle.bohm_board.specs.declared.knowledge.View.{View}
use Rattle.bohm_board.specs.Batches.{position, number, rights_of, IsIn, IsSlot, IsRightCell, IsRightOutcome}
use Rattle.bohm_board.specs.Core.{Progress, Open, Claimed, Done, State, HasWanted}
use Rattle.bohm_board.specs.Events.{LookPresence, LookValue, Status, Claim, FillValue, FillPresence, Finish}
use Rattle.bohm_board.specs.Events.{Split, Join, MayFill, point_update, status_of_progress, with_view, next_state}
use Rattle.bohm_board.specs.Shown.{Shows, IsBefore, IsStep, table_after_step, presence_place, value_place}
use Rattle.bohm_board.specs.Steps.{IsFillable}
use Rattle.bohm_board.specs.Views.{Presence, Absent, Present, presence_of, new_view, spent_view, after_status, after_claim, after_presence_look}
use Rattle.bohm_board.specs.Views.{after_value_store, after_presence_store, after_finish, after_split, after_join, Holds, HoldsNothing, HasStored, KnowsWanted, HasFilledAll}
use Rattle.bohm_board.specs.Encoding.{status_of, claim_of_word, status_of_claim, word_of, stmt_of, outcome_in, outcome_at}
use Rattle.bohm_board.specs.Encoding.{progress_word, presence_word, presence_at, filled_word, value_at, present_at}
use Rattle.bohm_board.proofs.Evaluation.{outcome_is_right, cell_is_right}
use Rattle.bohm_board.specs.Law.{IsLawful}
use Rattle.bohm_board.proofs.BoardLaw.{put_cases, wanted_filled}
use Rattle.bohm_board.proofs.StateUpdates.{found_at, status_in, status_put, presence_in, presence_put, value_in, value_put}
use Rattle.bohm_board.proofs.StateUpdates.{same_shown, status_shown, presence_shown, value_shown, view_put, view_added}
use Rattle.bohm_board.proofs.SlotNumbers.{number_inside, position_inside}
use Rattle.bohm_board.proofs.SlotPlaces.{outcomes_long}
use Rattle.bohm_board.proofs.EventRuns.{reached_lawful}

abbrev pub T : Type 0
T = Table (Unit {0}) View

abbrev pub M : Type 0
M = Me (Unit {0}) View

-- ---- decoded words

pub two_at_least : (o : Outcome) → 2 ≤ word_of o
two_at_least Commit = omega arith
two_at_least (Abort reasons.Need s) = omega arith
two_at_least (Abort reasons.Fail s) = omega arith
two_at_least (Abort reasons.Absent s) = omega arith
two_at_least (Abort reasons.Range s) = omega arith

pub is_done : (n : ℕ) → 2 ≤ n → status_of n ≡ seen.Done
is_done zero h = absurd (omega arith)
is_done (suc zero) h = absurd (omega arith)
is_done (suc (suc n)) h = refl

pub seen_word : (o : Progress) → status_of (progress_word o) ≡ status_of_progress o
seen_word Open = refl
seen_word (Claimed p) = refl
seen_word (Done o) = is_done (word_of o) (two_at_least o)

seen_presence : (k : Option Presence) → presence_at (presence_word k) ≡ k
seen_presence None = refl
seen_presence (Some Absent) = refl
seen_presence (Some Present) = refl

found_word : (n : ℕ) → status_of_claim (claim_of_word n) ≡ status_of n
found_word zero = refl
found_word (suc zero) = refl
found_word (suc (suc n)) = refl

-- the word of an outcome decodes to this outcome
pub outcome_back : (o : Outcome) → stmt_of o < 1000 → outcome_at (word_of o) ≡ o
outcome_back Commit few = refl
outcome_back (Abort reasons.Need s) few =
    let d : (1000 * 1 + s) / 1000 ≡ 1 = omega arith in
    let m : (1000 * 1 + s) % 1000 ≡ s = omega arith in
    λ i. outcome_in (d i) (m i)
outcome_back (Abort reasons.Fail s) few =
    let d : (1000 * 2 + s) / 1000 ≡ 2 = omega arith in
    let m : (1000 * 2 + s) % 1000 ≡ s = omega arith in
    λ i. outcome_in (d i) (m i)
outcome_back (Abort reasons.Absent s) few =
    let d : (1000 * 3 + s) / 1000 ≡ 3 = omega arith in
    let m : (1000 * 3 + s) % 1000 ≡ s = omega arith in
    λ i. outcome_in (d i) (m i)
outcome_back (Abort reasons.Range s) few =
    let d : (1000 * 4 + s) / 1000 ≡ 4 = omega arith in
    let m : (1000 * 4 + s) % 1000 ≡ s = omega arith in
    λ i. outcome_in (d i) (m i)

-- ---- each step is the event of the same name

module _ (b : Batch) (t : T) (s : State) (p : ℕ) (v : View) (here : IsBefore b t s p v) where
  pub mine : s.views p ≡ v
  mine = here.shows.views p ∙ (found_at t.views p v (new_view (rights_of b)) here.view).1

  named : (s.views p).right ≡ rights_of b
  named = ap (λ (w : View). w.right) mine ∙ here.right

  views_put : (f : View → View) (q : ℕ) → point_update s.views p (f (s.views p)) q ≡ get_or (set t.views p (f v)) q (new_view (rights_of b))
  views_put f = view_put (new_view (rights_of b)) t.views s.views p v (f (s.views p)) (f v) here.shows.views here.view (ap f mine)

  -- a load changes only the view of p
  read : (i n : ℕ) (f : View → View) → n ≡ get_or t.words i 0 → Shows b (table_after_step t i n p (f v)) (with_view s p (f (s.views p)))
  read i n f e = record {
    words = here.shows.words;
    line = ap (λ (z : ℕ). set t.words i z) e ∙ (set-get_or t.words i 0 ∙ here.shows.line);
    shown = same_shown b here.shows.words s (point_update s.views p (f (s.views p))) here.shows.shown;
    views = views_put f;
  }

  -- ---- steps on status words

  pub status_word : (u i : ℕ) → IsIn b u → i ≡ position b u → get_or t.words i 0 ≡ progress_word (s.positions u)
  status_word u i is e =
      let long = here.shows.shown.sized.statuses in
      let inside : position b u < length here.shows.words.statuses = omega (arith, position_inside b u is, outcomes_long b) in
      (λ d. get_or (here.shows.line d) (e d) 0) ∙ (status_in here.shows.words (position b u) inside ∙ here.shows.shown.positions u is)

  put_status : (u i : ℕ) (o : Progress) (f : View → View) → IsIn b u → i ≡ position b u → Shows b (table_after_step t i (progress_word o) p (f v))
      (record s { positions = point_update s.positions u o; views = point_update s.views p (f (s.views p)) })
  put_status u i o f is e =
      let long = here.shows.shown.sized.statuses in
      let inside : position b u < length here.shows.words.statuses = omega (arith, position_inside b u is, outcomes_long b) in record {
        words = record here.shows.words { statuses = set here.shows.words.statuses (position b u) (progress_word o) };
        line = (λ d. set (here.shows.line d) (e d) (progress_word o)) ∙ status_put here.shows.words (position b u) (progress_word o) inside;
        shown = status_shown b here.shows.words s (point_update s.views p (f (s.views p))) u o is here.shows.shown;
        views = views_put f;
      }

  pub status_step : (u i n : ℕ) → IsIn b u → i ≡ position b u → n ≡ get_or t.words i 0 → ¬ Holds b v u
      → IsStep b s (Status p u (status_of n)) (table_after_step t i n p (after_status v u (status_of n)))
  status_step u i n is e found apart =
      record {
        allowed = (
          named,
          is,
          (λ h. apart (sym (ap (λ (w : View). w.held) mine) ∙ h)),
          ap status_of (found ∙ status_word u i is e) ∙ seen_word (s.positions u),
        );
        shows = read i n (λ w. after_status w u (status_of n)) found;
      }

  claim_shows : (u i n : ℕ) → IsIn b u → i ≡ position b u → n ≡ get_or t.words i 0
      → Shows b (table_after_step t i (either (eqb n 0) 1 n) p (after_claim v u (status_of n))) (next_state s (Claim p u (claim_of_word n)))
  claim_shows u i zero is e found = put_status u i (Claimed p) (λ w. after_claim w u seen.Open) is e
  claim_shows u i (suc zero) is e found = read i 1 (λ w. after_claim w u seen.Busy) found
  claim_shows u i (suc (suc n)) is e found = exchanged (suc (suc n)) 0 1
      (λ z. Shows b (table_after_step t i z p (after_claim v u seen.Done)) (next_state s (Claim p u won.Done)))
      (λ none. absurd (omega arith)) (λ _. read i (suc (suc n)) (λ w. after_claim w u seen.Done) found)

  pub claim_step : (u i n : ℕ) → IsIn b u → i ≡ position b u → n ≡ get_or t.words i 0 → HoldsNothing v
      → IsStep b s (Claim p u (claim_of_word n)) (table_after_step t i (either (eqb n 0) 1 n) p (after_claim v u (status_of n)))
  claim_step u i n is e found free =
      record {
        allowed = (
          named,
          is,
          ap (λ (w : View). w.held) mine ∙ free,
          found_word n ∙ (ap status_of (found ∙ status_word u i is e) ∙ seen_word (s.positions u)),
        );
        shows = claim_shows u i n is e found;
      }

  kept : IsLawful b s
  kept = reached_lawful b s here.reached

  filled_for : (u : ℕ) → KnowsWanted b (s.views p) u → HasWanted b s u
  filled_for u = wanted_filled b s u (s.views p) (kept.each p).absent (kept.each p).present

  pub finish_step : (u i : ℕ) (o : Outcome) → IsIn b u → i ≡ position b u → Holds b v u → HasFilledAll b v u → KnowsWanted b v u → IsRightOutcome b u o
      → IsStep b s (Finish p u o) (table_after_step t i (word_of o) p (after_finish v u))
  finish_step u i o is e holds all knows right =
      let want = subst (λ (w : View). KnowsWanted b w u) (sym mine) knows in record {
        allowed = (
          named,
          record {
            position = is;
            holds = ap (λ (w : View). w.held) mine ∙ holds;
            filled = subst (λ (w : View). HasFilledAll b w u)
                (sym mine) all;
            wanted = want;
            outcome = outcome_is_right b s u kept.sound is (filled_for u want) ∙ right;
          },
        );
        shows = put_status u i (Done o) (λ w. after_finish w u) is e;
      }

  -- ---- steps on a slot's words

  pub presence_is : (x : Slot) (i : ℕ) → IsSlot b x → i ≡ presence_place b x → get_or t.words i 0 ≡ presence_word (s.presences x)
  presence_is x i is e =
      let long = here.shows.shown.sized.presences in
      let inside : number b x < length here.shows.words.presences = omega (arith, number_inside b x is) in
      (λ d. get_or (here.shows.line d) (e d) 0) ∙ (presence_in here.shows.words (length (rights_of b).outcomes)
      (number b x) here.shows.shown.sized.statuses inside ∙ here.shows.shown.presences x is)

  pub value_is : (x : Slot) (i : ℕ) → IsSlot b x → i ≡ value_place b x → value_at (get_or t.words i 0) ≡ s.values x
  value_is x i is e =
      ap value_at ((λ d. get_or (here.shows.line d) (e d) 0) ∙ value_in here.shows.words (length (rights_of b).outcomes) (length (rights_of b).slots)
      (number b x) here.shows.shown.sized.statuses here.shows.shown.sized.presences) ∙ here.shows.shown.values x is

  pub presence_step : (x : Slot) (i n : ℕ) → IsSlot b x → i ≡ presence_place b x → n ≡ get_or t.words i 0
      → IsStep b s (LookPresence p x (presence_at n)) (table_after_step t i n p (after_presence_look v x (presence_at n)))
  presence_step x i n is e found = record {
    allowed = (named, is, ap presence_at (found ∙ presence_is x i is e) ∙ seen_presence (s.presences x));
    shows = read i n (λ w. after_presence_look w x (presence_at n)) found;
  }

  same_view : (f : ℕ → View) → f p ≡ v → ((q : ℕ) → f q ≡ get_or t.views q (new_view (rights_of b))) → (q : ℕ)
      → f q ≡ get_or (set t.views p v) q (new_view (rights_of b))
  same_view f mine_is all q =
      put_cases (λ w. w ≡ get_or (set t.views p v) q (new_view (rights_of b)) → f q ≡ get_or (set t.views p v) q (new_view (rights_of b))) f p v q
      (λ e h. ap f e ∙ (mine_is ∙ h)) (λ ne h. h) (view_put (new_view (rights_of b)) t.views f p v v v all here.view refl q)

  pub value_step : (x : Slot) (i n : ℕ) → IsSlot b x → i ≡ value_place b x → n ≡ get_or t.words i 0 → Contains v.present x
      → IsStep b s (LookValue p x (value_at n)) (table_after_step t i n p v)
  value_step x i n is e found known = record {
    allowed = (named, subst (λ (w : View). Contains w.present x) (sym mine) known, ap value_at found ∙ value_is x i is e);
    shows = record {
      words = here.shows.words;
      line = ap (λ (z : ℕ). set t.words i z) found ∙ (set-get_or t.words i 0 ∙ here.shows.line);
      shown = here.shows.shown;
      views = same_view s.views mine here.shows.views;
    };
  }

  may_fill : (x : Slot) (d : Cell) → IsSlot b x → IsFillable b v x → IsRightCell b x d → MayFill b s p x d
  may_fill x d is may right =
      let want = subst (λ (w : View). KnowsWanted b w x.txn) (sym mine) may.wanted in record {
        slot = is;
        holds = ap (λ (w : View). w.held) mine ∙ may.holds;
        unfilled = subst (λ (w : View). ¬ Contains w.filled x) (sym mine) may.unfilled;
        wanted = want;
        cell = cell_is_right b s x kept.sound is (filled_for x.txn want) ∙ right;
      }

  pub store_step : (x : Slot) (i n : ℕ) → IsSlot b x → i ≡ value_place b x → IsFillable b v x → ¬ Contains v.stored x → IsRightCell b x (present_at n)
      → IsStep b s (FillValue p x (value_at n)) (table_after_step t i n p (after_value_store v x))
  store_step x i n is e may once right = record {
    allowed = (named, may_fill x (present_at n) is may right, subst (λ (w : View). ¬ Contains w.stored x) (sym mine) once);
    shows = record {
      words = record here.shows.words { values = set here.shows.words.values (number b x) n };
      line = (λ d. set (here.shows.line d) (e d) n) ∙ value_put here.shows.words (length (rights_of b).outcomes) (length (rights_of b).slots)
          (number b x) n here.shows.shown.sized.statuses here.shows.shown.sized.presences;
      shown = value_shown b here.shows.words s (point_update s.views p (after_value_store (s.views p) x)) x n is here.shows.shown;
      views = views_put (λ w. after_value_store w x);
    };
  }

  pub fill_step : (x : Slot) (i : ℕ) (d : Cell) → IsSlot b x → i ≡ presence_place b x → IsFillable b v x → HasStored v x d → IsRightCell b x d
      → IsStep b s (FillPresence p x d) (table_after_step t i (filled_word d) p (after_presence_store v x))
  fill_step x i d is e may has right =
      let long = here.shows.shown.sized.presences in
      let inside : number b x < length here.shows.words.presences = omega (arith, number_inside b x is) in record {
        allowed = (named, may_fill x d is may right, subst (λ (w : View). HasStored w x d) (sym mine) has);
        shows = record {
          words = record here.shows.words { presences = set here.shows.words.presences (number b x) (filled_word d) };
          line = (λ j. set (here.shows.line j) (e j) (filled_word d))
              ∙ presence_put here.shows.words (length (rights_of b).outcomes) (number b x) (filled_word d) here.shows.shown.sized.statuses inside;
          shown = presence_shown b here.shows.words s (point_update s.views p (after_presence_store (s.views p) x)) x
              (Some (presence_of d)) is here.shows.shown;
          views = views_put (λ w. after_presence_store w x);
        };
      }

  -- ---- splits and joins

  pub split_step : HoldsNothing v → IsStep b s (Split p (length t.views)) (record { words = t.words; homes = t.homes; views = set t.views p v ++ after_split v ∷ [] })
  split_step free =
      let d : View = new_view (rights_of b) in
      let long : length (set t.views p v) ≡ length t.views = length-set t.views p v in record {
        allowed = (named, ap (λ (w : View). w.held) mine ∙ free, here.shows.views (length t.views) ∙ get_or_past t.views (length t.views) d (omega arith));
        shows = record {
          words = here.shows.words;
          line = here.shows.line;
          shown = same_shown b here.shows.words s (point_update s.views (length t.views) (after_split (s.views p))) here.shows.shown;
          views = λ q. (λ i. point_update s.views (sym long i) (after_split (mine i)) q)
              ∙ view_added d (set t.views p v) s.views (after_split v) (same_view s.views mine here.shows.views) q;
        };
      }

  pub join_step : (q : ℕ) (x : View) → HoldsNothing v → HoldsNothing x → q ≢ p → get_elem? t.views q ≡ some x
      → IsStep b s (Join p q) (record { words = t.words; homes = t.homes; views = set (set t.views p (after_join v x)) q spent_view })
  join_step q x free free_too apart there =
      let d : View = new_view (rights_of b) in
      let theirs : s.views q ≡ x = here.shows.views q ∙ (found_at t.views q x d there).1 in
      let both : after_join (s.views p) (s.views q) ≡ after_join v x = λ i. after_join (mine i) (theirs i) in record {
        allowed = (named, apart, ap (λ (w : View). w.held) mine ∙ free, ap (λ (w : View). w.held) theirs ∙ free_too);
        shows = record {
          words = here.shows.words;
          line = here.shows.line;
          shown = same_shown b here.shows.words s (next_state s (Join p q)).views here.shows.shown;
          views = view_put d (set t.views p (after_join v x)) (point_update s.views p (after_join (s.views p) (s.views q))) q x spent_view spent_view
              (view_put d t.views s.views p v (after_join (s.views p) (s.views q)) (after_join v x) here.shows.views here.view both)
              (set_else t.views p q (after_join v x) apart ∙ there) refl;
        };
      }
