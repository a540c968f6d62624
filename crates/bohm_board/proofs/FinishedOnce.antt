-- Each position is finished once, by one pass, so that a pass finished no more positions than have an outcome.
use Rattle.std.proofs.Common.{◌≡◌, ◌≢◌, ℕ, suc, ◌+◌, ◌-◌, ◌<◌, ◌≤◌, List, [], ◌∷◌, ◌++◌, Bool, cond, length, get_or, set}
use Rattle.std.proofs.Common.{refl, sym, ap, ◌∙◌, subst, ⊎_elim, arith, eqb, eq-eqb, ne_eqb, length-set, get_or-set_other, None, Some}
use Rattle.std.specs.Prelude.{Option, count_by, nat_lt}
use mathlib.Core.Logic.{dite}
use native.Mathlib.Decide.{ℕ_discrete}
use Rattle.std.proofs.lemmas.Bool.{lt-ltb, le-ltb, cases_lt}
use Rattle.std.proofs.lemmas.List.Sums.{sum_by-append, sum_by-cons, sum_by-set, count_by-le-length}
use Rattle.bohm_txn.specs.declared.outcome.Outcome.{Outcome}
use Rattle.bohm_board.specs.declared.batch.Batch.{Batch}
use Rattle.bohm_board.specs.declared.slot.Slot.{Slot}
use Rattle.bohm_board.specs.declared.status.Status.{Status as Seen}
use Rattle.bohm_board.specs.declared.status.Status.TheVariants as seen
use Rattle.bohm_board.specs.declared.status.Claimed.TheVariants as won
use Rattle.bohm_board.specs.declared.knowledge.View.{View}
use Rattle.bohm_board.specs.declared.closed.Closed.{Closed}
use Rattle.bohm_board.specs.Batches.{IsIn, first_of, txns_of}
use Rattle.bohm_board.specs.Closings.{batch_of_closed, unfinished_in, IsFinished}
use Rattle.bohm_board.specs.Core.{Claimed, Done, State, empty_state}
use Rattle.bohm_board.specs.Events.{Event, LookPresence, LookValue, Status, Claim, FillValue, FillPresence, Finish, Split, Join}
use Rattle.bohm_board.specs.Events.{IsAllowed, IsRun, IsReached, point_update, final_state, next_state}
use Rattle.bohm_board.specs.Views.{Presence, Absent, Present, after_status, after_claim, after_presence_look, after_value_store, after_presence_store}
use Rattle.bohm_board.specs.Views.{after_finish, after_split, after_join, spent_view}
use Rattle.bohm_board.specs.Law.{IsLawful, IsFinishedOnce, times}
use Rattle.bohm_board.specs.Encoding.{progress_word}
use Rattle.bohm_board.specs.Shown.{AreShown, Words}
use Rattle.bohm_board.proofs.BoardLaw.{put_cases}
use Rattle.bohm_board.proofs.LawPreservation.{advances}
use Rattle.bohm_board.proofs.EventRuns.{starts, reached_lawful}
use Rattle.bohm_board.proofs.SlotNumbers.{position_inside}
use Rattle.bohm_board.proofs.SlotPlaces.{outcomes_long}
use Rattle.bohm_board.proofs.StepEvents.{two_at_least}

-- ---- how often a position is in a list

abbrev once_here : ℕ → ℕ → ℕ
once_here t u = cond (eqb u t) 1 0

here_one : (t u : ℕ) → u ≡ t → once_here t u ≡ 1
here_one t u e = ap {B = ℕ} (λ v. cond v 1 0) (eq-eqb u t e)

here_none : (t u : ℕ) → u ≢ t → once_here t u ≡ 0
here_none t u ne = ap {B = ℕ} (λ v. cond v 1 0) (ne_eqb u t ne)

times_cons : (t u : ℕ) (xs : List ℕ) → times t (u ∷ xs) ≡ once_here t u + times t xs
times_cons t u xs = sum_by-cons (once_here t) u xs

times_append : (t : ℕ) (xs ys : List ℕ) → times t (xs ++ ys) ≡ times t xs + times t ys
times_append t xs ys = sum_by-append (once_here t) xs ys

times_push : (t u : ℕ) (xs : List ℕ) → times t (xs ++ u ∷ []) ≡ times t xs + once_here t u
times_push t u xs = let one = times_cons t u [] in omega (arith, times_append t xs (u ∷ []), one)

-- ---- events that finish no position

abbrev of : State → ℕ → List ℕ
of s p = (s.views p).finished

abbrev StaysDone : State → State → Type 0
StaysDone s s' = (t : ℕ) (o : Outcome) → s.positions t ≡ Done o → s'.positions t ≡ Done o

unchanged : (s s' : State) → ((p : ℕ) → of s' p ≡ of s p) → StaysDone s s' → IsFinishedOnce s → IsFinishedOnce s'
unchanged s s' same done k = record {
  done = λ p t some. let (o, e) = k.done p t (subst (λ (xs : List ℕ). 0 < times t xs) (same p) some) in (o, done t o e);
  once = λ p t. subst (λ (xs : List ℕ). times t xs ≤ 1) (sym (same p)) (k.once p t);
  apart = λ p q t ne. subst (λ (xs : List ℕ). times t xs + times t (of s' q) ≤ 1) (sym (same p))
      (subst (λ (xs : List ℕ). times t (of s p) + times t xs ≤ 1) (sym (same q)) (k.apart p q t ne));
}

put_same : (f : ℕ → View) (p : ℕ) (v : View) → v.finished ≡ (f p).finished → (q : ℕ) → (point_update f p v q).finished ≡ (f q).finished
put_same f p v e q = put_cases (λ (w : View). w.finished ≡ (f q).finished) f p v q (λ here. e ∙ ap (λ (r : ℕ). (f r).finished) (sym here)) (λ _. refl)

finished_learnt : (v : View) (x : Slot) (answer : Option Presence) → (after_presence_look v x answer).finished ≡ v.finished
finished_learnt v x None = refl
finished_learnt v x (Some Absent) = refl
finished_learnt v x (Some Present) = refl

pub finished_saw : (v : View) (t : ℕ) (answer : Seen) → (after_status v t answer).finished ≡ v.finished
finished_saw v t seen.Open = refl
finished_saw v t seen.Busy = refl
finished_saw v t seen.Done = refl

-- ---- finishes

module _ (s : State) (p t : ℕ) (o : Outcome) (mine : s.positions t ≡ Claimed p) (k : IsFinishedOnce s) where
  unfinished : (q : ℕ) → times t (of s q) ≡ 0
  unfinished q = ⊎_elim (λ (some : 0 < times t (of s q)). let (r, e) = k.done q t some in let no : Claimed p ≡ Done r = sym mine ∙ e in absurd cc)
      (λ (none : times t (of s q) ≤ 0). omega (arith, none)) (cases_lt 0 (times t (of s q)))

  abbrev later : State
  later = next_state s (Finish p t o)

  there : (q : ℕ) → q ≡ p → times t (of later q) ≡ 1
  there q e = put_cases (λ (w : View). times t w.finished ≡ 1) s.views p (after_finish (s.views p) t) q
      (λ _. omega (arith, times_push t t (of s p), here_one t t refl, unfinished p)) (λ ne. absurd (ne e))

  elsewhere : (q : ℕ) → q ≢ p → times t (of later q) ≡ 0
  elsewhere q ne = put_cases (λ (w : View). times t w.finished ≡ 0) s.views p (after_finish (s.views p) t) q
      (λ e. absurd (ne e)) (λ _. unfinished q)

  others : (u q : ℕ) → u ≢ t → times u (of later q) ≡ times u (of s q)
  others u q ne = put_cases (λ (w : View). times u w.finished ≡ times u (of s q)) s.views p (after_finish (s.views p) t) q
      (λ e. let same : times u (of s p) ≡ times u (of s q) = ap (λ (r : ℕ). times u (of s r)) (sym e) in
      omega (arith, times_push u t (of s p), here_none u t (λ h. ne (sym h)), same)) (λ _. refl)

  at_most : (q : ℕ) → times t (of later q) ≤ 1
  at_most q = dite (ℕ_discrete q p) (λ e. omega (arith, there q e)) (λ ne. omega (arith, elsewhere q ne))

  both_apart : (q r : ℕ) → q ≢ r → times t (of later q) + times t (of later r) ≤ 1
  both_apart q r ne = dite (ℕ_discrete q p)
      (λ e. omega (arith, there q e, elsewhere r (λ h. ne (e ∙ sym h))))
      (λ other. omega (arith, elsewhere q other, at_most r))

  finish_once : StaysDone s later → IsFinishedOnce later
  finish_once done = record {
    done = λ q u some. dite (ℕ_discrete u t)
        (λ e. (o, put_cases (λ w. w ≡ Done o) s.positions t (Done o) u (λ _. refl) (λ ne. absurd (ne e))))
        (λ ne. let (r, is) = k.done q u (omega (arith, some, others u q ne)) in (r, done u r is));
    once = λ q u. dite (ℕ_discrete u t)
        (λ e. subst (λ (z : ℕ). times z (of later q) ≤ 1) (sym e) (at_most q))
        (λ ne. omega (arith, others u q ne, k.once q u));
    apart = λ q r u apart. dite (ℕ_discrete u t)
        (λ e. subst (λ (z : ℕ). times z (of later q) + times z (of later r) ≤ 1) (sym e) (both_apart q r apart))
        (λ ne. omega (arith, others u q ne, others u r ne, k.apart q r u apart));
  }

-- ---- joins

module _ (s : State) (p q : ℕ) (ne : q ≢ p) (k : IsFinishedOnce s) where
  abbrev joined : State
  joined = next_state s (Join p q)

  abbrev first : ℕ → View
  first = point_update s.views p (after_join (s.views p) (s.views q))

  spent : (t r : ℕ) → r ≡ q → times t (of joined r) ≡ 0
  spent t r e = put_cases (λ (w : View). times t w.finished ≡ 0) first q spent_view r (λ _. refl) (λ other. absurd (other e))

  taken : (t r : ℕ) → r ≡ p → times t (of joined r) ≡ times t (of s p) + times t (of s q)
  taken t r e = put_cases (λ (w : View). times t w.finished ≡ times t (of s p) + times t (of s q)) first q spent_view r
      (λ h. absurd (ne (sym h ∙ e)))
      (λ _. put_cases (λ (w : View). times t w.finished ≡ times t (of s p) + times t (of s q)) s.views p (after_join (s.views p) (s.views q)) r
      (λ _. times_append t (of s p) (of s q)) (λ other. absurd (other e)))

  left : (t r : ℕ) → r ≢ q → r ≢ p → times t (of joined r) ≡ times t (of s r)
  left t r not_q not_p = put_cases (λ (w : View). times t w.finished ≡ times t (of s r)) first q spent_view r
      (λ e. absurd (not_q e))
      (λ _. put_cases (λ (w : View). times t w.finished ≡ times t (of s r)) s.views p (after_join (s.views p) (s.views q)) r
      (λ e. absurd (not_p e)) (λ _. refl))

  together : (t : ℕ) → times t (of s p) + times t (of s q) ≤ 1
  together t = k.apart p q t (λ e. ne (sym e))

  join_most : (t r : ℕ) → times t (of joined r) ≤ 1
  join_most t r = dite (ℕ_discrete r q) (λ e. omega (arith, spent t r e))
      (λ not_q. dite (ℕ_discrete r p) (λ e. omega (arith, taken t r e, together t)) (λ not_p. omega (arith, left t r not_q not_p, k.once r t)))

  -- p's pass beside another than q's
  beside : (t a r : ℕ) → a ≡ p → r ≢ p → r ≢ q → times t (of joined a) + times t (of joined r) ≤ 1
  beside t a r e not_p not_q = omega (
    arith,
    taken t a e,
    left t r not_q not_p,
    together t,
    k.apart p r t (λ h. not_p (sym h)),
    k.apart q r t (λ h. not_q (sym h)),
  )

  join_apart : (t a r : ℕ) → a ≢ r → times t (of joined a) + times t (of joined r) ≤ 1
  join_apart t a r apart = dite (ℕ_discrete a q) (λ e. omega (arith, spent t a e, join_most t r))
      (λ a_q. dite (ℕ_discrete r q) (λ e. omega (arith, spent t r e, join_most t a))
      (λ r_q. dite (ℕ_discrete a p) (λ e. beside t a r e (λ h. apart (e ∙ sym h)) r_q)
      (λ a_p. dite (ℕ_discrete r p) (λ e. let both = beside t r a e a_p a_q in omega (arith, both))
      (λ r_p. omega (arith, left t a a_q a_p, left t r r_q r_p, k.apart a r t apart)))))

  join_done : (t r : ℕ) → 0 < times t (of joined r) → (o : Outcome) × (s.positions t ≡ Done o)
  join_done t r some = dite (ℕ_discrete r q) (λ e. absurd (omega (arith, some, spent t r e)))
      (λ not_q. dite (ℕ_discrete r p)
      (λ e. ⊎_elim (λ (here : 0 < times t (of s p)). k.done p t here)
      (λ (none : times t (of s p) ≤ 0). k.done q t (omega (arith, some, taken t r e, none))) (cases_lt 0 (times t (of s p))))
      (λ not_p. k.done r t (omega (arith, some, left t r not_q not_p))))

  join_once : IsFinishedOnce joined
  join_once = record { done = λ r t. join_done t r; once = λ r t. join_most t r; apart = λ a r t. join_apart t a r }

-- ---- all events

once_on : (b : Batch) (s : State) (e : Event) → IsLawful b s → IsAllowed b s e → IsFinishedOnce s → IsFinishedOnce (next_state s e)
once_on b s (LookPresence p x answer) kept may k = unchanged s (next_state s (LookPresence p x answer))
    (put_same s.views p (after_presence_look (s.views p) x answer) (finished_learnt (s.views p) x answer)) (λ t o h. h) k
once_on b s (LookValue p x answer) kept may k = k
once_on b s (Status p t answer) kept may k = unchanged s (next_state s (Status p t answer))
    (put_same s.views p (after_status (s.views p) t answer) (finished_saw (s.views p) t answer)) (λ u o h. h) k
once_on b s (Claim p t won.Mine) kept may k = unchanged s (next_state s (Claim p t won.Mine))
    (put_same s.views p (after_claim (s.views p) t seen.Open) refl) (advances b s (Claim p t won.Mine) kept may).grows.done k
once_on b s (Claim p t won.Busy) kept may k = unchanged s (next_state s (Claim p t won.Busy))
    (put_same s.views p (after_claim (s.views p) t seen.Busy) refl) (λ u o h. h) k
once_on b s (Claim p t won.Done) kept may k = unchanged s (next_state s (Claim p t won.Done))
    (put_same s.views p (after_claim (s.views p) t seen.Done) refl) (λ u o h. h) k
once_on b s (FillValue p x z) kept may k = unchanged s (next_state s (FillValue p x z))
    (put_same s.views p (after_value_store (s.views p) x) refl) (λ u o h. h) k
once_on b s (FillPresence p x c) kept may k = unchanged s (next_state s (FillPresence p x c))
    (put_same s.views p (after_presence_store (s.views p) x) refl) (λ u o h. h) k
once_on b s (Finish p t o) kept may k = finish_once s p t o ((kept.each p).held t may.1.holds) k
    (advances b s (Finish p t o) kept may).grows.done
once_on b s (Split p q) kept may k = unchanged s (next_state s (Split p q))
    (put_same s.views q (after_split (s.views p)) (sym (ap (λ (v : View). v.finished) may.2))) (λ u o h. h) k
once_on b s (Join p q) kept may k = join_once s p q may.1 k

run_once : (b : Batch) (s : State) (es : List Event) → IsLawful b s → IsFinishedOnce s → IsRun b s es → IsFinishedOnce (final_state s es)
run_once b s [] kept k run = k
run_once b s (e ∷ es) kept k run = run_once b (next_state s e) es (advances b s e kept run.0).lawful (once_on b s e kept run.0 k) run.1

pub reached_once : (b : Batch) (s : State) → IsReached b s → IsFinishedOnce s
reached_once b s r = subst IsFinishedOnce r.2 (run_once b (empty_state b) r.0 (starts b)
    (record { done = λ p t some. absurd (omega (arith, some)); once = λ p t. omega arith; apart = λ p q t ne. omega arith }) r.1)

-- ---- status words

abbrev is_left : ℕ → Bool
is_left word = nat_lt word 2

-- the word at i was 0 or 1, or is now
pub one_less : (ws : List ℕ) (i x : ℕ) → i < length ws → get_or ws i 0 < 2 → 2 ≤ x → count_by is_left (set ws i x) + 1 ≡ count_by is_left ws
one_less ws i x inside was now = omega (
  arith,
  sum_by-set (λ w. cond (is_left w) 1 0) ws i x 0 inside,
  ap {B = ℕ} (λ v. cond v 1 0) (lt-ltb (get_or ws i 0) 2 was),
  ap {B = ℕ} (λ v. cond v 1 0) (le-ltb x 2 now),
)

one_left : (ws : List ℕ) (i : ℕ) → i < length ws → 2 ≤ get_or ws i 0 → count_by is_left (set ws i 0) ≡ count_by is_left ws + 1
one_left ws i inside was = omega (
  arith,
  sum_by-set (λ w. cond (is_left w) 1 0) ws i 0 0 inside,
  ap {B = ℕ} (λ v. cond v 1 0) (le-ltb (get_or ws i 0) 2 was),
)

abbrev HasOutcome : ℕ → List ℕ → ℕ → Type 0
HasOutcome first ws t = (first ≤ t) × (t - first < length ws) × (2 ≤ get_or ws (t - first) 0)

-- distinct positions with an outcome are at most as many as words with an outcome
few_finished : (first : ℕ) (ts ws : List ℕ) → ((t : ℕ) → times t ts ≤ 1) → ((t : ℕ) → 0 < times t ts → HasOutcome first ws t)
    → length ts + count_by is_left ws ≤ length ws
few_finished first [] ws once all = omega (arith, count_by-le-length is_left ws)
few_finished first (t ∷ ts) ws once all =
    let i : ℕ = t - first in
    let now = all t (omega (arith, times_cons t t ts, here_one t t refl)) in
    let gone : times t ts ≡ 0 = omega (arith, once t, times_cons t t ts, here_one t t refl) in
    let rest = few_finished first ts (set ws i 0)
    (λ u. omega (arith, once u, times_cons u t ts))
    (λ u some.
    let apart : u ≢ t = λ e. let none : times u ts ≡ 0 = ap (λ (z : ℕ). times z ts) e ∙ gone in omega (arith, some, none) in
    let here = all u (omega (arith, some, times_cons u t ts)) in (
      here.0,
      omega (arith, here.1, length-set ws i 0),
      subst (λ (n : ℕ). 2 ≤ n) (sym (get_or-set_other ws i (u - first) 0 0 (λ e. apart (omega (arith, e, here.0, now.0))))) here.2,
    )) in
    omega (arith, rest, one_left ws i now.1 now.2, length-set ws i 0)

-- the positions that a pass finished, and those left without an outcome, are at most all
pub finished_few : (b : Batch) (w : Words) (s : State) (id : ℕ) (v : View) → AreShown b w s → IsReached b s → s.views id ≡ v
    → length v.finished + count_by is_left w.statuses ≤ length (txns_of b)
finished_few b w s id v shown reached mine =
    let once = reached_once b s reached in
    let kept = reached_lawful b s reached in
    let same : of s id ≡ v.finished = ap (λ (z : View). z.finished) mine in
    let long = shown.sized.statuses in
    let few = few_finished (first_of b) v.finished w.statuses
    (λ t. subst (λ (xs : List ℕ). times t xs ≤ 1) same (once.once id t))
    (λ t some.
    let (o, is) = once.done id t (subst (λ (xs : List ℕ). 0 < times t xs) (sym same) some) in
    let inside = kept.sound.inside t o is in (
      inside.from,
      omega (arith, position_inside b t inside, outcomes_long b, long),
      subst (λ (n : ℕ). 2 ≤ n) (sym (shown.positions t inside ∙ ap progress_word is)) (two_at_least o),
    )) in
    omega (arith, few, long, outcomes_long b)

all_told : (ws : List ℕ) → ((i : ℕ) → i < length ws → 2 ≤ get_or ws i 0) → count_by is_left ws ≡ 0
all_told [] all = refl
all_told (w ∷ ws) all = omega (
  arith,
  sum_by-cons (λ x. cond (is_left x) 1 0) w ws,
  ap {B = ℕ} (λ v. cond v 1 0) (le-ltb w 2 (all 0 (omega arith))),
  all_told ws (λ i low. all (suc i) (omega (arith, low))),
)

-- if each position has an outcome, none is left without one
pub none_left : (closed : Closed) → ((t : ℕ) → IsIn (batch_of_closed closed) t → IsFinished closed t) → unfinished_in closed ≡ 0
none_left closed all =
    let b = batch_of_closed closed in
    let long = closed.sized.statuses in
    all_told closed.columns.statuses.items (λ i low.
    let inside : IsIn b (first_of b + i) = record { from = omega arith; below = omega (arith, low, long, outcomes_long b) } in
    let place : first_of b + i - first_of b ≡ i = omega arith in
    subst (λ (n : ℕ). 2 ≤ get_or closed.columns.statuses.items n 0) place (all (first_of b + i) inside))
