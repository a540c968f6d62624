-- Runs of the core: the board law holds after each event, and a position is claimed and finished at most once.
use Rattle.std.proofs.Common.{◌≡◌, ◌≢◌, ℕ, ◌≤◌, List, [], ◌∷◌, ◌++◌, Bool, true, false, cond, refl, ap, sym, ◌∙◌, subst, inr, arith}
use Rattle.std.specs.Prelude.{count_by}
use Rattle.std.proofs.lemmas.Bool.{eqb-true, false_from_ne_true}
use Rattle.std.proofs.lemmas.List.Sums.{sum_by-cons}
use Rattle.bohm_txn.specs.declared.outcome.Outcome.{Outcome}
use Rattle.bohm_board.specs.declared.status.Claimed.TheVariants as won
use Rattle.bohm_board.specs.declared.batch.Batch.{Batch}
use Rattle.bohm_board.specs.Batches.{rights_of}
use Rattle.bohm_board.specs.Core.{Progress, State, Open, Claimed, Done, empty_state}
use Rattle.bohm_board.specs.Events.{Event, LookPresence, LookValue, Status, Claim, FillValue, FillPresence, Finish}
use Rattle.bohm_board.specs.Events.{Split, Join, IsAllowed, IsRun, IsReached, final_state, next_state, is_win, is_finish}
use Rattle.bohm_board.specs.Law.{IsLawful, Stays}
use Rattle.bohm_board.proofs.BoardLaw.{Grows, still, stays, put_cases, true_of_newcomer}
use Rattle.bohm_board.proofs.LawPreservation.{advances, won_mine}

pub starts : (b : Batch) → IsLawful b (empty_state b)
starts b = record {
  sound = record {
    absent = λ x h. absurd cc;
    present = λ x h. absurd cc;
    inside = λ t o h. absurd cc;
    outcomes = λ t o h. absurd cc;
    whole = λ x o is h. absurd cc;
    untouched = λ x h. refl;
  };
  each = λ p. true_of_newcomer b (empty_state b) p (rights_of b) (inr refl);
  held = λ p t h. absurd cc;
}

pub keeps_on : (b : Batch) (s : State) (es : List Event) → IsLawful b s → IsRun b s es → IsLawful b (final_state s es)
keeps_on b s [] kept run = kept
keeps_on b s (e ∷ es) kept run = keeps_on b (next_state s e) es (advances b s e kept run.0).lawful run.1

pub reached_lawful : (b : Batch) (s : State) → IsReached b s → IsLawful b s
reached_lawful b s r = subst (IsLawful b) r.2 (keeps_on b (empty_state b) r.0 (starts b) r.1)

-- a run may continue with one more allowed event
run_more : (b : Batch) (s : State) (es : List Event) (e : Event) → IsRun b s es → IsAllowed b (final_state s es) e → IsRun b s (es ++ e ∷ [])
run_more b s [] e run may = (may, tt {0})
run_more b s (f ∷ es) e run may = (run.0, run_more b (next_state s f) es e run.1 may)

leave_more : (s : State) (es : List Event) (e : Event) → final_state s (es ++ e ∷ []) ≡ next_state (final_state s es) e
leave_more s [] e = refl
leave_more s (f ∷ es) e = leave_more (next_state s f) es e

pub reached_more : (b : Batch) (s : State) (e : Event) → IsReached b s → IsAllowed b s e → IsReached b (next_state s e)
reached_more b s e r may = (
  r.0 ++ e ∷ [],
  run_more b (empty_state b) r.0 e r.1 (subst (λ (z : State). IsAllowed b z e) (sym r.2) may),
  leave_more (empty_state b) r.0 e ∙ ap (λ (z : State). next_state z e) r.2,
)

grows_more : (b : Batch) (s r q : State) → Grows b s r → Grows b r q → Grows b s q
grows_more b s r q g h = record {
  done = λ t o e. h.done t o (g.done t o e);
  busy = λ t e. h.busy t (g.busy t e);
  filled = λ x k e. h.filled x k (g.filled x k e);
  stored = λ x z right e. h.stored x z right (g.stored x z right e);
}

grows_on : (b : Batch) (s : State) (es : List Event) → IsLawful b s → IsRun b s es → Grows b s (final_state s es)
grows_on b s [] kept run = still b s s.views
grows_on b s (e ∷ es) kept run = grows_more b s (next_state s e) (final_state (next_state s e) es) (advances b s e kept run.0).grows
    (grows_on b (next_state s e) es (advances b s e kept run.0).lawful run.1)

pub reached_stays : (b : Batch) (s : State) (es : List Event) → IsReached b s → IsRun b s es → Stays s (final_state s es)
reached_stays b s es r run = let kept = reached_lawful b s r in stays b s (final_state s es) kept.sound (grows_on b s es kept run)

-- ---- events that happen at most once

-- if no event in a state with Q passes the test, a passing event leads to Q, and Q lasts, at most one event passes
module _ (b : Batch) (test : Event → Bool) (Q : State → Type 0)
    (off : (s : State) (e : Event) → IsLawful b s → IsAllowed b s e → Q s → test e ≡ false)
    (sets : (s : State) (e : Event) → IsLawful b s → IsAllowed b s e → test e ≡ true → Q (next_state s e))
    (lasts : (s : State) (e : Event) → IsLawful b s → IsAllowed b s e → Q s → Q (next_state s e)) where
  none_passes : (s : State) (es : List Event) → IsLawful b s → IsRun b s es → Q s → count_by test es ≡ 0
  none_passes s [] kept run q = refl
  none_passes s (e ∷ es) kept run q =
      let rest = none_passes (next_state s e) es (advances b s e kept run.0).lawful run.1 (lasts s e kept run.0 q) in
      let now : ◌≡◌ {A = ℕ} (cond (test e) 1 0) 0 = ap (λ (v : Bool). cond v 1 0) (off s e kept run.0 q) in
      omega (arith, sum_by-cons (λ x. cond (test x) 1 0) e es, now, rest)

  one_passes : (s : State) (es : List Event) → IsLawful b s → IsRun b s es → count_by test es ≤ 1
  one_passes s [] kept run = omega arith
  one_passes s (e ∷ es) kept run =
      let kept' = (advances b s e kept run.0).lawful in
      let rest = one_passes (next_state s e) es kept' run.1 in
      elim (test e) as (λ (v : Bool). test e ≡ v → count_by test (e ∷ es) ≤ 1) [
        | true ↦ λ h. let now : ◌≡◌ {A = ℕ} (cond (test e) 1 0) 1 = ap (λ (v : Bool). cond v 1 0) h in
            omega (arith, sum_by-cons (λ x. cond (test x) 1 0) e es, now, none_passes (next_state s e) es kept' run.1 (sets s e kept run.0 h))
        | false ↦ λ h. let now : ◌≡◌ {A = ℕ} (cond (test e) 1 0) 0 = ap (λ (v : Bool). cond v 1 0) h in
            omega (arith, sum_by-cons (λ x. cond (test x) 1 0) e es, now, rest)
      ] refl

-- ---- claims

claim_of : (t : ℕ) (e : Event) → is_win t e ≡ true → (p : ℕ) × (e ≡ Claim p t won.Mine)
claim_of t (Claim p u won.Mine) h = (p, ap (λ (z : ℕ). Claim p z won.Mine) (eqb-true u t h))
claim_of t (Claim p u won.Busy) h = absurd cc
claim_of t (Claim p u won.Done) h = absurd cc
claim_of t (LookPresence p x answer) h = absurd cc
claim_of t (LookValue p x answer) h = absurd cc
claim_of t (Status p u answer) h = absurd cc
claim_of t (FillValue p x z) h = absurd cc
claim_of t (FillPresence p x c) h = absurd cc
claim_of t (Finish p u o) h = absurd cc
claim_of t (Split p q) h = absurd cc
claim_of t (Join p q) h = absurd cc

pub claimed_once : (b : Batch) (es : List Event) (t : ℕ) → IsRun b (empty_state b) es → count_by (is_win t) es ≤ 1
claimed_once b es t run = one_passes b (is_win t) (λ s. s.positions t ≢ Open)
    (λ s e kept may closed. false_from_ne_true (is_win t e)
    (λ h. let (p, is) = claim_of t e h in closed (won_mine (s.positions t) (subst (λ (z : Event). IsAllowed b s z) is may).3)))
    (λ s e kept may h. let (p, is) = claim_of t e h in subst (λ (z : Event). (next_state s z).positions t ≢ Open) (sym is)
    (put_cases (λ w. w ≢ Open) s.positions t (Claimed p) t (λ _ g. cc) (λ ne. absurd (ne refl))))
    (λ s e kept may closed. (advances b s e kept may).grows.busy t closed)
    (empty_state b) es (starts b) run

-- ---- finishes

abbrev IsDoneAt : ℕ → State → Type 0
IsDoneAt t s = (o : Outcome) × (s.positions t ≡ Done o)

ended : (t : ℕ) (e : Event) → is_finish t e ≡ true → (p : ℕ) × (o : Outcome) × (e ≡ Finish p t o)
ended t (Finish p u o) h = (p, o, ap (λ (z : ℕ). Finish p z o) (eqb-true u t h))
ended t (Claim p u answer) h = absurd cc
ended t (LookPresence p x answer) h = absurd cc
ended t (LookValue p x answer) h = absurd cc
ended t (Status p u answer) h = absurd cc
ended t (FillValue p x z) h = absurd cc
ended t (FillPresence p x c) h = absurd cc
ended t (Split p q) h = absurd cc
ended t (Join p q) h = absurd cc

not_both : (p : ℕ) (o : Outcome) (w : Progress) → w ≡ Claimed p → w ≡ Done o → ⊥
not_both p o w e f = cc

pub finished_once : (b : Batch) (es : List Event) (t : ℕ) → IsRun b (empty_state b) es → count_by (is_finish t) es ≤ 1
finished_once b es t run = one_passes b (is_finish t) (IsDoneAt t)
    (λ s e kept may done. false_from_ne_true (is_finish t e)
    (λ h. let (p, o, is) = ended t e h in not_both p done.0 (s.positions t)
    ((kept.each p).held t (subst (λ (z : Event). IsAllowed b s z) is may).1.holds) done.1))
    (λ s e kept may h. let (p, o, is) = ended t e h in subst (λ (z : Event). IsDoneAt t (next_state s z)) (sym is)
    (o, put_cases (λ w. w ≡ Done o) s.positions t (Done o) t (λ _. refl) (λ ne. absurd (ne refl))))
    (λ s e kept may done. (done.0, (advances b s e kept may).grows.done t done.0 done.1))
    (empty_state b) es (starts b) run
