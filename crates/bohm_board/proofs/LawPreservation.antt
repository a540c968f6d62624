-- Each allowed event preserves the board law, and reverts no word.
use Rattle.std.proofs.Common.{◌≡◌, ◌≢◌, ℕ, ◌<◌, Some, None, refl, ap, sym, ◌∙◌, subst, inl, inr}
use Rattle.std.specs.Prelude.{Option, ℤ, Contains}
use Rattle.std.proofs.lemmas.Option.{same_Some}
use Rattle.bohm_types.specs.declared.cell.Cell.{Cell}
use Rattle.bohm_types.specs.declared.cell.Cell.TheVariants as cells
use Rattle.bohm_txn.specs.declared.outcome.Outcome.{Outcome}
use Rattle.bohm_board.specs.declared.batch.Batch.{Batch}
use Rattle.bohm_board.specs.declared.slot.Slot.{Slot}
use Rattle.bohm_board.specs.declared.status.Status.{Status as Seen}
use Rattle.bohm_board.specs.declared.status.Status.TheVariants as seen
use Rattle.bohm_board.specs.declared.status.Claimed.TheVariants as won
use Rattle.bohm_board.specs.Batches.{IsIn, IsSlot, IsRightCell, IsRightOutcome, rights_of, width_at}
use Rattle.bohm_board.specs.declared.knowledge.View.{View}
use Rattle.bohm_board.specs.Core.{Progress, Open, Claimed, Done, State, IsFull}
use Rattle.bohm_board.specs.Events.{Event, LookPresence, LookValue, Status, Claim, FillValue, FillPresence, Finish, Split, Join}
use Rattle.bohm_board.specs.Events.{MayFill, MayFinish, IsAllowed, point_update, slot_update, status_of_progress, next_state}
use Rattle.bohm_board.specs.Views.{Presence, Absent, Present, Holds, HasStored, HasFilledAll, presence_of, spent_view, after_presence_look}
use Rattle.bohm_board.specs.Views.{after_status, after_claim, after_value_store, after_presence_store, after_finish, after_split, after_join}
use Rattle.bohm_board.specs.Law.{IsSound, IsTrueOf, IsLawful}
use Rattle.bohm_board.proofs.BoardLaw.{one_cell, presence_right, Grows, one_holder, wanted_filled, still, Advances, true_on}
use Rattle.bohm_board.proofs.BoardLaw.{put_cases, slot_cases, moved, relearnt, more, both, nothing_in, true_of_newcomer}
use Rattle.bohm_board.proofs.Evaluation.{outcome_is_right, cell_is_right}

-- ---- a view stays true after a status or presence read

busy_of : (o : Progress) → seen.Busy ≡ status_of_progress o → o ≢ Open
busy_of Open e = absurd cc
busy_of (Claimed p) e = λ h. cc
busy_of (Done r) e = λ h. cc

done_of : (o : Progress) → seen.Done ≡ status_of_progress o → (r : Outcome) × (o ≡ Done r)
done_of Open e = absurd cc
done_of (Claimed p) e = absurd cc
done_of (Done r) e = (r, refl)

pub won_mine : (o : Progress) → seen.Open ≡ status_of_progress o → o ≡ Open
won_mine Open e = refl
won_mine (Claimed p) e = absurd cc
won_mine (Done r) e = absurd cc

true_learnt : (b : Batch) (s : State) (p : ℕ) (v : View) (x : Slot) (answer : Option Presence) → answer ≡ s.presences x → v.right ≡ rights_of b
    → IsTrueOf b s p v → IsTrueOf b s p (after_presence_look v x answer)
true_learnt b s p v x None e own k = k
true_learnt b s p v x (Some Absent) e own k =
    record {
      done = k.done;
      busy = k.busy;
      absent = more (λ y. s.presences y ≡ Some Absent) v.absent x k.absent (sym e);
      present = k.present;
      held = k.held;
      stored = k.stored;
      filled = k.filled;
      named = inr own;
    }
true_learnt b s p v x (Some Present) e own k =
    record {
      done = k.done;
      busy = k.busy;
      absent = k.absent;
      present = more (λ y. s.presences y ≡ Some Present) v.present x k.present (sym e);
      held = k.held;
      stored = k.stored;
      filled = k.filled;
      named = inr own;
    }

pub held_learnt : (v : View) (x : Slot) (answer : Option Presence) → (after_presence_look v x answer).held ≡ v.held
held_learnt v x None = refl
held_learnt v x (Some Absent) = refl
held_learnt v x (Some Present) = refl

pub right_learnt : (v : View) (x : Slot) (answer : Option Presence) → (after_presence_look v x answer).right ≡ v.right
right_learnt v x None = refl
right_learnt v x (Some Absent) = refl
right_learnt v x (Some Present) = refl

true_saw : (b : Batch) (s : State) (p : ℕ) (v : View) (t : ℕ) (answer : Seen) → answer ≡ status_of_progress (s.positions t) → v.right ≡ rights_of b
    → IsTrueOf b s p v → IsTrueOf b s p (after_status v t answer)
true_saw b s p v t seen.Open e own k = k
true_saw b s p v t seen.Busy e own k =
    record {
      done = k.done;
      busy = more (λ u. s.positions u ≢ Open) v.busy t k.busy (busy_of (s.positions t) e);
      absent = k.absent;
      present = k.present;
      held = k.held;
      stored = k.stored;
      filled = k.filled;
      named = inr own;
    }
true_saw b s p v t seen.Done e own k =
    record {
      done = more (λ u. (o : Outcome) × (s.positions u ≡ Done o)) v.done t k.done (done_of (s.positions t) e);
      busy = k.busy;
      absent = k.absent;
      present = k.present;
      held = k.held;
      stored = k.stored;
      filled = k.filled;
      named = inr own;
    }

pub held_saw : (v : View) (t : ℕ) (answer : Seen) → (after_status v t answer).held ≡ v.held
held_saw v t seen.Open = refl
held_saw v t seen.Busy = refl
held_saw v t seen.Done = refl

-- ---- claims and finishes: the progress of t becomes o

module _ (b : Batch) (s : State) (t : ℕ) (o : Progress) (not_open : o ≢ Open) where
  abbrev pub turned : State
  turned = record s { positions = point_update s.positions t o }

  turned_grows : ((r : Outcome) → s.positions t ≢ Done r) → Grows b s turned
  turned_grows not_done = record {
    done = λ u r h. put_cases (λ w. w ≡ Done r) s.positions t o u (λ e. absurd (not_done r (ap s.positions (sym e) ∙ h))) (λ _. h);
    busy = λ u h. put_cases (λ w. w ≢ Open) s.positions t o u (λ _. not_open) (λ _. h);
    filled = λ x k h. h;
    stored = λ x z r h. h;
  }

  turned_sound : IsSound b s → IsIn b t → ((r : Outcome) → o ≡ Done r → IsRightOutcome b t r)
      → ((x : Slot) (r : Outcome) → IsSlot b x → x.txn ≡ t → o ≡ Done r → IsFull s x) → IsSound b turned
  turned_sound sound inside right whole = record {
    absent = sound.absent;
    present = sound.present;
    inside = λ u r. put_cases (λ w. w ≡ Done r → IsIn b u) s.positions t o u (λ e h. subst (IsIn b) (sym e) inside) (λ _. sound.inside u r);
    outcomes = λ u r. put_cases (λ w. w ≡ Done r → IsRightOutcome b u r) s.positions t o u
        (λ e h. subst (λ (v : ℕ). IsRightOutcome b v r) (sym e) (right r h)) (λ _. sound.outcomes u r);
    whole = λ x r is. put_cases (λ w. w ≡ Done r → IsFull s x) s.positions t o x.txn (λ e h. whole x r is e h) (λ _. sound.whole x r is);
    untouched = λ x. put_cases (λ w. w ≡ Open → s.presences x ≡ None) s.positions t o x.txn (λ _ h. absurd (not_open h)) (λ _. sound.untouched x);
  }

claimed_not_open : (p : ℕ) → Claimed p ≢ Open
claimed_not_open p = λ h. cc

done_not_open : (o : Outcome) → Done o ≢ Open
done_not_open o = λ h. cc

claim_grows : (b : Batch) (s : State) (p t : ℕ) → s.positions t ≡ Open → Grows b s (turned b s t (Claimed p) (claimed_not_open p))
claim_grows b s p t free = turned_grows b s t (Claimed p) (claimed_not_open p) (λ r h. let no : Open ≡ Done r = sym free ∙ h in cc)

claim_keeps : (b : Batch) (s : State) (p t : ℕ) → IsLawful b s → (s.views p).right ≡ rights_of b → IsIn b t → (s.views p).held ≡ None → s.positions t ≡ Open
    → Advances b s (next_state s (Claim p t won.Mine))
claim_keeps b s p t kept own inside nothing free =
    let k = kept.each p in
    let v' : View = after_claim (s.views p) t seen.Open in
    let s' : State = turned b s t (Claimed p) (claimed_not_open p) in
    let g : Grows b s s' = claim_grows b s p t free in
    let sound : IsSound b s' = turned_sound b s t (Claimed p) (claimed_not_open p) kept.sound inside (λ r h. absurd cc) (λ x r is e h. absurd cc) in
    let mine : IsTrueOf b s' p v' = record {
      done = λ u c. let (o, e) = k.done u c in (o, g.done u o e);
      busy = λ u c. g.busy u (k.busy u c);
      absent = k.absent;
      present = k.present;
      held = λ u h. put_cases (λ w. w ≡ Claimed p) s.positions t (Claimed p) u (λ _. refl) (λ ne. absurd (ne (sym (same_Some t u h))));
      stored = λ x c. absurd (nothing_in x c);
      filled = λ x c. absurd (nothing_in x c);
      named = inr own;
    } in
    moved b s s' p v' kept g sound mine
    (λ q u ne h. put_cases (λ w. w ≡ Claimed q) s.positions t (Claimed p) u
    (λ e. let no : Open ≡ Claimed q = sym free ∙ (ap s.positions (sym e) ∙ h) in absurd cc) (λ _. h))
    (λ q u ne. put_cases (λ w. w ≡ Claimed q → s.positions u ≡ Claimed q) s.positions t (Claimed p) u (λ e h. absurd (ne (sym (one_holder p q h)))) (λ _ h. h))
    (λ u. put_cases (λ w. w ≡ Claimed p → Holds b v' u) s.positions t (Claimed p) u (λ e h. ap Some (sym e))
    (λ _ h. let no : None ≡ Some u = sym nothing ∙ kept.held p u h in absurd cc))

finish_grows : (b : Batch) (s : State) (p t : ℕ) (o : Outcome) → s.positions t ≡ Claimed p → Grows b s (turned b s t (Done o) (done_not_open o))
finish_grows b s p t o mine = turned_grows b s t (Done o) (done_not_open o) (λ r h. let no : Claimed p ≡ Done r = sym mine ∙ h in cc)

one_outcome : (o r : Outcome) → Done o ≡ Done r → o ≡ r
one_outcome o r e = ap of e
  where
    of : Progress → Outcome
    of Open = o
    of (Claimed p) = o
    of (Done w) = w

-- if a view has t's slot of each index as filled, it has each slot of t as filled
all_slots : (b : Batch) (v : View) (t : ℕ) → HasFilledAll b v t → (x : Slot) → IsSlot b x → x.txn ≡ t → Contains v.filled x
all_slots b v t all x is e = subst (λ (u : ℕ). Contains v.filled (record { txn = u; index = x.index })) (sym e)
    (all x.index (subst (λ (u : ℕ). x.index < width_at b u) e is.index))

finish_keeps : (b : Batch) (s : State) (p t : ℕ) (o : Outcome) → IsLawful b s → (s.views p).right ≡ rights_of b → MayFinish b s p t o
    → Advances b s (next_state s (Finish p t o))
finish_keeps b s p t o kept own may =
    let k = kept.each p in
    let s' : State = turned b s t (Done o) (done_not_open o) in
    let here : s.positions t ≡ Claimed p = k.held t may.holds in
    let right : IsRightOutcome b t o = sym (outcome_is_right b s t kept.sound may.position (wanted_filled b s t (s.views p) k.absent k.present may.wanted))
    ∙ may.outcome in
    let g : Grows b s s' = finish_grows b s p t o here in
    let sound : IsSound b s' = turned_sound b s t (Done o) (done_not_open o) kept.sound may.position
    (λ r h. subst (IsRightOutcome b t) (one_outcome o r h) right) (λ x r is e h. k.filled x (all_slots b (s.views p) t may.filled x is e)) in
    let now : s'.positions t ≡ Done o = put_cases (λ w. w ≡ Done o) s.positions t (Done o) t (λ _. refl) (λ ne. absurd (ne refl)) in
    let mine : IsTrueOf b s' p (after_finish (s.views p) t) = record {
      done = more (λ u. (r : Outcome) × (s'.positions u ≡ Done r)) (s.views p).done t (λ u c. let (r, e) = k.done u c in (r, g.done u r e)) (o, now);
      busy = λ u c. g.busy u (k.busy u c);
      absent = k.absent;
      present = k.present;
      held = λ u h. absurd cc;
      stored = λ x c. absurd (nothing_in x c);
      filled = λ x c. absurd (nothing_in x c);
      named = inr own;
    } in
    moved b s s' p (after_finish (s.views p) t) kept g sound mine
    (λ q u ne h. put_cases (λ w. w ≡ Claimed q) s.positions t (Done o) u (λ e. absurd (ne (sym (one_holder p q (sym here ∙ (ap s.positions (sym e) ∙ h))))))
    (λ _. h))
    (λ q u ne. put_cases (λ w. w ≡ Claimed q → s.positions u ≡ Claimed q) s.positions t (Done o) u (λ e h. absurd cc) (λ _ h. h))
    (λ u. put_cases (λ w. w ≡ Claimed p → Holds b (after_finish (s.views p) t) u) s.positions t (Done o) u (λ e h. absurd cc)
    (λ ne h. absurd (ne (sym (same_Some t u (sym may.holds ∙ kept.held p u h))))))

-- ---- stores of a slot's value and presence

fill_right : (b : Batch) (s : State) (p : ℕ) (x : Slot) (c : Cell) → IsLawful b s → MayFill b s p x c → IsRightCell b x c
fill_right b s p x c kept may = sym (cell_is_right b s x kept.sound may.slot
    (wanted_filled b s x.txn (s.views p) (kept.each p).absent (kept.each p).present may.wanted)) ∙ may.cell

one_value : (z w : ℤ) → cells.Present z ≡ cells.Present w → z ≡ w
one_value z w e = ap of e
  where
    of : Cell → ℤ
    of cells.Absent = z
    of (cells.Present v) = v

value_grows : (b : Batch) (s : State) (x : Slot) (z : ℤ) → IsRightCell b x (cells.Present z) → Grows b s (record s { values = slot_update s.values x z })
value_grows b s x z right = record {
  done = λ t o h. h;
  busy = λ t h. h;
  filled = λ y k h. h;
  stored = λ y w r h. slot_cases (λ v. v ≡ w) s.values x z y
      (λ e. one_value z w (one_cell b x (cells.Present z) (cells.Present w) right (subst (λ (u : Slot). IsRightCell b u (cells.Present w)) e r))) (λ _. h);
}

value_keeps : (b : Batch) (s : State) (p : ℕ) (x : Slot) (z : ℤ) → IsLawful b s → (s.views p).right ≡ rights_of b → MayFill b s p x (cells.Present z)
    → Advances b s (next_state s (FillValue p x z))
value_keeps b s p x z kept own may =
    let k = kept.each p in
    let s' : State = record s { values = slot_update s.values x z } in
    let right : IsRightCell b x (cells.Present z) = fill_right b s p x (cells.Present z) kept may in
    let g : Grows b s s' = value_grows b s x z right in
    let sound : IsSound b s' = record {
      absent = kept.sound.absent;
      present = λ y h. slot_cases (λ v. IsRightCell b y (cells.Present v)) s.values x z y
          (λ e. subst (λ (u : Slot). IsRightCell b u (cells.Present z)) (sym e) right) (λ _. kept.sound.present y h);
      inside = kept.sound.inside;
      outcomes = kept.sound.outcomes;
      whole = kept.sound.whole;
      untouched = kept.sound.untouched;
    } in
    let here : s'.values x ≡ z = slot_cases (λ v. v ≡ z) s.values x z x (λ _. refl) (λ ne. absurd (ne refl)) in
    let old : IsTrueOf b s' p (s.views p) = true_on b s s' p (s.views p) g k.held k in
    let mine : IsTrueOf b s' p (after_value_store (s.views p) x) = record {
      done = old.done;
      busy = old.busy;
      absent = old.absent;
      present = old.present;
      held = old.held;
      stored = more (λ (y : Slot). IsRightCell b y (cells.Present (s'.values y))) (s.views p).stored x old.stored
          (subst (λ (w : ℤ). IsRightCell b x (cells.Present w)) (sym here) right);
      filled = old.filled;
      named = inr own;
    } in
    moved b s s' p (after_value_store (s.views p) x) kept g sound mine (λ q t ne h. h) (λ q t ne h. h) (kept.held p)

presence_grows : (b : Batch) (s : State) (x : Slot) (c : Cell) → IsSound b s → IsRightCell b x c
    → Grows b s (record s { presences = slot_update s.presences x (Some (presence_of c)) })
presence_grows b s x c sound right = record {
  done = λ t o h. h;
  busy = λ t h. h;
  filled = λ y k h. slot_cases (λ v. v ≡ Some k) s.presences x (Some (presence_of c)) y
      (λ e. ap Some (presence_right b s x k c sound (ap s.presences (sym e) ∙ h) right)) (λ _. h);
  stored = λ y z r h. h;
}

-- the cell that a slot shows once its presence is stored is right
shows_absent : (b : Batch) (x : Slot) (c : Cell) → IsRightCell b x c → presence_of c ≡ Absent → IsRightCell b x cells.Absent
shows_absent b x cells.Absent right e = right
shows_absent b x (cells.Present z) right e = absurd cc

shows_present : (b : Batch) (s : State) (p : ℕ) (x : Slot) (c : Cell) → IsTrueOf b s p (s.views p) → HasStored (s.views p) x c → presence_of c ≡ Present
    → IsRightCell b x (cells.Present (s.values x))
shows_present b s p x cells.Absent k has e = absurd cc
shows_present b s p x (cells.Present z) k has e = k.stored x has

presence_keeps : (b : Batch) (s : State) (p : ℕ) (x : Slot) (c : Cell) → IsLawful b s → (s.views p).right ≡ rights_of b → MayFill b s p x c
    → HasStored (s.views p) x c → Advances b s (next_state s (FillPresence p x c))
presence_keeps b s p x c kept own may has =
    let k = kept.each p in
    let w : Option Presence = Some (presence_of c) in
    let s' : State = record s { presences = slot_update s.presences x w } in
    let right : IsRightCell b x c = fill_right b s p x c kept may in
    let busy : s.positions x.txn ≡ Claimed p = k.held x.txn may.holds in
    let g : Grows b s s' = presence_grows b s x c kept.sound right in
    let sound : IsSound b s' = record {
      absent = λ y. slot_cases (λ v. v ≡ Some Absent → IsRightCell b y cells.Absent) s.presences x w y
          (λ e h. subst (λ (u : Slot). IsRightCell b u cells.Absent) (sym e) (shows_absent b x c right (same_Some (presence_of c) Absent h)))
          (λ _. kept.sound.absent y);
      present = λ y. slot_cases (λ v. v ≡ Some Present → IsRightCell b y (cells.Present (s.values y))) s.presences x w y
          (λ e h. subst (λ (u : Slot). IsRightCell b u (cells.Present (s.values u))) (sym e)
          (shows_present b s p x c k has (same_Some (presence_of c) Present h))) (λ _. kept.sound.present y);
      inside = kept.sound.inside;
      outcomes = kept.sound.outcomes;
      whole = λ y o is h. let (j, e) = kept.sound.whole y o is h in (j, g.filled y j e);
      untouched = λ y h. slot_cases (λ v. v ≡ None) s.presences x w y
          (λ e. let no : Open ≡ Claimed p = sym h ∙ (ap (λ (u : Slot). s.positions u.txn) e ∙ busy) in absurd cc) (λ _. kept.sound.untouched y h);
    } in
    let here : s'.presences x ≡ w = slot_cases (λ v. v ≡ w) s.presences x w x (λ _. refl) (λ ne. absurd (ne refl)) in
    let old : IsTrueOf b s' p (s.views p) = true_on b s s' p (s.views p) g k.held k in
    let mine : IsTrueOf b s' p (after_presence_store (s.views p) x) = record {
      done = old.done;
      busy = old.busy;
      absent = old.absent;
      present = old.present;
      held = old.held;
      stored = old.stored;
      filled = more (IsFull s') (s.views p).filled x old.filled (presence_of c, here);
      named = inr own;
    } in
    moved b s s' p (after_presence_store (s.views p) x) kept g sound mine (λ q t ne h. h) (λ q t ne h. h) (kept.held p)

-- ---- copied and joined views are true

true_copied : (b : Batch) (s : State) (p q : ℕ) (v : View) → v.right ≡ rights_of b → v.held ≡ None → IsTrueOf b s p v → IsTrueOf b s q (after_split v)
true_copied b s p q v own free k = record {
  done = k.done;
  busy = k.busy;
  absent = k.absent;
  present = k.present;
  held = λ t h. let no : None ≡ Some t = sym free ∙ h in absurd cc;
  stored = k.stored;
  filled = k.filled;
  named = inr own;
}

true_joined : (b : Batch) (s : State) (p q : ℕ) (v w : View) → v.right ≡ rights_of b → IsTrueOf b s p v → IsTrueOf b s q w → IsTrueOf b s p (after_join v w)
true_joined b s p q v w own k j = record {
  done = both (λ t. (o : Outcome) × (s.positions t ≡ Done o)) v.done w.done k.done j.done;
  busy = both (λ t. s.positions t ≢ Open) v.busy w.busy k.busy j.busy;
  absent = both (λ x. s.presences x ≡ Some Absent) v.absent w.absent k.absent j.absent;
  present = both (λ x. s.presences x ≡ Some Present) v.present w.present k.present j.present;
  held = k.held;
  stored = k.stored;
  filled = k.filled;
  named = inr own;
}

-- ---- each event preserves the law

pub advances : (b : Batch) (s : State) (e : Event) → IsLawful b s → IsAllowed b s e → Advances b s (next_state s e)
advances b s (LookPresence p x answer) kept may = relearnt b s p (after_presence_look (s.views p) x answer) kept
    (true_learnt b s p (s.views p) x answer may.2 may.0 (kept.each p)) (held_learnt (s.views p) x answer)
advances b s (LookValue p x answer) kept may = record { lawful = kept; grows = still b s s.views }
advances b s (Status p t answer) kept may = relearnt b s p (after_status (s.views p) t answer) kept
    (true_saw b s p (s.views p) t answer may.3 may.0 (kept.each p)) (held_saw (s.views p) t answer)
advances b s (Claim p t won.Mine) kept may = claim_keeps b s p t kept may.0 may.1 may.2 (won_mine (s.positions t) may.3)
advances b s (Claim p t won.Busy) kept may = relearnt b s p (after_status (s.views p) t seen.Busy) kept
    (true_saw b s p (s.views p) t seen.Busy may.3 may.0 (kept.each p)) refl
advances b s (Claim p t won.Done) kept may = relearnt b s p (after_status (s.views p) t seen.Done) kept
    (true_saw b s p (s.views p) t seen.Done may.3 may.0 (kept.each p)) refl
advances b s (FillValue p x z) kept may = value_keeps b s p x z kept may.0 may.1
advances b s (FillPresence p x c) kept may = presence_keeps b s p x c kept may.0 may.1 may.2
advances b s (Finish p t o) kept may = finish_keeps b s p t o kept may.0 may.1
advances b s (Split p q) kept may = relearnt b s q (after_split (s.views p)) kept (true_copied b s p q (s.views p) may.0 may.1 (kept.each p))
    (may.1 ∙ sym (ap (λ (v : View). v.held) may.2))
advances b s (Join p q) kept may =
    let v' : View = after_join (s.views p) (s.views q) in
    let s' : State = record s { views = point_update s.views p v' } in
    let first = relearnt b s p v' kept (true_joined b s p q (s.views p) (s.views q) may.0 (kept.each p) (kept.each q)) refl in
    let there : spent_view.held ≡ (s'.views q).held = sym (put_cases (λ (w : View). w.held ≡ None) s.views p v' q (λ e. absurd (may.1 e)) (λ _. may.3)) in
    record {
      lawful = (relearnt b s' q spent_view first.lawful (true_of_newcomer b s' q spent_view.right (inl refl)) there).lawful;
      grows = still b s (point_update s'.views q spent_view);
    }
