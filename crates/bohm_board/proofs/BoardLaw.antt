-- Consequences of the board law, and its preservation as words and views change.
use Rattle.std.proofs.Common.{◌≡◌, ◌≢◌, ℕ, List, [], ◌∷◌, ◌++◌, Bool, true, false, cond, Some, refl, ap, sym, ◌∙◌, subst, ⊎_elim, inl, inr, arith}
use Rattle.std.specs.Prelude.{Option, Contains, ℤ, ◌⊎◌, ◌<◌, ◌==◌, ◌&&◌}
use Rattle.std.proofs.lemmas.Bool.Decides.{eqb_tells}
use Rattle.std.proofs.lemmas.List.Elements.{Contains-push_cases, Contains-append_cases}
use Rattle.std.proofs.lemmas.Option.{same_Some}
use Rattle.bohm_types.specs.declared.cell.Cell.{Cell}
use Rattle.bohm_types.specs.declared.cell.Cell.TheVariants as cells
use Rattle.bohm_txn.specs.declared.outcome.Outcome.{Outcome}
use Rattle.bohm_board.specs.declared.batch.Batch.{Batch}
use Rattle.bohm_board.specs.declared.slot.Slot.{Slot}
use Rattle.bohm_board.specs.declared.knowledge.Rights.{Rights}
use Rattle.bohm_board.specs.declared.knowledge.View.{View}
use Rattle.bohm_board.specs.Batches.{IsRightCell, rights_of, slot_in}
use Rattle.bohm_board.specs.Core.{Progress, Open, Claimed, Done, State, IsFull, HasWanted, cell_by, cell_in}
use Rattle.bohm_board.specs.Events.{point_update, slot_update, is_slot}
use Rattle.bohm_board.specs.Law.{IsSound, IsTrueOf, IsLawful, Stays}
use Rattle.bohm_board.specs.Views.{Presence, Absent, Present, Holds, KnowsWanted, presence_of, new_view, spent_view}

-- ---- filled slots and their right cells

filled_as : (b : Batch) (s : State) (x : Slot) (k : Presence) → IsSound b s → s.presences x ≡ Some k
    → IsRightCell b x (cell_in s x) × (presence_of (cell_in s x) ≡ k)
filled_as b s x Absent sound e = subst (λ (o : Option Presence). IsRightCell b x (cell_by o (s.values x)) × (presence_of (cell_by o (s.values x)) ≡ Absent))
    (sym e) (sound.absent x e, refl)
filled_as b s x Present sound e = subst (λ (o : Option Presence). IsRightCell b x (cell_by o (s.values x)) × (presence_of (cell_by o (s.values x)) ≡ Present))
    (sym e) (sound.present x e, refl)

-- the cell of a filled slot is right
pub filled_right : (b : Batch) (s : State) (x : Slot) → IsSound b s → IsFull s x → IsRightCell b x (cell_in s x)
filled_right b s x sound filled = (filled_as b s x filled.0 sound filled.1).0

-- a slot has at most one right cell
pub one_cell : (b : Batch) (x : Slot) (c d : Cell) → IsRightCell b x c → IsRightCell b x d → c ≡ d
one_cell b x c d e f = same_Some c d (sym e ∙ f)

-- the presence of a filled slot is that of its right cell
pub presence_right : (b : Batch) (s : State) (x : Slot) (k : Presence) (c : Cell) → IsSound b s → s.presences x ≡ Some k → IsRightCell b x c → presence_of c ≡ k
presence_right b s x k c sound e right =
    let (is, same) = filled_as b s x k sound e in
    ap presence_of (one_cell b x c (cell_in s x) right is) ∙ same

abbrev holder : Progress → ℕ
holder Open = 0
holder (Claimed p) = p
holder (Done o) = 0

pub one_holder : (p q : ℕ) → Claimed p ≡ Claimed q → p ≡ q
one_holder p q e = ap holder e

-- if a view knows each slot that a position wants, each of these slots is filled
pub wanted_filled : (b : Batch) (s : State) (t : ℕ) (v : View) → ((x : Slot) → Contains v.absent x → s.presences x ≡ Some Absent)
    → ((x : Slot) → Contains v.present x → s.presences x ≡ Some Present) → KnowsWanted b v t → HasWanted b s t
wanted_filled b s t v absent present wanted = λ a u in_it e. ⊎_elim
    (λ (c : Contains v.absent (slot_in u a)). (Absent, absent (slot_in u a) c))
    (λ (c : Contains v.present (slot_in u a)). (Present, present (slot_in u a) c))
    (Contains-append_cases v.absent v.present (slot_in u a) (wanted a u in_it e))

-- ---- changes that revert no word

pub record Grows (b : Batch) (s s' : State) : Type 0 where
  pub done : (t : ℕ) (o : Outcome) → s.positions t ≡ Done o → s'.positions t ≡ Done o
  pub busy : (t : ℕ) → s.positions t ≢ Open → s'.positions t ≢ Open
  pub filled : (x : Slot) (k : Presence) → s.presences x ≡ Some k → s'.presences x ≡ Some k
  pub stored : (x : Slot) (z : ℤ) → IsRightCell b x (cells.Present z) → s.values x ≡ z → s'.values x ≡ z

-- a change of only the views reverts no word
pub still : (b : Batch) (s : State) (views : ℕ → View) → Grows b s (record s { views = views })
still b s views = record { done = λ t o h. h; busy = λ t h. h; filled = λ x k h. h; stored = λ x z r h. h }

pub stays : (b : Batch) (s s' : State) → IsSound b s → Grows b s s' → Stays s s'
stays b s s' sound g = record { presences = g.filled; outcomes = g.done; values = λ x e. g.stored x (s.values x) (sound.present x e) refl }

pub true_on : (b : Batch) (s s' : State) (p : ℕ) (v : View) → Grows b s s' → ((t : ℕ) → Holds b v t → s'.positions t ≡ Claimed p) → IsTrueOf b s p v
    → IsTrueOf b s' p v
true_on b s s' p v g held k = record {
  done = λ t c. let (o, e) = k.done t c in (o, g.done t o e);
  busy = λ t c. g.busy t (k.busy t c);
  absent = λ x c. g.filled x Absent (k.absent x c);
  present = λ x c. g.filled x Present (k.present x c);
  held = held;
  stored = λ x c. let right = k.stored x c in subst (λ (z : ℤ). IsRightCell b x (cells.Present z)) (sym (g.stored x (s.values x) right refl)) right;
  filled = λ x c. let (w, e) = k.filled x c in (w, g.filled x w e);
  named = k.named;
}

-- ---- a function with its value at one argument replaced

pub put_cases : {A : Type 0} (P : A → Type 0) (f : ℕ → A) (t : ℕ) (a : A) (u : ℕ) → (u ≡ t → P a) → (u ≢ t → P (f u)) → P (point_update f t a u)
put_cases P f t a u here other = ⊎_elim
    (λ (h : ((u == t) ≡ true) × (u ≡ t)). subst (λ (v : Bool). P (cond v a (f u))) (sym h.0) (here h.1))
    (λ (h : ((u == t) ≡ false) × (u ≢ t)). subst (λ (v : Bool). P (cond v a (f u))) (sym h.0) (other h.1))
    (eqb_tells u t)

slot_tells : (x y : Slot) → ((is_slot x y ≡ true) × (y ≡ x)) ⊎ ((is_slot x y ≡ false) × (y ≢ x))
slot_tells x y = ⊎_elim
    (λ (h : ((y.txn == x.txn) ≡ true) × (y.txn ≡ x.txn)). ⊎_elim
    (λ (g : ((y.index == x.index) ≡ true) × (y.index ≡ x.index)). inl
    (ap (λ (v : Bool). v && (y.index == x.index)) h.0 ∙ g.0, λ i. record { txn = h.1 i; index = g.1 i }))
    (λ (g : ((y.index == x.index) ≡ false) × (y.index ≢ x.index)). inr
    (ap (λ (v : Bool). v && (y.index == x.index)) h.0 ∙ g.0, λ e. g.1 (ap (λ (z : Slot). z.index) e)))
    (eqb_tells y.index x.index))
    (λ (h : ((y.txn == x.txn) ≡ false) × (y.txn ≢ x.txn)). inr (ap (λ (v : Bool). v && (y.index == x.index)) h.0, λ e. h.1 (ap (λ (z : Slot). z.txn) e)))
    (eqb_tells y.txn x.txn)

pub slot_cases : {A : Type 0} (P : A → Type 0) (f : Slot → A) (x : Slot) (a : A) (y : Slot) → (y ≡ x → P a) → (y ≢ x → P (f y)) → P (slot_update f x a y)
slot_cases P f x a y here other = ⊎_elim
    (λ (h : (is_slot x y ≡ true) × (y ≡ x)). subst (λ (v : Bool). P (cond v a (f y))) (sym h.0) (here h.1))
    (λ (h : (is_slot x y ≡ false) × (y ≢ x)). subst (λ (v : Bool). P (cond v a (f y))) (sym h.0) (other h.1))
    (slot_tells x y)

-- ---- the view of one pass changes

-- the law holds in the later state too, and no word was reverted
pub record Advances (b : Batch) (s s' : State) : Type 0 where
  pub lawful : IsLawful b s'
  pub grows : Grows b s s'

-- the law is preserved if p's new view v is true and holds p's claims, and the claims of other passes are unchanged
pub moved : (b : Batch) (s s' : State) (p : ℕ) (v : View) → IsLawful b s → Grows b s s' → IsSound b s' → IsTrueOf b s' p v
    → ((q t : ℕ) → q ≢ p → s.positions t ≡ Claimed q → s'.positions t ≡ Claimed q)
    → ((q t : ℕ) → q ≢ p → s'.positions t ≡ Claimed q → s.positions t ≡ Claimed q)
    → ((t : ℕ) → s'.positions t ≡ Claimed p → Holds b v t)
    → Advances b s (record s' { views = point_update s.views p v })
moved b s s' p v kept g sound mine others back holds = record {
  lawful = record {
    sound = record {
      absent = sound.absent;
      present = sound.present;
      inside = sound.inside;
      outcomes = sound.outcomes;
      whole = sound.whole;
      untouched = sound.untouched;
    };
    each = λ q. put_cases (λ (w : View). IsTrueOf b (record s' { views = point_update s.views p v }) q w) s.views p v q
        (λ e. seen s' (point_update s.views p v) q v (subst (λ (r : ℕ). IsTrueOf b s' r v) (sym e) mine))
        (λ ne. seen s' (point_update s.views p v) q (s.views q) (true_on b s s' q (s.views q) g (λ t h. others q t ne ((kept.each q).held t h)) (kept.each q)));
    held = λ q t h. put_cases (λ (w : View). Holds b w t) s.views p v q (λ e. holds t (subst (λ (r : ℕ). s'.positions t ≡ Claimed r) e h))
        (λ ne. kept.held q t (back q t ne h));
  };
  grows = record { done = g.done; busy = g.busy; filled = g.filled; stored = g.stored };
}
  where
    seen : (r : State) (views : ℕ → View) (q : ℕ) (w : View) → IsTrueOf b r q w → IsTrueOf b (record r { views = views }) q w
    seen r views q w k = record {
      done = k.done;
      busy = k.busy;
      absent = k.absent;
      present = k.present;
      held = k.held;
      stored = k.stored;
      filled = k.filled;
      named = k.named;
    }

-- the law is preserved if no word changes, and p's new view v is true and holds the same position
pub relearnt : (b : Batch) (s : State) (p : ℕ) (v : View) → IsLawful b s → IsTrueOf b s p v → v.held ≡ (s.views p).held
    → Advances b s (record s { views = point_update s.views p v })
relearnt b s p v kept mine same = moved b s s p v kept (still b s s.views) kept.sound mine (λ q t ne h. h) (λ q t ne h. h) (λ t h. same ∙ kept.held p t h)

-- if P holds for x and for each element of xs, P holds for each element of xs with x appended
pub more : {A : Type 0} (P : A → Type 0) (xs : List A) (x : A) → ((y : A) → Contains xs y → P y) → P x → (y : A) → Contains (xs ++ x ∷ []) y → P y
more P xs x all here y c = ⊎_elim (all y) (λ (e : x ≡ y). subst P e here) (Contains-push_cases xs x y c)

pub both : {A : Type 0} (P : A → Type 0) (xs ys : List A) → ((y : A) → Contains xs y → P y) → ((y : A) → Contains ys y → P y) → (y : A)
    → Contains (xs ++ ys) y → P y
both P xs ys left right y c = ⊎_elim (left y) (right y) (Contains-append_cases xs ys y c)

pub nothing_in : {A : Type 0} (x : A) → Contains [] x → ⊥
nothing_in x c = let h : c.0 < 0 = c.1 in omega arith

-- a new view of the batch, or of a consumed pass, is true in every state
pub true_of_newcomer : (b : Batch) (s : State) (p : ℕ) (r : Rights) → (new_view r ≡ spent_view) ⊎ (r ≡ rights_of b) → IsTrueOf b s p (new_view r)
true_of_newcomer b s p r named = record {
  done = λ t c. absurd (nothing_in t c);
  busy = λ t c. absurd (nothing_in t c);
  absent = λ x c. absurd (nothing_in x c);
  present = λ x c. absurd (nothing_in x c);
  held = λ t h. absurd cc;
  stored = λ x c. absurd (nothing_in x c);
  filled = λ x c. absurd (nothing_in x c);
  named = named;
}
