-- Everything that a pass observed remains observed in its later views.
use Rattle.std.proofs.Common.{◌≡◌, ◌≢◌, ℕ, zero, suc, List, [], ◌∷◌, ◌++◌, Option, None, Some, refl, sym, ap, ◌∙◌, subst, ⊎_elim, append_assoc}
use Rattle.std.specs.Prelude.{Contains}
use Rattle.std.proofs.lemmas.List.Elements.{Contains-append_cases, Contains-append_left, Contains-append_right, Contains-push}
use Rattle.std.proofs.lemmas.List.{append-nil}
use Rattle.bohm_types.specs.declared.cell.Cell.{Cell}
use Rattle.bohm_types.specs.declared.cell.Cell.TheVariants.{Absent, Present}
use Rattle.bohm_board.specs.declared.batch.Batch.{Batch}
use Rattle.bohm_board.specs.declared.slot.Slot.{Slot}
use Rattle.bohm_board.specs.declared.status.Status.{Status}
use Rattle.bohm_board.specs.declared.status.Status.TheVariants.{Open, Busy, Done}
use Rattle.bohm_board.specs.declared.knowledge.View.{View}
use Rattle.bohm_board.specs.Passes.{Continues, Keeps, IsDone, IsKnown}
use Rattle.bohm_board.specs.Views.{Knows, after_status, after_claim, after_presence_look, after_look, after_join}
use Rattle.bohm_board.specs.Views as views
use Rattle.bohm_board.specs.Encoding.{presence_at}

pub same_on : {A : Type 0} (xs : List A) → Continues xs xs
same_on xs = ([], sym (append-nil xs))

pub one_more : {A : Type 0} (xs : List A) (x : A) → Continues xs (xs ++ x ∷ [])
one_more xs x = (x ∷ [], refl)

pub further_on : {A : Type 0} (xs ys zs : List A) → Continues xs ys → Continues ys zs → Continues xs zs
further_on {A} xs ys zs a b = (a.0 ++ b.0, b.1 ∙ (ap (λ (l : List A). l ++ b.0) a.1 ∙ append_assoc xs a.0 b.0))

pub continues_contains : {A : Type 0} (xs ys : List A) (x : A) → Continues xs ys → Contains xs x → Contains ys x
continues_contains {A} xs ys x c h = subst (λ (l : List A). Contains l x) (sym c.1) (Contains-append_left xs c.0 x h)

-- ---- each change of a view keeps everything that was observed

pub keeps_same : (v : View) → Keeps v v
keeps_same v = record { right = refl; done = same_on v.done; busy = same_on v.busy; absent = same_on v.absent; present = same_on v.present }

pub keeps_then : (u v w : View) → Keeps u v → Keeps v w → Keeps u w
keeps_then u v w a b = record {
  right = b.right ∙ a.right;
  done = further_on u.done v.done w.done a.done b.done;
  busy = further_on u.busy v.busy w.busy a.busy b.busy;
  absent = further_on u.absent v.absent w.absent a.absent b.absent;
  present = further_on u.present v.present w.present a.present b.present;
}

-- the later view may be replaced by an equal view
pub keeps_along : (u v w : View) → w ≡ v → Keeps u v → Keeps u w
keeps_along u v w e k = subst (λ (z : View). Keeps u z) (sym e) k

pub keeps_saw : (v : View) (i : ℕ) (s : Status) → Keeps v (after_status v i s)
keeps_saw v i Open = keeps_same v
keeps_saw v i Busy = record { right = refl; done = same_on v.done; busy = one_more v.busy i; absent = same_on v.absent; present = same_on v.present }
keeps_saw v i Done = record { right = refl; done = one_more v.done i; busy = same_on v.busy; absent = same_on v.absent; present = same_on v.present }

pub keeps_claimed : (v : View) (i : ℕ) (s : Status) → Keeps v (after_claim v i s)
keeps_claimed v i Open = record { right = refl; done = same_on v.done; busy = same_on v.busy; absent = same_on v.absent; present = same_on v.present }
keeps_claimed v i Busy = keeps_saw v i Busy
keeps_claimed v i Done = keeps_saw v i Done

pub keeps_looked : (v : View) (k : Slot) (answer : Option Cell) → Keeps v (after_look v k answer)
keeps_looked v k None = keeps_same v
keeps_looked v k (Some Absent) = record {
  right = refl;
  done = same_on v.done;
  busy = same_on v.busy;
  absent = one_more v.absent k;
  present = same_on v.present;
}
keeps_looked v k (Some (Present z)) = record {
  right = refl;
  done = same_on v.done;
  busy = same_on v.busy;
  absent = same_on v.absent;
  present = one_more v.present k;
}

pub keeps_joined : (v w : View) → Keeps v (after_join v w)
keeps_joined v w = record { right = refl; done = (w.done, refl); busy = (w.busy, refl); absent = (w.absent, refl); present = (w.present, refl) }

-- ---- positions seen Done and known slots, in later views

pub still_done : (b : Batch) (v w : View) (t : ℕ) → Keeps v w → IsDone b v t → IsDone b w t
still_done b v w t k h = continues_contains v.done w.done _ k.done h

pub knows_on : (v w : View) (k : Slot) → Keeps v w → Knows v k → Knows w k
knows_on v w k keeps h = ⊎_elim
    (λ (a : Contains v.absent k). Contains-append_left w.absent w.present k (continues_contains v.absent w.absent k keeps.absent a))
    (λ (p : Contains v.present k). Contains-append_right w.absent w.present k (continues_contains v.present w.present k keeps.present p))
    (Contains-append_cases v.absent v.present k h)

pub still_known : (b : Batch) (v w : View) (s : Slot) → Keeps v w → IsKnown b v s → IsKnown b w s
still_known b v w s keeps h = knows_on v w _ keeps h

-- after a look that finds a cell, the slot is known
pub knows_looked : (v : View) (k : Slot) (c : Cell) → Knows (after_look v k (Some c)) k
knows_looked v k Absent = Contains-append_left (v.absent ++ k ∷ []) v.present k (Contains-append_right v.absent (k ∷ []) k (Contains-push [] k))
knows_looked v k (Present z) = Contains-append_right v.absent (v.present ++ k ∷ []) k (Contains-append_right v.present (k ∷ []) k (Contains-push [] k))

-- a position that the second of two joined views has as Done is Done in the join
pub joined_done : (b : Batch) (v w : View) (t : ℕ) → IsDone b w t → IsDone b (after_join v w) t
joined_done b v w t h = Contains-append_right v.done w.done _ h

-- after a look at a presence word other than 0 and 1, the slot is known as `Present`
pub learnt_present : (v : View) (k : Slot) (n : ℕ) → n ≢ 0 → n ≢ 1 → Contains (after_presence_look v k (presence_at n)).present k
learnt_present v k zero some_cell not_absent = absurd (some_cell refl)
learnt_present v k (suc zero) some_cell not_absent = absurd (not_absent refl)
learnt_present v k (suc (suc n)) some_cell not_absent = Contains-push v.present k

pub present_from : (n : ℕ) → n ≢ 0 → n ≢ 1 → presence_at n ≡ Some views.Present
present_from zero some_cell not_absent = absurd (some_cell refl)
present_from (suc zero) some_cell not_absent = absurd (not_absent refl)
present_from (suc (suc n)) some_cell not_absent = refl
