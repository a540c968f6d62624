-- Each step of the plan queue keeps its rule.
use Rattle.std.proofs.Common.{◌≡◌, ◌≢◌, ℕ, ◌+◌, zero, suc, true, false, true≢false, List, [], ◌∷◌, ◌++◌, length, set, sym}
use Rattle.std.proofs.Common.{refl, ap, ◌∙◌, subst, ⊎_elim, append_assoc, Option, arith, add-zero, All, IsSome, IsNone}
use mathlib.Core.Option.{some, some-ne-none}
use lib.ListN.{get_elem?}
use Rattle.crossbeam_channel.specs.Fifo.{Pushes, Pops, Forks}
use Rattle.atomic_table.proofs.Lists.{at_set, at_snoc}
use Rattle.bohm_place.specs.Plans.{Planned}
use Rattle.bohm_apply.specs.declared.plan_queue.rule.End.{End}
use Rattle.bohm_apply.specs.declared.plan_queue.note.PlanNote.{PlanNote}
use Rattle.bohm_place.specs.Cuttings.{Cutting}
use Rattle.bohm_apply.specs.Lines.{end_of, Fits, IsInOrder, IsLine, IsNoteAt}

at_end : (l : List End) (a b : End) (j : ℕ) → get_elem? l j ≢ some b → get_elem? (l ++ a ∷ []) j ≡ some b → j ≡ length l
at_end [] a b zero n e = refl
at_end [] a b (suc j) n e = absurd (some-ne-none b (sym e))
at_end (x ∷ xs) a b zero n e = absurd (n e)
at_end (x ∷ xs) a b (suc j) n e = ap suc (at_end xs a b j n e)

-- F holds for each end and its port
abbrev Each : (ℕ → End → Type 0) → List End → Type 0
Each F views = (port : ℕ) (v : End) → get_elem? views port ≡ some v → F port v

each_set : (F : ℕ → End → Type 0) (views : List End) (port : ℕ) (w : End) → F port w → ((j : ℕ) (u : End) → j ≢ port → get_elem? views j ≡ some u → F j u)
    → Each F (set views port w)
each_set F views port w mine others j u e = ⊎_elim (λ (x : (j ≡ port) × (w ≡ u)). subst (λ (y : ℕ × End). F y.0 y.1) (λ i. (sym x.0 i, x.1 i)) mine)
    (λ (x : (j ≢ port) × (get_elem? views j ≡ some u)). others j u x.0 x.1) (at_set views port j w u e)

abbrev both : End
both = end_of true true [] []

pub begins : (c : Cutting) → IsInOrder c [] (both ∷ [])
begins c = record {
  sender = 0;
  receiver = 0;
  sent = [];
  taken = [];
  held = refl;
  line = tt;
  fit = each_set (Fits 0 0 [] []) (both ∷ []) 0 both ((λ _. (refl, refl)), λ _. (refl, refl))
      (λ j u other e. absurd (other (at_end [] _ u j (λ x. some-ne-none u (sym x)) e)));
}

pub sends : (c : Cutting) (n port : ℕ) (v : End) (x : PlanNote) → v.sends ≡ true → IsLine c 0 (v.sent ++ x ∷ [])
    → Pushes (IsInOrder c) n port v x (λ w. w ≡ end_of v.sends v.takes (v.sent ++ x ∷ []) v.taken)
sends c n port v x may line items views _ h at =
    let w : End = end_of v.sends v.takes (v.sent ++ x ∷ []) v.taken in
    let mine = h.fit port v at in
    let sent = h.sent ++ x ∷ [] in (
      w,
      record {
        sender = h.sender;
        receiver = h.receiver;
        sent = sent;
        taken = h.taken;
        held = ap (λ l. l ++ x ∷ []) h.held ∙ append_assoc h.taken items (x ∷ []);
        line = subst (λ (l : List PlanNote). IsLine c 0 (l ++ x ∷ [])) (mine.0 may).1 line;
        fit = each_set (Fits h.sender h.receiver sent h.taken) views port w ((λ _. ((mine.0 may).0, ap (λ l. l ++ x ∷ []) (mine.0 may).1)), mine.1)
            (λ j u other e. ((λ p. absurd (other (((h.fit j u e).0 p).0 ∙ sym (mine.0 may).0))), (h.fit j u e).1));
      },
      refl,
    )

is_nil : (xs ys : List PlanNote) → xs ++ ys ≡ [] → xs ≡ []
is_nil [] ys e = refl
is_nil (x ∷ xs) ys e = absurd (cc)

-- a prefix of a line (`IsLine`) is a line
line_begin : (c : Cutting) (i : ℕ) (xs ys : List PlanNote) → IsLine c i (xs ++ ys) → IsLine c i xs
line_begin c i [] ys h = tt
line_begin c i (x ∷ xs) ys h = (h.0, (λ none. is_nil xs ys (h.1 none)), line_begin c (i + 1) xs ys h.2)

pub gets : (c : Cutting) (port : ℕ) (v : End) → v.takes ≡ true
    → Pops (IsInOrder c) port v (λ x w. (w ≡ end_of v.sends v.takes v.sent (v.taken ++ x ∷ [])) × IsLine c 0 (v.taken ++ x ∷ []))
gets c port v may x items views h at =
    let w : End = end_of v.sends v.takes v.sent (v.taken ++ x ∷ []) in
    let mine = h.fit port v at in
    let taken = h.taken ++ x ∷ [] in
    let whole : h.sent ≡ taken ++ items = h.held ∙ sym (append_assoc h.taken (x ∷ []) items) in
    let line : IsLine c 0 taken = line_begin c 0 taken items (subst (λ (l : List PlanNote). IsLine c 0 l) whole h.line) in (
      w,
      record {
        sender = h.sender;
        receiver = h.receiver;
        sent = h.sent;
        taken = taken;
        held = whole;
        line = h.line;
        fit = each_set (Fits h.sender h.receiver h.sent taken) views port w (mine.0, λ _. ((mine.1 may).0, ap (λ l. l ++ x ∷ []) (mine.1 may).1))
            (λ j u other e. ((h.fit j u e).0, λ p. absurd (other (((h.fit j u e).1 p).0 ∙ sym (mine.1 may).0))));
      },
      (refl, subst (λ (l : List PlanNote). IsLine c 0 (l ++ x ∷ [])) (sym (mine.1 may).1) line),
    )

pub forks : (c : Cutting) (port : ℕ) (v : End) → v.sends ≡ true → v.takes ≡ true
    → Forks (IsInOrder c) port v (end_of true false v.sent []) (end_of false true [] v.taken)
forks c port v a b items views h at =
    let l : End = end_of true false v.sent [] in
    let r : End = end_of false true [] v.taken in
    let mine = h.fit port v at in
    let vs : List End = set views port l in
    let Old : ℕ → End → Type 0 = λ j u. (u.sends ≡ true → (j ≡ h.sender) × (u.sent ≡ h.sent)) × (u.takes ≢ true) in
    let old : Each Old vs = each_set Old views port l ((λ _. mine.0 a), λ p. true≢false (sym p))
    (λ j u other e. ((h.fit j u e).0, λ p. other (((h.fit j u e).1 p).0 ∙ sym (mine.1 b).0))) in
    record {
      sender = h.sender;
      receiver = length vs;
      sent = h.sent;
      taken = h.taken;
      held = h.held;
      line = h.line;
      fit = λ j u e. ⊎_elim (λ x. ((old j u x).0, λ p. absurd ((old j u x).1 p)))
          (λ (is : r ≡ u). (
            (λ p. absurd (true≢false (sym (ap (λ (y : End). y.sends) is ∙ p)))),
            λ p. (at_end vs r u j (λ x. (old j u x).1 p) e, ap (λ (y : End). y.taken) (sym is) ∙ (mine.1 b).1),
          )) (at_snoc vs r u j e);
    }

some_not_none : (o : Option Planned) → IsSome o → IsNone o → ⊥
some_not_none o s n = true≢false (sym s ∙ n)

-- a line whose notes all have plans is still a line when the note of the next batch is appended
line_more : (c : Cutting) (i : ℕ) (xs : List PlanNote) (x : PlanNote) → IsLine c i xs → All (λ y. IsSome y.plan) xs → IsNoteAt c (i + length xs) x
    → IsLine c i (xs ++ x ∷ [])
line_more c i [] x line going note = (subst (λ n. IsNoteAt c n x) (add-zero i) note, (λ _. refl), tt)
line_more c i (y ∷ ys) x line going note =
    let rest : All (λ z. IsSome z.plan) ys = λ k d l. going (suc k) d (omega arith) in
    let same : i + length (y ∷ ys) ≡ (i + 1) + length ys = omega arith in (
      line.0,
      (λ none. absurd (some_not_none y.plan (going 0 y (omega arith)) none)),
      line_more c (i + 1) ys x line.2 rest (subst (λ n. IsNoteAt c n x) same note),
    )

-- the last note of a line is of the batch that follows the batches of the other notes
line_last : (c : Cutting) (i : ℕ) (xs : List PlanNote) (x : PlanNote) → IsLine c i (xs ++ x ∷ []) → IsNoteAt c (i + length xs) x
line_last c i [] x line = subst (λ n. IsNoteAt c n x) (sym (add-zero i)) line.0
line_last c i (y ∷ ys) x line =
    let same : (i + 1) + length ys ≡ i + length (y ∷ ys) = omega arith in
    subst (λ n. IsNoteAt c n x) same (line_last c (i + 1) ys x line.2)

pub line_next : (c : Cutting) (xs : List PlanNote) (x : PlanNote) → IsLine c 0 xs → All (λ y. IsSome y.plan) xs → IsNoteAt c (length xs) x
    → IsLine c 0 (xs ++ x ∷ [])
line_next c xs x line going note =
    let same : length xs ≡ 0 + length xs = omega arith in
    line_more c 0 xs x line going (subst (λ n. IsNoteAt c n x) same note)

pub line_end : (c : Cutting) (xs : List PlanNote) (x : PlanNote) → IsLine c 0 (xs ++ x ∷ []) → IsNoteAt c (length xs) x
line_end c xs x line =
    let same : 0 + length xs ≡ length xs = omega arith in
    subst (λ n. IsNoteAt c n x) same (line_last c 0 xs x line)

-- an end that only sends still only sends after it has sent one more note
pub sender_after : (v w : End) (x : PlanNote) → v ≡ end_of true false v.sent [] → w ≡ record v { sent = v.sent ++ x ∷ [] } → w ≡ end_of true false w.sent []
sender_after v w x was is = rw is (ap (λ (u : End). record u { sent = v.sent ++ x ∷ [] }) was)

-- an end that only takes still only takes after it has taken one more note
pub receiver_after : (v w : End) (x : PlanNote) → v ≡ end_of false true [] v.taken → w ≡ record v { taken = v.taken ++ x ∷ [] }
    → w ≡ end_of false true [] w.taken
receiver_after v w x was is = rw is (ap (λ (u : End). record u { taken = v.taken ++ x ∷ [] }) was)
