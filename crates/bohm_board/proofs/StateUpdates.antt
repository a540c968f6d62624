-- A change of one word or view of a table shows the same change of the state.
use Rattle.std.proofs.Common.{◌≡◌, ◌≢◌, ℕ, ◌+◌, ◌-◌, ◌<◌, List, ◌++◌, length, get_or, set, sym, ap, ◌∙◌, subst, arith, get_or-set_other}
use Rattle.std.proofs.Common.{get_or-set_same, zero, suc, [], ◌∷◌, ext_get_or, zero-add, add_assoc, ◌≤◌, refl, ⊎_elim, Option, length-set}
use mathlib.Core.Option.{some, some-injective, some-ne-none}
use lib.ListN.{get_elem?}
use mathlib.Core.Logic.{dite}
use native.Mathlib.Decide.{ℕ_discrete}
use Rattle.std.proofs.lemmas.List.{set-append_left, set-append_right, get_or_append_left, get_or-append_right, length-append, get_or_past}
use Rattle.bohm_board.specs.Shown.{Words, all_words, AreShown}
use Rattle.std.proofs.lemmas.Bool.{cases_lt}
use Rattle.bohm_board.specs.declared.batch.Batch.{Batch}
use Rattle.bohm_board.specs.declared.slot.Slot.{Slot}
use Rattle.bohm_board.specs.declared.knowledge.View.{View}
use Rattle.bohm_board.specs.Batches.{position, number, IsIn, IsSlot}
use Rattle.bohm_board.specs.Core.{Progress, State}
use Rattle.bohm_board.specs.Events.{point_update, slot_update}
use Rattle.bohm_board.specs.Views.{Presence}
use Rattle.bohm_board.specs.Encoding.{progress_word, presence_word, value_at}
use Rattle.bohm_board.proofs.BoardLaw.{put_cases, slot_cases}
use Rattle.bohm_board.proofs.SlotNumbers.{number_inside, one_number, one_position, position_inside}
use Rattle.bohm_board.proofs.SlotPlaces.{outcomes_long}

-- a property of the word at j after a store at i, by cases on whether j is i
pub put_at : (P : ℕ → Type 0) (xs : List ℕ) (i x j : ℕ) → i < length xs → (j ≡ i → P x) → (j ≢ i → P (get_or xs j 0)) → P (get_or (set xs i x) j 0)
put_at P xs i x j inside here other = dite (ℕ_discrete j i)
    (λ e. subst P (sym (ap (λ (z : ℕ). get_or (set xs i x) z 0) e ∙ get_or-set_same xs i x 0 inside)) (here e))
    (λ ne. subst P (sym (get_or-set_other xs i j x 0 ne)) (other ne))

less : (n k : ℕ) → (n + k) - n ≡ k
less n k = omega arith

pub status_in : (w : Words) (t : ℕ) → t < length w.statuses → get_or (all_words w) t 0 ≡ get_or w.statuses t 0
status_in w t h = get_or_append_left w.statuses (w.presences ++ w.values) 0 t h

pub presence_in : (w : Words) (n k : ℕ) → length w.statuses ≡ n → k < length w.presences → get_or (all_words w) (n + k) 0 ≡ get_or w.presences k 0
presence_in w n k e h = get_or-append_right w.statuses (w.presences ++ w.values) n (n + k) 0 e (omega arith)
    ∙ (ap (λ (z : ℕ). get_or (w.presences ++ w.values) z 0) (less n k) ∙ get_or_append_left w.presences w.values 0 k h)

pub value_in : (w : Words) (n m k : ℕ) → length w.statuses ≡ n → length w.presences ≡ m → get_or (all_words w) (n + (m + k)) 0 ≡ get_or w.values k 0
value_in w n m k e d = get_or-append_right w.statuses (w.presences ++ w.values) n (n + (m + k)) 0 e (omega arith)
    ∙ (ap (λ (z : ℕ). get_or (w.presences ++ w.values) z 0) (less n (m + k))
    ∙ (get_or-append_right w.presences w.values m (m + k) 0 d (omega arith) ∙ ap (λ (z : ℕ). get_or w.values z 0) (less m k)))

pub status_put : (w : Words) (t x : ℕ) → t < length w.statuses → set (all_words w) t x ≡ all_words (record w { statuses = set w.statuses t x })
status_put w t x h = set-append_left w.statuses (w.presences ++ w.values) t x h

pub presence_put : (w : Words) (n k x : ℕ) → length w.statuses ≡ n → k < length w.presences
    → set (all_words w) (n + k) x ≡ all_words (record w { presences = set w.presences k x })
presence_put w n k x e h = set-append_right w.statuses (w.presences ++ w.values) n (n + k) x e (omega arith)
    ∙ ap (λ (ys : List ℕ). w.statuses ++ ys) (ap (λ (z : ℕ). set (w.presences ++ w.values) z x) (less n k) ∙ set-append_left w.presences w.values k x h)

pub value_put : (w : Words) (n m k x : ℕ) → length w.statuses ≡ n → length w.presences ≡ m
    → set (all_words w) (n + (m + k)) x ≡ all_words (record w { values = set w.values k x })
value_put w n m k x e d = set-append_right w.statuses (w.presences ++ w.values) n (n + (m + k)) x e (omega arith)
    ∙ ap (λ (ys : List ℕ). w.statuses ++ ys) (ap (λ (z : ℕ). set (w.presences ++ w.values) z x) (less n (m + k))
    ∙ (set-append_right w.presences w.values m (m + k) x d (omega arith) ∙ ap (λ (z : ℕ). w.presences ++ set w.values z x) (less m k)))

pub found_at : {A : Type 0} (xs : List A) (i : ℕ) (x d : A) → get_elem? xs i ≡ some x → (i < length xs) × (get_or xs i d ≡ x)
found_at [] i x d e = absurd (some-ne-none x (sym e))
found_at (y ∷ ys) zero x d e = (omega arith, some-injective y x e)
found_at (y ∷ ys) (suc i) x d e = let found = found_at ys i x d e in let inside = found.0 in (omega arith, found.1)

-- three lists with all words of a table, in the table's order, are its status, presence and value words
pub same_words : (w : Words) (ws xs ps vs : List ℕ) → ws ≡ all_words w → length xs ≡ length w.statuses → length ps ≡ length w.presences
    → length vs ≡ length w.values
    → ((j : ℕ) → j < length xs → get_or xs j 0 ≡ get_or ws (0 + j) 0)
    → ((j : ℕ) → j < length ps → get_or ps j 0 ≡ get_or ws (length xs + j) 0)
    → ((j : ℕ) → j < length vs → get_or vs j 0 ≡ get_or ws (length xs + length ps + j) 0)
    → w ≡ record { statuses = xs; presences = ps; values = vs }
same_words w ws xs ps vs line a b c at_a at_b at_c =
    let ea : xs ≡ w.statuses = ext_get_or 0 xs w.statuses a
    (λ j h. at_a j h ∙ (ap (λ (z : List ℕ). get_or z (0 + j) 0) line
    ∙ (ap (λ (z : ℕ). get_or (all_words w) z 0) (zero-add j) ∙ status_in w j (omega arith)))) in
    let eb : ps ≡ w.presences = ext_get_or 0 ps w.presences b
    (λ j h. at_b j h ∙ (ap (λ (z : List ℕ). get_or z (length xs + j) 0) line ∙ presence_in w (length xs) j (sym a) (omega arith))) in
    let ec : vs ≡ w.values = ext_get_or 0 vs w.values c (λ j h. at_c j h ∙ (ap (λ (z : List ℕ). get_or z (length xs + length ps + j) 0) line
    ∙ (ap (λ (z : ℕ). get_or (all_words w) z 0) (add_assoc (length xs) (length ps) j) ∙ value_in w (length xs) (length ps) j (sym a) (sym b)))) in
    λ i. record { statuses = sym ea i; presences = sym eb i; values = sym ec i }

-- ---- the words and views of a changed state

-- ---- one word changes

pub same_shown : (b : Batch) (w : Words) (s : State) (views : ℕ → View) → AreShown b w s → AreShown b w (record s { views = views })
same_shown b w s views shown = record { sized = shown.sized; positions = shown.positions; presences = shown.presences; values = shown.values }

-- the progress of t becomes o, and the status word of t is stored
pub status_shown : (b : Batch) (w : Words) (s : State) (views : ℕ → View) (t : ℕ) (o : Progress) → IsIn b t → AreShown b w s
    → AreShown b (record w { statuses = set w.statuses (position b t) (progress_word o) })
    (record s { positions = point_update s.positions t o; views = views })
status_shown b w s views t o is shown =
    let n : ℕ = progress_word o in
    let ws : List ℕ = set w.statuses (position b t) n in
    let long = shown.sized.statuses in
    let inside : position b t < length w.statuses = omega (arith, position_inside b t is, outcomes_long b) in record {
      sized = record { statuses = length-set w.statuses (position b t) n ∙ long; presences = shown.sized.presences; values = shown.sized.values };
      positions = λ u other. put_cases (λ z. get_or ws (position b u) 0 ≡ progress_word z) s.positions t o u
          (λ e. ap (λ (z : ℕ). get_or ws (position b z) 0) e ∙ get_or-set_same w.statuses (position b t) n 0 inside)
          (λ ne. get_or-set_other w.statuses (position b t) (position b u) n 0 (λ same. ne (one_position b u t other is same)) ∙ shown.positions u other);
      presences = shown.presences;
      values = shown.values;
    }

-- the presence of x becomes k, and the presence word of x is stored
pub presence_shown : (b : Batch) (w : Words) (s : State) (views : ℕ → View) (x : Slot) (k : Option Presence) → IsSlot b x → AreShown b w s
    → AreShown b (record w { presences = set w.presences (number b x) (presence_word k) }) (record s { presences = slot_update s.presences x k; views = views })
presence_shown b w s views x k is shown =
    let n : ℕ = presence_word k in
    let ws : List ℕ = set w.presences (number b x) n in
    let long = shown.sized.presences in
    let inside : number b x < length w.presences = omega (arith, number_inside b x is) in record {
      sized = record { statuses = shown.sized.statuses; presences = length-set w.presences (number b x) n ∙ long; values = shown.sized.values };
      positions = shown.positions;
      presences = λ y other. slot_cases (λ z. get_or ws (number b y) 0 ≡ presence_word z) s.presences x k y
          (λ e. ap (λ (z : Slot). get_or ws (number b z) 0) e ∙ get_or-set_same w.presences (number b x) n 0 inside)
          (λ ne. get_or-set_other w.presences (number b x) (number b y) n 0 (λ same. ne (one_number b y x other is same)) ∙ shown.presences y other);
      values = shown.values;
    }

-- the value of x becomes that of the word n, and n is stored as the value word of x
pub value_shown : (b : Batch) (w : Words) (s : State) (views : ℕ → View) (x : Slot) (n : ℕ) → IsSlot b x → AreShown b w s
    → AreShown b (record w { values = set w.values (number b x) n }) (record s { values = slot_update s.values x (value_at n); views = views })
value_shown b w s views x n is shown =
    let ws : List ℕ = set w.values (number b x) n in
    let long = shown.sized.values in
    let inside : number b x < length w.values = omega (arith, number_inside b x is) in record {
      sized = record { statuses = shown.sized.statuses; presences = shown.sized.presences; values = length-set w.values (number b x) n ∙ long };
      positions = shown.positions;
      presences = shown.presences;
      values = λ y other. slot_cases (λ z. value_at (get_or ws (number b y) 0) ≡ z) s.values x (value_at n) y
          (λ e. ap (λ (z : Slot). value_at (get_or ws (number b z) 0)) e ∙ ap value_at (get_or-set_same w.values (number b x) n 0 inside))
          (λ ne. ap value_at (get_or-set_other w.values (number b x) (number b y) n 0 (λ same. ne (one_number b y x other is same))) ∙ shown.values y other);
    }

-- ---- one view changes

-- the view of p becomes w
pub view_put : (d : View) (views : List View) (f : ℕ → View) (p : ℕ) (v w w' : View) → ((q : ℕ) → f q ≡ get_or views q d) → get_elem? views p ≡ some v
    → w ≡ w' → (q : ℕ) → point_update f p w q ≡ get_or (set views p w') q d
view_put d views f p v w w' shown at e q = put_cases (λ z. z ≡ get_or (set views p w') q d) f p w q
    (λ here. e ∙ sym (ap (λ (j : ℕ). get_or (set views p w') j d) here ∙ get_or-set_same views p w' d (found_at views p v d at).0))
    (λ ne. shown q ∙ sym (get_or-set_other views p q w' d ne))

-- a new view w is appended
pub view_added : (d : View) (views : List View) (f : ℕ → View) (w : View) → ((q : ℕ) → f q ≡ get_or views q d) → (q : ℕ)
    → point_update f (length views) w q ≡ get_or (views ++ w ∷ []) q d
view_added d views f w shown q = put_cases (λ z. z ≡ get_or (views ++ w ∷ []) q d) f (length views) w q
    (λ here. sym (get_or-append_right views (w ∷ []) (length views) q d refl (omega (arith, here))
    ∙ (let none : q - length views ≡ 0 = omega (arith, here) in ap (λ (j : ℕ). get_or (w ∷ []) j d) none)))
    (λ ne. shown q ∙ ⊎_elim (λ (below : q < length views). sym (get_or_append_left views (w ∷ []) d q below))
    (λ (past : length views ≤ q). get_or_past views q d past ∙ sym (get_or_past (views ++ w ∷ []) q d (omega (arith, length-append views (w ∷ [])))))
    (cases_lt q (length views)))
