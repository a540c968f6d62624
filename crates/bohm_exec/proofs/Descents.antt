-- The stack of an evaluation on demand, from its start to its top, and the measure that decreases.
use Rattle.std.proofs.Common.{◌≡◌, ◌≢◌, ℕ, zero, suc, ◌+◌, ◌-◌, ◌*◌, ◌<◌, ◌≤◌, Bool, true, false, cond, eqb, List, [], ◌∷◌, ◌++◌, length, get_or}
use Rattle.std.proofs.Common.{sym, refl, ap, ◌∙◌, subst, ⊎_elim, Option, None, Some, arith, eq-eqb, ne_eqb, length-append, mul-le-mul_right, suc-mul}
use Rattle.std.specs.Prelude.{Contains, MatchOption}
use Rattle.std.specs.Option.{option_to_list}
use Rattle.std.proofs.lemmas.List.{get_or_append_left, length_push}
use Rattle.std.proofs.lemmas.List.Elements.{Contains-push_cases}
use Rattle.std.proofs.lemmas.Grind.{get_or_default_zero}
use mathlib.Core.Logic.{dite}
use native.Mathlib.Decide.{ℕ_discrete}
use Rattle.bohm_board.specs.declared.batch.Batch.{Batch}
use Rattle.bohm_board.specs.Batches.{IsIn, Wants, Leads, itself, further, first_of, position, txns_of}
use Rattle.bohm_board.proofs.ForCallers.{wanted_earlier}

-- the number of positions of the batch
abbrev pub count_of : Batch → ℕ
count_of b = length (txns_of b)

-- the first timestamp after the batch
abbrev pub end_of : Batch → ℕ
end_of b = first_of b + length (txns_of b)

-- the start leads to each position of the stack, positions descend, and those above the start weren't seen Done
pub record IsDescent (b : Batch) (start : ℕ) (done xs : List ℕ) : Type 0 where
  pub some : 0 < length xs
  pub inside : (i : ℕ) → i < length xs → IsIn b (get_or xs i 0)
  pub below : (i : ℕ) → i < length xs → position b (get_or xs i 0) + i < count_of b
  pub leads : (i : ℕ) → i < length xs → Leads b start (get_or xs i 0)
  pub falls : (i j : ℕ) → i < j → j < length xs → get_or xs j 0 < get_or xs i 0
  pub fresh : (i : ℕ) → 0 < i → i < length xs → ¬ Contains done (get_or xs i 0)
  pub first : get_or xs 0 0 ≡ start

abbrev pub top_of : List ℕ → ℕ
top_of xs = get_or xs (length xs - 1) 0

at_end : (xs : List ℕ) (u : ℕ) → get_or (xs ++ u ∷ []) (length xs) 0 ≡ u
at_end [] u = refl
at_end (x ∷ xs) u = at_end xs u

-- a property of each element of xs, and of u, holds for each element of xs followed by u
at_push : (P : ℕ → ℕ → Type 0) (xs : List ℕ) (u i : ℕ) → i < length (xs ++ u ∷ []) → (i < length xs → P i (get_or xs i 0)) → P (length xs) u
    → P i (get_or (xs ++ u ∷ []) i 0)
at_push P xs u i l left here =
    let long = length_push xs u in dite (ℕ_discrete i (length xs))
    (λ e. subst (λ (z : ℕ). P z (get_or (xs ++ u ∷ []) z 0)) (sym e) (subst (λ (z : ℕ). P (length xs) z) (sym (at_end xs u)) here))
    (λ ne. let l' : i < length xs = omega arith in subst (λ (z : ℕ). P i z) (sym (get_or_append_left xs (u ∷ []) 0 i l')) (left l'))

pub starts : (b : Batch) (start : ℕ) (done : List ℕ) → IsIn b start → IsDescent b start done (start ∷ [])
starts b start done is = record {
  some = omega arith;
  inside = λ i l. let z : i ≡ 0 = omega arith in subst (λ (j : ℕ). IsIn b (get_or (start ∷ []) j 0)) (sym z) is;
  below = λ i l. let z : i ≡ 0 = omega arith in subst (λ (j : ℕ). position b (get_or (start ∷ []) j 0) + j < count_of b) (sym z)
      (omega (arith, is.from, is.below));
  leads = λ i l. let z : i ≡ 0 = omega arith in subst (λ (j : ℕ). Leads b start (get_or (start ∷ []) j 0)) (sym z) itself;
  falls = λ i j l m. absurd (omega arith);
  fresh = λ i some l. absurd (omega arith);
  first = refl;
}

first_of_push : (xs : List ℕ) (u : ℕ) → 0 < length xs → get_or (xs ++ u ∷ []) 0 0 ≡ get_or xs 0 0
first_of_push xs u l = get_or_append_left xs (u ∷ []) 0 0 l

-- a wanted transaction is an earlier one of the batch
pub wants_earlier : (b : Batch) (t u : ℕ) → IsIn b t → Wants b t u → (u < t) × IsIn b u
wants_earlier b t u is wants = let e = wanted_earlier b t wants.0 u is wants.1 wants.2 in (e.below, e.slot.txn)

pub pushed : (b : Batch) (start : ℕ) (done xs : List ℕ) (u : ℕ) → IsDescent b start done xs → Wants b (top_of xs) u → ¬ Contains done u
    → IsDescent b start done (xs ++ u ∷ [])
pushed b start done xs u d wants new =
    let len = length xs in
    let long = length_push xs u in
    let some = d.some in
    let last : len - 1 < len = omega arith in
    let low = d.below (len - 1) last in
    let top_in = d.inside (len - 1) last in
    let from = top_in.from in
    let (less, is) = wants_earlier b (top_of xs) u top_in wants in
    let lower : (i : ℕ) → i < len → u < get_or xs i 0 = λ i l. dite (ℕ_discrete i (len - 1)) (λ e. subst (λ (z : ℕ). u < get_or xs z 0) (sym e) less)
    (λ ne. let f = d.falls i (len - 1) (omega arith) last in omega arith) in
    record {
      some = omega arith;
      inside = λ i l. at_push (λ j z. IsIn b z) xs u i l (d.inside i) is;
      below = λ i l. at_push (λ j z. position b z + j < count_of b) xs u i l (d.below i) (omega (arith, is.from));
      leads = λ i l. at_push (λ j z. Leads b start z) xs u i l (d.leads i) (further (top_of xs) u (d.leads (len - 1) last) wants);
      falls = λ i j l m.
          let l' : i < len = omega arith in
          let at_i : get_or (xs ++ u ∷ []) i 0 ≡ get_or xs i 0 = get_or_append_left xs (u ∷ []) 0 i l' in
          subst (λ (z : ℕ). get_or (xs ++ u ∷ []) j 0 < z) (sym at_i) (at_push (λ k z. z < get_or xs i 0) xs u j m (λ m'. d.falls i j l m') (lower i l'));
      fresh = λ i above l. at_push (λ j z. 0 < j → ¬ Contains done z) xs u i l (λ l' above'. d.fresh i above' l') (λ _. new) above;
      first = first_of_push xs u some ∙ d.first;
    }

pub popped : (b : Batch) (start : ℕ) (done ys : List ℕ) (u : ℕ) → IsDescent b start done (ys ++ u ∷ []) → 0 < length ys → IsDescent b start (done ++ u ∷ []) ys
popped b start done ys u d some =
    let len = length ys in
    let long = length_push ys u in
    let same : (i : ℕ) → i < len → get_or (ys ++ u ∷ []) i 0 ≡ get_or ys i 0 = λ i l. get_or_append_left ys (u ∷ []) 0 i l in
    let last : get_or (ys ++ u ∷ []) len 0 ≡ u = at_end ys u in record {
      some = some;
      inside = λ i l. subst (λ (z : ℕ). IsIn b z) (same i l) (d.inside i (omega arith));
      below = λ i l. subst (λ (z : ℕ). position b z + i < count_of b) (same i l) (d.below i (omega arith));
      leads = λ i l. subst (λ (z : ℕ). Leads b start z) (same i l) (d.leads i (omega arith));
      falls = λ i j l m. let e = same i (omega arith) in let e' = same j m in let f = d.falls i j l (omega arith) in omega arith;
      fresh = λ i above l c. ⊎_elim
          (λ (old : Contains done (get_or ys i 0)). d.fresh i above (omega arith) (subst (λ (z : ℕ). Contains done z) (sym (same i l)) old))
          (λ (e : u ≡ get_or ys i 0).
          let f = d.falls i len l (omega arith) in
          let s = same i l in
          omega arith) (Contains-push_cases done u (get_or ys i 0) c);
      first = sym (first_of_push ys u some) ∙ d.first;
    }

pub last_of : (xs ys : List ℕ) (r : Option ℕ) → xs ≡ ys ++ option_to_list r → length ys < length xs → xs ≡ ys ++ top_of xs ∷ []
last_of xs ys None e l = let same = ap length e in let long = length-append ys [] in absurd (omega arith)
last_of xs ys (Some x) e l =
    let long : length xs ≡ length ys + 1 = ap length e ∙ length_push ys x in
    let back : length xs - 1 ≡ length ys = omega arith in
    let top : top_of xs ≡ x = (λ i. get_or (e i) (back i) 0) ∙ at_end ys x in
    e ∙ ap (λ (z : ℕ). ys ++ z ∷ []) (sym top)

-- a number is in the list
abbrev has : List ℕ → ℕ → Bool
has [] x = false
has (y ∷ ys) x = cond (eqb y x) true (has ys x)

abbrev pub left_of : Bool → ℕ
left_of true = 0
left_of false = 1

-- how many numbers below n are not in the list
abbrev pub undone : List ℕ → ℕ → ℕ
undone xs zero = 0
undone xs (suc n) = left_of (has xs n) + undone xs n

has_push : (xs : List ℕ) (v u : ℕ) → u ≢ v → has (xs ++ v ∷ []) u ≡ has xs u
has_push [] v u ne = ap (λ (b : Bool). cond b true false) (ne_eqb v u (λ e. ne (sym e)))
has_push (x ∷ xs) v u ne = ap (cond (eqb x u) true) (has_push xs v u ne)

has_here : (xs : List ℕ) (v : ℕ) → has (xs ++ v ∷ []) v ≡ true
has_here [] v = ap (λ (b : Bool). cond b true false) (eq-eqb v v refl)
has_here (x ∷ xs) v = dite (ℕ_discrete x v) (λ e. ap (λ (b : Bool). cond b true (has (xs ++ v ∷ []) v)) (eq-eqb x v e))
    (λ ne. ap (λ (b : Bool). cond b true (has (xs ++ v ∷ []) v)) (ne_eqb x v ne) ∙ has_here xs v)

has_not : (xs : List ℕ) (v : ℕ) → ¬ Contains xs v → has xs v ≡ false
has_not [] v new = refl
has_not (x ∷ xs) v new = dite (ℕ_discrete x v) (λ e. absurd (new (0, omega arith, e)))
    (λ ne. ap (λ (b : Bool). cond b true (has xs v)) (ne_eqb x v ne) ∙ has_not xs v (λ c. new (suc c.0, (let l = c.1 in omega arith), c.2)))

undone_le : (xs : List ℕ) (v n : ℕ) → undone (xs ++ v ∷ []) n ≤ undone xs n
undone_le xs v zero = omega arith
undone_le xs v (suc n) =
    let r = undone_le xs v n in dite (ℕ_discrete n v)
    (λ e. let b : has (xs ++ v ∷ []) n ≡ true = ap (has (xs ++ v ∷ [])) e ∙ has_here xs v in let c : left_of (has (xs ++ v ∷ []) n) ≡ 0 = ap left_of b in
    omega arith)
    (λ ne. let c : left_of (has (xs ++ v ∷ []) n) ≡ left_of (has xs n) = ap left_of (has_push xs v n ne) in omega arith)

pub undone_less : (xs : List ℕ) (v n : ℕ) → v < n → ¬ Contains xs v → undone (xs ++ v ∷ []) n < undone xs n
undone_less xs v zero l new = absurd (omega arith)
undone_less xs v (suc n) l new = dite (ℕ_discrete n v)
    (λ e.
    let r = undone_le xs v n in
    let b : has (xs ++ v ∷ []) n ≡ true = ap (has (xs ++ v ∷ [])) e ∙ has_here xs v in
    let c : left_of (has (xs ++ v ∷ []) n) ≡ 0 = ap left_of b in
    let d : left_of (has xs n) ≡ 1 = ap left_of (ap (has xs) e ∙ has_not xs v new) in omega arith)
    (λ ne. let r = undone_less xs v n (omega arith) new in let c : left_of (has (xs ++ v ∷ []) n) ≡ left_of (has xs n) = ap left_of (has_push xs v n ne) in
    omega arith)

lower : (a b n top top' : ℕ) → a < b → top' ≤ n → a * (n + 1) + top' < b * (n + 1) + top
lower a b n top top' l m = let more : suc a * (n + 1) ≤ b * (n + 1) = mul-le-mul_right (n + 1) l in omega (arith, suc-mul a (n + 1))

-- the measure that decreases: first the numbers not seen Done, then the position of the stack's top
abbrev pub left_to_do : Batch → List ℕ → List ℕ → ℕ
left_to_do b done xs = undone done (end_of b) * (count_of b + 1) + position b (top_of xs)

pub top_is : (xs : List ℕ) (n x : ℕ) → 0 < length xs → n ≡ length xs → x ≡ get_or xs (n - 1) x → x ≡ top_of xs
top_is xs n x some long is = is ∙ (ap (λ (z : ℕ). get_or xs (z - 1) x) long ∙ get_or_default_zero xs (length xs - 1) x (omega arith))

pub only : (b : Batch) (start : ℕ) (done xs ys : List ℕ) → IsDescent b start done xs → xs ≡ ys ++ top_of xs ∷ [] → length ys ≡ 0 → top_of xs ≡ start
only b start done xs ys d e none =
    let long : length xs ≡ length ys + 1 = ap length e ∙ length_push ys (top_of xs) in
    let back : length xs - 1 ≡ 0 = omega arith in
    ap (λ (z : ℕ). get_or xs z 0) back ∙ d.first

pub top_inside : (b : Batch) (start : ℕ) (done xs : List ℕ) → IsDescent b start done xs → IsIn b (top_of xs)
top_inside b start done xs d = let some = d.some in d.inside (length xs - 1) (omega arith)

pub pop_falls : (b : Batch) (start : ℕ) (done done' xs ys : List ℕ) (top : ℕ) → IsDescent b start done xs → xs ≡ ys ++ top_of xs ∷ [] → top ≡ top_of xs
    → done' ≡ done ++ top ∷ [] → 0 < length ys
    → (left_to_do b done' ys < left_to_do b done xs) × IsDescent b start done' ys
pop_falls b start done done' xs ys top d e is now some =
    let n : ℕ = count_of b in
    let u = top_of xs in
    let long : length xs ≡ length ys + 1 = ap length e ∙ length_push ys u in
    let last : length xs - 1 < length xs = omega arith in
    let low = d.below (length xs - 1) last in
    let now' : done' ≡ done ++ u ∷ [] = now ∙ ap (λ (z : ℕ). done ++ z ∷ []) is in
    let d' : IsDescent b start (done ++ u ∷ []) ys = popped b start done ys u (subst (λ (z : List ℕ). IsDescent b start done z) e d) some in
    let low' = d'.below (length ys - 1) (omega arith) in
    let inside = (d.inside (length xs - 1) last).below in
    let fewer : undone (done ++ u ∷ []) (end_of b) < undone done (end_of b) =
    undone_less done u (end_of b) (omega arith) (d.fresh (length xs - 1) (omega arith) last) in
    subst (λ (z : List ℕ). (left_to_do b z ys < left_to_do b done xs) × IsDescent b start z ys) (sym now')
    (lower (undone (done ++ u ∷ []) (end_of b)) (undone done (end_of b)) n (position b u) (position b (top_of ys)) fewer (omega arith), d')

pub push_falls : (b : Batch) (start : ℕ) (done done' xs xs' : List ℕ) (u : ℕ) → IsDescent b start done xs → xs' ≡ xs ++ u ∷ [] → Wants b (top_of xs) u
    → done' ≡ done → left_to_do b done' xs' < left_to_do b done xs
push_falls b start done done' xs xs' u d e wants same =
    let top_in = top_inside b start done xs d in
    let (less, is) = wants_earlier b (top_of xs) u top_in wants in
    let long : length xs' ≡ length xs + 1 = ap length e ∙ length_push xs u in
    let back : length xs' - 1 ≡ length xs = omega arith in
    let top : top_of xs' ≡ u = (λ i. get_or (e i) (back i) 0) ∙ at_end xs u in
    let k : undone done' (end_of b) * (count_of b + 1) ≡ undone done (end_of b) * (count_of b + 1) =
    ap (λ (z : List ℕ). undone z (end_of b) * (count_of b + 1)) same in
    let p : ℕ = undone done' (end_of b) * (count_of b + 1) in
    let q : ℕ = undone done (end_of b) * (count_of b + 1) in
    let k' : p ≡ q = k in
    let shallower : position b (top_of xs') < position b (top_of xs) = rw top (omega (arith, is.from, top_in.from, less)) in
    let f : p + position b (top_of xs') < q + position b (top_of xs) = omega arith in f

-- a stack whose top wants another position is shorter than the batch
pub fits_below : (b : Batch) (start : ℕ) (done xs : List ℕ) (u : ℕ) → IsDescent b start done xs → Wants b (top_of xs) u → length xs < count_of b
fits_below b start done xs u d wants =
    let some = d.some in
    let last : length xs - 1 < length xs = omega arith in
    let low = d.below (length xs - 1) last in
    let top_in = d.inside (length xs - 1) last in
    let (less, is) = wants_earlier b (top_of xs) u top_in wants in
    omega (arith, is.from, top_in.from, less)

pub shorter : (r : Option ℕ) (before after : ℕ) → MatchOption r ((before ≡ 0) × (after ≡ 0)) (λ _. after + 1 ≡ before) → 0 < before → after < before
shorter None before after m some = let z = m.0 in absurd (omega arith)
shorter (Some x) before after m some = omega (arith, m)
