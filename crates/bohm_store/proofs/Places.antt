-- Where the older versions of each key are in the queue, as versions are removed and appended.
use Rattle.std.proofs.Common.{◌≡◌, ◌≢◌, ℕ, suc, ◌+◌, ◌-◌, ◌<◌, ◌≤◌, ◌∙◌, List, [], ◌∷◌, ◌++◌, length, get_or, slice_set, min, refl, ap}
use Rattle.std.proofs.Common.{⊎_elim, arith, length-append}
use Rattle.std.proofs.lemmas.Bool.{cases_eq, cases_lt}
use Rattle.std.proofs.lemmas.List.{get_or_append_left, get_or-set_same, get_or-set_other}
use Rattle.std.proofs.Math.Seq.{get_or-append_seam}
use Rattle.bohm_store.specs.declared.older.Older.{Older}
use Rattle.bohm_store.specs.Places.{IsPlaced, unknown}

-- the counts stay right when the first version is removed
pub placed_rest : (gone : ℕ) (latest : List ℕ) (o : Older) (os : List Older) → IsPlaced gone latest (o ∷ os) → IsPlaced (min (gone + 1) unknown) latest os
placed_rest gone latest o os h = record {
  others = λ i j d lt inside le. h.others (suc i) (suc j) d (omega arith) (omega arith) (omega arith);
  counted = λ i d inside known. (let was = h.counted (suc i) d (omega arith) known in omega arith);
}

-- the counts stay right when a version is appended
module _ (gone : ℕ) (latest : List ℕ) (os : List Older) (o : Older) (before : ℕ) (was : IsPlaced gone latest os)
    (before_is : before ≡ min (gone + length os) unknown) (few : o.others ≤ before - get_or latest o.number 0) where
  -- the `others` versions just before the appended one are of other keys
  behind : (i : ℕ) (d : Older) → i < length os → length os ≤ i + o.others → (get_or os i d).number ≢ o.number
  behind i d lt le same = ⊎_elim
      (λ (known : get_or latest o.number 0 < unknown).
      let at : get_or latest (get_or os i d).number 0 ≡ get_or latest o.number 0 = ap (λ (n : ℕ). get_or latest n 0) same in
      let come = was.counted i d lt (omega arith) in
      absurd (omega arith))
      (λ (none : unknown ≤ get_or latest o.number 0). absurd (omega arith))
      (cases_lt (get_or latest o.number 0) unknown)

  apart : (i j : ℕ) (d : Older) → i < j → j < length (os ++ o ∷ []) → j ≤ i + (get_or (os ++ o ∷ []) j d).others
      → (get_or (os ++ o ∷ []) i d).number ≢ (get_or (os ++ o ∷ []) j d).number
  apart i j d lt inside le = ⊎_elim
      (λ (old : j < length os).
      let here = get_or_append_left os (o ∷ []) d j old in
      let there = get_or_append_left os (o ∷ []) d i (omega arith) in
      rw (here, there) (was.others i j d lt old (rw here at le)))
      (λ (new : length os ≤ j).
      let long = length-append os (o ∷ []) in
      let last : j ≡ length os = omega arith in
      let here : get_or (os ++ o ∷ []) j d ≡ o = ap (λ (m : ℕ). get_or (os ++ o ∷ []) m d) last ∙ get_or-append_seam os o [] d in
      let there = get_or_append_left os (o ∷ []) d i (omega arith) in
      let near : j ≤ i + o.others = rw here at le in
      rw (here, there) (behind i d (omega arith) (omega arith)))
      (cases_lt j (length os))

  module _ (more : List ℕ) (place : o.number < length latest) (more_is : more ≡ slice_set latest o.number (min (before + 1) unknown)) where
    latest_own : (i : ℕ) (e : Older) → i ≤ length os → e.number ≡ o.number → get_or more e.number 0 < unknown → gone + i < get_or more e.number 0
    latest_own i e le same known =
        let count = min (before + 1) unknown in
        let is : get_or more e.number 0 ≡ count =
        ap (λ (xs : List ℕ). get_or xs e.number 0) more_is
        ∙ ap (λ (n : ℕ). get_or (slice_set latest o.number count) n 0) same
        ∙ get_or-set_same latest o.number count 0 place in
        omega arith

    latest_old : (i : ℕ) (d : Older) → i < length os → get_or more (get_or os i d).number 0 < unknown → gone + i < get_or more (get_or os i d).number 0
    latest_old i d lt known = ⊎_elim
        (λ (same : (get_or os i d).number ≡ o.number). latest_own i (get_or os i d) (omega arith) same known)
        (λ (other : (get_or os i d).number ≢ o.number).
        let is : get_or more (get_or os i d).number 0 ≡ get_or latest (get_or os i d).number 0 =
        ap (λ (xs : List ℕ). get_or xs (get_or os i d).number 0) more_is
        ∙ get_or-set_other latest o.number (get_or os i d).number (min (before + 1) unknown) 0 other in
        let come = was.counted i d lt (omega arith) in
        omega arith)
        (cases_eq (get_or os i d).number o.number)

    latest_all : (i : ℕ) (d : Older) → i < length (os ++ o ∷ []) → get_or more (get_or (os ++ o ∷ []) i d).number 0 < unknown
        → gone + i < get_or more (get_or (os ++ o ∷ []) i d).number 0
    latest_all i d inside = ⊎_elim
        (λ (old : i < length os). rw (get_or_append_left os (o ∷ []) d i old) (latest_old i d old))
        (λ (new : length os ≤ i).
        let long = length-append os (o ∷ []) in
        let last : i ≡ length os = omega arith in
        let here : get_or (os ++ o ∷ []) i d ≡ o = ap (λ (m : ℕ). get_or (os ++ o ∷ []) m d) last ∙ get_or-append_seam os o [] d in
        rw here (latest_own i o (omega arith) refl))
        (cases_lt i (length os))

    pub placed_more : IsPlaced gone more (os ++ o ∷ [])
    placed_more = record { others = apart; counted = latest_all }
