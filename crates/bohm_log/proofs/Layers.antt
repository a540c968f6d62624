-- Finding, adding and removing names in two layers: the shared names, then the others.
use Rattle.std.proofs.Common.{◌≡◌, ℕ, zero, suc, ◌+◌, ◌-◌, ◌<◌, ◌≤◌, ◌^◌, true, false, cond, List, [], ◌∷◌, ◌++◌, length, take}
use Rattle.std.proofs.Common.{Some, None, refl, ap, sym, ◌∙◌, arith, append_assoc, append-nil, length-append, slice_get}
use Rattle.std.specs.Prelude.{Bool}
use Rattle.std.specs.Option.{option_map}
use Rattle.std.specs.List.{list_any, position, position_from, AllByRecursion, IsDistinct}
use Rattle.std.specs.Str.{bytes_eq}
use Rattle.std.proofs.lemmas.Iterator.Adapters.{position_from-zero}
use Rattle.std.proofs.lemmas.List.{length-take, length-take-le, take-append-le, take-take}
use Rattle.std.proofs.lemmas.List.Folds.{list_any-append}
use Rattle.std.proofs.lemmas.Option.{same_Some}
use Rattle.std.proofs.Math.Seq.{take-append-add}
use Rattle.std.proofs.lemmas.Bool.{or_parts}
use Rattle.bohm_log.specs.Interning.{with_name, IsInterned}
use Rattle.bohm_log.proofs.Seeking.{none_from}
use Rattle.bohm_log.proofs.EqualKeys.{other_key}

from_some : (t : List ℕ → Bool) (i : ℕ) (xs ys : List (List ℕ)) (n : ℕ) → position_from t i xs ≡ Some n → position_from t i (xs ++ ys) ≡ Some n
from_some t i [] ys n e = absurd cc
from_some t i (x ∷ xs) ys n e =
    elim (t x) as (λ b. cond b (Some i) (position_from t (i + 1) xs) ≡ Some n → cond b (Some i) (position_from t (i + 1) (xs ++ ys)) ≡ Some n) [
      | true ↦ λ h. h
      | false ↦ λ h. from_some t (i + 1) xs ys n h
    ] e

from_none : (t : List ℕ → Bool) (i : ℕ) (xs ys : List (List ℕ)) → position_from t i xs ≡ None
    → position_from t i (xs ++ ys) ≡ position_from t (i + length xs) ys
from_none t i [] ys e = let same : i + 0 ≡ i = omega arith in rw same refl
from_none t i (x ∷ xs) ys e =
    let same : i + 1 + length xs ≡ i + suc (length xs) = omega arith in
    elim (t x) as (λ b. cond b (Some i) (position_from t (i + 1) xs) ≡ None
    → cond b (Some i) (position_from t (i + 1) (xs ++ ys)) ≡ position_from t (i + suc (length xs)) ys) [
      | true ↦ λ h. absurd cc
      | false ↦ λ h. from_none t (i + 1) xs ys h ∙ ap (λ n. position_from t n ys) same
    ] e

shifted : (t : List ℕ → Bool) (n i : ℕ) (ys : List (List ℕ)) → position_from t (n + i) ys ≡ option_map (λ j. n + j) (position_from t i ys)
shifted t n i [] = refl
shifted t n i (y ∷ ys) =
    let same : n + i + 1 ≡ n + (i + 1) = omega arith in
    elim (t y) as (λ b. cond b (Some (n + i)) (position_from t (n + i + 1) ys) ≡ option_map (λ j. n + j) (cond b (Some i) (position_from t (i + 1) ys))) [
      | true ↦ refl
      | false ↦ ap (λ m. position_from t m ys) same ∙ shifted t n (i + 1) ys
    ]

pub found_front : (k : List ℕ) (xs ys names : List (List ℕ)) (i : ℕ) → xs ++ ys ≡ names → Some i ≡ position (bytes_eq k) xs
    → Some i ≡ position (bytes_eq k) names
found_front k xs ys names i same e =
    let here : position_from (bytes_eq k) 0 xs ≡ Some i = sym (position_from-zero (bytes_eq k) xs) ∙ sym e in
    sym (ap (position (bytes_eq k)) (sym same) ∙ (position_from-zero (bytes_eq k) (xs ++ ys) ∙ from_some (bytes_eq k) 0 xs ys i here))

pub found_behind : (k : List ℕ) (xs ys names : List (List ℕ)) → xs ++ ys ≡ names → None ≡ position (bytes_eq k) xs
    → position (bytes_eq k) names ≡ option_map (λ j. length xs + j) (position (bytes_eq k) ys)
found_behind k xs ys names same e =
    let zero_more : 0 + length xs ≡ length xs + 0 = omega arith in
    let none : position_from (bytes_eq k) 0 xs ≡ None = sym (position_from-zero (bytes_eq k) xs) ∙ sym e in
    let behind : position_from (bytes_eq k) (length xs + 0) ys ≡ option_map (λ j. length xs + j) (position (bytes_eq k) ys) =
    shifted (bytes_eq k) (length xs) 0 ys ∙ ap (option_map (λ j. length xs + j)) (sym (position_from-zero (bytes_eq k) ys)) in
    ap (position (bytes_eq k)) (sym same) ∙ (position_from-zero (bytes_eq k) (xs ++ ys)
    ∙ (from_none (bytes_eq k) 0 xs ys none ∙ (ap (λ n. position_from (bytes_eq k) n ys) zero_more ∙ behind)))

-- a name that isn't in the first layer is added to the second
pub with_behind : (k : List ℕ) (xs ys names : List (List ℕ)) → xs ++ ys ≡ names → None ≡ position (bytes_eq k) xs → xs ++ with_name ys k ≡ with_name names k
with_behind k xs ys names same e =
    let absent : list_any (bytes_eq k) xs ≡ false = none_from (bytes_eq k) 0 xs (sym (position_from-zero (bytes_eq k) xs) ∙ sym e) in
    let any : list_any (bytes_eq k) (xs ++ ys) ≡ list_any (bytes_eq k) ys = list_any-append (bytes_eq k) xs ys ∙ rw absent refl in
    rw (← same, any) (by (list_any (bytes_eq k) ys))
  where
    by : (b : Bool) → xs ++ cond b ys (ys ++ k ∷ []) ≡ cond b (xs ++ ys) ((xs ++ ys) ++ k ∷ [])
    by true = refl
    by false = sym (append_assoc xs ys (k ∷ []))

pub got_behind : (xs ys : List (List ℕ)) (i : ℕ) → slice_get (xs ++ ys) (length xs + i) ≡ slice_get ys i
got_behind [] ys i = let same : 0 + i ≡ i = omega arith in rw same refl
got_behind (x ∷ xs) ys i =
    let same : suc (length xs) + i ≡ suc (length xs + i) = omega arith in
    ap (λ n. slice_get (x ∷ (xs ++ ys)) n) same ∙ got_behind xs ys i

-- ---- names stay distinct when a name is added

all_other : (x k : List ℕ) (xs : List (List ℕ)) → AllByRecursion (λ y. bytes_eq x y ≡ false) xs → bytes_eq k x ≡ false
    → AllByRecursion (λ y. bytes_eq x y ≡ false) (xs ++ k ∷ [])
all_other x k [] all e = (other_key k x e, tt)
all_other x k (y ∷ ys) all e = (all.0, all_other x k ys all.1 e)

pushed : (names : List (List ℕ)) (k : List ℕ) → IsDistinct bytes_eq names → list_any (bytes_eq k) names ≡ false → IsDistinct bytes_eq (names ++ k ∷ [])
unfolding IsDistinct
pushed [] k apart e = (tt, tt)
pushed (x ∷ xs) k apart e =
    let parts = or_parts (bytes_eq k x) (list_any (bytes_eq k) xs) e in
    (all_other x k xs apart.0 parts.0, pushed xs k apart.1 parts.1)

pub still_apart : (names : List (List ℕ)) (k : List ℕ) → IsDistinct bytes_eq names → IsDistinct bytes_eq (with_name names k)
still_apart names k apart =
    elim (list_any (bytes_eq k) names) as (λ t. list_any (bytes_eq k) names ≡ t → IsDistinct bytes_eq (cond t names (names ++ k ∷ []))) [
      | true ↦ λ e. apart
      | false ↦ λ e. pushed names k apart e
    ] refl

pub with_short : (names : List (List ℕ)) (k : List ℕ) → length (with_name names k) ≤ length names + 1
with_short names k =
    elim (list_any (bytes_eq k) names) as (λ t. length (cond t names (names ++ k ∷ [])) ≤ length names + 1) [
      | true ↦ omega arith
      | false ↦ omega (arith, length-append names (k ∷ []))
    ]

pub still_interned : (names : List (List ℕ)) (k : List ℕ) → IsInterned names → length names ≤ 2 ^ 32 - 1 → IsInterned (with_name names k)
still_interned names k interned room = record { few = omega (arith, with_short names k, room); apart = still_apart names k interned.apart }

-- ---- a name's index among the first n names

from_least : (t : List ℕ → Bool) (j : ℕ) (xs : List (List ℕ)) (i : ℕ) → position_from t j xs ≡ Some i → j ≤ i
from_least t j [] i e = absurd cc
from_least t j (x ∷ xs) i e =
    elim (t x) as (λ b. cond b (Some j) (position_from t (j + 1) xs) ≡ Some i → j ≤ i) [
      | true ↦ λ h. omega (arith, same_Some j i h)
      | false ↦ λ h. omega (arith, from_least t (j + 1) xs i h)
    ] e

taken_none : (t : List ℕ → Bool) (j n : ℕ) (xs : List (List ℕ)) → position_from t j xs ≡ None → position_from t j (take n xs) ≡ None
taken_none t j zero xs e = refl
taken_none t j (suc n) [] e = refl
taken_none t j (suc n) (x ∷ xs) e =
    elim (t x) as (λ b. cond b (Some j) (position_from t (j + 1) xs) ≡ None → cond b (Some j) (position_from t (j + 1) (take n xs)) ≡ None) [
      | true ↦ λ h. absurd cc
      | false ↦ λ h. taken_none t (j + 1) n xs h
    ] e

taken_some : (t : List ℕ → Bool) (j n : ℕ) (xs : List (List ℕ)) (i : ℕ) → position_from t j xs ≡ Some i → i < j + n → position_from t j (take n xs) ≡ Some i
taken_some t j zero xs i e less = absurd (omega (arith, less, from_least t j xs i e))
taken_some t j (suc n) [] i e less = absurd cc
taken_some t j (suc n) (x ∷ xs) i e less =
    elim (t x) as (λ b. cond b (Some j) (position_from t (j + 1) xs) ≡ Some i → cond b (Some j) (position_from t (j + 1) (take n xs)) ≡ Some i) [
      | true ↦ λ h. h
      | false ↦ λ h. taken_some t (j + 1) n xs i h (omega (arith, less))
    ] e

taken_past : (t : List ℕ → Bool) (j n : ℕ) (xs : List (List ℕ)) (i : ℕ) → position_from t j xs ≡ Some i → j + n ≤ i → position_from t j (take n xs) ≡ None
taken_past t j zero xs i e past = refl
taken_past t j (suc n) [] i e past = refl
taken_past t j (suc n) (x ∷ xs) i e past =
    elim (t x) as (λ b. cond b (Some j) (position_from t (j + 1) xs) ≡ Some i → cond b (Some j) (position_from t (j + 1) (take n xs)) ≡ None) [
      | true ↦ λ h. absurd (omega (arith, past, same_Some j i h))
      | false ↦ λ h. taken_past t (j + 1) n xs i h (omega (arith, past))
    ] e

module _ (k : List ℕ) (n : ℕ) (xs : List (List ℕ)) where
  from_zero : (ys : List (List ℕ)) → position (bytes_eq k) ys ≡ position_from (bytes_eq k) 0 ys
  from_zero ys = position_from-zero (bytes_eq k) ys

  pub found_none : None ≡ position (bytes_eq k) xs → None ≡ position (bytes_eq k) (take n xs)
  found_none e = sym (from_zero (take n xs) ∙ taken_none (bytes_eq k) 0 n xs (sym (from_zero xs) ∙ sym e))

  pub found_some : (i : ℕ) → Some i ≡ position (bytes_eq k) xs → i < n → Some i ≡ position (bytes_eq k) (take n xs)
  found_some i e less = sym (from_zero (take n xs) ∙ taken_some (bytes_eq k) 0 n xs i (sym (from_zero xs) ∙ sym e) (omega (arith, less)))

  pub found_past : (i : ℕ) → Some i ≡ position (bytes_eq k) xs → n ≤ i → None ≡ position (bytes_eq k) (take n xs)
  found_past i e past = sym (from_zero (take n xs) ∙ taken_past (bytes_eq k) 0 n xs i (sym (from_zero xs) ∙ sym e) (omega (arith, past)))

-- cutting both layers to a count drops the second layer and cuts the first, or cuts only the second
pub cut_shared : {A : Type 0} (shared own : List A) (shown count : ℕ) → shown ≤ length shared → count ≤ shown
    → take count shared ++ [] ≡ take count (take shown shared ++ own)
cut_shared shared own shown count inside few =
    let room : count ≤ length (take shown shared) = omega (arith, few, length-take-le shown shared inside) in
    append-nil (take count shared) ∙ (sym (take-take count shown shared few) ∙ sym (take-append-le count (take shown shared) own room))

pub cut_behind : {A : Type 0} (front own : List A) (count : ℕ) → length front ≤ count → front ++ take (count - length front) own ≡ take count (front ++ own)
cut_behind front own count many =
    let same : length front + (count - length front) ≡ count = omega (arith, many) in
    sym (take-append-add front own (count - length front)) ∙ ap (λ n. take n (front ++ own)) same

pub cut_own : {A : Type 0} (shared own : List A) (shown count : ℕ) → shown ≤ length shared → shown ≤ count
    → take shown shared ++ take (count - shown) own ≡ take count (take shown shared ++ own)
cut_own shared own shown count inside many =
    let long : length (take shown shared) ≡ shown = length-take-le shown shared inside in
    ap (λ n. take shown shared ++ take (count - n) own) (sym long) ∙ cut_behind (take shown shared) own count (omega (arith, many, long))

pub none_apart : IsDistinct bytes_eq []
unfolding IsDistinct
none_apart = tt

-- ---- the first n of distinct names are distinct

taken_all : (x : List ℕ) (n : ℕ) (xs : List (List ℕ)) → AllByRecursion (λ y. bytes_eq x y ≡ false) xs → AllByRecursion (λ y. bytes_eq x y ≡ false) (take n xs)
taken_all x zero xs all = tt
taken_all x (suc n) [] all = tt
taken_all x (suc n) (y ∷ ys) all = (all.0, taken_all x n ys all.1)

taken_apart : (n : ℕ) (names : List (List ℕ)) → IsDistinct bytes_eq names → IsDistinct bytes_eq (take n names)
unfolding IsDistinct
taken_apart zero names apart = tt
taken_apart (suc n) [] apart = tt
taken_apart (suc n) (x ∷ xs) apart = (taken_all x n xs apart.0, taken_apart n xs apart.1)

pub taken_interned : (n : ℕ) (names : List (List ℕ)) → IsInterned names → IsInterned (take n names)
taken_interned n names interned = record {
  few = omega (arith, length-take n names, interned.few);
  apart = taken_apart n names interned.apart;
}
