-- The newest placeholders by key number.
use Rattle.std.proofs.Common.{◌≡◌, ◌≢◌, ℕ, ◌+◌, ◌<◌, ◌≤◌, Bool, true, false, List, [], ◌∷◌, ◌++◌, length, map, take, get_or, slice_get}
use Rattle.std.proofs.Common.{slice_set, Some, refl, sym, ap, ◌∙◌, subst, inl, inr, ◌⊎◌, ⊎_elim, arith, if◌then◌else◌, nat_lt, All, length-set}
use Rattle.std.specs.List.{IsDistinct}
use Rattle.std.specs.Str.{bytes_eq}
use Rattle.std.proofs.lemmas.Bool.{cases_lt, cases_eq, false≢true}
use Rattle.std.proofs.lemmas.Bool.Decides.{nat_tests}
use Rattle.std.proofs.lemmas.List.{get_or-set_same, get_or-set_other, get_or-map, length-map, length-take-le, map_more, take-map, take_more}
use Rattle.std.proofs.lemmas.List.Elements.{All-set, All-weaker, All-head, All-tail}
use Rattle.std.proofs.lemmas.Map.Keys.{apart_from_distinct}
use Rattle.std.proofs.lemmas.Option.{same_Some, slice_get-map}
use Rattle.bohm_types.specs.Txn.{Txn}
use Rattle.bohm_log.specs.Parts.{name_at, names_at}
use Rattle.bohm_log.specs.Columns.{AllNamed}
use Rattle.bohm_log.specs.Numbering.{Numbered, Numbers, named_sets, declared_sets}
use Rattle.bohm_txn.proofs.ForCallers.{same_key, key_itself, other_key}
use Rattle.bohm_place.specs.declared.placeholder.Placeholder.{Placeholder}
use Rattle.bohm_place.specs.Chains.{none, last_or}
use Rattle.bohm_place.specs.Shares.{within, placeholders_written, placeholders_made, ahead_of, AreDistinct}
use Rattle.bohm_place.specs.Numbered.{newest_at, found_at, IsCovered, AreNumbersPlaced, StandsBehind}
use Rattle.bohm_place.proofs.Keyed.{last_or-append}
use Rattle.bohm_place.proofs.Placed.{written_more, not_yet_written}
use Rattle.bohm_place.proofs.Found.{made_more}

-- ---- numbers and names

-- keys with different numbers differ
pub two_numbers : (names : List (List ℕ)) (m n : ℕ) → IsDistinct bytes_eq names → m < length names → n < length names → m ≢ n
    → bytes_eq (name_at names m) (name_at names n) ≡ false
two_numbers names m n distinct in_m in_n apart = ⊎_elim
    (λ lt. apart_from_distinct bytes_eq names m n [] distinct lt in_n)
    (λ ge. other_key (name_at names n) (name_at names m) (apart_from_distinct bytes_eq names n m [] distinct (below m n apart ge) in_m))
    (cases_lt m n)
  where
    below : (m n : ℕ) → m ≢ n → n ≤ m → n < m
    below m n apart ge = grind (arith, nat_tests)

-- ---- one more write

within_own : (first u index : ℕ) → first ≤ u → within first (record { begin = u; index = index }) ≡ record { begin = u; index = index }
within_own first u index le = let e : nat_lt u first ≡ false = grind (arith, nat_tests) in rw e refl

-- the newest placeholder of number n, after `next` was placed for this number
module _ (first : ℕ) (names : List (List ℕ)) (number : ℕ) (hand new : List Placeholder) (next : Placeholder) (apart : IsDistinct bytes_eq names)
    (inside : number < length names) (long : length names ≤ length hand) (own : within first next ≡ next) where
  slot_by : (n : ℕ) → n < length names → (m b : Bool) → bytes_eq (name_at names number) (name_at names n) ≡ b → (b ≡ true → m ≡ true)
      → new ≡ (if m then slice_set hand number next else hand) → (n ≡ number) ⊎ (n ≢ number)
      → within first (newest_at new n) ≡ last_or (within first (newest_at hand n)) (if b then next ∷ [] else [])
  slot_by n in_n true true e mine is (inl same) =
      let at : newest_at new n ≡ next = rw (is, same) (get_or-set_same hand number next none (omega arith)) in
      rw at own
  slot_by n in_n false true e mine is c = absurd (false≢true (mine refl))
  slot_by n in_n m true e mine is (inr other) = absurd (false≢true (sym (two_numbers names number n apart inside in_n (λ s. other (sym s))) ∙ e))
  slot_by n in_n m false e mine is (inl same) = absurd
      (false≢true (sym e ∙ subst (λ (k : ℕ). bytes_eq (name_at names number) (name_at names k) ≡ true) (sym same) (key_itself (name_at names number))))
  slot_by n in_n true false e mine is (inr other) =
      let at : newest_at new n ≡ newest_at hand n = rw is (get_or-set_other hand number n next none other) in
      rw at refl
  slot_by n in_n false false e mine is (inr other) = rw is refl

-- the first i writes of the transaction u are placed, and then the write at index i
module _ (mine : List ℕ → Bool) (first u : ℕ) (names : List (List ℕ)) (numbers : List ℕ) (i number : ℕ) (old hand new : List Placeholder)
    (covered : IsCovered names old) (named : AllNamed names numbers) (late : first ≤ u) (inside : i < length numbers) (at : get_or numbers i number ≡ number)
    (before : AreNumbersPlaced mine first u names (take i numbers) old hand)
    (is : new ≡ (if mine (name_at names number) then slice_set hand number (record { begin = u; index = i }) else hand)) where
  in_names : number < length names
  in_names = subst (λ (n : ℕ). n < length names) at (named i number inside)

  long_by : (m : Bool) → new ≡ (if m then slice_set hand number (record { begin = u; index = i }) else hand) → length new ≡ length old
  long_by true e = ap length e ∙ length-set hand number (record { begin = u; index = i }) ∙ before.long
  long_by false e = ap length e ∙ before.long

  below_by : (m : Bool) → new ≡ (if m then slice_set hand number (record { begin = u; index = i }) else hand) → (t : ℕ) → u < t → All (λ v. v.begin < t) hand
      → All (λ v. v.begin < t) new
  below_by true e t lt h = rw e (All-set (λ (v : Placeholder). v.begin < t) hand number (record { begin = u; index = i }) lt h)
  below_by false e t lt h = rw e h

  written_on : (k : List ℕ) → placeholders_written u 0 (names_at names (take (i + 1) numbers)) k ≡ placeholders_written u 0
      (names_at names (take i numbers)) k ++ (if bytes_eq (name_at names number) k then record { begin = u; index = i } ∷ [] else [])
  written_on k =
      let more : names_at names (take (i + 1) numbers) ≡ names_at names (take i numbers) ++ name_at names number ∷ [] =
      map_more (name_at names) numbers i number inside ∙ ap (λ (n : ℕ). names_at names (take i numbers) ++ name_at names n ∷ []) at in
      let long : i ≡ 0 + length (names_at names (take i numbers)) =
      omega (arith, length-map (take i numbers) (name_at names), length-take-le i numbers (omega arith)) in
      ap (λ ks. placeholders_written u 0 ks k) more ∙ written_more u 0 (names_at names (take i numbers)) (name_at names number) k i long

  pub placed_more : AreNumbersPlaced mine first u names (take (i + 1) numbers) old new
  placed_more = record {
    long = long_by (mine (name_at names number)) is;
    below = λ t lt h. below_by (mine (name_at names number)) is t lt (before.below t lt h);
    each = λ n in_n has.
        let own = within_own first u i late in
        let step = slot_by first names number hand new (record { begin = u; index = i }) covered.apart in_names (omega (arith, covered.long, before.long)) own
        n in_n (mine (name_at names number)) (bytes_eq (name_at names number) (name_at names n)) refl
        (λ e. rw (same_key (name_at names number) (name_at names n) e) has) is (cases_eq n number) in
        rw (
          written_on (name_at names n),
          last_or-append (within first (newest_at old n))
              (placeholders_written u 0 (names_at names (take i numbers)) (name_at names n))
              (if bytes_eq (name_at names number) (name_at names n) then record { begin = u; index = i } ∷ [] else []),
          ← before.each n in_n has,
        ) step;
  }

  -- the next write finds the placeholder that was there before the transaction's writes
  found_by_now : AreDistinct (names_at names numbers) → (m : Bool) → mine (name_at names number) ≡ m
      → (if m then within first (newest_at hand number) else none) ≡ (if m then within first (newest_at old number) else none)
  found_by_now distinct true has =
      let keys = names_at names numbers in
      let here : get_or keys i [] ≡ name_at names number = get_or-map (name_at names) numbers i number [] inside ∙ ap (name_at names) at in
      let len : i < length keys = omega (arith, length-map numbers (name_at names)) in
      let empty : placeholders_written u 0 (names_at names (take i numbers)) (name_at names number) ≡ [] =
      rw (here, take-map (name_at names) i numbers) at (not_yet_written u i keys [] len distinct) in
      rw empty at (before.each number in_names has)
  found_by_now distinct false has = refl

  pub found_now : AreDistinct (names_at names numbers) → found_at mine first names hand number ≡ found_at mine first names old number
  found_now distinct = found_by_now distinct (mine (name_at names number)) refl

-- ---- one more transaction

pub declared_at : (keys : Numbered) (txns : List Txn) (i : ℕ) (s : List ℕ × List ℕ) (x : Txn) → Numbers keys txns → slice_get keys.sets i ≡ Some s
    → slice_get txns i ≡ Some x → named_sets keys.names s ≡ declared_sets x
declared_at keys txns i s x numbers at is =
    let left : slice_get (map (named_sets keys.names) keys.sets) i ≡ Some (named_sets keys.names s) =
    rw (slice_get-map (named_sets keys.names) keys.sets i, at) refl in
    let right : slice_get (map declared_sets txns) i ≡ Some (declared_sets x) = rw (slice_get-map declared_sets txns i, is) refl in
    same_Some (named_sets keys.names s) (declared_sets x) (sym left ∙ ap (λ ys. slice_get ys i) numbers.same ∙ right)

module _ (mine : List ℕ → Bool) (first : ℕ) (names : List (List ℕ)) where
  pub stands_on : (txns : List Txn) (i : ℕ) (x : Txn) (numbers : List ℕ) (hand new : List Placeholder) → i < length txns → get_or txns i x ≡ x
      → names_at names numbers ≡ x.writes
      → StandsBehind mine first names (take i txns) hand → AreNumbersPlaced mine first (first + i) names numbers hand new
      → StandsBehind mine first names (take (i + 1) txns) new
  stands_on txns i x numbers hand new inside at writes before placed =
      let len : length (take i txns) ≡ i = length-take-le i txns (omega arith) in
      let next : length (take (i + 1) txns) ≡ i + 1 = length-take-le (i + 1) txns (omega arith) in
      let taken : take (i + 1) txns ≡ take i txns ++ x ∷ [] = take_more txns i x inside ∙ ap (λ (t : Txn). take i txns ++ t ∷ []) at in
      record {
        long = omega (arith, before.long, placed.long);
        below = placed.below (first + length (take (i + 1) txns)) (omega arith)
            (All-weaker (λ (v : Placeholder). v.begin < first + length (take i txns)) (λ (v : Placeholder). v.begin < first + length (take (i + 1) txns))
            (λ v lt. omega arith) hand before.below);
        each = λ n in_n has.
            let k = name_at names n in
            let made_on : placeholders_made first (take (i + 1) txns) k ≡ placeholders_made first (take i txns) k ++ placeholders_written
            (first + i) 0 x.writes k = ap (λ ts. placeholders_made first ts k) taken ∙ made_more first (take i txns) x k
            ∙ ap (λ (m : ℕ). placeholders_made first (take i txns) k ++ placeholders_written (first + m) 0 x.writes k) len in
            let whole : ahead_of first (take (i + 1) txns) k ≡ last_or (ahead_of first (take i txns) k) (placeholders_written (first + i) 0 x.writes k) =
            ap (last_or none) made_on ∙ last_or-append none (placeholders_made first (take i txns) k) (placeholders_written (first + i) 0 x.writes k) in
            placed.each n in_n has ∙ rw (before.each n in_n has, writes) (sym whole);
      }

  -- the placeholder found for a number is the newest one of the number's name from the earlier transactions
  found_name : (ahead : List Txn) (newest : List Placeholder) (n : ℕ) → n < length names → StandsBehind mine first names ahead newest → (m : Bool)
      → mine (name_at names n) ≡ m
      → (if m then within first (newest_at newest n) else none) ≡ (if m then ahead_of first ahead (name_at names n) else none)
  found_name ahead newest n in_n stands true has = stands.each n in_n has
  found_name ahead newest n in_n stands false has = refl

  pub found_names : (ahead : List Txn) (newest : List Placeholder) (numbers : List ℕ) → AllNamed names numbers → StandsBehind mine first names ahead newest
      → map (found_at mine first names newest) numbers ≡ map (λ k. if mine k then ahead_of first ahead k else none) (names_at names numbers)
  found_names ahead newest [] named stands = refl
  found_names ahead newest (n ∷ numbers) named stands =
      let here = found_name ahead newest n (All-head (λ (m : ℕ). m < length names) n numbers named) stands (mine (name_at names n)) refl in
      let more = found_names ahead newest numbers (All-tail (λ (m : ℕ). m < length names) n numbers named) stands in
      λ j. here j ∷ more j
