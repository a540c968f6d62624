-- A key's index among ascending keys, and the indices of keys in their set.
use Rattle.std.proofs.Common.{◌≡◌, ℕ, zero, suc, ◌+◌, ◌-◌, ◌<◌, ◌≤◌, true, false, Bool, List, [], ◌∷◌, ◌++◌, length}
use Rattle.std.proofs.Common.{get_or, take, drop, Some, refl, ap, sym, ◌∙◌, subst, arith}
use Rattle.std.proofs.Common.{drop-cons, append_assoc, length-append, below_more}
use Rattle.std.specs.Prelude.{slice_get, slice_index_or, ◌||◌}
use Rattle.std.specs.List.{insert, range_with_len}
use Rattle.std.specs.Str.{bytes_eq}
use Rattle.std.specs.Ordering.{nat_cmp, is_eq}
use Rattle.std.specs.declared.cmp.Ordering.TheVariants.{Less, Equal, Greater}
use Rattle.std.specs.Cmp.Lexicographic.{slice_cmp}
use Rattle.std.proofs.lemmas.List.{drop_all, take_more, take-append-drop, length-map, get_or_append_left, get_or-append_right, get_or_default, map-id}
use Rattle.std.proofs.lemmas.List.{map-append, take-map, drop-map, get_or-map}
use Rattle.std.proofs.lemmas.List.Elements.{All-get_or}
use Rattle.std.proofs.lemmas.List.FromFn.{get_or-range_with_len, map-range_with_len_more}
use Rattle.std.proofs.lemmas.Option.{get_or_from_slice_get, slice_get-get_or}
use Rattle.std.proofs.lemmas.Bool.{or_right}
use Rattle.bohm_log.specs.Calling.{ArePlaces}
use Rattle.bohm_log.specs.CallPlaces.{IsFalling}
use Rattle.bohm_log.specs.Columns.{AllNamed}
use Rattle.bohm_log.specs.Parts.{IsApart, name_at, names_at}
use Rattle.bohm_log.proofs.Lists.{front}
use Rattle.bohm_log.proofs.EqualKeys.{same_key, key_itself}
use Rattle.std.proofs.lemmas.Map.Text.{is_eq-slice_cmp}
use Rattle.bohm_types.specs.Keys.{is_among}
use Rattle.bohm_types.specs.KeySets.{inserted_by, inserted, key_set}

-- ---- inserting a key at its index

pub inserted_before : (k : List ℕ) (xs : List (List ℕ)) (i : ℕ) (x : List ℕ) → i < length xs → x ≡ get_or xs i x → slice_cmp nat_cmp k x ≡ Less
    → inserted k xs ≡ take i xs ++ inserted k (drop i xs) → insert xs i k ≡ inserted k xs
inserted_before k xs i x h is less e =
    let there : drop i xs ≡ x ∷ drop (i + 1) xs = front xs i x h is in
    let here : inserted k (drop i xs) ≡ k ∷ drop i xs =
    ap (inserted k) there ∙ ap (λ o. inserted_by o k x (drop (i + 1) xs) (inserted k (drop (i + 1) xs))) less ∙ ap (λ ys. k ∷ ys) (sym there) in
    sym (e ∙ ap (λ ys. take i xs ++ ys) here)

take_drop : (i : ℕ) (xs : List (List ℕ)) → take i xs ++ drop i xs ≡ xs
take_drop = take-append-drop

pub inserted_at : (k : List ℕ) (xs : List (List ℕ)) (i : ℕ) (x : List ℕ) → i < length xs → x ≡ get_or xs i x → slice_cmp nat_cmp k x ≡ Equal
    → inserted k xs ≡ take i xs ++ inserted k (drop i xs) → xs ≡ inserted k xs
inserted_at k xs i x h is equal e =
    let there : drop i xs ≡ x ∷ drop (i + 1) xs = front xs i x h is in
    let here : inserted k (drop i xs) ≡ drop i xs =
    ap (inserted k) there ∙ ap (λ o. inserted_by o k x (drop (i + 1) xs) (inserted k (drop (i + 1) xs))) equal ∙ sym there in
    sym (e ∙ ap (λ ys. take i xs ++ ys) here ∙ take_drop i xs)

pub inserted_after : (k : List ℕ) (xs : List (List ℕ)) (i : ℕ) (x : List ℕ) → i < length xs → x ≡ get_or xs i x → slice_cmp nat_cmp k x ≡ Greater
    → inserted k xs ≡ take i xs ++ inserted k (drop i xs) → inserted k xs ≡ take (i + 1) xs ++ inserted k (drop (i + 1) xs)
inserted_after k xs i x h is greater e =
    let there : drop i xs ≡ x ∷ drop (i + 1) xs = front xs i x h is in
    let here : inserted k (drop i xs) ≡ x ∷ inserted k (drop (i + 1) xs) =
    ap (inserted k) there ∙ ap (λ o. inserted_by o k x (drop (i + 1) xs) (inserted k (drop (i + 1) xs))) greater in
    let more : take (i + 1) xs ≡ take i xs ++ x ∷ [] = take_more xs i x h ∙ ap (λ y. take i xs ++ y ∷ []) (sym is) in
    e ∙ ap (λ ys. take i xs ++ ys) here ∙ sym (append_assoc (take i xs) (x ∷ []) (inserted k (drop (i + 1) xs)))
    ∙ ap (λ ys. ys ++ inserted k (drop (i + 1) xs)) (sym more)

-- ---- ascending keys are their own set

pub own_last : (keys : List (List ℕ)) (i : ℕ) → length keys ≤ i + 1 → i < length keys → key_set (drop i keys) ≡ drop i keys
own_last keys i h inside =
    let none : drop (suc i) keys ≡ [] = drop_all (suc i) keys (omega arith) in
    let here : drop i keys ≡ get_or keys i [] ∷ [] = drop-cons keys i [] inside ∙ ap (λ (ks : List (List ℕ)). get_or keys i [] ∷ ks) none in
    ap key_set here ∙ sym here

pub own_further : (keys : List (List ℕ)) (i : ℕ) (k x : List ℕ) → i + 1 < length keys → k ≡ get_or keys i k → x ≡ get_or keys (i + 1) x
    → slice_cmp nat_cmp k x ≡ Less → key_set (drop (i + 1) keys) ≡ drop (i + 1) keys → key_set (drop i keys) ≡ drop i keys
own_further keys i k x inside first second less own =
    let there : drop (i + 1) keys ≡ x ∷ drop (i + 1 + 1) keys = front keys (i + 1) x inside second in
    let here : drop i keys ≡ k ∷ drop (i + 1) keys = front keys i k (omega arith) first in
    ap key_set here ∙ ap (inserted k) own ∙ ap (inserted k) there
    ∙ ap (λ o. inserted_by o k x (drop (i + 1 + 1) keys) (inserted k (drop (i + 1 + 1) keys))) less
    ∙ ap (λ (ks : List (List ℕ)). k ∷ ks) (sym there) ∙ sym here

pub own_further_at : (keys : List (List ℕ)) (i : ℕ) (k x : List ℕ) → i + 1 < length keys → slice_get keys i ≡ Some k → slice_get keys (i + 1) ≡ Some x
    → slice_cmp nat_cmp k x ≡ Less → key_set (drop (i + 1) keys) ≡ drop (i + 1) keys → key_set (drop i keys) ≡ drop i keys
own_further_at keys i k x inside first second less own =
    own_further keys i k x inside (sym (get_or_from_slice_get keys i k k first)) (sym (get_or_from_slice_get keys (i + 1) x x second)) less own

-- ---- inserting a name's number among the numbers of ascending names

-- the name with the number at an index is the name at that index
pub name_read : (names : List (List ℕ)) (sorted : List ℕ) (i n : ℕ) (x : List ℕ) → AllNamed names sorted → i < length sorted → n ≡ get_or sorted i n
    → x ≡ get_or names n x → x ≡ get_or (names_at names sorted) i x
name_read names sorted i n x named inside number is =
    let within : n < length names = subst (λ m. m < length names) (sym number) (All-get_or (λ m. m < length names) sorted i n inside named) in
    is ∙ sym (get_or_default names n [] x within) ∙ ap (name_at names) number ∙ sym (get_or-map (name_at names) sorted i n x inside)

inserted_name : (names : List (List ℕ)) (sorted : List ℕ) (i id : ℕ) → names_at names (insert sorted i id) ≡ insert (names_at names sorted) i (name_at names id)
inserted_name names sorted i id =
    map-append (name_at names) (take i sorted) (id ∷ drop i sorted)
    ∙ (λ j. sym (take-map (name_at names) i sorted) j ++ name_at names id ∷ sym (drop-map (name_at names) i sorted) j)

-- the first i of the sorted names are below the name with number `id`
abbrev pub BelowUpTo : List (List ℕ) → List ℕ → ℕ → ℕ → Type 0
BelowUpTo names sorted id i = inserted (name_at names id) (names_at names sorted)
    ≡ take i (names_at names sorted) ++ inserted (name_at names id) (drop i (names_at names sorted))

pub number_before : (names : List (List ℕ)) (sorted : List ℕ) (id i n : ℕ) (k x : List ℕ) → id < length names → k ≡ get_or names id k → AllNamed names sorted
    → i < length sorted → n ≡ get_or sorted i n → x ≡ get_or names n x → slice_cmp nat_cmp k x ≡ Less → BelowUpTo names sorted id i
    → names_at names (insert sorted i id) ≡ inserted (name_at names id) (names_at names sorted)
number_before names sorted id i n k x inside is named within number there less e =
    let same : k ≡ name_at names id = is ∙ sym (get_or_default names id [] k inside) in
    inserted_name names sorted i id
    ∙ inserted_before (name_at names id) (names_at names sorted) i x (omega (arith, within, length-map sorted (name_at names)))
    (name_read names sorted i n x named within number there) (ap (λ (y : List ℕ). slice_cmp nat_cmp y x) (sym same) ∙ less) e

pub number_at : (names : List (List ℕ)) (sorted : List ℕ) (id i n : ℕ) (k x : List ℕ) → id < length names → k ≡ get_or names id k → AllNamed names sorted
    → i < length sorted → n ≡ get_or sorted i n → x ≡ get_or names n x → slice_cmp nat_cmp k x ≡ Equal → BelowUpTo names sorted id i
    → names_at names sorted ≡ inserted (name_at names id) (names_at names sorted)
number_at names sorted id i n k x inside is named within number there equal e =
    let same : k ≡ name_at names id = is ∙ sym (get_or_default names id [] k inside) in
    inserted_at (name_at names id) (names_at names sorted) i x (omega (arith, within, length-map sorted (name_at names)))
    (name_read names sorted i n x named within number there) (ap (λ (y : List ℕ). slice_cmp nat_cmp y x) (sym same) ∙ equal) e

pub number_after : (names : List (List ℕ)) (sorted : List ℕ) (id i n : ℕ) (k x : List ℕ) → id < length names → k ≡ get_or names id k → AllNamed names sorted
    → i < length sorted → n ≡ get_or sorted i n → x ≡ get_or names n x → slice_cmp nat_cmp k x ≡ Greater → BelowUpTo names sorted id i
    → BelowUpTo names sorted id (i + 1)
number_after names sorted id i n k x inside is named within number there greater e =
    let same : k ≡ name_at names id = is ∙ sym (get_or_default names id [] k inside) in
    inserted_after (name_at names id) (names_at names sorted) i x (omega (arith, within, length-map sorted (name_at names)))
    (name_read names sorted i n x named within number there) (ap (λ (y : List ℕ). slice_cmp nat_cmp y x) (sym same) ∙ greater) e

-- ---- consecutive indices

pub range_more : (a n j : ℕ) → a + n ≡ j → range_with_len a (n + 1) ≡ range_with_len a n ++ j ∷ []
range_more a n j e =
    sym (map-id (range_with_len a (n + 1))) ∙ map-range_with_len_more (λ i. i) a n j e
    ∙ ap (λ (xs : List ℕ). xs ++ j ∷ []) (map-id (range_with_len a n))

place_stays : (n i : ℕ) → i < n → slice_index_or (range_with_len 0 n) i 0 ≡ i
place_stays n i h = get_or-range_with_len 0 n i 0 h ∙ zero_more
  where
    zero_more : 0 + i ≡ i
    zero_more = omega arith

-- the indices of keys in their own list are 0, 1, 2 and so on
pub own_places : (keys : List (List ℕ)) → ArePlaces keys keys (range_with_len 0 (length keys))
own_places keys = record {
  each = λ i h. ap (slice_get keys) (place_stays (length keys) i h) ∙ slice_get-get_or keys i [] h;
}

-- ---- two keys

-- the two keys of a list compare as the keys read at indices 0 and 1
compared : (x y a b : List ℕ) → slice_get (x ∷ y ∷ []) 0 ≡ Some a → slice_get (x ∷ y ∷ []) 1 ≡ Some b → slice_cmp nat_cmp x y ≡ slice_cmp nat_cmp a b
compared x y a b first second =
    let one : x ≡ a = get_or_from_slice_get (x ∷ y ∷ []) 0 a a first in
    let other : y ≡ b = get_or_from_slice_get (x ∷ y ∷ []) 1 b b second in
    λ j. slice_cmp nat_cmp (one j) (other j)

pub two_rising : (keys : List (List ℕ)) (a b : List ℕ) → length keys ≡ 2 → slice_get keys 0 ≡ Some a → slice_get keys 1 ≡ Some b
    → slice_cmp nat_cmp a b ≡ Less → key_set keys ≡ keys
two_rising [] a b two first second less = absurd (omega (arith, two))
two_rising (x ∷ []) a b two first second less = absurd (omega (arith, two))
two_rising (x ∷ y ∷ []) a b two first second less = ap (λ o. inserted_by o x y [] (inserted x [])) (compared x y a b first second ∙ less)
two_rising (x ∷ y ∷ z ∷ zs) a b two first second less = absurd (omega (arith, two))

pub two_falling : (keys : List (List ℕ)) (a b : List ℕ) → length keys ≡ 2 → slice_get keys 0 ≡ Some a → slice_get keys 1 ≡ Some b
    → slice_cmp nat_cmp a b ≡ Greater → IsFalling keys
two_falling [] a b two first second greater = absurd (omega (arith, two))
two_falling (x ∷ []) a b two first second greater = absurd (omega (arith, two))
two_falling (x ∷ y ∷ []) a b two first second greater =
    (two, ap (λ o. inserted_by o x y [] (inserted x [])) (compared x y a b first second ∙ greater))
two_falling (x ∷ y ∷ z ∷ zs) a b two first second greater = absurd (omega (arith, two))

-- ---- a key is in the set of a list exactly if the key is in the list

equal_keys : (k x : List ℕ) → slice_cmp nat_cmp k x ≡ Equal → bytes_eq k x ≡ true
equal_keys k x e = sym (is_eq-slice_cmp k x) ∙ ap is_eq e

swapped : (a b c : Bool) → (a || (b || c)) ≡ (b || (a || c))
swapped true true c = refl
swapped true false c = refl
swapped false b c = refl

doubled : (a b : Bool) → (a || b) ≡ (a || (a || b))
doubled true b = refl
doubled false b = refl

among_inserted : (k : List ℕ) (xs : List (List ℕ)) (q : List ℕ) → is_among (inserted k xs) q ≡ (bytes_eq k q || is_among xs q)
among_inserted k [] q = refl
among_inserted k (x ∷ xs) q =
    elim (slice_cmp nat_cmp k x) as
    (λ o. slice_cmp nat_cmp k x ≡ o → is_among (inserted_by o k x xs (inserted k xs)) q ≡ (bytes_eq k q || (bytes_eq x q || is_among xs q))) [
      | Less ↦ λ e. refl
      | Equal ↦ λ e. rw (same_key k x (equal_keys k x e)) (doubled (bytes_eq x q) (is_among xs q))
      | Greater ↦ λ e. rw (among_inserted k xs q) (swapped (bytes_eq x q) (bytes_eq k q) (is_among xs q))
    ] refl

pub among_key_set : (ks : List (List ℕ)) (q : List ℕ) → is_among (key_set ks) q ≡ is_among ks q
among_key_set [] q = refl
among_key_set (k ∷ ks) q = among_inserted k (key_set ks) q ∙ ap (λ b. bytes_eq k q || b) (among_key_set ks q)

-- ---- a list's set has no more keys than the list

inserted_few : (k : List ℕ) (xs : List (List ℕ)) → length (inserted k xs) ≤ suc (length xs)
inserted_few k [] = omega arith
inserted_few k (x ∷ xs) =
    elim (slice_cmp nat_cmp k x) as (λ o. length (inserted_by o k x xs (inserted k xs)) ≤ suc (suc (length xs))) [
      | Less ↦ omega arith
      | Equal ↦ omega arith
      | Greater ↦ omega (arith, inserted_few k xs)
    ]

pub key_set_few : (ks : List (List ℕ)) → length (key_set ks) ≤ length ks
key_set_few [] = omega arith
key_set_few (k ∷ ks) = omega (arith, inserted_few k (key_set ks), key_set_few ks)

-- the key at an index is among the keys
among_at : (keys : List (List ℕ)) (i : ℕ) (d : List ℕ) → i < length keys → is_among keys (get_or keys i d) ≡ true
among_at [] i d h = absurd (omega (arith, h))
among_at (x ∷ xs) zero d h = rw (key_itself x) refl
among_at (x ∷ xs) (suc i) d h = or_right (bytes_eq x (get_or xs i d)) (is_among xs (get_or xs i d)) (among_at xs i d (omega (arith, h)))

pub among_here : (keys : List (List ℕ)) (i : ℕ) (x : List ℕ) → i < length keys → x ≡ get_or keys i x → is_among (key_set keys) x ≡ true
among_here keys i x h is = among_key_set keys x ∙ ap (λ y. is_among keys y) is ∙ among_at keys i x h

-- each key of a list of at most 16 keys is in the list's set
pub not_absent : (keys set : List (List ℕ)) (i : ℕ) (x : List ℕ) → set ≡ key_set keys → length keys ≤ 16 → i < length keys
    → x ≡ get_or keys i x → ¬ (IsApart set x)
not_absent keys set i x e few h is apart =
    let short : length set ≤ 16 = omega (arith, ap length e, key_set_few keys, few) in
    let there : is_among set x ≡ true = ap (λ (ks : List (List ℕ)). is_among ks x) e ∙ among_here keys i x h is in
    let none : is_among set x ≡ false = apart short in
    absurd (let bad : true ≡ false = sym there ∙ none in cc)

-- ---- the indices of the first n keys

abbrev pub PlacedUpTo : List (List ℕ) → List (List ℕ) → List ℕ → ℕ → Type 0
PlacedUpTo keys set to n = (length to ≡ n) × ((i : ℕ) → i < n → slice_get set (slice_index_or to i 0) ≡ Some (slice_index_or keys i []))

pub placed_next : (keys set : List (List ℕ)) (to new : List ℕ) (n place : ℕ) (x : List ℕ) → PlacedUpTo keys set to n
    → n < length keys → x ≡ get_or keys n x → slice_get set place ≡ Some x → new ≡ to ++ place ∷ [] → PlacedUpTo keys set new (n + 1)
placed_next keys set to new n place x h inside is at e =
    (ap length e ∙ length-append to (place ∷ []) ∙ ap (λ m. m + 1) h.0, below_more _ _ before here)
  where
    before : (i : ℕ) → i < n → slice_get set (slice_index_or new i 0) ≡ Some (slice_index_or keys i [])
    before i l = ap (λ (zs : List ℕ). slice_get set (slice_index_or zs i 0)) e
        ∙ ap (slice_get set) (get_or_append_left to (place ∷ []) 0 i (omega (arith, h.0, l))) ∙ h.1 i l

    same : slice_index_or keys n [] ≡ x
    same = get_or_default keys n [] x inside ∙ sym is

    zero_left : n - n ≡ 0
    zero_left = omega arith

    last : slice_index_or new n 0 ≡ place
    last = ap (λ (zs : List ℕ). slice_index_or zs n 0) e ∙ get_or-append_right to (place ∷ []) n n 0 h.0 (omega arith)
        ∙ ap (λ m. slice_index_or (place ∷ []) m 0) zero_left

    here : slice_get set (slice_index_or new n 0) ≡ Some (slice_index_or keys n [])
    here = ap (slice_get set) last ∙ at ∙ ap (λ y. Some y) (sym same)
