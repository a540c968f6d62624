-- The placeholders that one worker finds, transaction by transaction, and that several workers find together.
use Rattle.std.proofs.Common.{◌≡◌, ◌≢◌, ℕ, ◌+◌, ◌<◌, ◌≤◌, ◌%◌, ◌==◌, ◌||◌, Bool, true, false, List, [], ◌∷◌, ◌++◌, length, map, take, drop, get_or}
use Rattle.std.proofs.Common.{slice_get, refl, sym, ap, ◌∙◌, arith, if◌then◌else◌, max, nat_lt, append_assoc, append-nil, add-zero, length-append}
use Rattle.std.proofs.Math.Bool.{or-false}
use Rattle.std.proofs.lemmas.Grind.{common_steps}
use Rattle.std.proofs.lemmas.Bool.Decides.{nat_tests}
use Rattle.std.proofs.lemmas.List.{drop_more, take_more, map-append, length-take-le, length-map}
use Rattle.std.specs.List.{AllByRecursion}
use Rattle.std.specs.Str.{bytes_eq}
use Rattle.bohm_types.specs.Txn.{Txn}
use Rattle.bohm_txn.proofs.ForCallers.{map_same, each_append}
use Rattle.bohm_place.specs.declared.placeholder.Placeholder.{Placeholder}
use Rattle.bohm_place.specs.Chains.{Keyed, placeholders_in, none, last_or}
use Rattle.bohm_place.specs.Shares.{keys_of, within, placeholders_written, placeholders_made, found_by, newest_ahead, greater_of, greater}
use Rattle.bohm_place.proofs.Placed.{Below, Below-higher}
use Rattle.bohm_place.proofs.Swaps.{lt_apart}

pub made_more : (u : ℕ) (xs : List Txn) (x : Txn) (k : List ℕ)
    → placeholders_made u (xs ++ x ∷ []) k ≡ placeholders_made u xs k ++ placeholders_written (u + length xs) 0 x.writes k
made_more u [] x k = rw (append-nil, add-zero) refl
made_more u (y ∷ ys) x k =
    let e : (u + 1) + length ys ≡ u + length (y ∷ ys) = omega arith in
    rw (made_more (u + 1) ys x k, e, append_assoc) refl

row_same : (mine : List ℕ → Bool) (base hand : List ℕ → List Placeholder) (first : ℕ) (ahead : List Txn) (k : List ℕ)
    → hand k ≡ (if mine k then base k ++ placeholders_made first ahead k else base k) → (b : Bool) → mine k ≡ b
    → (if mine k then within first (last_or none (hand k)) else none) ≡ (if mine k then newest_ahead first base ahead k else none)
row_same mine base hand first ahead k h true e = rw (h, e) refl
row_same mine base hand first ahead k h false e = rw e refl

-- a worker's result up to index i, with the placeholders of the transaction at i, is its result up to i + 1
pub found_on : (mine : List ℕ → Bool) (f : List Txn → List ℕ → Placeholder) (xs : List Txn) (i : ℕ) (d : Txn) → i < length xs
    → (out more : List Placeholder) → out ++ found_by mine f (take i xs) (drop i xs) ≡ found_by mine f [] xs
    → more ≡ (out ++ map (λ k. if mine k then f (take i xs) k else none) (get_or xs i d).reads) ++ map (λ k. if mine k then f (take i xs) k else none)
    (get_or xs i d).writes
    → more ++ found_by mine f (take (i + 1) xs) (drop (i + 1) xs) ≡ found_by mine f [] xs
found_on mine f xs i d inside out more so_far is =
    let F : List ℕ → Placeholder = λ k. if mine k then f (take i xs) k else none in
    let x : Txn = get_or xs i d in
    let at : drop i xs ≡ x ∷ drop (i + 1) xs = drop_more xs i d inside in
    let taken : take (i + 1) xs ≡ take i xs ++ x ∷ [] = take_more xs i d inside in
    let whole = rw at at so_far in
    rw (taken, is, append_assoc, append_assoc) (rw (map-append F x.reads x.writes, append_assoc) at whole)

pub found_step : (mine : List ℕ → Bool) (base hand : List ℕ → List Placeholder) (first : ℕ) (xs : List Txn) (i : ℕ) (d : Txn) → i < length xs
    → ((k : List ℕ) → hand k ≡ (if mine k then base k ++ placeholders_made first (take i xs) k else base k))
    → (out more : List Placeholder) → out ++ found_by mine (newest_ahead first base) (take i xs) (drop i xs) ≡ found_by mine (newest_ahead first base) [] xs
    → more ≡ (out ++ map (λ k. if mine k then within first (last_or none (hand k)) else none) (get_or xs i d).reads) ++ map
    (λ k. if mine k then within first (last_or none (hand k)) else none) (get_or xs i d).writes
    → more ++ found_by mine (newest_ahead first base) (take (i + 1) xs) (drop (i + 1) xs) ≡ found_by mine (newest_ahead first base) [] xs
found_step mine base hand first xs i d inside chains out more so_far is =
    let G : List ℕ → Placeholder = λ k. if mine k then within first (last_or none (hand k)) else none in
    let F : List ℕ → Placeholder = λ k. if mine k then newest_ahead first base (take i xs) k else none in
    let same : (ks : List (List ℕ)) → map G ks ≡ map F ks =
    λ ks. map_same G F ks (λ j k e. row_same mine base hand first (take i xs) k (chains k) (mine k) refl) in
    found_on mine (newest_ahead first base) xs i d inside out more so_far (rw (← same (get_or xs i d).reads, ← same (get_or xs i d).writes) is)

chains_by : (mine : List ℕ → Bool) (base hand new : List ℕ → List Placeholder) (first : ℕ) (xs : List Txn) (i : ℕ) (d : Txn) → i < length xs → (k : List ℕ)
    → hand k ≡ (if mine k then base k ++ placeholders_made first (take i xs) k else base k)
    → new k ≡ (if mine k then hand k ++ placeholders_written (first + i) 0 (get_or xs i d).writes k else hand k)
    → (b : Bool) → mine k ≡ b
    → new k ≡ (if mine k then base k ++ placeholders_made first (take (i + 1) xs) k else base k)
chains_by mine base hand new first xs i d inside k h n true e =
    let len : length (take i xs) ≡ i = length-take-le i xs (omega arith) in
    let taken : take (i + 1) xs ≡ take i xs ++ get_or xs i d ∷ [] = take_more xs i d inside in
    rw (n, e, h, e, taken, made_more first (take i xs) (get_or xs i d) k, len, append_assoc) refl
chains_by mine base hand new first xs i d inside k h n false e = rw (n, e, h, e) refl

pub chains_step : (mine : List ℕ → Bool) (base hand new : List ℕ → List Placeholder) (first : ℕ) (xs : List Txn) (i : ℕ) (d : Txn) → i < length xs
    → (k : List ℕ)
    → hand k ≡ (if mine k then base k ++ placeholders_made first (take i xs) k else base k)
    → new k ≡ (if mine k then hand k ++ placeholders_written (first + i) 0 (get_or xs i d).writes k else hand k)
    → new k ≡ (if mine k then base k ++ placeholders_made first (take (i + 1) xs) k else base k)
chains_step mine base hand new first xs i d inside k h n = chains_by mine base hand new first xs i d inside k h n (mine k) refl

-- ---- the begins of a batch's placeholders

-- a property of a transaction's timestamp holds for the begin of each of its placeholders
written_each : (P : ℕ → Type 0) (u index : ℕ) (ws : List (List ℕ)) (k : List ℕ) → P u
    → AllByRecursion (λ (v : Placeholder). P v.begin) (placeholders_written u index ws k)
written_each P u index [] k p = tt
written_each P u index (w ∷ ws) k p = each_append (λ (v : Placeholder). P v.begin) (if bytes_eq w k then record { begin = u; index = index } ∷ [] else [])
    (placeholders_written u (index + 1) ws k) (one (bytes_eq w k)) (written_each P u (index + 1) ws k p)
  where
    one : (b : Bool) → AllByRecursion (λ (v : Placeholder). P v.begin) (if b then record { begin = u; index = index } ∷ [] else [])
    one true = (p, tt)
    one false = tt

pub made_each : (P : ℕ → Type 0) (u : ℕ) (xs : List Txn) (k : List ℕ) → ((t : ℕ) → u ≤ t → t < u + length xs → P t)
    → AllByRecursion (λ (v : Placeholder). P v.begin) (placeholders_made u xs k)
made_each P u [] k p = tt
made_each P u (x ∷ xs) k p = each_append (λ (v : Placeholder). P v.begin) (placeholders_written u 0 x.writes k) (placeholders_made (u + 1) xs k)
    (written_each P u 0 x.writes k (p u (omega arith) (omega arith))) (made_each P (u + 1) xs k (λ t low high. p t (omega arith) (omega arith)))

pub hand_below : (m : Bool) (first t : ℕ) (base hand : List Placeholder) (xs : List Txn) (k : List ℕ) → first + length xs ≤ t → Below first base
    → hand ≡ (if m then base ++ placeholders_made first xs k else base) → Below t hand
hand_below true first t base hand xs k le low h = rw h (each_append (λ (v : Placeholder). v.begin < t) base (placeholders_made first xs k)
    (Below-higher first t base (omega arith) low) (made_each (λ b. b < t) first xs k (λ b from to. omega arith)))
hand_below false first t base hand xs k le low h = rw h (Below-higher first t base (omega arith) low)

-- ---- several workers

max_if : (a b : Bool) (v : Placeholder) → greater_of (if a then v else none) (if b then v else none) ≡ (if (a || b) then v else none)
max_if true true v = λ i. record { begin = same v.begin i; index = same v.index i }
  where
    same : (n : ℕ) → max n n ≡ n
    same n = omega arith
max_if true false v = λ i. record { begin = left v.begin i; index = left v.index i }
  where
    left : (n : ℕ) → max n 0 ≡ n
    left n = omega arith
max_if false true v = λ i. record { begin = right v.begin i; index = right v.index i }
  where
    right : (n : ℕ) → max 0 n ≡ n
    right n = omega arith
max_if false false v = refl

greater_map : (f g : List ℕ → Placeholder) (ks : List (List ℕ)) (xs ys : List Placeholder)
    → greater (map f ks ++ xs) (map g ks ++ ys) ≡ map (λ k. greater_of (f k) (g k)) ks ++ greater xs ys
greater_map f g [] xs ys = refl
greater_map f g (k ∷ ks) xs ys = rw (greater_map f g ks xs ys) refl

-- the joined results of two workers are the result of one worker that has the keys of both
pub greater_found : (a b : List ℕ → Bool) (f : List Txn → List ℕ → Placeholder) (done xs : List Txn)
    → greater (found_by a f done xs) (found_by b f done xs) ≡ found_by (λ k. a k || b k) f done xs
greater_found a b f done [] = refl
greater_found a b f done (x ∷ xs) =
    greater_map (λ k. if a k then f done k else none) (λ k. if b k then f done k else none) (x.reads ++ x.writes) (found_by a f (done ++ x ∷ []) xs)
    (found_by b f (done ++ x ∷ []) xs)
    ∙ rw (greater_found a b f (done ++ x ∷ []) xs, map_same _ _ (x.reads ++ x.writes) (λ j k e. max_if (a k) (b k) (f done k))) refl

pub found_same : (a b : List ℕ → Bool) (f g : List Txn → List ℕ → Placeholder) → ((done : List Txn) (k : List ℕ)
    → (if a k then f done k else none) ≡ (if b k then g done k else none)) → (done xs : List Txn) → found_by a f done xs ≡ found_by b g done xs
found_same a b f g same done [] = refl
found_same a b f g same done (x ∷ xs) = rw (map_same _ _ (x.reads ++ x.writes) (λ j k e. same done k), found_same a b f g same (done ++ x ∷ []) xs) refl

-- the length of a worker's result doesn't depend on the worker's keys
pub length-found_by : (a b : List ℕ → Bool) (f : List Txn → List ℕ → Placeholder) (done xs : List Txn)
    → length (found_by a f done xs) ≡ length (found_by b f done xs)
length-found_by a b f done [] = refl
length-found_by a b f done (x ∷ xs) =
    let ks = x.reads ++ x.writes in
    let more = length-found_by a b f (done ++ x ∷ []) xs in
    let left : length (found_by a f done (x ∷ xs)) ≡ length ks + length (found_by a f (done ++ x ∷ []) xs) =
    length-append (map (λ k. if a k then f done k else none) ks) (found_by a f (done ++ x ∷ []) xs)
    ∙ ap (λ n. n + length (found_by a f (done ++ x ∷ []) xs)) (length-map ks (λ k. if a k then f done k else none)) in
    let right : length (found_by b f done (x ∷ xs)) ≡ length ks + length (found_by b f (done ++ x ∷ []) xs) =
    length-append (map (λ k. if b k then f done k else none) ks) (found_by b f (done ++ x ∷ []) xs)
    ∙ ap (λ n. n + length (found_by b f (done ++ x ∷ []) xs)) (length-map ks (λ k. if b k then f done k else none)) in
    left ∙ ap (λ n. length ks + n) more ∙ sym right

next_or_by : (m w : ℕ) (b : Bool) → (m == w) ≡ b → (nat_lt m w || (m == w)) ≡ nat_lt m (w + 1)
next_or_by m w true e =
    let s : m ≡ w = grind (arith, nat_tests) in
    let l : nat_lt m w ≡ false = grind (arith, nat_tests) in
    let r : nat_lt m (w + 1) ≡ true = grind (arith, nat_tests) in
    rw (l, r, e) refl
next_or_by m w false e =
    let apart : m ≢ w = λ x. grind (arith, nat_tests) in
    rw e (or-false (nat_lt m w) ∙ sym (lt_apart m w apart))

-- m is below w or equal to w exactly if m is below w + 1
pub next_or : (m w : ℕ) → (nat_lt m w || (m == w)) ≡ nat_lt m (w + 1)
next_or m w = next_or_by m w (m == w) refl

zero_or : (m : ℕ) → (m == 0) ≡ nat_lt m (0 + 1)
zero_or m = let none_below : nat_lt m 0 ≡ false = grind (arith, nat_tests) in let all = next_or m 0 in rw none_below at all

module _ (part : List ℕ → ℕ) (n : ℕ) (f : List Txn → List ℕ → Placeholder) (xs : List Txn) where
  pub found_first : (w : ℕ) → w ≡ 0 → found_by (keys_of part n w) f [] xs ≡ found_by (λ k. nat_lt (part k % n) (w + 1)) f [] xs
  found_first w e = rw e (found_same (keys_of part n 0) (λ k. nat_lt (part k % n) (0 + 1)) f f
      (λ done k. ap (λ b. if b then f done k else none) (zero_or (part k % n))) [] xs)

  pub found_next : (w : ℕ) → greater (found_by (λ k. nat_lt (part k % n) w) f [] xs) (found_by (keys_of part n w) f [] xs) ≡ found_by
      (λ k. nat_lt (part k % n) (w + 1)) f [] xs
  found_next w = greater_found (λ k. nat_lt (part k % n) w) (keys_of part n w) f [] xs
      ∙ found_same (λ k. nat_lt (part k % n) w || keys_of part n w k) (λ k. nat_lt (part k % n) (w + 1)) f f
      (λ done k. ap (λ b. if b then f done k else none) (next_or (part k % n) w)) [] xs

  -- the result of worker w, joined into that of the workers below w, gives the result of the workers below w + 1
  pub found_joined : (w size : ℕ) (before joined : List Placeholder) → size ≡ length before → before ≡ found_by (λ k. nat_lt (part k % n) w) f [] xs
      → joined ≡ greater before (found_by (keys_of part n w) f [] xs)
      → take size (joined ++ drop (length joined) before) ≡ found_by (λ k. nat_lt (part k % n) (w + 1)) f [] xs
  found_joined w size before joined sized so_far is =
      let whole : joined ≡ found_by (λ k. nat_lt (part k % n) (w + 1)) f [] xs = rw (is, so_far) (found_next w) in
      let many : length joined ≡ length before =
      rw (whole, so_far) (length-found_by (λ k. nat_lt (part k % n) (w + 1)) (λ k. nat_lt (part k % n) w) f [] xs) in
      let all : take size (joined ++ drop (length joined) before) ≡ joined = grind (arith, common_steps) in
      all ∙ whole

module _ (part : List ℕ → ℕ) (n w : ℕ) (old new hand given : List Keyed) (more : List ℕ → List Placeholder) where
  gathered_by : ((p : ℕ) → p < length old → slice_get new p ≡ (if ((p % n) == w) then slice_get hand p else slice_get old p))
      → ((k : List ℕ) → part k < length old)
      → ((k : List ℕ) → keys_of part n w k ≡ true → placeholders_in part hand k ≡ placeholders_in part given k ++ more k)
      → ((k : List ℕ) → nat_lt (part k % n) w ≡ true → placeholders_in part old k ≡ placeholders_in part given k ++ more k)
      → (k : List ℕ) → nat_lt (part k % n) (w + 1) ≡ true → (b : Bool) → ((part k % n) == w) ≡ b
      → placeholders_in part new k ≡ placeholders_in part given k ++ more k
  gathered_by swapped inside hands olds k low true e =
      let at = swapped (part k) (inside k) in
      let here : slice_get new (part k) ≡ slice_get hand (part k) = rw e at at in
      rw here (hands k e)
  gathered_by swapped inside hands olds k low false e =
      let at = swapped (part k) (inside k) in
      let here : slice_get new (part k) ≡ slice_get old (part k) = rw e at at in
      let apart : (part k % n) ≢ w = λ x. grind (arith, nat_tests) in
      rw here (olds k (sym (lt_apart (part k % n) w apart) ∙ low))

  foreign_by : ((p : ℕ) → p < length old → slice_get new p ≡ (if ((p % n) == w) then slice_get hand p else slice_get old p)) → (i : ℕ) (k : List ℕ)
      → i < length old
      → (((i % n) == w) ≡ true → placeholders_in (λ _. i) hand k ≡ placeholders_in (λ _. i) given k)
      → (nat_lt (i % n) w ≡ true → placeholders_in (λ _. i) old k ≡ placeholders_in (λ _. i) given k)
      → nat_lt (i % n) (w + 1) ≡ true → (b : Bool) → ((i % n) == w) ≡ b → placeholders_in (λ _. i) new k ≡ placeholders_in (λ _. i) given k
  foreign_by swapped i k inside hands olds low true e =
      let at = swapped i inside in
      let here : slice_get new i ≡ slice_get hand i = rw e at at in
      rw here (hands e)
  foreign_by swapped i k inside hands olds low false e =
      let at = swapped i inside in
      let here : slice_get new i ≡ slice_get old i = rw e at at in
      let apart : (i % n) ≢ w = λ x. grind (arith, nat_tests) in
      rw here (olds (sym (lt_apart (i % n) w apart) ∙ low))

  pub foreign : ((p : ℕ) → p < length old → slice_get new p ≡ (if ((p % n) == w) then slice_get hand p else slice_get old p)) → (i : ℕ) (k : List ℕ)
      → i < length old
      → (((i % n) == w) ≡ true → placeholders_in (λ _. i) hand k ≡ placeholders_in (λ _. i) given k)
      → (nat_lt (i % n) w ≡ true → placeholders_in (λ _. i) old k ≡ placeholders_in (λ _. i) given k)
      → nat_lt (i % n) (w + 1) ≡ true → placeholders_in (λ _. i) new k ≡ placeholders_in (λ _. i) given k
  foreign swapped i k inside hands olds low = foreign_by swapped i k inside hands olds low ((i % n) == w) refl

  pub gathered : ((p : ℕ) → p < length old → slice_get new p ≡ (if ((p % n) == w) then slice_get hand p else slice_get old p))
      → ((k : List ℕ) → part k < length old)
      → ((k : List ℕ) → keys_of part n w k ≡ true → placeholders_in part hand k ≡ placeholders_in part given k ++ more k)
      → ((k : List ℕ) → nat_lt (part k % n) w ≡ true → placeholders_in part old k ≡ placeholders_in part given k ++ more k)
      → (k : List ℕ) → nat_lt (part k % n) (w + 1) ≡ true → placeholders_in part new k ≡ placeholders_in part given k ++ more k
  gathered swapped inside hands olds k low = gathered_by swapped inside hands olds k low ((part k % n) == w) refl
