-- One list of placeholders gives the accesses of all transactions, row by row.
use Rattle.std.proofs.Common.{◌≡◌, ℕ, zero, suc, ◌+◌, ◌<◌, ◌≤◌, ◌%◌, true, List, [], ◌∷◌, ◌++◌, length, map, take, drop, slice_get}
use Rattle.std.proofs.Common.{Some, refl, sym, ap, ◌∙◌, subst, arith, if◌then◌else◌, nat_lt, append_assoc, append-nil, length-append}
use Rattle.std.proofs.lemmas.Bool.Decides.{nat_tests}
use Rattle.std.proofs.lemmas.Option.{same_Some, slice_get-map, slice_get_within}
use Rattle.std.proofs.lemmas.List.{drop_at, map-append, length-map, take_at}
use Rattle.std.proofs.lemmas.Simd.{map-map}
use Rattle.bohm_types.specs.Txn.{Txn}
use Rattle.bohm_txn.specs.Sure.{is_sure}
use Rattle.bohm_place.specs.declared.access.Access.{Access}
use Rattle.bohm_place.specs.declared.access.Source.TheVariants.{Before}
use Rattle.bohm_place.specs.declared.declared_set.DeclaredSet.{DeclaredSet}
use Rattle.bohm_place.specs.declared.declared_set.DeclaredSet.TheVariants.{Reads, Writes}
use Rattle.bohm_place.specs.declared.placeholder.Placeholder.{Placeholder}
use Rattle.bohm_place.specs.declared.row.Row.{Row}
use Rattle.bohm_place.specs.Chains.{Keyed, placeholders_in, none}
use Rattle.bohm_place.specs.Shares.{found_by, rows_from, newest_ahead, ahead_of}
use Rattle.bohm_place.specs.Slots.{width, offset}
use Rattle.bohm_place.specs.Plans.{Accesses, Planned, access_of, accesses_of, reads_of, writes_of, AreLaidFrom}
use Rattle.bohm_place.specs.Plans.{planned_in, AreRightAccesses, IsRightPlan, HasNoPlaces, IsPlanned}
use Rattle.bohm_place.proofs.Placed.{Below}
use Rattle.bohm_place.proofs.Found.{found_same}
use Rattle.bohm_place.proofs.Right.{right_access, index_before, newest_ahead-base}

-- ---- f gives the placeholder for a key, from the earlier transactions

-- the accesses of the transaction t, with the transactions `ahead` and this number of slots before it
abbrev row_of : (List Txn → List ℕ → Placeholder) → ℕ → List Txn → Txn → Accesses
row_of f slot ahead t = record {
  reads = map access_of (map (f ahead) t.reads);
  writes = map access_of (map (f ahead) t.writes);
  slot = slot;
  sure = is_sure t;
}

-- the accesses of each transaction, and the number of slots before it, counted from `slot`
abbrev pub nested : (List Txn → List ℕ → Placeholder) → ℕ → List Txn → List Txn → List Accesses
nested f slot done [] = []
nested f slot done (t ∷ ts) = row_of f slot done t ∷ nested f (slot + width t) (done ++ t ∷ []) ts

front : {A : Type 0} (n m : ℕ) (pre xs ys : List A) → n ≡ length pre → m ≡ length xs → take m (drop n (pre ++ (xs ++ ys))) ≡ xs
front n m pre xs ys e f = ap (take m) (drop_at pre (xs ++ ys) n (sym e)) ∙ take_at xs ys m (sym f)

row_nested : (f : List ℕ → Placeholder) (pre rest : List Placeholder) (start slot : ℕ) (t : Txn) → start ≡ length pre
    → accesses_of (pre ++ (map f (t.reads ++ t.writes) ++ rest))
    (record { start = start; reads = length t.reads; writes = length t.writes; slot = slot; sure = is_sure t })
    ≡ record { reads = map access_of (map f t.reads); writes = map access_of (map f t.writes); slot = slot; sure = is_sure t }
row_nested f pre rest start slot t e =
    let rs = map f t.reads in
    let ws = map f t.writes in
    let parts : pre ++ (map f (t.reads ++ t.writes) ++ rest) ≡ pre ++ (rs ++ (ws ++ rest)) = rw (map-append f t.reads t.writes, append_assoc) refl in
    let behind : pre ++ (rs ++ (ws ++ rest)) ≡ (pre ++ rs) ++ (ws ++ rest) = sym (append_assoc pre rs (ws ++ rest)) in
    let reads : take (length t.reads) (drop start (pre ++ (map f (t.reads ++ t.writes) ++ rest))) ≡ rs =
    rw parts (front start (length t.reads) pre rs (ws ++ rest) e (sym (length-map t.reads f))) in
    let middle : start + length t.reads ≡ length (pre ++ rs) = omega (arith, length-append pre rs, length-map t.reads f) in
    let writes : take (length t.writes) (drop (start + length t.reads) (pre ++ (map f (t.reads ++ t.writes) ++ rest))) ≡ ws =
    rw (parts, behind) (front (start + length t.reads) (length t.writes) (pre ++ rs) ws rest middle (sym (length-map t.writes f))) in
    λ i. record { reads = map access_of (reads i); writes = map access_of (writes i); slot = slot; sure = is_sure t }

rows_nested : (f : List Txn → List ℕ → Placeholder) (done ts : List Txn) (pre : List Placeholder) (start slot : ℕ) → start ≡ length pre
    → map (accesses_of (pre ++ found_by (λ _. true) f done ts)) (rows_from start slot ts) ≡ nested f slot done ts
rows_nested f done [] pre start slot e = refl
rows_nested f done (t ∷ ts) pre start slot e =
    let here = map (f done) (t.reads ++ t.writes) in
    let rest = found_by (λ _. true) f (done ++ t ∷ []) ts in
    let whole : pre ++ (here ++ rest) ≡ (pre ++ here) ++ rest = sym (append_assoc pre here rest) in
    let long : (start + length t.reads) + length t.writes ≡ length (pre ++ here) =
    omega (arith, length-append pre here, length-map (t.reads ++ t.writes) (f done), length-append t.reads t.writes) in
    let more = rows_nested f (done ++ t ∷ []) ts (pre ++ here) ((start + length t.reads) + length t.writes) (slot + width t) long in
    let more' : map (accesses_of (pre ++ (here ++ rest))) (rows_from ((start + length t.reads) + length t.writes) (slot + width t) ts)
    ≡ nested f (slot + width t) (done ++ t ∷ []) ts =
    rw whole more in
    λ i. row_nested (f done) pre rest start slot t e i ∷ more' i

-- the rows cut from the list of all found placeholders are the rows that `nested` gives
found_nested : (f : List Txn → List ℕ → Placeholder) (ts : List Txn) → map (accesses_of (found_by (λ _. true) f [] ts)) (rows_from 0 0 ts) ≡ nested f 0 [] ts
found_nested f ts = rows_nested f [] ts [] 0 0 refl

length-nested : (f : List Txn → List ℕ → Placeholder) (slot : ℕ) (done ts : List Txn) → length (nested f slot done ts) ≡ length ts
length-nested f slot done [] = refl
length-nested f slot done (t ∷ ts) = ap suc (length-nested f (slot + width t) (done ++ t ∷ []) ts)

pub length-rows_from : (start slot : ℕ) (ts : List Txn) → length (rows_from start slot ts) ≡ length ts
length-rows_from start slot [] = refl
length-rows_from start slot (t ∷ ts) = ap suc (length-rows_from ((start + length t.reads) + length t.writes) (slot + width t) ts)

pub laid-rows_from : (start slot : ℕ) (ts : List Txn) → AreLaidFrom start (rows_from start slot ts)
laid-rows_from start slot [] = tt
laid-rows_from start slot (t ∷ ts) = (omega arith, laid-rows_from ((start + length t.reads) + length t.writes) (slot + width t) ts)

nested_at : (f : List Txn → List ℕ → Placeholder) (slot : ℕ) (done ts : List Txn) (i : ℕ) (t : Txn) → slice_get ts i ≡ Some t
    → slice_get (nested f slot done ts) i ≡ Some (row_of f (slot + offset ts i) (done ++ take i ts) t)
nested_at f slot done [] i t e = absurd cc
nested_at f slot done (x ∷ ts) zero t e =
    let same : x ≡ t = same_Some x t e in
    let here : slot + 0 ≡ slot = omega arith in
    rw (append-nil done, same, here) refl
nested_at f slot done (x ∷ ts) (suc i) t e =
    let more = nested_at f (slot + width x) (done ++ x ∷ []) ts i t e in
    let sum : (slot + width x) + offset ts i ≡ slot + (width x + offset ts i) = omega arith in
    rw (append_assoc, sum) at more

right_row : (first : ℕ) (ts : List Txn) (i : ℕ) (keys : List (List ℕ)) → 0 < first → i ≤ length ts
    → AreRightAccesses first ts (first + i) keys (map access_of (map (ahead_of first (take i ts)) keys))
right_row first ts i keys above inside = record {
  paired = sym (length-map (map (ahead_of first (take i ts)) keys) access_of ∙ length-map keys (ahead_of first (take i ts)));
  each = λ j k a e h.
      let f : List ℕ → Access = λ q. access_of (ahead_of first (take i ts) q) in
      let at : slice_get (map access_of (map (ahead_of first (take i ts)) keys)) j ≡ Some (f k) = rw (map-map, slice_get-map f keys j, e) refl in
      let same : f k ≡ a = same_Some (f k) a (sym at ∙ h) in
      rw (← same) (right_access first ts k i above inside);
}

-- a plan whose rows have each key's newest placeholder from the earlier transactions is right
pub right_plan : (first : ℕ) (ts : List Txn) (p : Planned) → 0 < first → p.first ≡ first → p.rows ≡ nested (ahead_of first) 0 [] ts
    → p.slots ≡ offset ts (length ts) → IsRightPlan ts p
right_plan first ts p above start rows slots = record {
  paired = ap length rows ∙ length-nested (ahead_of first) 0 [] ts;
  reads = λ i t e.
      let at = nested_at (ahead_of first) 0 [] ts i t e in
      let inside = slice_get_within ts i t e in
      let is : reads_of p i ≡ map access_of (map (ahead_of first (take i ts)) t.reads) = rw (rows, at) refl in
      rw (is, start) (right_row first ts i t.reads above (omega arith));
  writes = λ i t e.
      let at = nested_at (ahead_of first) 0 [] ts i t e in
      let inside = slice_get_within ts i t e in
      let is : writes_of p i ≡ map access_of (map (ahead_of first (take i ts)) t.writes) = rw (rows, at) refl in
      rw (is, start) (right_row first ts i t.writes above (omega arith));
  sure = λ i t e. rw (rows, nested_at (ahead_of first) 0 [] ts i t e) refl;
  slot = λ i t e.
      let none : 0 + offset ts i ≡ offset ts i = omega arith in
      rw (rows, nested_at (ahead_of first) 0 [] ts i t e) (ap (λ n. Some n) none);
  slots = slots;
}

-- ---- accesses whose source is `Before`

in_row : (P : Access → Type 0) (f : List ℕ → Placeholder) → ((k : List ℕ) → P (access_of (f k))) → (keys : List (List ℕ)) (j : ℕ) (a : Access)
    → slice_get (map access_of (map f keys)) j ≡ Some a → P a
in_row P f each [] j a e = absurd cc
in_row P f each (k ∷ keys) zero a e = subst P (same_Some (access_of (f k)) a e) (each k)
in_row P f each (k ∷ keys) (suc j) a e = in_row P f each keys j a e

-- a property of each access that f gives holds for each access of the plan
in_nested : (P : Access → Type 0) (f : List Txn → List ℕ → Placeholder) → ((done : List Txn) (k : List ℕ) → P (access_of (f done k))) → (set : DeclaredSet)
    (first slots slot : ℕ) (done ts : List Txn) (i j : ℕ) (a : Access)
    → slice_get (planned_in set (record { first = first; rows = nested f slot done ts; slots = slots }) i) j ≡ Some a → P a
in_nested P f each Reads first slots slot done [] i j a e = absurd cc
in_nested P f each Writes first slots slot done [] i j a e = absurd cc
in_nested P f each Reads first slots slot done (t ∷ ts) zero j a e = in_row P (f done) (each done) t.reads j a e
in_nested P f each Writes first slots slot done (t ∷ ts) zero j a e = in_row P (f done) (each done) t.writes j a e
in_nested P f each Reads first slots slot done (t ∷ ts) (suc i) j a e = in_nested P f each Reads first slots (slot + width t) (done ++ t ∷ []) ts i j a e
in_nested P f each Writes first slots slot done (t ∷ ts) (suc i) j a e = in_nested P f each Writes first slots (slot + width t) (done ++ t ∷ []) ts i j a e

-- a plan whose rows have each key's newest placeholder from the earlier transactions has no noted index
pub no_places : (first : ℕ) (ts : List Txn) (p : Planned) → 0 < first → p.rows ≡ nested (ahead_of first) 0 [] ts → HasNoPlaces p
no_places first ts p above rows set i j a e =
    in_nested (λ x. x.source ≡ Before → x.index ≡ 0) (ahead_of first) (λ done k. index_before first done k above) set p.first p.slots 0 [] ts i j a
    (subst (λ (rs : List Accesses). slice_get (planned_in set (record { first = p.first; rows = rs; slots = p.slots }) i) j ≡ Some a) rows e)

-- ---- one worker or several

-- the rows of a plan, from the placeholders that one worker finds for all keys
pub rows_found : (first : ℕ) (ts : List Txn) (found : List Placeholder) (rows : List Row) → found ≡ found_by (λ _. true) (ahead_of first) [] ts
    → rows ≡ rows_from 0 0 ts → map (accesses_of found) rows ≡ nested (ahead_of first) 0 [] ts
rows_found first ts found rows e laid = rw (e, laid) (found_nested (ahead_of first) ts)

whole_by : (m n : ℕ) (v w : Placeholder) → m < n → v ≡ w → (if nat_lt m n then v else none) ≡ w
whole_by m n v w lt e = let t : nat_lt m n ≡ true = grind (arith, nat_tests) in rw t e

-- the joined result of all n workers with f is the result for all keys with g, if f and g agree
pub found_whole : (part : List ℕ → ℕ) (n : ℕ) (f g : List Txn → List ℕ → Placeholder) (ts : List Txn) → 0 < n
    → ((done : List Txn) (k : List ℕ) → f done k ≡ g done k)
    → found_by (λ k. nat_lt (part k % n) n) f [] ts ≡ found_by (λ _. true) g [] ts
found_whole part n f g ts some same =
    found_same (λ k. nat_lt (part k % n) n) (λ _. true) f g (λ done k. whole_by (part k % n) n (f done k) (g done k) (omega arith) (same done k)) [] ts

-- the rows of a plan, from the joined result of all workers, with chains from before the batch
pub rows_whole : (part : List ℕ → ℕ) (n first : ℕ) (ts : List Txn) (given : List Keyed) (found : List Placeholder) (rows : List Row) → 0 < n → 0 < first
    → ((k : List ℕ) → Below first (placeholders_in part given k))
    → found ≡ found_by (λ k. nat_lt (part k % n) n) (newest_ahead first (placeholders_in part given)) [] ts → rows ≡ rows_from 0 0 ts
    → map (accesses_of found) rows ≡ nested (ahead_of first) 0 [] ts
rows_whole part n first ts given found rows some above low e laid =
    let base = placeholders_in part given in
    rows_found first ts found rows (e ∙ found_whole part n (newest_ahead first base) (ahead_of first) ts some
    (λ done k. newest_ahead-base first base done k above (low k))) laid

-- the placeholders that one worker finds for all keys give the right plan, without noted indices
pub planned : (first : ℕ) (ts : List Txn) (found : List Placeholder) (rows : List Row) (p : Planned) → 0 < first → found ≡ found_by (λ _. true)
    (ahead_of first) [] ts → rows ≡ rows_from 0 0 ts → p.first ≡ first → p.rows ≡ map (accesses_of found) rows → p.slots ≡ offset ts (length ts)
    → IsPlanned first ts p
planned first ts found rows p above e laid start is slots =
    let whole : p.rows ≡ nested (ahead_of first) 0 [] ts = is ∙ rows_found first ts found rows e laid in
    record { first = start; right = right_plan first ts p above start whole slots; unplaced = no_places first ts p above whole }
