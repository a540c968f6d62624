-- The indices of each transaction's outcome and cells in the outcomes and slots of the serial run.
use Rattle.std.proofs.Common.{◌≡◌, ℕ, zero, suc, ◌+◌, ◌<◌, ◌≤◌, List, [], ◌∷◌, ◌++◌, map, length, Some, refl, ap, ◌∙◌, arith, add-zero, zero-add}
use Rattle.std.specs.Prelude.{ℤ, Err, Ok, Result}
use Rattle.std.specs.Option.{option_map}
use Rattle.std.specs.List.{slice_get}
use Rattle.std.proofs.lemmas.List.{length-append, length-map}
use Rattle.std.proofs.lemmas.Option.{same_Some, slice_get-map}
use Rattle.bohm_types.specs.declared.cell.Cell.{Cell}
use Rattle.bohm_types.specs.Stmt.{Stmt}
use Rattle.bohm_types.specs.declared.edition.Edition.{Edition}
use Rattle.bohm_types.specs.Txn.{Txn}
use Rattle.bohm_txn.specs.declared.outcome.Reason.{Reason}
use Rattle.bohm_txn.specs.Declares.{shows_in}
use Rattle.bohm_txn.specs.Meaning.{Look, Run, Ended, body, body_from, perform, seen, or_stop}
use Rattle.bohm_txn.specs.Serial.{after, state, outcome_of, shows_of}
use Rattle.bohm_place.specs.Slots.{width, offset}
use Rattle.bohm_board.specs.Serial.{show_cells, own_cells, slot_at, slots_of, slots_from, outcomes}

pub get_left : {A : Type 0} (xs ys : List A) (j : ℕ) (x : A) → slice_get xs j ≡ Some x → slice_get (xs ++ ys) j ≡ Some x
get_left [] ys j x e = absurd cc
get_left (y ∷ xs) ys zero x e = e
get_left (y ∷ xs) ys (suc j) x e = get_left xs ys j x e

pub get_right : {A : Type 0} (xs ys : List A) (p m : ℕ) → p ≡ length xs + m → slice_get (xs ++ ys) p ≡ slice_get ys m
get_right [] ys p m e = let same : p ≡ m = omega arith in rw same refl
get_right (x ∷ xs) ys zero m e = absurd (omega arith)
get_right (x ∷ xs) ys (suc p) m e = get_right xs ys p m (omega arith)

pub length-show_cells : (n : ℕ) (zs : List ℤ) → length (show_cells n zs) ≡ n
length-show_cells zero zs = refl
length-show_cells (suc n) [] = omega (arith, length-show_cells n [])
length-show_cells (suc n) (z ∷ zs) = omega (arith, length-show_cells n zs)

pub length-own_cells : (look : Look) (t : Txn) → length (own_cells look t) ≡ width t
length-own_cells look t =
    omega (
      arith,
      length-append (map (after look t) t.writes) (show_cells (shows_in t.body) (shows_of (body look t))),
      length-map t.writes (after look t),
      length-show_cells (shows_in t.body) (shows_of (body look t)),
    )

pub length-outcomes : (look : Look) (ts : List Txn) → length (outcomes look ts) ≡ length ts
length-outcomes look [] = refl
length-outcomes look (t ∷ ts) = omega (arith, length-outcomes (after look t) ts)

pub length-slots_of : (t j : ℕ) (cs : List Cell) → length (slots_of t j cs) ≡ length cs
length-slots_of t j [] = refl
length-slots_of t j (c ∷ cs) = ap suc (length-slots_of t (suc j) cs)

pub length-slots : (n : ℕ) (look : Look) (ts : List Txn) → length (slots_from n look ts) ≡ offset ts (length ts)
length-slots n look [] = refl
length-slots n look (t ∷ ts) =
    omega (
      arith,
      length-append (slots_of n 0 (own_cells look t)) (slots_from (n + 1) (after look t) ts),
      length-slots_of n 0 (own_cells look t),
      length-own_cells look t,
      length-slots (n + 1) (after look t) ts,
    )

own_slot : (t i j : ℕ) (cs : List Cell) (c : Cell) → slice_get cs j ≡ Some c → slice_get (slots_of t i cs) j ≡ Some (slot_at t (i + j) c)
own_slot t i j [] c e = absurd cc
own_slot t i zero (d ∷ cs) c e = rw add-zero (ap (λ (y : Cell). Some (slot_at t i y)) (same_Some d c e))
own_slot t i (suc j) (d ∷ cs) c e = let same : suc i + j ≡ i + suc j = omega arith in own_slot t (suc i) j cs c e ∙ ap (λ (m : ℕ). Some (slot_at t m c)) same

pub outcome_serial : (look : Look) (ts : List Txn) (i : ℕ) (t : Txn) → slice_get ts i ≡ Some t
    → slice_get (outcomes look ts) i ≡ Some (outcome_of (body (state look ts i) t))
outcome_serial look [] i t e = absurd cc
outcome_serial look (x ∷ xs) zero t e = ap (λ y. Some (outcome_of (body look y))) (same_Some x t e)
outcome_serial look (x ∷ xs) (suc i) t e = outcome_serial (after look x) xs i t e

pub slot_serial : (n : ℕ) (look : Look) (ts : List Txn) (i : ℕ) (t : Txn) (j : ℕ) (c : Cell) → slice_get ts i ≡ Some t
    → slice_get (own_cells (state look ts i) t) j ≡ Some c
    → slice_get (slots_from n look ts) (offset ts i + j) ≡ Some (slot_at (n + i) j c)
slot_serial n look [] i t j c e own = absurd cc
slot_serial n look (x ∷ xs) zero t j c e own =
    let same : x ≡ t = same_Some x t e in
    let own' : slice_get (own_cells look x) j ≡ Some c = rw same own in
    let here : slice_get (slots_of n 0 (own_cells look x)) j ≡ Some (slot_at n j c) =
    own_slot n 0 j (own_cells look x) c own' ∙ ap (λ m. Some (slot_at n m c)) (zero-add j) in
    rw (zero-add, add-zero) (get_left (slots_of n 0 (own_cells look x)) (slots_from (n + 1) (after look x) xs) j (slot_at n j c) here)
slot_serial n look (x ∷ xs) (suc i) t j c e own =
    let long : length (slots_of n 0 (own_cells look x)) ≡ width x = length-slots_of n 0 (own_cells look x) ∙ length-own_cells look x in
    let moved = get_right (slots_of n 0 (own_cells look x)) (slots_from (n + 1) (after look x) xs) ((width x + offset xs i) + j) (offset xs i + j)
    (omega (arith, long)) in
    let same : (n + 1) + i ≡ n + suc i = omega arith in
    moved ∙ (slot_serial (n + 1) (after look x) xs i t j c e own ∙ ap (λ m. Some (slot_at m j c)) same)

-- the own cell of t for its declared write j is the key's cell after t
pub own_write : (look : Look) (t : Txn) (j : ℕ) (k : List ℕ) → slice_get t.writes j ≡ Some k → slice_get (own_cells look t) j ≡ Some (after look t k)
own_write look t j k e =
    get_left (map (after look t) t.writes) (show_cells (shows_in t.body) (shows_of (body look t))) j (after look t k)
    (slice_get-map (after look t) t.writes j ∙ ap (λ o. option_map (after look t) o) e)

-- in the own cells of t, the cells of its `show`s follow the cells of its declared writes
pub own_show : (look : Look) (t : Txn) (j : ℕ) → slice_get (own_cells look t) (length t.writes + j) ≡ slice_get
    (show_cells (shows_in t.body) (shows_of (body look t))) j
own_show look t j = get_right (map (after look t) t.writes) (show_cells (shows_in t.body) (shows_of (body look t))) (length t.writes + j) j
    (omega (arith, length-map t.writes (after look t)))

-- ---- offsets grow by the widths

pub offset_inside : (ts : List Txn) (u : ℕ) (x : Txn) → slice_get ts u ≡ Some x → offset ts u + width x ≤ offset ts (length ts)
offset_inside [] u x e = absurd cc
offset_inside (y ∷ ts) zero x e = let same : y ≡ x = same_Some y x e in rw same (omega arith)
offset_inside (y ∷ ts) (suc u) x e = omega (arith, offset_inside ts u x e)

-- ---- a body's first failure is at one of its statements

stops_within : (n m : ℕ) (r : Result Run Reason) (f : Run → Ended) (fault : Reason × ℕ) → n < m → ((run : Run) → f run ≡ Err fault → fault.1 < m)
    → or_stop n r f ≡ Err fault → fault.1 < m
stops_within n m (Err why) f fault inside later e =
    let same : (why, n) ≡ fault = cc in
    let at : n ≡ fault.1 = ap (λ (p : Reason × ℕ). p.1) same in
    omega (arith, at)
stops_within n m (Ok run) f fault inside later e = later run e

pub fault_within : (e : Edition) (look : Look) (run : Run) (n : ℕ) (ss : List Stmt) (fault : Reason × ℕ) → body_from e look run n ss ≡ Err fault
    → fault.1 < n + length ss
fault_within e look run n [] fault h = absurd cc
fault_within e look run n (s ∷ ss) fault h =
    stops_within n (n + length (s ∷ ss)) (perform (seen e look run) run s) (λ next. body_from e look next (n + 1) ss) fault (omega arith)
    (λ next g. omega (arith, fault_within e look next (n + 1) ss fault g)) h
