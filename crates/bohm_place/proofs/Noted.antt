-- Noting an index at one access changes no other access of a plan.
use Rattle.std.proofs.Common.{get_or, ◌≡◌, ℕ, zero, suc, ◌+◌, ◌<◌, ◌≤◌, List, [], ◌∷◌, length, map, take, drop, min, slice_get, slice_set}
use Rattle.std.proofs.Common.{Option, Some, None, unwrap_or, option_map, refl, sym, ap, ◌∙◌, subst, inl, inr, ◌⊎◌, ⊎_elim, arith, length-drop}
use Rattle.std.proofs.Math.Logic.{∥∥₁_elim}
use Rattle.std.proofs.Props.{props}
use Rattle.std.proofs.lemmas.Bool.{cases_eq, cases_lt}
use Rattle.std.proofs.lemmas.List.{length-map, length-take}
use Rattle.std.proofs.lemmas.Option.{same_Some, slice_get-map, slice_get_past, slice_get_within, slice_get_read, get_or_from_slice_get}
use Rattle.bohm_types.specs.Txn.{Txn}
use Rattle.bohm_place.specs.declared.access.Access.{Access}
use Rattle.bohm_place.specs.declared.access.Source.{Source}
use Rattle.bohm_place.specs.declared.access.Source.TheVariants.{Before}
use Rattle.bohm_place.specs.declared.declared_set.DeclaredSet.{DeclaredSet}
use Rattle.bohm_place.specs.declared.declared_set.DeclaredSet.TheVariants.{Reads, Writes}
use Rattle.bohm_place.specs.declared.placeholder.Placeholder.{Placeholder}
use Rattle.bohm_place.specs.declared.row.Row.{Row}
use Rattle.bohm_place.specs.Plans.{Planned, access_of, accesses_of, planned_in, source_in, slot_at, sure_at, keys_in, start_in, count_in}
use Rattle.bohm_place.specs.Plans.{end_of, AreLaidFrom, HasSourcesOf, IsNote, IsNoted, AreRightAccesses, IsRightAccess, IsRightPlan}
use Rattle.bohm_place.specs.Writers.{IsNewest}
use Rattle.bohm_place.proofs.Right.{begin_before}
use Rattle.bohm_place.proofs.Lists.{get_take, get_drop, set_same, set_other}

-- ---- the accesses of a plan, from placeholders in memory

abbrev pub laid_out : ℕ → ℕ → List Placeholder → List Row → Planned
laid_out first slots vs rows = record { first = first; rows = map (accesses_of vs) rows; slots = slots }

-- the accesses of one declared set in a row
abbrev cut : DeclaredSet → List Placeholder → Row → List Access
cut s vs row = map access_of (take (count_in s row) (drop (start_in s row) vs))

cut_of : (s : DeclaredSet) (first : ℕ) (slots : ℕ) (vs : List Placeholder) (rows : List Row) (m : ℕ) (o : Option Row) → slice_get rows m ≡ o
    → planned_in s (laid_out first slots vs rows) m ≡ unwrap_or (option_map (cut s vs) o) []
cut_of Reads first slots vs rows m None e = rw (slice_get-map (accesses_of vs) rows m, e) refl
cut_of Reads first slots vs rows m (Some row) e = rw (slice_get-map (accesses_of vs) rows m, e) refl
cut_of Writes first slots vs rows m None e = rw (slice_get-map (accesses_of vs) rows m, e) refl
cut_of Writes first slots vs rows m (Some row) e = rw (slice_get-map (accesses_of vs) rows m, e) refl

get_cut : (s : DeclaredSet) (vs : List Placeholder) (row : Row) (n : ℕ) → n < count_in s row
    → slice_get (cut s vs row) n ≡ option_map access_of (slice_get vs (start_in s row + n))
get_cut s vs row n h = slice_get-map access_of (take (count_in s row) (drop (start_in s row) vs)) n
    ∙ ap (option_map access_of) (get_take (count_in s row) n (drop (start_in s row) vs) h ∙ get_drop (start_in s row) n vs)

length-cut : (s : DeclaredSet) (vs : List Placeholder) (row : Row) → length (cut s vs row) ≡ min (count_in s row) (length (drop (start_in s row) vs))
length-cut s vs row = length-map (take (count_in s row) (drop (start_in s row) vs)) access_of ∙ length-take (count_in s row) (drop (start_in s row) vs)

in_cut : (s : DeclaredSet) (vs : List Placeholder) (row : Row) (n : ℕ) (a : Access) → slice_get (cut s vs row) n ≡ Some a → n < count_in s row
in_cut s vs row n a at = omega (arith, slice_get_within (cut s vs row) n a at, length-cut s vs row)

past_cut : (s : DeclaredSet) (vs : List Placeholder) (row : Row) (n : ℕ) → count_in s row ≤ n → slice_get (cut s vs row) n ≡ None
past_cut s vs row n h = slice_get_past (cut s vs row) n (omega (arith, length-cut s vs row))

-- ---- different accesses have different indices in memory

laid_behind : (rows : List Row) (least i : ℕ) (row : Row) → AreLaidFrom least rows → slice_get rows i ≡ Some row → least ≤ row.start
laid_behind [] least i row laid at = absurd cc
laid_behind (x ∷ rows) least zero row laid at = let same : x ≡ row = same_Some x row at in subst (λ (r : Row). least ≤ r.start) same laid.0
laid_behind (x ∷ rows) least (suc i) row laid at = omega (arith, laid.0, laid_behind rows (end_of x) i row laid.1 at)

laid_apart : (rows : List Row) (least i m : ℕ) (row later : Row) → AreLaidFrom least rows → slice_get rows i ≡ Some row → slice_get rows m ≡ Some later
    → i < m → end_of row ≤ later.start
laid_apart [] least i m row later laid at there h = absurd cc
laid_apart (x ∷ rows) least i zero row later laid at there h = absurd (omega arith)
laid_apart (x ∷ rows) least zero (suc m) row later laid at there h =
    let same : x ≡ row = same_Some x row at in
    subst (λ (r : Row). end_of r ≤ later.start) same (laid_behind rows (end_of x) m later laid.1 there)
laid_apart (x ∷ rows) least (suc i) (suc m) row later laid at there h = laid_apart rows (end_of x) i m row later laid.1 at there (omega arith)

inside_row : (s : DeclaredSet) (row : Row) (n : ℕ) → n < count_in s row → (row.start ≤ start_in s row + n) × ((start_in s row + n) < end_of row)
inside_row Reads row n h = (omega arith, omega arith)
inside_row Writes row n h = (omega arith, omega arith)

apart_in_row : (s set : DeclaredSet) (row : Row) (n j : ℕ) → n < count_in s row → j < count_in set row → (start_in s row + n) ≡ (start_in set row + j)
    → (s ≡ set) × (n ≡ j)
apart_in_row Reads Reads row n j h l e = (refl, omega arith)
apart_in_row Reads Writes row n j h l e = absurd (omega arith)
apart_in_row Writes Reads row n j h l e = absurd (omega arith)
apart_in_row Writes Writes row n j h l e = (refl, omega arith)

module _ (rows : List Row) (laid : AreLaidFrom 0 rows) where
  one_place : (s set : DeclaredSet) (m i n j : ℕ) (other row : Row) → slice_get rows m ≡ Some other → slice_get rows i ≡ Some row → n < count_in s other
      → j < count_in set row → (start_in s other + n) ≡ (start_in set row + j) → (s ≡ set) × (m ≡ i) × (n ≡ j)
  one_place s set m i n j other row there at h l e = ⊎_elim
      (λ same.
      let rows_same : other ≡ row = same_Some other row (sym there ∙ (ap (slice_get rows) same ∙ at)) in
      let h' : n < count_in s row = subst (λ (r : Row). n < count_in s r) rows_same h in
      let e' : (start_in s row + n) ≡ (start_in set row + j) = subst (λ (r : Row). (start_in s r + n) ≡ (start_in set row + j)) rows_same e in
      let both = apart_in_row s set row n j h' l e' in
      (both.0, same, both.1))
      (λ apart. ⊎_elim
      (λ earlier. absurd (omega (arith, laid_apart rows 0 m i other row laid there at earlier, (inside_row s other n h).1, (inside_row set row j l).0)))
      (λ later. absurd (omega (
        arith,
        apart,
        laid_apart rows 0 i m row other laid at there (omega (arith, apart)),
        (inside_row s other n h).0,
        (inside_row set row j l).1,
      )))
      (cases_lt m i))
      (cases_eq m i)

  -- ---- one placeholder is replaced

  module _ (first : ℕ) (slots : ℕ) (vs : List Placeholder) (set : DeclaredSet) (i j place : ℕ) (row : Row) (at : slice_get rows i ≡ Some row)
      (l : j < count_in set row) (within : (start_in set row + j) < length vs) (noted : Placeholder) (none : noted.begin ≡ 0) (index : noted.index ≡ place)
      (before : source_in set (laid_out first slots vs rows) i j ≡ Some Before) where
    abbrev pub p : ℕ
    p = start_in set row + j

    abbrev pub new : List Placeholder
    new = slice_set vs p noted

    now : access_of noted ≡ record { source = Before; index = place }
    now = rw (none, index) refl

    at_place : slice_get new p ≡ Some noted
    at_place = set_same vs p noted within

    there : slice_get (cut set new row) j ≡ Some (record { source = Before; index = place })
    there = get_cut set new row j l ∙ ap (option_map access_of) at_place ∙ ap (λ a. Some a) now

    was : option_map (λ (a : Access). a.source) (slice_get (cut set vs row) j) ≡ Some Before
    was = ap (λ accesses. option_map (λ (a : Access). a.source) (slice_get accesses j)) (sym (cut_of set first slots vs rows i (Some row) at)) ∙ before

    -- replacing the placeholder changes no source in a row
    source_in_row : (s : DeclaredSet) (m n : ℕ) (other : Row) → slice_get rows m ≡ Some other
        → option_map (λ (a : Access). a.source) (slice_get (cut s new other) n) ≡ option_map (λ (a : Access). a.source) (slice_get (cut s vs other) n)
    source_in_row s m n other in_m = ⊎_elim
        (λ inside. ⊎_elim
        (λ same.
        let one = one_place s set m i n j other row in_m at inside l same in
        let rows_same : row ≡ other = same_Some row other (sym at ∙ (ap (slice_get rows) (sym one.1) ∙ in_m)) in
        let now_at : option_map (λ (a : Access). a.source) (slice_get (cut set new row) j) ≡ Some Before = ap (option_map (λ (a : Access). a.source)) there in
        let both : option_map (λ (a : Access). a.source) (slice_get (cut set new row) j) ≡ option_map (λ (a : Access). a.source)
        (slice_get (cut set vs row) j) = now_at ∙ sym was in
        rw (one.0, one.2, ← rows_same) both)
        (λ apart. ap (option_map (λ (a : Access). a.source)) (get_cut s new other n inside
        ∙ ap (option_map access_of) (set_other vs p (start_in s other + n) noted apart) ∙ sym (get_cut s vs other n inside)))
        (cases_eq (start_in s other + n) p))
        (λ past. ap (option_map (λ (a : Access). a.source)) (past_cut s new other n past ∙ sym (past_cut s vs other n past)))
        (cases_lt n (count_in s other))

    source_by : (s : DeclaredSet) (m n : ℕ) (o : Option Row) → slice_get rows m ≡ o
        → source_in s (laid_out first slots new rows) m n ≡ source_in s (laid_out first slots vs rows) m n
    source_by s m n None in_m = rw (cut_of s first slots new rows m None in_m, cut_of s first slots vs rows m None in_m) refl
    source_by s m n (Some other) in_m = rw (cut_of s first slots new rows m (Some other) in_m, cut_of s first slots vs rows m (Some other) in_m)
        (source_in_row s m n other in_m)

    each_in_row : (s : DeclaredSet) (m n : ℕ) (a : Access) (other : Row) → slice_get rows m ≡ Some other → slice_get (cut s new other) n ≡ Some a
        → (slice_get (cut s vs other) n ≡ Some a) ⊎ IsNote set s i m j n place a
    each_in_row s m n a other in_m at_n =
        let inside = in_cut s new other n a at_n in
        ⊎_elim
        (λ same.
        let one = one_place s set m i n j other row in_m at inside l same in
        let found : Some a ≡ Some (access_of noted) =
        sym at_n ∙ get_cut s new other n inside ∙ ap (option_map access_of) (ap (slice_get new) same ∙ at_place) in
        inr (record { same = one.0; row = one.1; index = one.2; access = same_Some a (access_of noted) found ∙ now }))
        (λ apart. inl (get_cut s vs other n inside ∙ ap (option_map access_of) (sym (set_other vs p (start_in s other + n) noted apart))
        ∙ sym (get_cut s new other n inside) ∙ at_n))
        (cases_eq (start_in s other + n) p)

    each_by : (s : DeclaredSet) (m n : ℕ) (a : Access) (o : Option Row) → slice_get rows m ≡ o → slice_get (planned_in s (laid_out first slots new rows) m) n
        ≡ Some a → (slice_get (planned_in s (laid_out first slots vs rows) m) n ≡ Some a) ⊎ IsNote set s i m j n place a
    each_by s m n a None in_m at_n = let h = rw (cut_of s first slots new rows m None in_m) at at_n in absurd cc
    each_by s m n a (Some other) in_m at_n =
        let h : slice_get (cut s new other) n ≡ Some a =
        ap (λ accesses. slice_get accesses n) (sym (cut_of s first slots new rows m (Some other) in_m)) ∙ at_n in
        rw (cut_of s first slots vs rows m (Some other) in_m) (each_in_row s m n a other in_m h)

    sure_by : (m : ℕ) (o : Option Row) → slice_get rows m ≡ o → sure_at (laid_out first slots new rows) m ≡ sure_at (laid_out first slots vs rows) m
    sure_by m None in_m = rw (slice_get-map (accesses_of new) rows m, slice_get-map (accesses_of vs) rows m, in_m) refl
    sure_by m (Some other) in_m = rw (slice_get-map (accesses_of new) rows m, slice_get-map (accesses_of vs) rows m, in_m) refl

    slot_by : (m : ℕ) (o : Option Row) → slice_get rows m ≡ o → slot_at (laid_out first slots new rows) m ≡ slot_at (laid_out first slots vs rows) m
    slot_by m None in_m = rw (slice_get-map (accesses_of new) rows m, slice_get-map (accesses_of vs) rows m, in_m) refl
    slot_by m (Some other) in_m = rw (slice_get-map (accesses_of new) rows m, slice_get-map (accesses_of vs) rows m, in_m) refl

    pub noted_at : IsNoted (laid_out first slots vs rows) (laid_out first slots new rows) set i j place
    noted_at = record {
      sources = record {
        first = refl;
        paired = length-map rows (accesses_of new) ∙ sym (length-map rows (accesses_of vs));
        sources = λ s m n. source_by s m n (slice_get rows m) refl;
        sure = λ m. sure_by m (slice_get rows m) refl;
        slot = λ m. slot_by m (slice_get rows m) refl;
        slots = refl;
      };
      here = ap (λ accesses. slice_get accesses j) (cut_of set first slots new rows i (Some row) at) ∙ there;
      each = λ s m n a. each_by s m n a (slice_get rows m) refl;
    }

-- ---- the access at which an index is noted

located_by : (first : ℕ) (slots : ℕ) (vs : List Placeholder) (rows : List Row) (set : DeclaredSet) (i j : ℕ) (row : Row) (o : Option Row)
    → slice_get rows i ≡ o → row ≡ get_or rows i row → j < length (planned_in set (laid_out first slots vs rows) i)
    → (slice_get rows i ≡ Some row) × (j < count_in set row) × ((start_in set row + j) < length vs)
located_by first slots vs rows set i j row None at is inside = let h = rw (cut_of set first slots vs rows i None at) at inside in absurd (omega arith)
located_by first slots vs rows set i j row (Some other) at is inside =
    let same : other ≡ row = sym (is ∙ get_or_from_slice_get rows i other row at) in
    let at' : slice_get rows i ≡ Some row = at ∙ ap (λ r. Some r) same in
    let h = rw (cut_of set first slots vs rows i (Some row) at') at inside in
    (at', omega (arith, length-cut set vs row), omega (arith, length-cut set vs row, length-drop (start_in set row) vs))

pub noted_there : (first : ℕ) (slots : ℕ) (vs : List Placeholder) (rows : List Row) (set : DeclaredSet) (i j place : ℕ) (row : Row)
    (v noted : Placeholder) → AreLaidFrom 0 rows → row ≡ get_or rows i row → j < length (planned_in set (laid_out first slots vs rows) i)
    → v ≡ get_or vs (start_in set row + j) v → noted.begin ≡ v.begin → noted.index ≡ place → source_in set (laid_out first slots vs rows) i j ≡ Some Before
    → IsNoted (laid_out first slots vs rows) (laid_out first slots (slice_set vs (start_in set row + j) noted) rows) set i j place
noted_there first slots vs rows set i j place row v noted laid is inside there begin index before =
    let located = located_by first slots vs rows set i j row (slice_get rows i) refl is inside in
    let at_v : slice_get vs (start_in set row + j) ≡ Some v = slice_get_read vs (length vs) (start_in set row + j) v refl located.2 there in
    let found = get_cut set vs row j located.1 ∙ ap (option_map access_of) at_v in
    let source : option_map (λ (a : Access). a.source) (slice_get (cut set vs row) j) ≡ Some Before =
    ap (λ accesses. option_map (λ (a : Access). a.source) (slice_get accesses j)) (sym (cut_of set first slots vs rows i (Some row) located.0)) ∙ before in
    let is_before : (access_of v).source ≡ Before = same_Some (access_of v).source Before (sym (ap (option_map (λ (a : Access). a.source)) found) ∙ source) in
    noted_at rows laid first slots vs set i j place row located.0 located.1 located.2 noted (begin ∙ begin_before v is_before) index before

-- ---- a plan stays right, and keeps its sources, when indices are noted

pub sources_twice : (p q r : Planned) → HasSourcesOf p q → HasSourcesOf q r → HasSourcesOf p r
sources_twice p q r h g = record {
  first = g.first ∙ h.first;
  paired = g.paired ∙ h.paired;
  sources = λ set i j. g.sources set i j ∙ h.sources set i j;
  sure = λ i. g.sure i ∙ h.sure i;
  slot = λ i. g.slot i ∙ h.slot i;
  slots = g.slots ∙ h.slots;
}

pub sources_same : (p : Planned) → HasSourcesOf p p
sources_same p = record { first = refl; paired = refl; sources = λ set i j. refl; sure = λ i. refl; slot = λ i. refl; slots = refl }

pub rights_of_plan : (txns : List Txn) (p : Planned) (set : DeclaredSet) (i : ℕ) (x : Txn) → IsRightPlan txns p → slice_get txns i ≡ Some x
    → AreRightAccesses p.first txns (p.first + i) (keys_in set x) (planned_in set p i)
rights_of_plan txns p Reads i x right at = right.reads i x at
rights_of_plan txns p Writes i x right at = right.writes i x at

-- a right plan has an access for each key that a transaction declares
pub row_paired : (txns : List Txn) (p : Planned) (set : DeclaredSet) (i : ℕ) (x : Txn) → ∥ IsRightPlan txns p ∥₁ → slice_get txns i ≡ Some x
    → length (keys_in set x) ≡ length (planned_in set p i)
row_paired txns p set i x right at = ∥∥₁_elim right (hlevel props) (λ plan. (rights_of_plan txns p set i x plan at).paired)

-- two lists have the same length if both have elements at the same indices
long_by : {A B : Type 0} (xs : List A) (ys : List B) (f : A → Source) (g : B → Source)
    → ((j : ℕ) → option_map f (slice_get xs j) ≡ option_map g (slice_get ys j)) → length xs ≡ length ys
long_by [] [] f g h = refl
long_by [] (y ∷ ys) f g h = let none = h 0 in absurd cc
long_by (x ∷ xs) [] f g h = let none = h 0 in absurd cc
long_by (x ∷ xs) (y ∷ ys) f g h = ap suc (long_by xs ys f g (λ j. h (suc j)))

pub sources_long : (p q : Planned) → HasSourcesOf p q → (set : DeclaredSet) (i : ℕ) → length (planned_in set q i) ≡ length (planned_in set p i)
sources_long p q h set i = long_by (planned_in set q i) (planned_in set p i) (λ a. a.source) (λ a. a.source) (h.sources set i)

right_noted_access : (txns : List Txn) (p q : Planned) (set : DeclaredSet) (i j place : ℕ) → IsNoted p q set i j place → source_in set p i j ≡ Some Before
    → IsRightPlan txns p → (other : DeclaredSet) (m : ℕ) (x : Txn) → slice_get txns m ≡ Some x
    → (n : ℕ) (k : List ℕ) (a : Access) → slice_get (keys_in other x) n ≡ Some k → slice_get (planned_in other q m) n ≡ Some a
    → IsRightAccess p.first txns (p.first + m) k a
right_noted_access txns p q set i j place noted before right other m x at n k a at_key at_a =
    let was = rights_of_plan txns p other m x right at in
    ⊎_elim
    (λ same. was.each n k a at_key same)
    (λ note. right_by note (slice_get (planned_in other p m) n) refl)
    (noted.each other m n a at_a)
  where
    right_by : IsNote set other i m j n place a → (o : Option Access) → slice_get (planned_in other p m) n ≡ o → IsRightAccess p.first txns (p.first + m) k a
    right_by note None is = let none : source_in other p m n ≡ Some Before = rw (note.same, note.row, note.index) before in let h = rw is at none in absurd cc
    right_by note (Some b) is =
        let source : source_in other p m n ≡ Some Before = rw (note.same, note.row, note.index) before in
        let b_before : b.source ≡ Before = same_Some b.source Before (let h = rw is at source in h) in
        let right_b = (rights_of_plan txns p other m x right at).each n k b at_key is in
        rw note.access (record { newest = subst (λ (s : Source). IsNewest p.first txns k (p.first + m) s) b_before right_b.newest; write = tt })

pub right_noted : (txns : List Txn) (p q : Planned) (set : DeclaredSet) (i j place : ℕ) → IsNoted p q set i j place → source_in set p i j ≡ Some Before
    → IsRightPlan txns p → IsRightPlan txns q
right_noted txns p q set i j place noted before right =
    rw noted.sources.first (record {
      paired = noted.sources.paired ∙ right.paired;
      reads = λ m x at. record {
        paired = (right.reads m x at).paired ∙ sym (sources_long p q noted.sources Reads m);
        each = right_noted_access txns p q set i j place noted before right Reads m x at;
      };
      writes = λ m x at. record {
        paired = (right.writes m x at).paired ∙ sym (sources_long p q noted.sources Writes m);
        each = right_noted_access txns p q set i j place noted before right Writes m x at;
      };
      sure = λ m x at. noted.sources.sure m ∙ right.sure m x at;
      slot = λ m x at. noted.sources.slot m ∙ right.slot m x at;
      slots = noted.sources.slots ∙ right.slots;
    })
