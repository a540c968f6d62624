-- Ascending versions: the newest at a timestamp gives the cell, and a floor keeps the newest and all later ones.
use Rattle.std.proofs.Common.{◌≡◌, ℕ, ◌<◌, ◌≤◌, Bool, true, false, List, [], ◌∷◌, All, refl, sym, subst, inl, inr, ⊎_elim, ◌⊎◌, arith, nat_le}
use Rattle.std.specs.Prelude.{Contains, ◌↔◌}
use Rattle.std.proofs.lemmas.Bool.{cases_lt}
use Rattle.std.proofs.lemmas.Bool.Decides.{nat_tests}
use Rattle.std.proofs.lemmas.List.Elements.{All-head, All-tail, All-nil, All-cons, All-weaker, All-contains}
use Rattle.bohm_types.specs.declared.cell.Cell.{Cell}
use Rattle.bohm_types.specs.declared.cell.Cell.TheVariants.{Absent}
use Rattle.bohm_store.specs.declared.version.Version.{Version}
use Rattle.bohm_store.specs.Versions.{Rises, IsNewestAt, IsCellAt, IsKept, cell_at, kept_versions}
use Rattle.bohm_txn.proofs.ForCallers.{contains_head, contains_tail, contains_cases}

-- ---- the cell at a timestamp

-- the newest version at ts is still the newest when an earlier version is put in front
newest_behind : (ts : ℕ) (v w : Version) (vs : List Version) → All (λ x. v.begin < x.begin) vs → IsNewestAt ts vs w → IsNewestAt ts (v ∷ vs) w
newest_behind ts v w vs above n =
    let lt : v.begin < w.begin = All-contains (λ x. v.begin < x.begin) vs w above n.there in
    record {
      there = contains_tail v w vs n.there;
      low = n.low;
      newest = All-cons (λ x. x.begin ≤ ts → x.begin ≤ w.begin) v vs (λ low. omega arith) n.newest;
    }

newest_first : (ts : ℕ) (v : Version) (vs : List Version) → v.begin ≤ ts → All (λ x. ts < x.begin) vs → IsNewestAt ts (v ∷ vs) v
newest_first ts v vs low above = record {
  there = contains_head v vs;
  low = low;
  newest =
      All-cons (λ x. x.begin ≤ ts → x.begin ≤ v.begin) v vs (λ l. omega arith)
      (All-weaker (λ x. ts < x.begin) (λ x. x.begin ≤ ts → x.begin ≤ v.begin) (λ x lt l. absurd (omega arith)) vs above);
}

-- the cell is the newest version's at ts, or all versions begin above ts and the cell is the one before them
abbrev Found : ℕ → List Version → Cell → Cell → Type 0
Found ts vs c before = ((v : Version) × IsNewestAt ts vs v × (v.cell ≡ c)) ⊎ (All (λ v. ts < v.begin) vs × (c ≡ before))

found_by : (ts : ℕ) (v : Version) (vs : List Version) (before : Cell) (b : Bool) → nat_le v.begin ts ≡ b → All (λ x. v.begin < x.begin) vs
    → ((d : Cell) → Found ts vs (cell_at ts vs d) d) → Found ts (v ∷ vs) (cell_at ts (v ∷ vs) before) before
found_by ts v vs before true e above more =
    let low : v.begin ≤ ts = grind (arith, nat_tests) in
    rw e (⊎_elim
    (λ (w, n, is). inl (w, newest_behind ts v w vs above n, is))
    (λ (past, is). inl (v, newest_first ts v vs low past, sym is))
    (more v.cell))
found_by ts v vs before false e above more =
    let past : ts < v.begin = grind (arith, nat_tests) in
    rw e (⊎_elim
    (λ (w, n, is). inl (w, newest_behind ts v w vs above n, is))
    (λ (later, is). inr (All-cons (λ x. ts < x.begin) v vs past later, is))
    (more before))

found : (ts : ℕ) (vs : List Version) (before : Cell) → Rises vs → Found ts vs (cell_at ts vs before) before
found ts [] before r = inr (All-nil (λ x. ts < x.begin), refl)
found ts (v ∷ vs) before r = found_by ts v vs before (nat_le v.begin ts) refl r.0 (λ d. found ts vs d r.1)

pub cell_at-newest : (ts : ℕ) (vs : List Version) → Rises vs → IsCellAt ts vs (cell_at ts vs Absent)
cell_at-newest ts vs r = found ts vs Absent r

-- ---- the versions that a floor keeps

all_kept_by : (P : Version → Type 0) (floor : ℕ) (v w : Version) (ws : List Version) (b : Bool) → nat_le w.begin floor ≡ b
    → All P (v ∷ w ∷ ws) → All P (kept_versions floor (w ∷ ws)) → All P (kept_versions floor (v ∷ w ∷ ws))
all_kept_by P floor v w ws true e h more = rw e more
all_kept_by P floor v w ws false e h more = rw e h

pub All-kept : (P : Version → Type 0) (floor : ℕ) (vs : List Version) → All P vs → All P (kept_versions floor vs)
All-kept P floor [] h = h
All-kept P floor (v ∷ []) h = h
All-kept P floor (v ∷ w ∷ ws) h = all_kept_by P floor v w ws (nat_le w.begin floor) refl h (All-kept P floor (w ∷ ws) (All-tail P v (w ∷ ws) h))

rises_kept_by : (floor : ℕ) (v w : Version) (ws : List Version) (b : Bool) → nat_le w.begin floor ≡ b → Rises (v ∷ w ∷ ws)
    → Rises (kept_versions floor (w ∷ ws)) → Rises (kept_versions floor (v ∷ w ∷ ws))
rises_kept_by floor v w ws true e h more = rw e more
rises_kept_by floor v w ws false e h more = rw e h

pub Rises-kept : (floor : ℕ) (vs : List Version) → Rises vs → Rises (kept_versions floor vs)
Rises-kept floor [] h = h
Rises-kept floor (v ∷ []) h = h
Rises-kept floor (v ∷ w ∷ ws) h = rises_kept_by floor v w ws (nat_le w.begin floor) refl h (Rises-kept floor (w ∷ ws) h.1)

-- each version that a floor keeps is in the list of kept versions
to_by : (floor : ℕ) (v w x : Version) (ws : List Version) (b : Bool) → nat_le w.begin floor ≡ b → v.begin < w.begin
    → IsKept floor (v ∷ w ∷ ws) x → (IsKept floor (w ∷ ws) x → Contains (kept_versions floor (w ∷ ws)) x)
    → Contains (kept_versions floor (v ∷ w ∷ ws)) x
to_by floor v w x ws true e lt (inl (there, above)) more =
    let low : w.begin ≤ floor = grind (arith, nat_tests) in
    rw e (⊎_elim
    (λ (same : v ≡ x). let here : floor < v.begin = subst (λ y. floor < y.begin) (sym same) above in absurd (omega arith))
    (λ there. more (inl (there, above)))
    (contains_cases v x (w ∷ ws) there))
to_by floor v w x ws true e lt (inr n) more =
    let low : w.begin ≤ floor = grind (arith, nat_tests) in
    rw e (⊎_elim
    (λ (same : v ≡ x). let under : w.begin ≤ x.begin = All-head (λ y. y.begin ≤ floor → y.begin ≤ x.begin) w ws
    (All-tail (λ y. y.begin ≤ floor → y.begin ≤ x.begin) v (w ∷ ws) n.newest) low in let here : w.begin ≤ v.begin = subst
    (λ y. w.begin ≤ y.begin) (sym same) under in absurd (omega arith))
    (λ there. more (inr (record { there = there; low = n.low; newest = All-tail (λ y. y.begin ≤ floor → y.begin ≤ x.begin) v (w ∷ ws) n.newest })))
    (contains_cases v x (w ∷ ws) n.there))
to_by floor v w x ws false e lt (inl (there, above)) more = rw e there
to_by floor v w x ws false e lt (inr n) more = rw e n.there

to : (floor : ℕ) (vs : List Version) (x : Version) → Rises vs → IsKept floor vs x → Contains (kept_versions floor vs) x
to floor [] x r (inl (there, above)) = there
to floor [] x r (inr n) = n.there
to floor (v ∷ []) x r (inl (there, above)) = there
to floor (v ∷ []) x r (inr n) = n.there
to floor (v ∷ w ∷ ws) x r h = to_by floor v w x ws (nat_le w.begin floor) refl (All-head (λ y. v.begin < y.begin) w ws r.0) h (to floor (w ∷ ws) x r.1)

kept_behind : (floor : ℕ) (v x : Version) (vs : List Version) → All (λ y. v.begin < y.begin) vs → IsKept floor vs x → IsKept floor (v ∷ vs) x
kept_behind floor v x vs above (inl (there, past)) = inl (contains_tail v x vs there, past)
kept_behind floor v x vs above (inr n) = inr (newest_behind floor v x vs above n)

-- the first version is kept if all others begin above the floor
kept_first : (floor : ℕ) (v : Version) (vs : List Version) → All (λ y. floor < y.begin) vs → IsKept floor (v ∷ vs) v
kept_first floor v vs above = ⊎_elim (λ lt. inl (contains_head v vs, lt)) (λ le. inr (newest_first floor v vs le above)) (cases_lt floor v.begin)

all_above : (floor : ℕ) (w : Version) (ws : List Version) → floor < w.begin → Rises (w ∷ ws) → All (λ y. floor < y.begin) (w ∷ ws)
all_above floor w ws lt r = All-cons (λ y. floor < y.begin) w ws lt (All-weaker (λ y. w.begin < y.begin) (λ y. floor < y.begin) (λ y l. omega arith) ws r.0)

from_by : (floor : ℕ) (v w x : Version) (ws : List Version) (b : Bool) → nat_le w.begin floor ≡ b → Rises (v ∷ w ∷ ws)
    → Contains (kept_versions floor (v ∷ w ∷ ws)) x → (Contains (kept_versions floor (w ∷ ws)) x → IsKept floor (w ∷ ws) x)
    → IsKept floor (v ∷ w ∷ ws) x
from_by floor v w x ws true e r m more = kept_behind floor v x (w ∷ ws) r.0 (more (rw e at m))
from_by floor v w x ws false e r m more =
    let past : floor < w.begin = grind (arith, nat_tests) in
    let above = all_above floor w ws past r.1 in
    ⊎_elim
    (λ (same : v ≡ x). subst (λ y. IsKept floor (v ∷ w ∷ ws) y) same (kept_first floor v (w ∷ ws) above))
    (λ (there : Contains (w ∷ ws) x). inl (contains_tail v x (w ∷ ws) there, All-contains (λ y. floor < y.begin) (w ∷ ws) x above there))
    (contains_cases v x (w ∷ ws) (rw e at m))

from : (floor : ℕ) (vs : List Version) (x : Version) → Rises vs → Contains (kept_versions floor vs) x → IsKept floor vs x
from floor [] x r (k, lt, e) = absurd (omega arith)
from floor (v ∷ []) x r m = ⊎_elim
    (λ (same : v ≡ x). subst (λ y. IsKept floor (v ∷ []) y) same (kept_first floor v [] (All-nil (λ y. floor < y.begin))))
    (λ (there : Contains [] x). absurd (let lt = there.1 in omega arith))
    (contains_cases v x [] m)
from floor (v ∷ w ∷ ws) x r m = from_by floor v w x ws (nat_le w.begin floor) refl r m (from floor (w ∷ ws) x r.1)

pub kept_members : (floor : ℕ) (vs : List Version) (x : Version) → Rises vs → Contains (kept_versions floor vs) x ↔ IsKept floor vs x
kept_members floor vs x r = (from floor vs x r, to floor vs x r)
