-- The versions that remain when those that begin after a timestamp are removed.
use Rattle.std.proofs.Common.{◌≡◌, ℕ, suc, ◌-◌, ◌<◌, ◌≤◌, ◌==◌, ◌∙◌, Bool, true, false, List}
use Rattle.std.proofs.Common.{[], ◌∷◌, ◌++◌, All, length, get_or, map, refl, sym, ap, arith}
use Rattle.std.proofs.Common.{if◌then◌else◌, nat_le, nat_lt, ⊎_elim}
use Rattle.std.proofs.lemmas.Bool.{cases_lt}
use Rattle.std.proofs.lemmas.Bool.Decides.{nat_tests}
use Rattle.std.proofs.Math.ListN.{get_or-eq_default}
use Rattle.std.proofs.lemmas.List.Elements.{All-head, All-tail, All-nil, All-cons, All-weaker}
use Rattle.bohm_types.specs.declared.cell.Cell.{Cell}
use Rattle.bohm_store.specs.declared.version.Version.{Version}
use Rattle.bohm_store.specs.declared.older.Older.{Older}
use Rattle.bohm_store.specs.Versions.{Rises, cell_at, versions_to}
use Rattle.bohm_store.specs.Chains.{Above, UpTo, later_begins}
use Rattle.bohm_store.proofs.Linked.{as_many, none_older}
use Rattle.bohm_store.proofs.OlderVersions.{ends_above}
use Rattle.bohm_hints.specs.declared.held.Held.{Held}
use Rattle.bohm_hints.specs.declared.held.Held.TheVariants.{Never}
use Rattle.bohm_store.specs.Held.{held_at, held_versions}
use Rattle.bohm_store.specs.Numbered.{EndsRise, IsEndedBy, IsLinked, IsNumbered, Numbered}
use Rattle.bohm_store.specs.Numbered.{ended_by, ends_of, first_after, older_of, version_of, versions_at}

-- ---- a key's versions up to the timestamp

pub none_to : (ts : ℕ) (vs : List Version) → Above ts vs → versions_to ts vs ≡ []
none_to ts [] h = refl
none_to ts (v ∷ vs) h =
    let later : ts < v.begin = All-head (λ v. ts < v.begin) v vs h in
    let no : nat_le v.begin ts ≡ false = grind (arith, nat_tests) in
    rw no (none_to ts vs (All-tail (λ v. ts < v.begin) v vs h))

All-to_by : (P : Version → Type 0) (ts : ℕ) (v : Version) (vs : List Version) (b : Bool) → nat_le v.begin ts ≡ b → P v → All P (versions_to ts vs)
    → All P (versions_to ts (v ∷ vs))
All-to_by P ts v vs true e here more = rw e (All-cons P v (versions_to ts vs) here more)
All-to_by P ts v vs false e here more = rw e more

pub All-to : (P : Version → Type 0) (ts : ℕ) (vs : List Version) → All P vs → All P (versions_to ts vs)
All-to P ts [] h = All-nil P
All-to P ts (v ∷ vs) h = All-to_by P ts v vs (nat_le v.begin ts) refl (All-head P v vs h) (All-to P ts vs (All-tail P v vs h))

low_by : (ts : ℕ) (v : Version) (vs : List Version) (b : Bool) → nat_le v.begin ts ≡ b → UpTo ts (versions_to ts vs) → UpTo ts (versions_to ts (v ∷ vs))
low_by ts v vs true e more =
    let here : v.begin ≤ ts = grind (arith, nat_tests) in
    rw e (All-cons (λ v. v.begin ≤ ts) v (versions_to ts vs) here more)
low_by ts v vs false e more = rw e more

pub low_to : (ts : ℕ) (vs : List Version) → UpTo ts (versions_to ts vs)
low_to ts [] = All-nil (λ v. v.begin ≤ ts)
low_to ts (v ∷ vs) = low_by ts v vs (nat_le v.begin ts) refl (low_to ts vs)

rises_by : (ts : ℕ) (v : Version) (vs : List Version) (b : Bool) → nat_le v.begin ts ≡ b → All (λ w. v.begin < w.begin) vs → Rises (versions_to ts vs)
    → Rises (versions_to ts (v ∷ vs))
rises_by ts v vs true e above more = rw e (All-to (λ w. v.begin < w.begin) ts vs above, more)
rises_by ts v vs false e above more = rw e more

pub rises_to : (ts : ℕ) (vs : List Version) → Rises vs → Rises (versions_to ts vs)
rises_to ts [] h = tt
rises_to ts (v ∷ vs) h = rises_by ts v vs (nat_le v.begin ts) refl h.0 (rises_to ts vs h.1)

-- the cell at or below the timestamp is unchanged
cell_by : (ts u : ℕ) (v : Version) (vs : List Version) (c : Cell) (b : Bool) → nat_le v.begin ts ≡ b → u ≤ ts
    → ((d : Cell) → cell_at u (versions_to ts vs) d ≡ cell_at u vs d) → cell_at u (versions_to ts (v ∷ vs)) c ≡ cell_at u (v ∷ vs) c
cell_by ts u v vs c true e le more = rw e (more (if nat_le v.begin u then v.cell else c))
cell_by ts u v vs c false e le more =
    let no : nat_le v.begin u ≡ false = grind (arith, nat_tests) in
    rw (e, no) (more c)

pub cell_to : (ts u : ℕ) (vs : List Version) (c : Cell) → u ≤ ts → cell_at u (versions_to ts vs) c ≡ cell_at u vs c
cell_to ts u [] c le = refl
cell_to ts u (v ∷ vs) c le = cell_by ts u v vs c (nat_le v.begin ts) refl le (λ d. cell_to ts u vs d le)

-- ---- older versions that ended by the timestamp

all_by_by : (P : Older → Type 0) (ts : ℕ) (o : Older) (os : List Older) (b : Bool) → nat_le o.end ts ≡ b → P o → All P (ended_by ts os)
    → All P (ended_by ts (o ∷ os))
all_by_by P ts o os true e here more = rw e (All-cons P o (ended_by ts os) here more)
all_by_by P ts o os false e here more = rw e (All-nil P)

pub all_by : (P : Older → Type 0) (ts : ℕ) (os : List Older) → All P os → All P (ended_by ts os)
all_by P ts [] h = All-nil P
all_by P ts (o ∷ os) h = all_by_by P ts o os (nat_le o.end ts) refl (All-head P o os h) (all_by P ts os (All-tail P o os h))

climbs_by : (ts : ℕ) (o : Older) (os : List Older) (b : Bool) → nat_le o.end ts ≡ b → All (λ p. o.end ≤ p.end) os → EndsRise ts (ended_by ts os)
    → EndsRise ts (ended_by ts (o ∷ os))
climbs_by ts o os true e above more =
    let here : o.end ≤ ts = grind (arith, nat_tests) in
    rw e (here, all_by (λ p. o.end ≤ p.end) ts os above, more)
climbs_by ts o os false e above more = rw e tt

pub climbs_to : (ts top : ℕ) (os : List Older) → EndsRise top os → EndsRise ts (ended_by ts os)
climbs_to ts top [] h = tt
climbs_to ts top (o ∷ os) h = climbs_by ts o os (nat_le o.end ts) refl h.1 (climbs_to ts top os h.2)

-- if an older version ended after the timestamp, so did all following ones, and none of them remains
none_by : (ts : ℕ) (o : Older) (os : List Older) → ts < o.end → All (λ p. o.end ≤ p.end) os → ended_by ts os ≡ []
none_by ts o [] lt above = refl
none_by ts o (p ∷ os) lt above =
    let le : o.end ≤ p.end = All-head (λ p. o.end ≤ p.end) p os above in
    let no : nat_le p.end ts ≡ false = grind (arith, nat_tests) in
    rw no refl

-- ---- older versions with the newest one

-- if a version ended after the timestamp, the versions that follow it begin after the timestamp
later_above : (ts : ℕ) (v : Version) (rest : List Version) (end : ℕ) (es : List ℕ) → later_begins (v ∷ rest) ≡ end ∷ es → ts < end → Rises rest
    → Above ts rest
later_above ts v [] end es e lt rises = absurd cc
later_above ts v (w ∷ ws) end es e lt rises =
    let b : w.begin ≡ end = cc in
    All-cons (λ v. ts < v.begin) w ws (omega (arith, b, lt))
    (All-weaker (λ x. w.begin < x.begin) (λ x. ts < x.begin) (λ x above. omega (arith, b, lt)) ws rises.0)

-- a version that ended at or below the timestamp also began at or below the timestamp
began : (ts : ℕ) (v : Version) (rest : List Version) (end : ℕ) (es : List ℕ) → later_begins (v ∷ rest) ≡ end ∷ es → end ≤ ts → Rises (v ∷ rest)
    → v.begin ≤ ts
began ts v [] end es e le rises = absurd cc
began ts v (w ∷ ws) end es e le rises =
    let b : w.begin ≡ end = cc in
    let lt : v.begin < w.begin = All-head (λ x. v.begin < x.begin) w ws rises.0 in
    omega (arith, b, lt)

link_rest : (v : Version) (rest : List Version) (end : ℕ) (es : List ℕ) → later_begins (v ∷ rest) ≡ end ∷ es → later_begins rest ≡ es
link_rest v [] end es e = absurd cc
link_rest v (w ∷ ws) end es e = cc

alone_to : (ts : ℕ) (v : Version) (rest : List Version) → versions_to ts rest ≡ [] → versions_to ts (v ∷ []) ≡ versions_to ts (v ∷ rest)
alone_to ts v rest none = rw none refl

module _ (ts n : ℕ) (held : List Version) where
  abbrev Restored : List Older → Type 0
  Restored os = older_of (ended_by ts os) n ++ versions_to ts (first_after ts os n held) ≡ versions_to ts (older_of os n ++ held)

  restored_by : (top : ℕ) (o : Older) (os : List Older) (own low : Bool) → (o.number == n) ≡ own → nat_le o.end ts ≡ low → EndsRise top (o ∷ os)
      → IsLinked (o ∷ os) n held → Rises (older_of (o ∷ os) n ++ held)
      → (IsLinked os n held → Rises (older_of os n ++ held) → Restored os) → Restored (o ∷ os)
  restored_by top o os true true e f climbs linked rises more =
      let v = version_of o in
      let rest = older_of os n ++ held in
      let link : later_begins (v ∷ rest) ≡ o.end ∷ ends_of os n = rw e at linked in
      let up : Rises (v ∷ rest) = rw e at rises in
      let le : o.end ≤ ts = grind (arith, nat_tests) in
      let here : nat_le v.begin ts ≡ true = (let low : v.begin ≤ ts = began ts v rest o.end (ends_of os n) link le up in grind (arith, nat_tests)) in
      let no : nat_lt ts o.end ≡ false = grind (arith, nat_tests) in
      rw (e, f, no) (rw (e, here) (ap (λ (vs : List Version). v ∷ vs) (more (link_rest v rest o.end (ends_of os n) link) up.1)))
  restored_by top o os true false e f climbs linked rises more =
      let v = version_of o in
      let rest = older_of os n ++ held in
      let link : later_begins (v ∷ rest) ≡ o.end ∷ ends_of os n = rw e at linked in
      let up : Rises (v ∷ rest) = rw e at rises in
      let lt : ts < o.end = grind (arith, nat_tests) in
      let yes : nat_lt ts o.end ≡ true = grind (arith, nat_tests) in
      rw (e, f, yes) (alone_to ts v rest (none_to ts rest (later_above ts v rest o.end (ends_of os n) link lt up.1)))
  restored_by top o os false true e f climbs linked rises more =
      let link : IsLinked os n held = rw e at linked in
      let up : Rises (older_of os n ++ held) = rw e at rises in
      rw (e, f) (rw e (more link up))
  restored_by top o os false false e f climbs linked rises more =
      let link : IsLinked os n held = rw e at linked in
      let up : Rises (older_of os n ++ held) = rw e at rises in
      let lt : ts < o.end = grind (arith, nat_tests) in
      let none : ended_by ts os ≡ [] = none_by ts o os lt climbs.1 in
      let told : older_of (ended_by ts os) n ++ versions_to ts (first_after ts os n held) ≡ versions_to ts (older_of os n ++ held) = more link up in
      rw (e, f) (rw none at told)

  pub restored : (top : ℕ) (os : List Older) → EndsRise top os → IsLinked os n held → Rises (older_of os n ++ held) → Restored os
  restored top [] climbs linked rises = refl
  restored top (o ∷ os) climbs linked rises =
      restored_by top o os (o.number == n) (nat_le o.end ts) refl refl climbs linked rises (λ link up. restored top os climbs.2 link up)

-- a number without older versions has none after the removal
front_none_by : (ts : ℕ) (o : Older) (os : List Older) (n : ℕ) (own low : Bool) → (o.number == n) ≡ own → nat_le o.end ts ≡ low
    → older_of (o ∷ os) n ≡ [] → (older_of os n ≡ [] → older_of (ended_by ts os) n ≡ []) → older_of (ended_by ts (o ∷ os)) n ≡ []
front_none_by ts o os n true low e f none more = (let no : version_of o ∷ older_of os n ≡ [] = rw e at none in absurd cc)
front_none_by ts o os n false true e f none more = (let no : older_of os n ≡ [] = rw e at none in rw f (rw e (more no)))
front_none_by ts o os n false false e f none more = rw f refl

front_none : (ts : ℕ) (os : List Older) (n : ℕ) → older_of os n ≡ [] → older_of (ended_by ts os) n ≡ []
front_none ts [] n none = refl
front_none ts (o ∷ os) n none = front_none_by ts o os n (o.number == n) (nat_le o.end ts) refl refl none (front_none ts os n)

-- a key without a newest version has no versions, before or after the removal
pub unheld : (ts : ℕ) (os : List Older) (n : ℕ) → IsLinked os n [] → older_of (ended_by ts os) n ++ [] ≡ versions_to ts (older_of os n ++ [])
unheld ts os n linked =
    let none : older_of os n ≡ [] = none_older (older_of os n) (ends_of os n) linked (as_many os n) in
    rw (front_none ts os n none, none) refl

-- ---- the ends of older versions

abbrev numbers_to : ℕ → List ℕ → List ℕ
numbers_to ts [] = []
numbers_to ts (e ∷ es) = if nat_le e ts then e ∷ numbers_to ts es else numbers_to ts es

no_numbers : (ts : ℕ) (es : List ℕ) → All (λ e. ts < e) es → numbers_to ts es ≡ []
no_numbers ts [] h = refl
no_numbers ts (e ∷ es) h =
    let later : ts < e = All-head (λ x. ts < x) e es h in
    let no : nat_le e ts ≡ false = grind (arith, nat_tests) in
    rw no (no_numbers ts es (All-tail (λ x. ts < x) e es h))

begins_by : (ts : ℕ) (v : Version) (vs : List Version) (b : Bool) → nat_le v.begin ts ≡ b
    → map (λ w. w.begin) (versions_to ts vs) ≡ numbers_to ts (map (λ w. w.begin) vs)
    → map (λ w. w.begin) (versions_to ts (v ∷ vs)) ≡ numbers_to ts (map (λ w. w.begin) (v ∷ vs))
begins_by ts v vs true e more = rw e (ap (λ (es : List ℕ). v.begin ∷ es) more)
begins_by ts v vs false e more = rw e more

begins_to : (ts : ℕ) (vs : List Version) → map (λ w. w.begin) (versions_to ts vs) ≡ numbers_to ts (map (λ w. w.begin) vs)
begins_to ts [] = refl
begins_to ts (v ∷ vs) = begins_by ts v vs (nat_le v.begin ts) refl (begins_to ts vs)

begins_above : (ts : ℕ) (vs : List Version) → Above ts vs → All (λ e. ts < e) (map (λ w. w.begin) vs)
begins_above ts [] h = All-nil (λ e. ts < e)
begins_above ts (v ∷ vs) h =
    All-cons (λ e. ts < e) v.begin (map (λ w. w.begin) vs) (All-head (λ w. ts < w.begin) v vs h) (begins_above ts vs (All-tail (λ w. ts < w.begin) v vs h))

later_by : (ts : ℕ) (v : Version) (vs : List Version) (b : Bool) → nat_le v.begin ts ≡ b → Rises (v ∷ vs)
    → later_begins (versions_to ts (v ∷ vs)) ≡ numbers_to ts (later_begins (v ∷ vs))
later_by ts v vs true e rises = rw e (begins_to ts vs)
later_by ts v vs false e rises =
    let lt : ts < v.begin = grind (arith, nat_tests) in
    let above : Above ts vs = All-weaker (λ w. v.begin < w.begin) (λ w. ts < w.begin) (λ w up. omega (arith, up, lt)) vs rises.0 in
    rw (e, none_to ts vs above) (sym (no_numbers ts (map (λ w. w.begin) vs) (begins_above ts vs above)))

later_to : (ts : ℕ) (vs : List Version) → Rises vs → later_begins (versions_to ts vs) ≡ numbers_to ts (later_begins vs)
later_to ts [] rises = refl
later_to ts (v ∷ vs) rises = later_by ts v vs (nat_le v.begin ts) refl rises

ends_by : (ts : ℕ) (o : Older) (os : List Older) (n : ℕ) (own low : Bool) → (o.number == n) ≡ own → nat_le o.end ts ≡ low
    → All (λ p. o.end ≤ p.end) os → ends_of (ended_by ts os) n ≡ numbers_to ts (ends_of os n)
    → ends_of (ended_by ts (o ∷ os)) n ≡ numbers_to ts (ends_of (o ∷ os) n)
ends_by ts o os n true true e f above more = rw (f, e) (rw f (ap (λ (es : List ℕ). o.end ∷ es) more))
ends_by ts o os n false true e f above more = rw (f, e) more
ends_by ts o os n own false e f above more =
    let lt : ts < o.end = grind (arith, nat_tests) in
    let late : All (λ p. ts < p.end) os = All-weaker (λ p. o.end ≤ p.end) (λ p. ts < p.end) (λ p le. omega (arith, le, lt)) os above in
    let all = All-cons (λ p. ts < p.end) o os lt late in
    rw f (sym (no_numbers ts (ends_of (o ∷ os) n) (ends_above ts (o ∷ os) n all)))

ends_to : (ts top : ℕ) (os : List Older) (n : ℕ) → EndsRise top os → ends_of (ended_by ts os) n ≡ numbers_to ts (ends_of os n)
ends_to ts top [] n climbs = refl
ends_to ts top (o ∷ os) n climbs = ends_by ts o os n (o.number == n) (nat_le o.end ts) refl refl climbs.1 (ends_to ts top os n climbs.2)

pub linked_to : (ts top : ℕ) (os : List Older) (n : ℕ) (vs : List Version) → EndsRise top os → Rises vs → later_begins vs ≡ ends_of os n
    → later_begins (versions_to ts vs) ≡ ends_of (ended_by ts os) n
linked_to ts top os n vs climbs rises linked = later_to ts vs rises ∙ ap (numbers_to ts) linked ∙ sym (ends_to ts top os n climbs)

-- ---- the last older version is removed

cut_by : (ts : ℕ) (p : Older) (os : List Older) (o : Older) (b : Bool) → nat_le p.end ts ≡ b → ended_by ts (os ++ o ∷ []) ≡ ended_by ts os
    → ended_by ts ((p ∷ os) ++ o ∷ []) ≡ ended_by ts (p ∷ os)
cut_by ts p os o true e more = rw e (ap (λ (xs : List Older). p ∷ xs) more)
cut_by ts p os o false e more = rw e refl

pub cut_one : (ts : ℕ) (os : List Older) (o : Older) → ts < o.end → ended_by ts (os ++ o ∷ []) ≡ ended_by ts os
cut_one ts [] o lt = (let no : nat_le o.end ts ≡ false = grind (arith, nat_tests) in rw no refl)
cut_one ts (p ∷ os) o lt = cut_by ts p os o (nat_le p.end ts) refl (cut_one ts os o lt)

all_front : (P : Older → Type 0) (os : List Older) (o : Older) → All P (os ++ o ∷ []) → All P os
all_front P [] o h = All-nil P
all_front P (p ∷ os) o h = All-cons P p os (All-head P p (os ++ o ∷ []) h) (all_front P os o (All-tail P p (os ++ o ∷ []) h))

pub climbs_front : (top : ℕ) (os : List Older) (o : Older) → EndsRise top (os ++ o ∷ []) → EndsRise top os
climbs_front top [] o h = tt
climbs_front top (p ∷ os) o h = (h.0, all_front (λ q. p.end ≤ q.end) os o h.1, climbs_front top os o h.2)

-- if the last older version ended by the timestamp, all of them remain
uncut_by : (ts : ℕ) (o : Older) (os : List Older) → o.end ≤ ts → ended_by ts os ≡ os → ended_by ts (o ∷ os) ≡ o ∷ os
uncut_by ts o os le more = (let yes : nat_le o.end ts ≡ true = grind (arith, nat_tests) in rw yes (ap (λ (xs : List Older). o ∷ xs) more))

first_low : (ts : ℕ) (p : Older) (os : List Older) (b : Bool) → nat_le p.end ts ≡ b → ended_by ts (p ∷ os) ≡ p ∷ os → p.end ≤ ts
first_low ts p os true e h = grind (arith, nat_tests)
first_low ts p os false e h = (let none : [] ≡ p ∷ os = rw e at h in absurd cc)

last_of : (ts : ℕ) (o p : Older) (os : List Older) (d : Older) → IsEndedBy ts (o ∷ p ∷ os) → (get_or (p ∷ os) (length (p ∷ os) - 1) d).end ≤ ts
last_of ts o p os d h =
    let e : length (o ∷ p ∷ os) - 1 ≡ suc (length (p ∷ os) - 1) = omega arith in
    rw e at (h d (omega arith))

pub uncut : (ts top : ℕ) (os : List Older) → EndsRise top os → IsEndedBy ts os → ended_by ts os ≡ os
uncut ts top [] climbs last = refl
uncut ts top (o ∷ []) climbs last = uncut_by ts o [] (last o (omega arith)) refl
uncut ts top (o ∷ p ∷ os) climbs last =
    let more = uncut ts top (p ∷ os) climbs.2 (λ d some. last_of ts o p os d last) in
    let le : o.end ≤ p.end = All-head (λ q. o.end ≤ q.end) p os climbs.1 in
    let low : p.end ≤ ts = first_low ts p os (nat_le p.end ts) refl more in
    uncut_by ts o (p ∷ os) (omega (arith, le, low)) more

-- if the last older version ended by the timestamp, all of them did
pub all_low : (ts top : ℕ) (os : List Older) → EndsRise top os → IsEndedBy ts os → All (λ o. o.end ≤ ts) os
all_low ts top [] climbs last = All-nil (λ o. o.end ≤ ts)
all_low ts top (o ∷ []) climbs last = All-cons (λ q. q.end ≤ ts) o [] (last o (omega arith)) (All-nil (λ q. q.end ≤ ts))
all_low ts top (o ∷ p ∷ os) climbs last =
    let more = all_low ts top (p ∷ os) climbs.2 (λ d some. last_of ts o p os d last) in
    let le : o.end ≤ p.end = All-head (λ q. o.end ≤ q.end) p os climbs.1 in
    let low : p.end ≤ ts = All-head (λ q. q.end ≤ ts) p os more in
    All-cons (λ q. q.end ≤ ts) o (p ∷ os) (omega (arith, le, low)) more

-- ---- the rewound history

-- each key's version at the timestamp was put back, and versions that begin after the timestamp were removed
module _ (ts : ℕ) (old : Numbered) (mid new : List Held) (was : IsNumbered old) (long : length new ≡ length old.newest)
    (back : (n : ℕ) → n < length old.newest → held_at mid n ≡ first_after ts old.older n (held_at old.newest n))
    (gone : (n : ℕ) → held_at new n ≡ versions_to ts (held_at mid n)) where
  none_held : (xs : List Held) (n : ℕ) → length xs ≤ n → held_at xs n ≡ []
  none_held xs n le = ap held_versions (get_or-eq_default xs Never le)

  pub rewound : (n : ℕ) → older_of (ended_by ts old.older) n ++ held_at new n ≡ versions_to ts (versions_at old n)
  rewound n = ⊎_elim
      (λ (lt : n < length old.newest).
      rw (gone n, back n lt) (restored ts n (held_at old.newest n) old.top old.older was.climbs (was.linked n) (was.rising n)))
      (λ (le : length old.newest ≤ n).
      let link = rw (none_held old.newest n le) at (was.linked n) in
      rw (none_held new n (omega (arith, le, long)), none_held old.newest n le) (unheld ts old.older n link))
      (cases_lt n (length old.newest))

  pub rewound_numbered : old.floor ≤ ts → IsNumbered (record { floor = old.floor; top = ts; newest = new; older = ended_by ts old.older })
  rewound_numbered low = record {
    ordered = low;
    low = λ n. rw (rewound n) (low_to ts (versions_at old n));
    rising = λ n. rw (rewound n) (rises_to ts (versions_at old n) (was.rising n));
    linked = λ n. rw (rewound n) (linked_to ts old.top old.older n (versions_at old n) was.climbs (was.rising n) (was.linked n));
    climbs = climbs_to ts old.top old.older was.climbs;
    due = all_by (λ o. old.floor < o.end) ts old.older was.due;
  }
