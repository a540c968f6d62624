-- Older versions: trims, appends, and the version of a key at a timestamp.
use Rattle.std.proofs.Common.{◌≡◌, ◌≢◌, ℕ, zero, suc, ◌+◌, ◌-◌, ◌<◌, ◌≤◌, ◌==◌, ◌&&◌, ◌∙◌, Bool, true, false, List, [], ◌∷◌, ◌++◌, length, drop}
use Rattle.std.proofs.Common.{get_or, slice_set, refl, sym, ap, ⊎_elim, arith, if◌then◌else◌, nat_le, nat_lt, All, append-nil, append_assoc}
use Rattle.std.proofs.Common.{add-one, drop-cons}
use Rattle.std.proofs.lemmas.Bool.{cases_eq}
use Rattle.std.proofs.lemmas.Bool.Decides.{nat_tests}
use Rattle.std.specs.Prelude.{option_to_list, slice_index_or, Option}
use Rattle.std.proofs.lemmas.List.{get_or-set_same, get_or-set_other, get_or_default}
use Rattle.std.proofs.lemmas.List.Elements.{All-head, All-tail, All-nil, All-cons, All-push, All-weaker}
use Rattle.bohm_types.specs.declared.cell.Cell.TheVariants as cells
use Rattle.bohm_store.specs.declared.version.Version.{Version}
use Rattle.bohm_store.specs.Versions.{Rises, cell_at, kept_versions}
use Rattle.bohm_store.specs.Chains.{Above, later_begins}
use Rattle.bohm_store.proofs.Past.{cell_at-above}
use Rattle.bohm_hints.specs.declared.held.Held.{Held}
use Rattle.bohm_hints.specs.declared.held.Held.TheVariants.{Never, Absent, Present}
use Rattle.bohm_store.specs.declared.older.Older.{Older}
use Rattle.bohm_store.specs.Held.{held_versions, held_at}
use Rattle.bohm_store.specs.Numbered.{EndsRise, IsLinked, IsNotDue, ends_of, first_after, older_of, version_of}
use Rattle.bohm_store.proofs.Linked.{as_many, none_older}

-- ---- the first version is removed

own_dropped : (floor : ℕ) (v : Version) (rest : List Version) (end : ℕ) (es : List ℕ) → later_begins (v ∷ rest) ≡ end ∷ es → end ≤ floor
    → (kept_versions floor (v ∷ rest) ≡ kept_versions floor rest) × (later_begins rest ≡ es)
own_dropped floor v [] end es e le = absurd cc
own_dropped floor v (w ∷ ws) end es e le =
    let b : w.begin ≡ end = cc in
    let is : nat_le w.begin floor ≡ true = grind (arith, nat_tests) in
    (rw is refl, cc)

dropped_by : (floor : ℕ) (o : Older) (os : List Older) (n : ℕ) (held : List Version) (b : Bool) → (o.number == n) ≡ b → o.end ≤ floor
    → IsLinked (o ∷ os) n held
    → (kept_versions floor (older_of (o ∷ os) n ++ held) ≡ kept_versions floor (older_of os n ++ held)) × IsLinked os n held
dropped_by floor o os n held true e le h =
    let h' : later_begins (version_of o ∷ (older_of os n ++ held)) ≡ o.end ∷ ends_of os n = rw e at h in
    let (k, l) = own_dropped floor (version_of o) (older_of os n ++ held) o.end (ends_of os n) h' le in
    (rw e k, l)
dropped_by floor o os n held false e le h =
    let h' : later_begins (older_of os n ++ held) ≡ ends_of os n = rw e at h in
    (rw e refl, h')

pub dropped : (floor : ℕ) (o : Older) (os : List Older) (n : ℕ) (held : List Version) → o.end ≤ floor → IsLinked (o ∷ os) n held
    → (kept_versions floor (older_of (o ∷ os) n ++ held) ≡ kept_versions floor (older_of os n ++ held)) × IsLinked os n held
dropped floor o os n held le h = dropped_by floor o os n held (o.number == n) refl le h

-- all older versions are removed
pub linked_none : (os : List Older) (n : ℕ) (held : List Version) → IsLinked os n held → IsLinked [] n held
linked_none [] n held h = h
linked_none (o ∷ os) n held h = linked_none os n held (dropped o.end o os n held (omega arith) h).1

pub all_dropped : (floor : ℕ) (os : List Older) (n : ℕ) (held : List Version) → All (λ o. o.end ≤ floor) os → IsLinked os n held
    → kept_versions floor (older_of os n ++ held) ≡ kept_versions floor held
all_dropped floor [] n held low h = refl
all_dropped floor (o ∷ os) n held low h =
    let step = dropped floor o os n held (All-head (λ p. p.end ≤ floor) o os low) h in
    step.0 ∙ all_dropped floor os n held (All-tail (λ p. p.end ≤ floor) o os low) step.1

-- ---- the versions that a floor keeps

pub all_due : (floor top : ℕ) (os : List Older) → IsNotDue floor os → EndsRise top os → All (λ o. floor < o.end) os
all_due floor top [] h r = All-nil (λ o. floor < o.end)
all_due floor top (o ∷ os) h r = All-cons (λ p. floor < p.end) o os h (All-weaker (λ p. o.end ≤ p.end) (λ p. floor < p.end) (λ p le. omega arith) os r.1)

ends_above_by : (floor : ℕ) (o : Older) (os : List Older) (n : ℕ) (b : Bool) → (o.number == n) ≡ b → floor < o.end
    → All (λ e. floor < e) (ends_of os n) → All (λ e. floor < e) (ends_of (o ∷ os) n)
ends_above_by floor o os n true e lt more = rw e (All-cons (λ x. floor < x) o.end (ends_of os n) lt more)
ends_above_by floor o os n false e lt more = rw e more

pub ends_above : (floor : ℕ) (os : List Older) (n : ℕ) → All (λ o. floor < o.end) os → All (λ e. floor < e) (ends_of os n)
ends_above floor [] n h = All-nil (λ e. floor < e)
ends_above floor (o ∷ os) n h =
    ends_above_by floor o os n (o.number == n) refl (All-head (λ p. floor < p.end) o os h) (ends_above floor os n (All-tail (λ p. floor < p.end) o os h))

kept_all : (floor : ℕ) (vs : List Version) (es : List ℕ) → later_begins vs ≡ es → All (λ e. floor < e) es → kept_versions floor vs ≡ vs
kept_all floor [] es e h = refl
kept_all floor (v ∷ []) es e h = refl
kept_all floor (v ∷ w ∷ ws) [] e h = absurd cc
kept_all floor (v ∷ w ∷ ws) (x ∷ es) e h =
    let above : floor < x = All-head (λ y. floor < y) x es h in
    let same : w.begin ≡ x = cc in
    let no : nat_le w.begin floor ≡ false = grind (arith, nat_tests) in
    rw no refl

pub kept_due : (floor : ℕ) (os : List Older) (n : ℕ) (held : List Version) → All (λ o. floor < o.end) os → IsLinked os n held
    → kept_versions floor (older_of os n ++ held) ≡ older_of os n ++ held
kept_due floor os n held due linked = kept_all floor (older_of os n ++ held) (ends_of os n) linked (ends_above floor os n due)

-- ---- a version is appended

older_push : (os : List Older) (o : Older) (n : ℕ) → older_of (os ++ o ∷ []) n ≡ older_of os n ++ (if (o.number == n) then version_of o ∷ [] else [])
older_push [] o n = append-nil (if (o.number == n) then version_of o ∷ [] else [])
older_push (p ∷ os) o n =
    rw (older_push os o n) (sym (append_assoc (if (p.number == n) then version_of p ∷ [] else []) (older_of os n)
    (if (o.number == n) then version_of o ∷ [] else [])))

ends_push : (os : List Older) (o : Older) (n : ℕ) → ends_of (os ++ o ∷ []) n ≡ ends_of os n ++ (if (o.number == n) then o.end ∷ [] else [])
ends_push [] o n = append-nil (if (o.number == n) then o.end ∷ [] else [])
ends_push (p ∷ os) o n =
    rw (ends_push os o n) (sym (append_assoc (if (p.number == n) then p.end ∷ [] else []) (ends_of os n) (if (o.number == n) then o.end ∷ [] else [])))

begins_push : (v : Version) (vs : List Version) (w : Version) → later_begins ((v ∷ vs) ++ w ∷ []) ≡ later_begins (v ∷ vs) ++ w.begin ∷ []
begins_push v [] w = refl
begins_push v (x ∷ vs) w = ap (λ (es : List ℕ). x.begin ∷ es) (begins_push x vs w)

begins_last : (vs : List Version) (x w : Version) → later_begins ((vs ++ x ∷ []) ++ w ∷ []) ≡ later_begins (vs ++ x ∷ []) ++ w.begin ∷ []
begins_last [] x w = refl
begins_last (v ∷ vs) x w = begins_push v (vs ++ x ∷ []) w

module _ (os more : List Older) (now new : List Held) (number : ℕ) (w : Version) (v : Held) (inside : number < length now)
    (new_is : new ≡ slice_set now number v) (is : held_versions v ≡ w ∷ []) where
  held_here : (n : ℕ) → n ≡ number → held_at new n ≡ w ∷ []
  held_here n same =
      ap held_versions (ap (λ (xs : List Held). get_or xs n Never) new_is ∙ ap (λ (m : ℕ). get_or (slice_set now number v) m Never) same
      ∙ get_or-set_same now number v Never inside)
      ∙ is

  held_other : (n : ℕ) → n ≢ number → held_at new n ≡ held_at now n
  held_other n apart = ap held_versions (ap (λ (xs : List Held). get_or xs n Never) new_is ∙ get_or-set_other now number n v Never apart)

  abbrev Displaced : ℕ → Type 0
  Displaced n =
      (older_of more n ++ held_at new n ≡ (older_of os n ++ held_at now n) ++ (if (number == n) then w ∷ [] else [])) × IsLinked more n (held_at new n)

  -- the replaced newest version is appended to the older ones
  module _ (o : Older) (was : held_at now number ≡ version_of o ∷ []) (own : o.number ≡ number) (ended : o.end ≡ w.begin) (more_is : more ≡ os ++ o ∷ []) where
    pub displaced_one : (n : ℕ) → IsLinked os n (held_at now n) → Displaced n
    displaced_one n linked = ⊎_elim
        (λ (same : n ≡ number).
        let yes : (number == n) ≡ true = grind (arith, nat_tests) in
        let its : (o.number == n) ≡ true = grind (arith, nat_tests) in
        let x = version_of o in
        let olds : older_of more n ≡ older_of os n ++ x ∷ [] = ap (λ (ps : List Older). older_of ps n) more_is ∙ older_push os o n ∙ rw its refl in
        let ends : ends_of more n ≡ ends_of os n ++ w.begin ∷ [] =
        ap (λ (ps : List Older). ends_of ps n) more_is ∙ ends_push os o n ∙ rw its (ap (λ (e : ℕ). ends_of os n ++ e ∷ []) ended) in
        let had : held_at now n ≡ x ∷ [] = ap (λ (m : ℕ). held_at now m) same ∙ was in
        let before : later_begins (older_of os n ++ x ∷ []) ≡ ends_of os n =
        ap (λ (vs : List Version). later_begins (older_of os n ++ vs)) (sym had) ∙ linked in
        let fact : (older_of more n ++ held_at new n ≡ (older_of os n ++ held_at now n) ++ w ∷ []) = rw (olds, held_here n same, had) refl in (
          fact ∙ rw yes refl,
          ap (λ (vs : List Version). later_begins (vs ++ held_at new n)) olds
              ∙ ap (λ (vs : List Version). later_begins ((older_of os n ++ x ∷ []) ++ vs)) (held_here n same)
              ∙ begins_last (older_of os n) x w
              ∙ ap (λ (es : List ℕ). es ++ w.begin ∷ []) before
              ∙ sym ends,
        ))
        (λ (apart : n ≢ number).
        let no : (number == n) ≡ false = grind (arith, nat_tests) in
        let other : (o.number == n) ≡ false = grind (arith, nat_tests) in
        let olds : older_of more n ≡ older_of os n =
        ap (λ (ps : List Older). older_of ps n) more_is ∙ older_push os o n ∙ rw other (append-nil (older_of os n)) in
        let ends : ends_of more n ≡ ends_of os n = ap (λ (ps : List Older). ends_of ps n) more_is ∙ ends_push os o n ∙ rw other (append-nil (ends_of os n)) in
        let fact : older_of more n ++ held_at new n ≡ older_of os n ++ held_at now n =
        ap (λ (vs : List Version). vs ++ held_at new n) olds ∙ ap (λ (vs : List Version). older_of os n ++ vs) (held_other n apart) in
        (fact ∙ sym (append-nil (older_of os n ++ held_at now n)) ∙ rw no refl, ap later_begins fact ∙ linked ∙ sym ends))
        (cases_eq n number)

  -- the key had no version
  module _ (was : held_at now number ≡ []) (more_is : more ≡ os) where
    pub displaced_none : (n : ℕ) → IsLinked os n (held_at now n) → Displaced n
    displaced_none n linked = ⊎_elim
        (λ (same : n ≡ number).
        let yes : (number == n) ≡ true = grind (arith, nat_tests) in
        let olds : older_of more n ≡ older_of os n = ap (λ (ps : List Older). older_of ps n) more_is in
        let ends : ends_of more n ≡ ends_of os n = ap (λ (ps : List Older). ends_of ps n) more_is in
        let had : held_at now n ≡ [] = ap (λ (m : ℕ). held_at now m) same ∙ was in
        let before : later_begins (older_of os n ++ []) ≡ ends_of os n = ap (λ (vs : List Version). later_begins (older_of os n ++ vs)) (sym had) ∙ linked in
        let empty : older_of os n ≡ [] = none_older (older_of os n) (ends_of os n) before (as_many os n) in
        let none : [] ≡ ends_of os n = ap (λ (vs : List Version). later_begins (vs ++ [])) (sym empty) ∙ before in
        let fact : (older_of more n ++ held_at new n ≡ (older_of os n ++ held_at now n) ++ w ∷ []) = rw (olds, held_here n same, had, empty) refl in (
          fact ∙ rw yes refl,
          ap (λ (vs : List Version). later_begins (vs ++ held_at new n)) (olds ∙ empty)
              ∙ ap (λ (vs : List Version). later_begins ([] ++ vs)) (held_here n same) ∙ none ∙ sym ends,
        ))
        (λ (apart : n ≢ number).
        let no : (number == n) ≡ false = grind (arith, nat_tests) in
        let fact : older_of more n ++ held_at new n ≡ older_of os n ++ held_at now n =
        ap (λ (ps : List Older). older_of ps n ++ held_at new n) more_is ∙ ap (λ (vs : List Version). older_of os n ++ vs) (held_other n apart) in (
          fact ∙ sym (append-nil (older_of os n ++ held_at now n)) ∙ rw no refl,
          ap later_begins fact ∙ linked
              ∙ sym (ap (λ (ps : List Older). ends_of ps n) more_is),
        ))
        (cases_eq n number)

pub rise_higher : (low high : ℕ) (os : List Older) → EndsRise low os → low ≤ high → EndsRise high os
rise_higher low high [] r le = tt
rise_higher low high (o ∷ os) r le = (omega (arith, r.0, le), r.1, rise_higher low high os r.2 le)

pub rise_push : (top : ℕ) (os : List Older) (o : Older) → EndsRise top os → top ≤ o.end → EndsRise o.end (os ++ o ∷ [])
rise_push top [] o r le = (omega arith, All-nil (λ p. o.end ≤ p.end), tt)
rise_push top (p ∷ os) o r le = (omega (arith, r.0, le), All-push (λ q. p.end ≤ q.end) os o r.1 (omega (arith, r.0, le)), rise_push top os o r.2 le)

-- ---- the version of a key at a timestamp

skip_by : (ts : ℕ) (o : Older) (os : List Older) (n : ℕ) (held : List Version) (b : Bool) → nat_lt ts o.end ≡ false
    → (if (b && nat_lt ts o.end) then version_of o ∷ [] else first_after ts os n held) ≡ first_after ts os n held
skip_by ts o os n held true e = rw e refl
skip_by ts o os n held false e = refl

-- if a version ended at or below the timestamp, that version and all before are skipped
skips_to : (ts top : ℕ) (os : List Older) (n : ℕ) (held : List Version) (i : ℕ) (d : Older) → EndsRise top os → i < length os
    → (get_or os i d).end ≤ ts → first_after ts os n held ≡ first_after ts (drop (suc i) os) n held
skips_to ts top [] n held i d r lt le = absurd (omega arith)
skips_to ts top (o ∷ os) n held zero d r lt le = let past : nat_lt ts o.end ≡ false = grind (arith, nat_tests) in skip_by ts o os n held (o.number == n) past
skips_to ts top (o ∷ os) n held (suc i) d r lt le =
    let lower : o.end ≤ (get_or os i d).end = r.1 i d (omega arith) in
    let past : nat_lt ts o.end ≡ false = grind (arith, nat_tests) in
    skip_by ts o os n held (o.number == n) past ∙ skips_to ts top os n held i d r.2 (omega arith) le

pub first_skips : (ts top : ℕ) (os : List Older) (n : ℕ) (held : List Version) (i : ℕ) (d : Older) → EndsRise top os → 0 < i → i ≤ length os
    → d ≡ get_or os (i - 1) d → d.end ≤ ts → first_after ts os n held ≡ first_after ts (drop i os) n held
first_skips ts top os n held i d r some le is low =
    let next : suc (i - 1) ≡ i = omega (arith, some) in
    skips_to ts top os n held (i - 1) d r (omega (arith, some, le)) (rw (← is) low) ∙ ap (λ (j : ℕ). first_after ts (drop j os) n held) next

-- a version that ended above the timestamp is found if it has the number, and is skipped otherwise
step_by : (ts : ℕ) (o : Older) (os : List Older) (n : ℕ) (held : List Version) (b : Bool) → (o.number == n) ≡ b → ts < o.end
    → first_after ts (o ∷ os) n held ≡ (if b then version_of o ∷ [] else first_after ts os n held)
step_by ts o os n held true e lt = let yes : nat_lt ts o.end ≡ true = grind (arith, nat_tests) in rw (e, yes) refl
step_by ts o os n held false e lt = rw e refl

pub first_step : (ts : ℕ) (os : List Older) (n : ℕ) (held : List Version) (i : ℕ) (d : Older) (b : Bool) → i < length os → d ≡ get_or os i d
    → (d.number == n) ≡ b → ts < d.end
    → first_after ts (drop i os) n held ≡ (if b then version_of d ∷ [] else first_after ts (drop (i + 1) os) n held)
first_step ts os n held i d b lt is e late =
    let at : drop i os ≡ d ∷ drop (i + 1) os = rw add-one (drop-cons os i d lt) ∙ ap (λ (o : Older). o ∷ drop (i + 1) os) (sym is) in
    rw at (step_by ts d (drop (i + 1) os) n held b e late)

-- versions of other numbers are skipped
pub first_passes : (ts : ℕ) (os : List Older) (n : ℕ) (held : List Version) (d : Older) (i more : ℕ) → i + more ≤ length os
    → ((j : ℕ) → i ≤ j → j < i + more → (get_or os j d).number ≢ n)
    → first_after ts (drop i os) n held ≡ first_after ts (drop (i + more) os) n held
first_passes ts os n held d i zero le none =
    let same : i ≡ i + 0 = omega arith in
    ap (λ (j : ℕ). first_after ts (drop j os) n held) same
first_passes ts os n held d i (suc more) le none =
    let at : drop i os ≡ get_or os i d ∷ drop (i + 1) os = rw add-one (drop-cons os i d (omega arith)) in
    let apart = none i (omega arith) (omega arith) in
    let no : ((get_or os i d).number == n) ≡ false = grind (arith, nat_tests) in
    let end : (i + 1) + more ≡ i + suc more = omega arith in
    rw at (rw no (first_passes ts os n held d (i + 1) more (omega arith) (λ j from to. none j (omega arith) (omega arith))
    ∙ ap (λ (j : ℕ). first_after ts (drop j os) n held) end))

later_own : (ts : ℕ) (v : Version) (rest : List Version) (end : ℕ) (es : List ℕ) → later_begins (v ∷ rest) ≡ end ∷ es → Rises rest
    → ts < end → cell_at ts (v ∷ rest) cells.Absent ≡ cell_at ts (v ∷ []) cells.Absent
later_own ts v [] end es e r lt = refl
later_own ts v (w ∷ ws) end es e r lt =
    let b : w.begin ≡ end = cc in
    let above : Above ts (w ∷ ws) =
    All-cons (λ x. ts < x.begin) w ws (omega arith) (All-weaker (λ x. w.begin < x.begin) (λ x. ts < x.begin) (λ x l. omega arith) ws r.0) in
    cell_at-above ts (w ∷ ws) (if nat_le v.begin ts then v.cell else cells.Absent) above

early_own : (ts : ℕ) (v : Version) (rest : List Version) (end : ℕ) (es : List ℕ) → later_begins (v ∷ rest) ≡ end ∷ es → end ≤ ts
    → (cell_at ts (v ∷ rest) cells.Absent ≡ cell_at ts rest cells.Absent) × (later_begins rest ≡ es)
early_own ts v [] end es e le = absurd cc
early_own ts v (w ∷ ws) end es e le =
    let b : w.begin ≡ end = cc in
    let yes : nat_le w.begin ts ≡ true = grind (arith, nat_tests) in
    (rw yes refl, cc)

seen_by : (ts : ℕ) (o : Older) (os : List Older) (n : ℕ) (held : List Version) (b c : Bool) → (o.number == n) ≡ b → nat_lt ts o.end ≡ c
    → Rises (older_of (o ∷ os) n ++ held) → IsLinked (o ∷ os) n held
    → (Rises (older_of os n ++ held) → IsLinked os n held
    → cell_at ts (older_of os n ++ held) cells.Absent ≡ cell_at ts (first_after ts os n held) cells.Absent)
    → cell_at ts (older_of (o ∷ os) n ++ held) cells.Absent ≡ cell_at ts (first_after ts (o ∷ os) n held) cells.Absent
seen_by ts o os n held true true e f r h more =
    let h' : later_begins (version_of o ∷ (older_of os n ++ held)) ≡ o.end ∷ ends_of os n = rw e at h in
    let r' : Rises (version_of o ∷ (older_of os n ++ held)) = rw e at r in
    let lt : ts < o.end = grind (arith, nat_tests) in
    rw (e, f) (later_own ts (version_of o) (older_of os n ++ held) o.end (ends_of os n) h' r'.1 lt)
seen_by ts o os n held true false e f r h more =
    let h' : later_begins (version_of o ∷ (older_of os n ++ held)) ≡ o.end ∷ ends_of os n = rw e at h in
    let r' : Rises (version_of o ∷ (older_of os n ++ held)) = rw e at r in
    let le : o.end ≤ ts = grind (arith, nat_tests) in
    let (same, linked) = early_own ts (version_of o) (older_of os n ++ held) o.end (ends_of os n) h' le in
    rw (e, f) (same ∙ more r'.1 linked)
seen_by ts o os n held false c e f r h more =
    let h' : later_begins (older_of os n ++ held) ≡ ends_of os n = rw e at h in
    let r' : Rises (older_of os n ++ held) = rw e at r in
    rw e (more r' h')

-- the first version that ended above the timestamp, or else the newest, gives the cell that all versions give
pub first_seen : (ts : ℕ) (os : List Older) (n : ℕ) (held : List Version) → Rises (older_of os n ++ held) → IsLinked os n held
    → cell_at ts (older_of os n ++ held) cells.Absent ≡ cell_at ts (first_after ts os n held) cells.Absent
first_seen ts [] n held r h = refl
first_seen ts (o ∷ os) n held r h = seen_by ts o os n held (o.number == n) (nat_lt ts o.end) refl refl r h (first_seen ts os n held)

pub had : (now : List Held) (number : ℕ) (v : Held) (o : Option Version) → v ≡ get_or now number v → number < length now
    → option_to_list o ≡ held_versions v → held_at now number ≡ option_to_list o
had now number v o at inside is = ap held_versions (get_or_default now number Never v inside ∙ sym at) ∙ sym is

-- ---- without a past

held_once : (v : Held) → length (held_versions v) ≤ 1
held_once Never = omega arith
held_once (Absent begin) = omega arith
held_once (Present begin z) = omega arith

-- if every older version ended above the top, there is none
pub one_each : (top : ℕ) (os : List Older) (now : List Held) (n : ℕ) → EndsRise top os → All (λ (o : Older). top < o.end) os
    → length (older_of os n ++ held_at now n) ≤ 1
one_each top [] now n rise due = held_once (slice_index_or now n Never)
one_each top (o ∷ os) now n rise due = absurd (omega (arith, rise.0, All-head (λ (p : Older). top < p.end) o os due))
