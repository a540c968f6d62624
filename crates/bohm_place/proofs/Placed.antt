-- Placeholders that a worker adds to the chains in its parts, and parts that are trimmed.
use Rattle.std.proofs.Common.{◌≡◌, ◌≢◌, ℕ, zero, suc, ◌+◌, ◌<◌, ◌≤◌, ◌&&◌, ◌||◌, Bool, true, false, List, [], ◌∷◌, ◌++◌, length, map, take, get_or, slice_get}
use Rattle.std.proofs.Common.{slice_set, Option, Some, None, unwrap_or, option_map, refl, sym, ap, ◌∙◌, inl, inr, ◌⊎◌, arith, if◌then◌else◌, All, append-nil}
use Rattle.std.specs.Str.{bytes_eq}
use Rattle.std.specs.List.{AllByRecursion}
use Rattle.std.proofs.lemmas.Bool.{cases_eq}
use Rattle.std.proofs.lemmas.List.{take_more, append_assoc, map_more}
use Rattle.std.proofs.lemmas.Option.{same_Some}
use Rattle.std.proofs.lemmas.List.Elements.{All-from_recursion, All-map, All-head, All-tail}
use Rattle.bohm_types.specs.Keys.{is_among}
use Rattle.bohm_txn.proofs.ForCallers.{none_before, same_key}
use Rattle.bohm_place.specs.declared.placeholder.Placeholder.{Placeholder}
use Rattle.bohm_place.specs.Chains.{Keyed, placeholders, placeholders_in, chain, begins, kept, AreEmpty, AreKept}
use Rattle.bohm_place.specs.Shares.{keys_of, placeholders_written, AreDistinct}
use Rattle.bohm_place.proofs.Lists.{set_same, set_other}
use Rattle.bohm_place.proofs.Distinct.{apart-AreDistinct}

module _ (part : List ℕ → ℕ) where
  placed_by : (qs : List Keyed) (old new : Keyed) (key k : List ℕ) (n w : ℕ) (next : Placeholder) → part key < length qs → slice_get qs (part key) ≡ Some old
      → keys_of part n w key ≡ true → (b : Bool) → bytes_eq key k ≡ b
      → placeholders new k ≡ (if b then placeholders old k ++ next ∷ [] else placeholders old k) → (part k ≡ part key) ⊎ (part k ≢ part key)
      → placeholders_in part (slice_set qs (part key) new) k
      ≡ (if (b && keys_of part n w k) then placeholders_in part qs k ++ next ∷ [] else placeholders_in part qs k)
  placed_by qs old new key k n w next inside at mine true e is (inl s) =
      let g : slice_get (slice_set qs (part key) new) (part k) ≡ Some new = rw s (set_same qs (part key) new inside) in
      let o : slice_get qs (part k) ≡ Some old = rw s at in
      let m : keys_of part n w k ≡ true = rw (sym s) at mine in
      rw (g, o, m) is
  placed_by qs old new key k n w next inside at mine true e is (inr s) = absurd (s (ap part (sym (same_key key k e))))
  placed_by qs old new key k n w next inside at mine false e is (inl s) =
      let g : slice_get (slice_set qs (part key) new) (part k) ≡ Some new = rw s (set_same qs (part key) new inside) in
      let o : slice_get qs (part k) ≡ Some old = rw s at in
      rw (g, o) is
  placed_by qs old new key k n w next inside at mine false e is (inr s) = rw (set_other qs (part key) (part k) new s) refl

  pub placed : (qs : List Keyed) (old new : Keyed) (key k : List ℕ) (n w : ℕ) (next : Placeholder) → part key < length qs → slice_get qs (part key) ≡ Some old
      → keys_of part n w key ≡ true
      → placeholders new k ≡ (if bytes_eq key k then placeholders old k ++ next ∷ [] else placeholders old k)
      → placeholders_in part (slice_set qs (part key) new) k
      ≡ (if (bytes_eq key k && keys_of part n w k) then placeholders_in part qs k ++ next ∷ [] else placeholders_in part qs k)
  placed qs old new key k n w next inside at mine is =
      placed_by qs old new key k n w next inside at mine (bytes_eq key k) refl is (cases_eq (part k) (part key))

  foreign_by : (qs : List Keyed) (old new : Keyed) (key k : List ℕ) (next : Placeholder) (i : ℕ) → part key < length qs → slice_get qs (part key) ≡ Some old
      → (b : Bool) → bytes_eq key k ≡ b
      → placeholders new k ≡ (if b then placeholders old k ++ next ∷ [] else placeholders old k) → part k ≢ i → (i ≡ part key) ⊎ (i ≢ part key)
      → placeholders_in (λ _. i) (slice_set qs (part key) new) k ≡ placeholders_in (λ _. i) qs k
  foreign_by qs old new key k next i inside at true e is apart (inl s) = absurd (apart (ap part (sym (same_key key k e)) ∙ sym s))
  foreign_by qs old new key k next i inside at false e is apart (inl s) =
      let g : slice_get (slice_set qs (part key) new) i ≡ Some new = rw s (set_same qs (part key) new inside) in
      let o : slice_get qs i ≡ Some old = rw s at in
      rw (g, o) is
  foreign_by qs old new key k next i inside at b e is apart (inr s) = rw (set_other qs (part key) i new s) refl

  -- in each part, the chains of keys that belong to other parts don't change
  pub foreign : (qs : List Keyed) (old new : Keyed) (key k : List ℕ) (next : Placeholder) (i : ℕ) → part key < length qs → slice_get qs (part key) ≡ Some old
      → placeholders new k ≡ (if bytes_eq key k then placeholders old k ++ next ∷ [] else placeholders old k) → part k ≢ i
      → placeholders_in (λ _. i) (slice_set qs (part key) new) k ≡ placeholders_in (λ _. i) qs k
  foreign qs old new key k next i inside at is apart = foreign_by qs old new key k next i inside at (bytes_eq key k) refl is apart (cases_eq i (part key))

skipped : (u index : ℕ) (w : List ℕ) (ws : List (List ℕ)) (k : List ℕ) (b : Bool) → bytes_eq w k ≡ b → (b || is_among ws k) ≡ false
    → (is_among ws k ≡ false → placeholders_written u (index + 1) ws k ≡ []) → placeholders_written u index (w ∷ ws) k ≡ []
skipped u index w ws k true e absent more = absurd cc
skipped u index w ws k false e absent more = rw e (more absent)

written_none : (u index : ℕ) (ws : List (List ℕ)) (k : List ℕ) → is_among ws k ≡ false → placeholders_written u index ws k ≡ []
written_none u index [] k absent = refl
written_none u index (w ∷ ws) k absent = skipped u index w ws k (bytes_eq w k) refl absent (written_none u (index + 1) ws k)

pub written_more : (u index : ℕ) (ws : List (List ℕ)) (w k : List ℕ) (at : ℕ) → at ≡ index + length ws → placeholders_written u index
    (ws ++ w ∷ []) k ≡ placeholders_written u index ws k ++ (if bytes_eq w k then record { begin = u; index = at } ∷ [] else [])
written_more u index [] w k at e = let s : at ≡ index = omega arith in rw s (append-nil _)
written_more u index (x ∷ ws) w k at e = rw (written_more u (index + 1) ws w k at (omega arith), append_assoc) refl

step_by : (m e : Bool) (base hand new ws : List Placeholder) (next : Placeholder) → hand ≡ (if m then base ++ ws else base)
    → new ≡ (if (e && m) then hand ++ next ∷ [] else hand) → new ≡ (if m then base ++ (ws ++ (if e then next ∷ [] else [])) else base)
step_by true true base hand new ws next h n = rw (n, h, append_assoc) refl
step_by true false base hand new ws next h n = rw (n, h, append-nil ws) refl
step_by false true base hand new ws next h n = n ∙ h
step_by false false base hand new ws next h n = n ∙ h

-- one more write of the transaction u is placed
pub write_placed : (m : Bool) (base hand new : List Placeholder) (u i : ℕ) (keys : List (List ℕ)) (k d : List ℕ) → i < length keys → length (take i keys) ≡ i
    → hand ≡ (if m then base ++ placeholders_written u 0 (take i keys) k else base)
    → new ≡ (if (bytes_eq (get_or keys i d) k && m) then hand ++ record { begin = u; index = i } ∷ [] else hand)
    → new ≡ (if m then base ++ placeholders_written u 0 (take (i + 1) keys) k else base)
write_placed m base hand new u i keys k d inside len h n =
    let more : placeholders_written u 0 (take (i + 1) keys) k ≡ placeholders_written u 0
    (take i keys) k ++ (if bytes_eq (get_or keys i d) k then record { begin = u; index = i } ∷ [] else [])
    = ap (λ ws. placeholders_written u 0 ws k) (take_more keys i d inside) ∙ written_more u 0 (take i keys) (get_or keys i d) k i (omega arith) in
    rw more (step_by m (bytes_eq (get_or keys i d) k) base hand new (placeholders_written u 0 (take i keys) k) record { begin = u; index = i } h n)

-- the key of the next write has no placeholder from the earlier writes of the transaction
pub not_yet_written : (u i : ℕ) (keys : List (List ℕ)) (d : List ℕ) → i < length keys → AreDistinct keys
    → placeholders_written u 0 (take i keys) (get_or keys i d) ≡ []
not_yet_written u i keys d inside distinct = written_none u 0 (take i keys) (get_or keys i d) (none_before keys i d inside (apart-AreDistinct keys distinct))

-- the chain of the next write's key is as it was before the transaction
pub not_yet_placed : (m : Bool) (base hand : List Placeholder) (u i : ℕ) (keys : List (List ℕ)) (d : List ℕ) → i < length keys → AreDistinct keys
    → hand ≡ (if m then base ++ placeholders_written u 0 (take i keys) (get_or keys i d) else base) → hand ≡ base
not_yet_placed true base hand u i keys d inside distinct h = h ∙ ap (λ ws. base ++ ws) (not_yet_written u i keys d inside distinct) ∙ append-nil base
not_yet_placed false base hand u i keys d inside distinct h = h

-- ---- begins below a timestamp

abbrev pub Below : ℕ → List Placeholder → Type 0
Below t vs = AllByRecursion (λ v. v.begin < t) vs

pub Below-higher : (t u : ℕ) (vs : List Placeholder) → t ≤ u → Below t vs → Below u vs
Below-higher t u [] le h = tt
Below-higher t u (v ∷ vs) le h = (omega (arith, h.0), Below-higher t u vs le h.1)

pub all_below : (t : ℕ) (vs : List Placeholder) → Below t vs → All (λ b. b < t) (begins vs)
all_below t vs h = All-map (λ b. b < t) (λ v. v.begin) vs (All-from_recursion (λ v. v.begin < t) vs h)

pub below_all : (t : ℕ) (vs : List Placeholder) → All (λ b. b < t) (begins vs) → Below t vs
below_all t [] h = tt
below_all t (v ∷ vs) h = (All-head (λ b. b < t) v.begin (begins vs) h, below_all t vs (All-tail (λ b. b < t) v.begin (begins vs) h))

-- ---- parts without chains

pub AreEmpty-push : (parts : List Keyed) (p : Keyed) → AreEmpty parts → ((k : List ℕ) → placeholders p k ≡ []) → AreEmpty (parts ++ p ∷ [])
AreEmpty-push [] p h e zero q k at = let same : p ≡ q = same_Some p q at in rw (← same) (e k)
AreEmpty-push [] p h e (suc i) q k at = absurd cc
AreEmpty-push (x ∷ xs) p h e zero q k at = h 0 q k at
AreEmpty-push (x ∷ xs) p h e (suc i) q k at = AreEmpty-push xs p (λ j. h (suc j)) e i q k at

-- ---- trimmed parts

-- either both parts are absent, or the second part has the kept begins of the first part's chains
abbrev pub KeptParts : ℕ → Option Keyed → Option Keyed → Type 0
KeptParts floor None None = Unit {0}
KeptParts floor None (Some q) = ⊥
KeptParts floor (Some p) None = ⊥
KeptParts floor (Some p) (Some q) = (k : List ℕ) → chain q k ≡ kept floor (chain p k)

in_kept : (floor : ℕ) (o r : Option Keyed) (k : List ℕ) → KeptParts floor o r
    → begins (unwrap_or (option_map (λ p. placeholders p k) r) []) ≡ kept floor (begins (unwrap_or (option_map (λ p. placeholders p k) o) []))
in_kept floor None None k h = refl
in_kept floor (Some p) (Some q) k h = h k
in_kept floor None (Some q) k h = absurd h
in_kept floor (Some p) None k h = absurd h

pub AreKept-parts : (floor : ℕ) (parts left : List Keyed) → ((i : ℕ) → KeptParts floor (slice_get parts i) (slice_get left i)) → AreKept floor parts left
AreKept-parts floor parts left h part k = in_kept floor (slice_get parts (part k)) (slice_get left (part k)) k (h (part k))

pub trimmed_here : (floor : ℕ) (o r : Option Keyed) (p q : Keyed) → o ≡ Some p → r ≡ Some q → ((k : List ℕ) → chain q k ≡ kept floor (chain p k))
    → KeptParts floor o r
trimmed_here floor o r p q e f h = rw (e, f) h

pub trimmed_past : (floor : ℕ) (o r : Option Keyed) → o ≡ None → r ≡ None → KeptParts floor o r
trimmed_past floor o r e f = rw (e, f) tt

-- ---- the placeholders that a transaction's writes find

pub found_write : {A : Type 0} (F : A → Placeholder) (before now new : List Placeholder) (v : Placeholder) (keys : List A) (i : ℕ) (key : A) → i < length keys
    → get_or keys i key ≡ key → now ≡ before ++ map F (take i keys) → new ≡ now ++ v ∷ [] → v ≡ F key → new ≡ before ++ map F (take (i + 1) keys)
found_write F before now new v keys i key inside at is n f = rw (map_more F keys i key inside, at, n, is, f, append_assoc) refl
