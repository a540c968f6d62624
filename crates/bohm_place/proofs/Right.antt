-- The newest placeholder of a key from the earlier transactions of the batch gives the right access.
use Rattle.std.proofs.Common.{◌≡◌, ℕ, suc, ◌+◌, ◌<◌, ◌≤◌, ◌==◌, ◌||◌, Bool, true, false, List, [], ◌∷◌, length, take, slice_get}
use Rattle.std.proofs.Common.{Some, refl, sym, ap, ◌∙◌, subst, inl, inr, ◌⊎◌, ⊎_elim, arith, if◌then◌else◌, nat_lt, add-zero}
use Rattle.std.specs.List.{AllByRecursion}
use Rattle.std.specs.Str.{bytes_eq}
use Rattle.std.proofs.lemmas.Bool.Decides.{nat_tests}
use Rattle.std.proofs.lemmas.Bool.{cases_lt, false≢true}
use Rattle.std.proofs.lemmas.Option.{same_Some}
use Rattle.std.proofs.lemmas.List.{length-take-le}
use Rattle.bohm_types.specs.Txn.{Txn}
use Rattle.bohm_types.specs.Keys.{is_among}
use Rattle.bohm_txn.proofs.ForCallers.{same_key, among_at}
use Rattle.bohm_place.specs.declared.placeholder.Placeholder.{Placeholder}
use Rattle.bohm_place.specs.declared.access.Source.TheVariants.{Before, Within}
use Rattle.bohm_place.specs.Chains.{begins, none, last_or}
use Rattle.bohm_place.specs.Shares.{within, placeholders_written, placeholders_made, AreDistinct, newest_ahead}
use Rattle.bohm_place.specs.Writers.{HasTxn, writers}
use Rattle.bohm_place.specs.Plans.{access_of, IsRightAccess}
use Rattle.bohm_place.proofs.Keyed.{last_or-append}
use Rattle.bohm_place.proofs.Lists.{in_take}
use Rattle.bohm_place.proofs.Rising.{begins-append}
use Rattle.bohm_place.proofs.Placed.{Below}
use Rattle.bohm_place.proofs.Found.{made_each}

-- ---- the last placeholder from the writes of one transaction

-- r is v if none of the writes is of the key; otherwise r is the placeholder of a write of the key
abbrev LastWritten : Placeholder → ℕ → ℕ → List (List ℕ) → List ℕ → Placeholder → Type 0
LastWritten v u index ws k r = ((r ≡ v) × (is_among ws k ≡ false)) ⊎ ((j : ℕ) × ((r ≡ record { begin = u; index = index + j }) × (slice_get ws j ≡ Some k)))

last_written_by : (v : Placeholder) (u index : ℕ) (w : List ℕ) (ws : List (List ℕ)) (k : List ℕ) (b : Bool) → bytes_eq w k ≡ b
    → ((x : Placeholder) → LastWritten x u (index + 1) ws k (last_or x (placeholders_written u (index + 1) ws k)))
    → LastWritten v u index (w ∷ ws) k (last_or v (placeholders_written u index (w ∷ ws) k))
last_written_by v u index w ws k true e more =
    let own : Placeholder = record { begin = u; index = index } in
    let here : last_or v (placeholders_written u index (w ∷ ws) k) ≡ last_or own (placeholders_written u (index + 1) ws k) = rw e refl in
    ⊎_elim
    (λ (same, absent). let at : index ≡ index + 0 = omega arith in
    inr (0, (here ∙ same ∙ ap (λ (i : ℕ). record { begin = u; index = i }) at, ap (λ (x : List ℕ). Some x) (same_key w k e))))
    (λ (j, (same, at)). let next : (index + 1) + j ≡ index + suc j = omega arith in
    inr (suc j, (here ∙ same ∙ ap (λ (i : ℕ). record { begin = u; index = i }) next, at)))
    (more own)
last_written_by v u index w ws k false e more =
    let here : last_or v (placeholders_written u index (w ∷ ws) k) ≡ last_or v (placeholders_written u (index + 1) ws k) = rw e refl in
    ⊎_elim
    (λ (same, absent). inl (here ∙ same, rw e absent))
    (λ (j, (same, at)). let next : (index + 1) + j ≡ index + suc j = omega arith in
    inr (suc j, (here ∙ same ∙ ap (λ (i : ℕ). record { begin = u; index = i }) next, at)))
    (more v)

last_written : (v : Placeholder) (u index : ℕ) (ws : List (List ℕ)) (k : List ℕ) → LastWritten v u index ws k (last_or v (placeholders_written u index ws k))
last_written v u index [] k = inl (refl, refl)
last_written v u index (w ∷ ws) k = last_written_by v u index w ws k (bytes_eq w k) refl (λ x. last_written x u (index + 1) ws k)

-- ---- the last placeholder from the writes of several transactions

-- no transaction at an index from p to n - 1 writes the key
abbrev NoneFrom : List Txn → List ℕ → ℕ → ℕ → Type 0
NoneFrom all k p n = (m : ℕ) (x : Txn) → p ≤ m → m < n → slice_get all m ≡ Some x → is_among x.writes k ≡ true → ⊥

-- v is the placeholder of the last transaction below index n that writes the key
record IsLast (first : ℕ) (all : List Txn) (k : List ℕ) (n : ℕ) (v : Placeholder) : Type 0 where
  place : ℕ
  txn : Txn
  below : place < n
  begin : v.begin ≡ first + place
  is_at : slice_get all place ≡ Some txn
  declared : slice_get txn.writes v.index ≡ Some k
  none_after : NoneFrom all k (place + 1) n

abbrev LastBelow : ℕ → List Txn → List ℕ → ℕ → Placeholder → Type 0
LastBelow first all k n v = ((v ≡ none) × NoneFrom all k 0 n) ⊎ IsLast first all k n v

skip : (all : List Txn) (k : List ℕ) (p n : ℕ) (x : Txn) → slice_get all n ≡ Some x → is_among x.writes k ≡ false → NoneFrom all k p n
    → NoneFrom all k p (n + 1)
skip all k p n x at absent h m y low high is has = ⊎_elim (λ lt. h m y low lt is has) (λ ge. clash y (same m ge is high) has) (cases_lt m n)
  where
    same : (m : ℕ) → n ≤ m → slice_get all m ≡ Some y → m < n + 1 → x ≡ y
    same m ge is high = let e : m ≡ n = omega arith in same_Some x y (sym at ∙ ap (λ (i : ℕ). slice_get all i) (sym e) ∙ is)

    clash : (y : Txn) → x ≡ y → is_among y.writes k ≡ true → ⊥
    clash y e has = let h = subst (λ (z : Txn). is_among z.writes k ≡ true) (sym e) has in false≢true (sym absent ∙ h)

step_by : (first : ℕ) (all : List Txn) (k : List ℕ) (n : ℕ) (x : Txn) (v r : Placeholder) → slice_get all n ≡ Some x → LastBelow first all k n v
    → LastWritten v (first + n) 0 x.writes k r → LastBelow first all k (n + 1) r
step_by first all k n x v r at (inl (is, empty)) (inl (same, absent)) = inl (same ∙ is, skip all k 0 n x at absent empty)
step_by first all k n x v r at (inr l) (inl (same, absent)) = inr (record {
  place = l.place;
  txn = l.txn;
  below = omega (arith, l.below);
  begin = ap (λ (w : Placeholder). w.begin) same ∙ l.begin;
  is_at = l.is_at;
  declared = ap (λ (w : Placeholder). slice_get l.txn.writes w.index) same ∙ l.declared;
  none_after = skip all k (l.place + 1) n x at absent l.none_after;
})
step_by first all k n x v r at before (inr (j, (same, is))) =
    let index : r.index ≡ j = ap (λ (w : Placeholder). w.index) same ∙ omega arith in
    inr (record {
      place = n;
      txn = x;
      below = omega arith;
      begin = ap (λ (w : Placeholder). w.begin) same;
      is_at = at;
      declared = rw index is;
      none_after = λ m y low high e has. absurd (omega arith);
    })

last_made : (first : ℕ) (all ts : List Txn) (k : List ℕ) (n : ℕ) (v : Placeholder)
    → ((u : ℕ) (x : Txn) → slice_get ts u ≡ Some x → slice_get all (n + u) ≡ Some x) → LastBelow first all k n v
    → LastBelow first all k (n + length ts) (last_or v (placeholders_made (first + n) ts k))
last_made first all [] k n v same before = rw add-zero before
last_made first all (t ∷ ts) k n v same before =
    let at : slice_get all n ≡ Some t = rw add-zero at (same 0 t refl) in
    let next = step_by first all k n t v (last_or v (placeholders_written (first + n) 0 t.writes k)) at before (last_written v (first + n) 0 t.writes k) in
    let more = last_made first all ts k (n + 1) (last_or v (placeholders_written (first + n) 0 t.writes k))
    (λ u x e. let here : (n + 1) + u ≡ n + suc u = omega arith in rw here (same (suc u) x e)) next in
    let long : (n + 1) + length ts ≡ n + length (t ∷ ts) = omega arith in
    let begin : first + (n + 1) ≡ (first + n) + 1 = omega arith in
    let parts : last_or v (placeholders_made (first + n) (t ∷ ts) k) ≡ last_or (last_or v (placeholders_written (first + n) 0 t.writes k))
    (placeholders_made ((first + n) + 1) ts k) =
    last_or-append v (placeholders_written (first + n) 0 t.writes k) (placeholders_made ((first + n) + 1) ts k) in
    rw (parts, ← long, ← begin) more

newest_made : (first : ℕ) (all : List Txn) (k : List ℕ) (i : ℕ) → i ≤ length all
    → LastBelow first all k i (last_or none (placeholders_made first (take i all) k))
newest_made first all k i inside =
    let start : LastBelow first all k 0 none = inl (refl, λ m x low high e has. absurd (omega arith)) in
    let r = last_made first all (take i all) k 0 none (λ u x e. let here : 0 + u ≡ u = omega arith in rw here (in_take all i u x e)) start in
    let long : 0 + length (take i all) ≡ i = omega (arith, length-take-le i all inside) in
    let begin : first + 0 ≡ first = omega arith in
    rw (long, begin) at r

-- ---- the right access

right_by : (first : ℕ) (all : List Txn) (k : List ℕ) (i : ℕ) (v : Placeholder) → 0 < first → LastBelow first all k i v
    → IsRightAccess first all (first + i) k (access_of v)
right_by first all k i v above (inl (is, empty)) = rw is (record {
  newest = λ u low w. empty w.there.place w.txn (omega arith) (let t = w.there.timestamp in omega arith) w.there.is_at w.declared;
  write = tt;
})
right_by first all k i v above (inr l) =
    let some : (v.begin == 0) ≡ false = let b = l.begin in grind (arith, nat_tests) in
    let there : HasTxn first all v.begin l.txn = record { place = l.place; timestamp = l.begin; is_at = l.is_at } in
    let at : access_of v ≡ record { source = Within v.begin; index = v.index } = rw some refl in
    rw at (record {
      newest = record {
        below = omega (arith, l.begin, l.below);
        holds = record { txn = l.txn; there = there; declared = among_at l.txn.writes v.index k l.declared };
        none_between = λ u low high w. l.none_after w.there.place w.txn (let t = w.there.timestamp in omega (arith, l.begin))
            (let t = w.there.timestamp in omega arith) w.there.is_at w.declared;
      };
      write = record { txn = l.txn; there = there; declared = l.declared };
    })

-- the key's newest placeholder from the transactions before index i gives the right access for the transaction at i
pub right_access : (first : ℕ) (all : List Txn) (k : List ℕ) (i : ℕ) → 0 < first → i ≤ length all
    → IsRightAccess first all (first + i) k (access_of (last_or none (placeholders_made first (take i all) k)))
right_access first all k i above inside = right_by first all k i (last_or none (placeholders_made first (take i all) k)) above
    (newest_made first all k i inside)

-- ---- the chains before the batch don't affect the newest placeholder

abbrev Above : ℕ → List Placeholder → Type 0
Above first vs = AllByRecursion (λ v. first ≤ v.begin) vs

made_above : (first : ℕ) (xs : List Txn) (k : List ℕ) → Above first (placeholders_made first xs k)
made_above first xs k = made_each (λ b. first ≤ b) first xs k (λ t from to. from)

last_below : (first : ℕ) (v : Placeholder) (vs : List Placeholder) → v.begin < first → Below first vs → (last_or v vs).begin < first
last_below first v [] lt h = lt
last_below first v (w ∷ ws) lt h = last_below first w ws h.0 h.1

last_above : (first : ℕ) (v : Placeholder) (vs : List Placeholder) → first ≤ v.begin → Above first vs → first ≤ (last_or v vs).begin
last_above first v [] le h = le
last_above first v (w ∷ ws) le h = last_above first w ws h.0 h.1

within_by : (first : ℕ) (v : Placeholder) (vs : List Placeholder) → v.begin < first → Above first vs → within first (last_or v vs) ≡ last_or none vs
within_by first v [] lt h = let e : nat_lt v.begin first ≡ true = grind (arith, nat_tests) in rw e refl
within_by first v (w ∷ ws) lt h =
    let le = last_above first w ws h.0 h.1 in
    let e : nat_lt (last_or w ws).begin first ≡ false = grind (arith, nat_tests) in
    rw e refl

pub newest_ahead-base : (first : ℕ) (base : List ℕ → List Placeholder) (ahead : List Txn) (k : List ℕ) → 0 < first → Below first (base k)
    → newest_ahead first base ahead k ≡ last_or none (placeholders_made first ahead k)
newest_ahead-base first base ahead k above low =
    ap (within first) (last_or-append none (base k) (placeholders_made first ahead k))
    ∙ within_by first (last_or none (base k)) (placeholders_made first ahead k) (last_below first none (base k) above low) (made_above first ahead k)

-- ---- accesses whose source is `Before`

begin_by : (v : Placeholder) (b : Bool) → (v.begin == 0) ≡ b → (access_of v).source ≡ Before → v.begin ≡ 0
begin_by v true e before = grind (arith, nat_tests)
begin_by v false e before = absurd (let h = rw e at before in cc)

pub begin_before : (v : Placeholder) → (access_of v).source ≡ Before → v.begin ≡ 0
begin_before v before = begin_by v (v.begin == 0) refl before

index_by : (first : ℕ) (vs : List Placeholder) → 0 < first → Above first vs → (last_or none vs).begin ≡ 0 → (last_or none vs).index ≡ 0
index_by first [] above h e = refl
index_by first (v ∷ vs) above h e = absurd (omega (arith, last_above first v vs h.0 h.1, e))

-- if the newest placeholder gives the source `Before`, its index is 0
pub index_before : (first : ℕ) (ahead : List Txn) (k : List ℕ) → 0 < first → (access_of (last_or none (placeholders_made first ahead k))).source ≡ Before
    → (last_or none (placeholders_made first ahead k)).index ≡ 0
index_before first ahead k above before = index_by first (placeholders_made first ahead k) above (made_above first ahead k)
    (begin_before (last_or none (placeholders_made first ahead k)) before)

-- ---- the begins that a batch adds to a chain

begins-written_by : (u index : ℕ) (w : List ℕ) (ws : List (List ℕ)) (k : List ℕ) (b : Bool) → bytes_eq w k ≡ b → is_among ws w ≡ false
    → begins (placeholders_written u (index + 1) ws k) ≡ (if is_among ws k then u ∷ [] else [])
    → begins (placeholders_written u index (w ∷ ws) k) ≡ (if (b || is_among ws k) then u ∷ [] else [])
begins-written_by u index w ws k true e absent more =
    let gone : is_among ws k ≡ false = subst (λ (q : List ℕ). is_among ws q ≡ false) (same_key w k e) absent in
    let rest : begins (placeholders_written u (index + 1) ws k) ≡ [] = rw gone at more in
    rw (e, rest) refl
begins-written_by u index w ws k false e absent more = rw e more

begins-written : (u index : ℕ) (ws : List (List ℕ)) (k : List ℕ) → AreDistinct ws
    → begins (placeholders_written u index ws k) ≡ (if is_among ws k then u ∷ [] else [])
begins-written u index [] k d = refl
begins-written u index (w ∷ ws) k d = begins-written_by u index w ws k (bytes_eq w k) refl d.0 (begins-written u (index + 1) ws k d.1)

pub begins-made : (u : ℕ) (xs : List Txn) (k : List ℕ) → ((i : ℕ) (x : Txn) → slice_get xs i ≡ Some x → AreDistinct x.writes)
    → begins (placeholders_made u xs k) ≡ writers u xs k
begins-made u [] k d = refl
begins-made u (x ∷ xs) k d = begins-append (placeholders_written u 0 x.writes k) (placeholders_made (u + 1) xs k)
    ∙ rw (begins-written u 0 x.writes k (d 0 x refl), begins-made (u + 1) xs k (λ i. d (suc i))) refl
