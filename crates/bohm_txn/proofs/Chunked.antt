-- The first fault of a document is that of its store, or of the first faulty chunk of its transactions.
use Rattle.std.proofs.Common.{◌≡◌, inl, inr, ℕ, suc, ◌+◌, ◌<◌, ◌≤◌, Bool, true, false, List, [], ◌∷◌, ◌++◌}
use Rattle.std.proofs.Common.{length, Option, Some, None, refl, ap, sym, subst, ◌∙◌, arith, length-append}
use Rattle.std.specs.Prelude.{ℤ, nat_le, All, is_some, IfSome}
use Rattle.std.specs.Option.{option_map}
use Rattle.bohm_txn.specs.declared.fault.CheckFault.{CheckFault}
use Rattle.bohm_txn.specs.declared.fault.CheckKind.{CheckKind}
use Rattle.bohm_txn.specs.declared.fault.CheckKind.TheVariants.{Order, Limit}
use Rattle.bohm_types.specs.declared.edition.Edition.TheVariants.{One}
use Rattle.bohm_types.specs.Txn.{Txn}
use Rattle.bohm_types.specs.Document.{Document}
use Rattle.bohm_types.specs.Keys.{rising, names_of}
use Rattle.bohm_txn.specs.Faulty.{WellFormed, IsFirstFault, IsWellFormedTxn}
use Rattle.bohm_txn.specs.FirstFault.{found_or, first_from, find_txn, first_in_txn, first_in_log, first_in_doc, fault_of}
use Rattle.bohm_txn.specs.Chunked.{store_fault, IsCheckedTo, IsCountOf, IsLogCheckedTo}
use Rattle.bohm_txn.proofs.FirstLaw.{well_formed, first_fault}
use Rattle.bohm_txn.proofs.UseLaws.{all_in, rising_store}
use Rattle.std.proofs.lemmas.Bool.Decides.{nat_tests}

-- ---- searches along joined lists

found_on : {A B : Type 0} (find : ℕ → A → Option B) (i : ℕ) (xs ys : List A) (p : ℕ × B) → first_from find i xs ≡ Some p → first_from find i (xs ++ ys) ≡ Some p
found_on find i [] ys p e = absurd cc
found_on find i (x ∷ xs) ys p e =
    elim (find i x) as (λ o. found_or (i + 1) o (first_from find (i + 1) xs) ≡ Some p → found_or (i + 1) o (first_from find (i + 1) (xs ++ ys)) ≡ Some p) [
      | None ↦ λ h. found_on find (i + 1) xs ys p h
      | Some b ↦ λ h. h
    ] e

none_on : {A B : Type 0} (find : ℕ → A → Option B) (i : ℕ) (xs ys : List A) → first_from find i xs ≡ None
    → first_from find i (xs ++ ys) ≡ first_from find (i + length xs) ys
none_on find i [] ys e = let same : i + 0 ≡ i = omega arith in rw same refl
none_on find i (x ∷ xs) ys e =
    let same : i + 1 + length xs ≡ i + suc (length xs) = omega arith in
    elim (find i x) as (λ o. found_or (i + 1) o (first_from find (i + 1) xs) ≡ None
    → found_or (i + 1) o (first_from find (i + 1) (xs ++ ys)) ≡ first_from find (i + suc (length xs)) ys) [
      | None ↦ λ h. none_on find (i + 1) xs ys h ∙ ap (λ n. first_from find n ys) same
      | Some b ↦ λ h. absurd cc
    ] e

-- the result of a search, with its index increased by n
abbrev pub later : {B : Type 0} → ℕ → ℕ × B → ℕ × B
later n p = (n + p.0, p.1)

shifted : (n i : ℕ) (ys : List Txn) → first_from find_txn (n + i) ys ≡ option_map (later n) (first_from find_txn i ys)
shifted n i [] = refl
shifted n i (y ∷ ys) =
    let same : n + i + 1 ≡ n + (i + 1) = omega arith in
    let rest : first_from find_txn (n + i + 1) ys ≡ option_map (later n) (first_from find_txn (i + 1) ys) =
    ap (λ m. first_from find_txn m ys) same ∙ shifted n (i + 1) ys in
    elim (first_in_txn y) as (λ o. found_or (n + i + 1) o (first_from find_txn (n + i + 1) ys) ≡ option_map (later n)
    (found_or (i + 1) o (first_from find_txn (i + 1) ys))) [
      | None ↦ rest
      | Some b ↦ ap (λ m. Some (m, b)) same
    ]

pub log_found : (xs ys : List Txn) (p : ℕ × (ℕ × CheckKind)) → first_in_log xs ≡ Some p → first_in_log (xs ++ ys) ≡ Some p
log_found xs ys p e = found_on find_txn 0 xs ys p e

pub log_on : (xs ys : List Txn) → first_in_log xs ≡ None → first_in_log (xs ++ ys) ≡ option_map (later (length xs)) (first_in_log ys)
log_on xs ys e =
    let same : 0 + length xs ≡ length xs + 0 = omega arith in
    none_on find_txn 0 xs ys e ∙ (ap (λ n. first_from find_txn n ys) same ∙ shifted (length xs) 0 ys)

-- ---- a document's first fault

-- the document with these transactions appended to its log
abbrev more : Document → List Txn → Document
more d txns = record d { log = d.log ++ txns }

abbrev order : CheckFault
order = record { txn = 0; stmt = 0; kind = Order }

-- if the store's keys ascend and the log isn't too long, the document's first fault is the log's
in_rising : (d : Document) → rising (names_of d.store) ≡ true → length d.log ≤ 1000000 → first_in_doc d ≡ first_in_log d.log
in_rising d rises few =
    let short : nat_le (length d.log) 1000000 ≡ true = grind (arith, nat_tests) in
    rw (rises, short) refl

-- if the store's keys don't ascend, the document's first fault is the store's
in_falling : (d : Document) → rising (names_of d.store) ≡ false → option_map fault_of (first_in_doc d) ≡ Some order
in_falling d falls = rw falls refl

-- P holds if it holds in both cases: the store's keys ascend, or they don't
by_store : (d : Document) (P : Type 0) → (rising (names_of d.store) ≡ true → P) → (rising (names_of d.store) ≡ false → P) → P
by_store d P rises falls = cases (rising (names_of d.store)) refl
  where
    cases : (b : Bool) → rising (names_of d.store) ≡ b → P
    cases true e = rises e
    cases false e = falls e

to_log : (d : Document) (found : Option CheckFault) → rising (names_of d.store) ≡ true → IsCheckedTo d found → IsLogCheckedTo d.log found
to_log d found rises is few = is few ∙ ap (option_map fault_of) (in_rising d rises few)

to_doc : (d : Document) (found : Option CheckFault) → rising (names_of d.store) ≡ true → IsLogCheckedTo d.log found → IsCheckedTo d found
to_doc d found rises is few = is few ∙ ap (option_map fault_of) (sym (in_rising d rises few))

-- ---- a document with one more chunk

-- the fault, with its transaction's number increased by n
abbrev pub counted_up : ℕ → CheckFault → CheckFault
counted_up n f = record f { txn = n + f.txn }

none_mapped : (o : Option (ℕ × (ℕ × CheckKind))) → None ≡ option_map fault_of o → o ≡ None
none_mapped None e = refl
none_mapped (Some p) e = absurd cc

counted : (n : ℕ) (o : Option (ℕ × (ℕ × CheckKind))) → option_map fault_of (option_map (later n) o) ≡ option_map (counted_up n) (option_map fault_of o)
counted n None = refl
counted n (Some p) = refl

kept : (xs ys : List Txn) (f : CheckFault) (o : Option (ℕ × (ℕ × CheckKind))) → first_in_log xs ≡ o → Some f ≡ option_map fault_of o
    → Some f ≡ option_map fault_of (first_in_log (xs ++ ys))
kept xs ys f None e same = absurd cc
kept xs ys f (Some p) e same = same ∙ ap (option_map fault_of) (sym (log_found xs ys p e))

log_kept : (xs ys : List Txn) (f : CheckFault) → IsLogCheckedTo xs (Some f) → IsLogCheckedTo (xs ++ ys) (Some f)
log_kept xs ys f so_far few = kept xs ys f (first_in_log xs) refl (so_far (omega (arith, few, length-append xs ys)))

log_more : (xs ys : List Txn) (found : Option CheckFault) → IsLogCheckedTo xs None → (length ys ≤ 1000000 → found ≡ option_map fault_of (first_in_log ys))
    → IsLogCheckedTo (xs ++ ys) (option_map (counted_up (length xs)) found)
log_more xs ys found so_far next few =
    let none : first_in_log xs ≡ None = none_mapped (first_in_log xs) (so_far (omega (arith, few, length-append xs ys))) in
    let here : found ≡ option_map fault_of (first_in_log ys) = next (omega (arith, few, length-append xs ys)) in
    ap (option_map (counted_up (length xs))) here ∙ (sym (counted (length xs) (first_in_log ys)) ∙ ap (option_map fault_of) (sym (log_on xs ys none)))

pub checked_kept : (d : Document) (ys : List Txn) (found : Option CheckFault) → is_some found ≡ true → IsCheckedTo d found → IsCheckedTo (more d ys) found
checked_kept d ys None some is = absurd cc
checked_kept d ys (Some f) some is =
    by_store d (IsCheckedTo (more d ys) (Some f))
    (λ rises. to_doc (more d ys) (Some f) rises (log_kept d.log ys f (to_log d (Some f) rises is)))
    (λ falls few. is (omega (arith, few, length-append d.log ys)) ∙ (in_falling d falls ∙ sym (in_falling (more d ys) falls)))

-- if a document has no fault so far, its first fault with one more chunk is the chunk's
checked_more : (d : Document) (ys : List Txn) (found : Option CheckFault) → IsCheckedTo d None → IsLogCheckedTo ys found
    → IsCheckedTo (more d ys) (option_map (counted_up (length d.log)) found)
checked_more d ys found is here =
    by_store d (IsCheckedTo (more d ys) (option_map (counted_up (length d.log)) found))
    (λ rises. to_doc (more d ys) (option_map (counted_up (length d.log)) found) rises (log_more d.log ys found (to_log d None rises is) here))
    (λ falls few. absurd (none_order (is (omega (arith, few, length-append d.log ys)) ∙ in_falling d falls)))
  where
    none_order : None ≡ Some order → ⊥
    none_order e = cc

pub some_not : (o : Option CheckFault) → is_some o ≡ true → o ≡ None → ⊥
some_not None some e = cc
some_not (Some f) some e = cc

pub is_none : {A : Type 0} (o : Option A) → is_some o ≡ false → o ≡ None
is_none None e = refl
is_none (Some x) e = absurd cc

pub more_none : (d : Document) (ys : List Txn) (r : Option CheckFault) → IsCheckedTo d None → IsLogCheckedTo ys r → r ≡ None → IsCheckedTo (more d ys) None
more_none d ys r so_far is e = checked_more d ys None so_far (subst (IsLogCheckedTo ys) e is)

-- a count of transactions that is within the limit is exact
pub exact : (n count : ℕ) → IsCountOf n count → count ≤ 1000000 → count ≡ n
exact n count (inl e) few = e
exact n count (inr many) few = absurd (omega (arith, many.1, few))

pub more_some : (count : ℕ) (d : Document) (ys : List Txn) (r : Option CheckFault) (f : CheckFault) → IsCountOf (length d.log) count → count ≤ 1000000
    → IsCheckedTo d None → IsLogCheckedTo ys r → r ≡ Some f → IsCheckedTo (more d ys) (Some (counted_up count f))
more_some count d ys r f counted few so_far is e =
    subst (λ (m : ℕ). IsCheckedTo (more d ys) (Some (counted_up m f))) (sym (exact (length d.log) count counted few))
    (checked_more d ys (Some f) so_far (subst (IsLogCheckedTo ys) e is))

place_within : {A B : Type 0} (find : ℕ → A → Option B) (i : ℕ) (xs : List A) (p : ℕ × B) → first_from find i xs ≡ Some p → p.0 ≤ i + length xs
place_within find i [] p e = absurd cc
place_within {A} {B} find i (x ∷ xs) p e =
    elim (find i x) as (λ o. found_or (i + 1) o (first_from find (i + 1) xs) ≡ Some p → p.0 ≤ i + suc (length xs)) [
      | None ↦ λ h. omega (arith, place_within find (i + 1) xs p h)
      | Some b ↦ λ h. let same : i + 1 ≡ p.0 = front (i + 1) b p h in omega (arith, same)
    ] e
  where
    front : (n : ℕ) (b : B) (q : ℕ × B) → Some (n, b) ≡ Some q → n ≡ q.0
    front n b q h = cc

pub fault_within : (ys : List Txn) (f : CheckFault) (o : Option (ℕ × (ℕ × CheckKind))) → first_in_log ys ≡ o → Some f ≡ option_map fault_of o
    → f.txn ≤ length ys
fault_within ys f None e same = absurd cc
fault_within ys f (Some p) e same =
    let is : f ≡ fault_of p = cc in
    rw is (omega (arith, place_within find_txn 0 ys p e))

-- ---- the result of a whole check

pub store_checked : (d : Document) → d.log ≡ [] → IsCheckedTo d (store_fault d.store)
store_checked d none =
    by_store d (IsCheckedTo d (store_fault d.store))
    (λ rises few. rw (rises, none) refl)
    (λ falls few. rw falls refl)

pub no_store_fault : (store : List (List ℕ × ℤ)) → store_fault store ≡ None → rising (names_of store) ≡ true
no_store_fault store none = cases (rising (names_of store)) refl
  where
    cases : (b : Bool) → rising (names_of store) ≡ b → b ≡ true
    cases true e = refl
    cases false e = absurd (none_order (rw e at none))
      where
        none_order : Some order ≡ None → ⊥
        none_order h = cc

pub no_store_fault_of : (d : Document) → WellFormed d → store_fault d.store ≡ None
no_store_fault_of d formed = rw (rising_store d formed) refl

pub formed_chunk : (ys : List Txn) → length ys ≤ 1000000 → None ≡ option_map fault_of (first_in_log ys) → All IsWellFormedTxn ys
formed_chunk ys few none =
    let d : Document = record { edition = One; store = []; log = ys } in
    all_in d (well_formed d (ap (option_map fault_of) (in_rising d refl few) ∙ sym none))

few_of : (n count : ℕ) → IsCountOf n count → count ≤ 1000000 → n ≤ 1000000
few_of n count counted few = omega (arith, exact n count counted few, few)

pub end_none : (d : Document) (count : ℕ) (o : Option CheckFault) → IsCountOf (length d.log) count → count ≤ 1000000 → IsCheckedTo d o → o ≡ None → WellFormed d
end_none d count o counted few checked e = well_formed d (sym (sym e ∙ checked (few_of (length d.log) count counted few)))

pub end_some : (count : ℕ) (in_store o : Option CheckFault) → count ≤ 1000000
    → IfSome o (λ f. (d : Document) → in_store ≡ store_fault d.store → IsCountOf (length d.log) count → IsCheckedTo d o → IsFirstFault d f)
end_some count in_store None few = tt
end_some count in_store (Some f) few = λ d same counted checked. first_fault d f (sym (checked (few_of (length d.log) count counted few)))

pub store_some : (count : ℕ) (in_store o : Option CheckFault)
    → IfSome in_store (λ f. (d : Document) → in_store ≡ store_fault d.store → IsCountOf (length d.log) count → IsCheckedTo d o → IsFirstFault d f)
store_some count None o = tt
store_some count (Some f) o = λ d same counted checked.
    by_store d (IsFirstFault d f)
    (λ rises. absurd (some_none (rw rises at same)))
    (λ falls. let is : Some f ≡ Some order = rw falls at same in first_fault d f (in_falling d falls ∙ sym is))
  where
    some_none : Some f ≡ None → ⊥
    some_none h = cc

pub limit_fault : (count : ℕ) (d : Document) (in_store : Option CheckFault) → in_store ≡ None → in_store ≡ store_fault d.store
    → IsCountOf (length d.log) count → 1000000 < count → IsFirstFault d (record { txn = 0; stmt = 0; kind = Limit })
limit_fault count d in_store none same counted many =
    let long : nat_le (length d.log) 1000000 ≡ false = beyond counted in
    let rises : rising (names_of d.store) ≡ true = no_store_fault d.store (sym same ∙ none) in
    first_fault d (record { txn = 0; stmt = 0; kind = Limit }) (rw (rises, long) refl)
  where
    test : 1000000 < length d.log → nat_le (length d.log) 1000000 ≡ false
    test beyond = grind (arith, nat_tests)

    beyond : IsCountOf (length d.log) count → nat_le (length d.log) 1000000 ≡ false
    beyond (inl e) = test (omega (arith, e, many))
    beyond (inr both) = test both.0
