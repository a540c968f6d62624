-- The first fault in the list is the one that the search finds.
use Rattle.std.proofs.Common.{◌≡◌, ℕ, ◌+◌, List, [], ◌∷◌, ◌++◌, take, Bool, true, false, Option, Some, None, refl, ap, sym, subst}
use Rattle.std.specs.Prelude.{if◌then◌else◌}
use Rattle.std.specs.Option.{option_map}
use Rattle.bohm_types.specs.Txn.{Txn}
use Rattle.bohm_types.specs.Document.{Document}
use Rattle.bohm_txn.specs.declared.fault.CheckFault.{CheckFault}
use Rattle.bohm_txn.specs.declared.fault.CheckKind.{CheckKind}
use Rattle.bohm_txn.specs.declared.fault.CheckKind.TheVariants.{Order, Unread, Unwritten, Local, Limit}
use Rattle.bohm_txn.specs.Faulty.{IsFirstFault, whole_faulty, sets_faulty, stmt_faulty}
use Rattle.bohm_txn.specs.FirstFault.{least, found_or, first_from, find_stmt, find_txn, first_in_body, first_in_txn, first_in_log, first_in_doc, fault_of}
use Rattle.bohm_txn.proofs.ForCallers.{well_formed, first_fault}
use Rattle.bohm_check.specs.declared.told.Told.{Told}
use Rattle.bohm_check.specs.Lines.{opening_line, sets_line, whole_line}
use Rattle.bohm_check.specs.Faults.{IsFirst}
use Rattle.bohm_check.specs.All.{told_of, told_if, kinds_told, each_from, stmt_told, body_told, txn_told, log_told, doc_told}

-- the list begins with the fault that was found, and is empty if none was
abbrev pub IsLed : {B : Type 0} → (B → CheckFault) → Option B → List Told → Type 0
IsLed g None [] = Unit {0}
IsLed g None (x ∷ xs) = ⊥
IsLed g (Some b) [] = ⊥
IsLed g (Some b) (x ∷ xs) = x.fault ≡ g b

least_led : (g : CheckKind → CheckFault) (f : CheckKind → Told) → ((kind : CheckKind) → (f kind).fault ≡ g kind) → (a b c d e : Bool)
    → IsLed g (if a then Some Order else (if b then Some Unread
    else (if c then Some Unwritten else (if d then Some Local else (if e then Some Limit else None)))))
    (told_if a (f Order) ++ (told_if b (f Unread) ++ (told_if c (f Unwritten) ++ (told_if d (f Local) ++ told_if e (f Limit)))))
least_led g f same true b c d e = same Order
least_led g f same false true c d e = same Unread
least_led g f same false false true d e = same Unwritten
least_led g f same false false false true e = same Local
least_led g f same false false false false true = same Limit
least_led g f same false false false false false = tt

kinds_led : (t s : ℕ) (p : CheckKind → Bool) (line : CheckKind → ℕ) → IsLed (λ kind. fault_of (t, (s, kind))) (least p) (kinds_told t s p line)
kinds_led t s p line = least_led (λ kind. fault_of (t, (s, kind))) (λ kind. told_of t s kind (line kind)) (λ kind. refl) (p Order) (p Unread) (p Unwritten)
    (p Local) (p Limit)

found_led : {B : Type 0} (g : ℕ × B → CheckFault) (n : ℕ) (o : Option B) (later : Option (ℕ × B)) (xs ys : List Told) → IsLed (λ b. g (n, b)) o xs
    → IsLed g later ys → IsLed g (found_or n o later) (xs ++ ys)
found_led g n None later [] ys h k = k
found_led g n None later (x ∷ xs) ys h k = absurd h
found_led g n (Some b) later [] ys h k = absurd h
found_led g n (Some b) later (x ∷ xs) ys h k = h

each_led : {A B : Type 0} (g : ℕ × B → CheckFault) (find : ℕ → A → Option B) (tell : ℕ → A → List Told)
    → ((i : ℕ) (x : A) → IsLed (λ b. g (i + 1, b)) (find i x) (tell i x)) → (i : ℕ) (xs : List A) → IsLed g (first_from find i xs) (each_from tell i xs)
each_led g find tell h i [] = tt
each_led g find tell h i (x ∷ xs) = found_led g (i + 1) (find i x) (first_from find (i + 1) xs) (tell i x) (each_from tell (i + 1) xs) (h i x)
    (each_led g find tell h (i + 1) xs)

map_led : {A B : Type 0} (g : B → CheckFault) (f : A → B) (o : Option A) (xs : List Told) → IsLed (λ a. g (f a)) o xs → IsLed g (option_map f o) xs
map_led g f None [] h = tt
map_led g f None (x ∷ xs) h = absurd h
map_led g f (Some a) [] h = absurd h
map_led g f (Some a) (x ∷ xs) h = h

txn_led : (number opening : ℕ) (t : Txn) → IsLed (λ b. fault_of (number, b)) (first_in_txn t) (txn_told number opening t)
txn_led number opening t =
    found_led (λ (b : ℕ × CheckKind). fault_of (number, b)) 0 (least (sets_faulty t)) (first_in_body t)
    (kinds_told number 0 (sets_faulty t) (sets_line t opening)) (body_told t number opening 0 t.body)
    (kinds_led number 0 (sets_faulty t) (sets_line t opening))
    (each_led (λ (b : ℕ × CheckKind). fault_of (number, b)) (find_stmt t) (stmt_told t number opening)
    (λ i s. kinds_led number (i + 1) (stmt_faulty t (take i t.body) s) (λ kind. opening + 3 + i)) 0 t.body)

doc_led : (d : Document) → IsLed fault_of (first_in_doc d) (doc_told d)
doc_led d =
    found_led fault_of 0 (option_map (λ kind. (0, kind)) (least (whole_faulty d))) (first_in_log d.log) (kinds_told 0 0 (whole_faulty d) (whole_line d))
    (log_told d 0 d.log)
    (map_led (λ (b : ℕ × CheckKind). fault_of (0, b)) (λ kind. (0, kind)) (least (whole_faulty d)) (kinds_told 0 0 (whole_faulty d) (whole_line d))
    (kinds_led 0 0 (whole_faulty d) (whole_line d)))
    (each_led fault_of find_txn (λ i. txn_told (i + 1) (opening_line d i)) (λ i t. txn_led (i + 1) (opening_line d i) t) 0 d.log)

-- a transaction without faults adds none to the list
pub nothing_told : (number opening : ℕ) (t : Txn) → first_in_txn t ≡ None → txn_told number opening t ≡ []
nothing_told number opening t none = go (first_in_txn t) (txn_told number opening t) none (txn_led number opening t)
  where
    go : (o : Option (ℕ × CheckKind)) (xs : List Told) → o ≡ None → IsLed (λ b. fault_of (number, b)) o xs → xs ≡ []
    go None [] e h = refl
    go None (x ∷ xs) e h = absurd h
    go (Some b) xs e h = absurd cc

pub first_told : (d : Document) (told : List Told) → told ≡ take 20 (doc_told d) → IsFirst d told
first_told d told same = subst (IsFirst d) (sym same) (go (first_in_doc d) (doc_told d) refl (doc_led d))
  where
    go : (o : Option (ℕ × (ℕ × CheckKind))) (xs : List Told) → first_in_doc d ≡ o → IsLed fault_of o xs → IsFirst d (take 20 xs)
    go None [] e h = well_formed d (ap (option_map fault_of) e)
    go None (x ∷ xs) e h = absurd h
    go (Some p) [] e h = absurd h
    go (Some p) (x ∷ xs) e h = subst (IsFirstFault d) (sym h) (first_fault d (fault_of p) (ap (option_map fault_of) e))
