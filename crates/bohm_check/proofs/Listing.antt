-- The list of a document's faults has exactly its faults, each with its line.
use Rattle.std.proofs.Common.{◌≡◌, ℕ, zero, suc, ◌+◌, ◌<◌, ◌≤◌, List, [], ◌∷◌, take, length, Bool, true}
use Rattle.std.proofs.Common.{false, Some, Contains, refl, ap, sym, ◌∙◌, subst, zero-add, add-one, arith}
use Rattle.std.specs.List.{All, slice_get}
use Rattle.std.proofs.lemmas.List.Elements.{All-append, All-take, Contains-append_left, Contains-append_right, All-nil}
use Rattle.bohm_types.specs.Stmt.{Stmt}
use Rattle.bohm_types.specs.Txn.{Txn}
use Rattle.bohm_types.specs.Document.{Document}
use Rattle.bohm_txn.specs.declared.fault.CheckKind.{CheckKind}
use Rattle.bohm_txn.specs.declared.fault.CheckKind.TheVariants.{Order, Unread, Unwritten, Local, Limit}
use Rattle.bohm_txn.specs.Faulty.{Faulty, txn_faulty, whole_faulty, sets_faulty, stmt_faulty}
use Rattle.bohm_txn.proofs.ForCallers.{contains_head, at_some}
use Rattle.bohm_check.specs.declared.told.Told.{Told}
use Rattle.bohm_check.specs.Lines.{line_in, line_of, opening_line, sets_line, whole_line}
use Rattle.bohm_check.specs.Faults.{IsTold, told_at}
use Rattle.bohm_check.specs.All.{told_of, told_if, kinds_told, each_from, stmt_told, txn_told, doc_told}
use Rattle.bohm_check.proofs.Lists.{single, passed}

-- ---- each entry of the list is a fault

one_sound : (P : Told → Type 0) (b : Bool) (x : Told) → (b ≡ true → P x) → All P (told_if b x)
one_sound P true x h = single P x (h refl)
one_sound P false x h = All-nil P

kinds_sound : (P : Told → Type 0) (t s : ℕ) (p : CheckKind → Bool) (line : CheckKind → ℕ)
    → ((kind : CheckKind) → p kind ≡ true → P (told_of t s kind (line kind))) → All P (kinds_told t s p line)
kinds_sound P t s p line h =
    let at = λ (kind : CheckKind). one_sound P (p kind) (told_of t s kind (line kind)) (h kind) in
    All-append P _ _ (at Order) (All-append P _ _ (at Unread) (All-append P _ _ (at Unwritten) (All-append P _ _ (at Local) (at Limit))))

each_sound : {A : Type 0} (P : Told → Type 0) (tell : ℕ → A → List Told) (i : ℕ) (xs : List A)
    → ((j : ℕ) (x : A) → slice_get xs j ≡ Some x → All P (tell (i + j) x)) → All P (each_from tell i xs)
each_sound P tell i [] h = All-nil P
each_sound {A} P tell i (x ∷ xs) h =
    let first : All P (tell i x) = subst (λ (n : ℕ). All P (tell n x)) (omega arith) (h 0 x refl) in
    All-append P (tell i x) (each_from tell (i + 1) xs) first
    (each_sound P tell (i + 1) xs (λ j y at. subst (λ (n : ℕ). All P (tell n y)) (omega arith) (h (suc j) y at)))

module _ (d : Document) (i : ℕ) (t : Txn) (at : slice_get d.log i ≡ Some t) where
  line_there : (s : ℕ) (kind : CheckKind) → line_of d (suc i) s kind ≡ line_in t (opening_line d i) s kind
  line_there s kind = rw at refl

  told_there : (s : ℕ) (kind : CheckKind) → txn_faulty t s kind ≡ true → IsTold d (told_of (suc i) s kind (line_in t (opening_line d i) s kind))
  told_there s kind h = record { faulty = at_some (λ txn. txn_faulty txn s kind) d.log i t at h; line = sym (line_there s kind) }

  stmt_sound : (j : ℕ) (s : Stmt) → slice_get t.body j ≡ Some s → All (IsTold d) (stmt_told t (suc i) (opening_line d i) j s)
  stmt_sound j s there =
      let sound : All (IsTold d) (kinds_told (suc i) (suc j) (stmt_faulty t (take j t.body) s) (λ kind. opening_line d i + 3 + j)) =
      kinds_sound (IsTold d) (suc i) (suc j) (stmt_faulty t (take j t.body) s) (λ kind. opening_line d i + 3 + j)
      (λ kind h. told_there (suc j) kind (at_some (λ s. stmt_faulty t (take j t.body) s kind) t.body j s there h)) in
      subst (λ (n : ℕ). All (IsTold d) (kinds_told (suc i) n (stmt_faulty t (take j t.body) s) (λ kind. opening_line d i + 3 + j))) (sym (add-one j)) sound

  txn_sound : All (IsTold d) (txn_told (suc i) (opening_line d i) t)
  txn_sound =
      All-append (IsTold d) _ _ (kinds_sound (IsTold d) (suc i) 0 (sets_faulty t) (sets_line t (opening_line d i)) (λ kind h. told_there 0 kind h))
      (each_sound (IsTold d) (stmt_told t (suc i) (opening_line d i)) 0 t.body
      (λ j s there. subst (λ (n : ℕ). All (IsTold d) (stmt_told t (suc i) (opening_line d i) n s)) (sym (zero-add j)) (stmt_sound j s there)))

log_sound : (d : Document) (i : ℕ) (t : Txn) → slice_get d.log i ≡ Some t → All (IsTold d) (txn_told (i + 1) (opening_line d i) t)
log_sound d i t at = subst (λ (n : ℕ). All (IsTold d) (txn_told n (opening_line d i) t)) (sym (add-one i)) (txn_sound d i t at)

pub doc_sound : (d : Document) → All (IsTold d) (doc_told d)
doc_sound d =
    All-append (IsTold d) _ _ (kinds_sound (IsTold d) 0 0 (whole_faulty d) (whole_line d) (λ kind h. record { faulty = h; line = refl }))
    (each_sound (IsTold d) (λ i. txn_told (i + 1) (opening_line d i)) 0 d.log
    (λ j t at. subst (λ (n : ℕ). All (IsTold d) (txn_told (n + 1) (opening_line d n) t)) (sym (zero-add j)) (log_sound d j t at)))

-- ---- each fault is in the list

one_there : (b : Bool) (x : Told) → b ≡ true → Contains (told_if b x) x
one_there true x h = contains_head x []
one_there false x h = absurd cc

kinds_there : (t s : ℕ) (p : CheckKind → Bool) (line : CheckKind → ℕ) (kind : CheckKind) → p kind ≡ true
    → Contains (kinds_told t s p line) (told_of t s kind (line kind))
kinds_there t s p line Order h = Contains-append_left _ _ _ (one_there (p Order) (told_of t s Order (line Order)) h)
kinds_there t s p line Unread h =
    Contains-append_right (told_if (p Order) (told_of t s Order (line Order))) _ _
    (Contains-append_left _ _ _ (one_there (p Unread) (told_of t s Unread (line Unread)) h))
kinds_there t s p line Unwritten h =
    Contains-append_right (told_if (p Order) (told_of t s Order (line Order))) _ _
    (Contains-append_right (told_if (p Unread) (told_of t s Unread (line Unread))) _ _
    (Contains-append_left _ _ _ (one_there (p Unwritten) (told_of t s Unwritten (line Unwritten)) h)))
kinds_there t s p line Local h =
    Contains-append_right (told_if (p Order) (told_of t s Order (line Order))) _ _
    (Contains-append_right (told_if (p Unread) (told_of t s Unread (line Unread))) _ _
    (Contains-append_right (told_if (p Unwritten) (told_of t s Unwritten (line Unwritten))) _ _
    (Contains-append_left _ _ _ (one_there (p Local) (told_of t s Local (line Local)) h))))
kinds_there t s p line Limit h =
    Contains-append_right (told_if (p Order) (told_of t s Order (line Order))) _ _
    (Contains-append_right (told_if (p Unread) (told_of t s Unread (line Unread))) _ _
    (Contains-append_right (told_if (p Unwritten) (told_of t s Unwritten (line Unwritten))) _ _
    (Contains-append_right (told_if (p Local) (told_of t s Local (line Local))) _ _
    (one_there (p Limit) (told_of t s Limit (line Limit)) h))))

each_there : {A : Type 0} (tell : ℕ → A → List Told) (i : ℕ) (xs : List A) (j : ℕ) (x : A) (y : Told) → slice_get xs j ≡ Some x → Contains (tell (i + j) x) y
    → Contains (each_from tell i xs) y
each_there tell i [] j x y at h = absurd cc
each_there tell i (z ∷ xs) zero x y at h =
    let same : x ≡ z = cc in
    let first : Contains (tell i z) y = subst (λ (n : ℕ). Contains (tell n z) y) (omega arith) (rw same at h) in
    Contains-append_left (tell i z) (each_from tell (i + 1) xs) y first
each_there tell i (z ∷ xs) (suc j) x y at h =
    Contains-append_right (tell i z) (each_from tell (i + 1) xs) y
    (each_there tell (i + 1) xs j x y at (subst (λ (n : ℕ). Contains (tell n x) y) (omega arith) h))

module _ (t : Txn) (number opening : ℕ) where
  txn_there : (s : ℕ) (kind : CheckKind) → txn_faulty t s kind ≡ true → Contains (txn_told number opening t) (told_of number s kind (line_in t opening s kind))
  txn_there zero kind h = Contains-append_left _ _ _ (kinds_there number 0 (sets_faulty t) (sets_line t opening) kind h)
  txn_there (suc j) kind h =
      let found = passed (λ s. stmt_faulty t (take j t.body) s kind) t.body j h in
      let there : Contains (kinds_told number (suc j) (stmt_faulty t (take j t.body) found.0) (λ kind. opening + 3 + j))
      (told_of number (suc j) kind (opening + 3 + j)) =
      kinds_there number (suc j) (stmt_faulty t (take j t.body) found.0) (λ kind. opening + 3 + j) kind found.2 in
      let numbered : Contains (stmt_told t number opening j found.0) (told_of number (suc j) kind (opening + 3 + j)) =
      subst (λ (n : ℕ). Contains (kinds_told number n (stmt_faulty t (take j t.body) found.0) (λ kind. opening + 3 + j))
      (told_of number (suc j) kind (opening + 3 + j))) (sym (add-one j)) there in
      Contains-append_right (kinds_told number 0 (sets_faulty t) (sets_line t opening)) _ _
      (each_there (stmt_told t number opening) 0 t.body j found.0 _ found.1
      (subst (λ (n : ℕ). Contains (stmt_told t number opening n found.0) (told_of number (suc j) kind (opening + 3 + j))) (sym (zero-add j)) numbered))

pub doc_there : (d : Document) (t s : ℕ) (kind : CheckKind) → Faulty d t s kind → Contains (doc_told d) (told_at d t s kind)
doc_there d zero zero kind h = Contains-append_left _ _ _ (kinds_there 0 0 (whole_faulty d) (whole_line d) kind h)
doc_there d zero (suc s) kind h = absurd cc
doc_there d (suc i) s kind h =
    let found = passed (λ txn. txn_faulty txn s kind) d.log i h in
    let wanted : told_of (suc i) s kind (line_in found.0 (opening_line d i) s kind) ≡ told_at d (suc i) s kind = rw found.1 refl in
    let there : Contains (txn_told (suc i) (opening_line d i) found.0) (told_at d (suc i) s kind) =
    subst (Contains (txn_told (suc i) (opening_line d i) found.0)) wanted (txn_there found.0 (suc i) (opening_line d i) s kind found.2) in
    let numbered : Contains (txn_told (i + 1) (opening_line d i) found.0) (told_at d (suc i) s kind) =
    subst (λ (n : ℕ). Contains (txn_told n (opening_line d i) found.0) (told_at d (suc i) s kind)) (sym (add-one i)) there in
    Contains-append_right (kinds_told 0 0 (whole_faulty d) (whole_line d)) _ _
    (each_there (λ i. txn_told (i + 1) (opening_line d i)) 0 d.log i found.0 _ found.1
    (subst (λ (n : ℕ). Contains (txn_told (n + 1) (opening_line d n) found.0) (told_at d (suc i) s kind)) (sym (zero-add i)) numbered))

-- ---- the first 20 entries

pub all_told : (d : Document) (told : List Told) → told ≡ take 20 (doc_told d) → All (IsTold d) told
all_told d told same = subst (All (IsTold d)) (sym same) (All-take (IsTold d) 20 (doc_told d) (doc_sound d))

short : {X : Type 0} (n : ℕ) (xs : List X) → length (take n xs) < n → take n xs ≡ xs
short zero xs h = absurd (omega (arith, h))
short (suc n) [] h = refl
short (suc n) (x ∷ xs) h = ap (λ ys. x ∷ ys) (short n xs (omega (arith, h)))

pub each_told : (d : Document) (told : List Told) → told ≡ take 20 (doc_told d) → length told < 20 → (t s : ℕ) (kind : CheckKind) → Faulty d t s kind
    → Contains told (told_at d t s kind)
each_told d told same few t s kind h =
    let fewer : length (take 20 (doc_told d)) < 20 = rw same at few in
    subst (λ (xs : List Told). Contains xs (told_at d t s kind)) (sym (same ∙ short 20 (doc_told d) fewer)) (doc_there d t s kind h)

at_most : {X : Type 0} (n : ℕ) (xs : List X) → length (take n xs) ≤ n
at_most zero xs = omega arith
at_most (suc n) [] = omega arith
at_most (suc n) (x ∷ xs) = omega (arith, at_most n xs)

pub few_told : (d : Document) (told : List Told) → told ≡ take 20 (doc_told d) → length told ≤ 20
few_told d told same = rw same (at_most 20 (doc_told d))
