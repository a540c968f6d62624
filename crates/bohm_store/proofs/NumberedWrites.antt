-- Writes by number, and the versions that they give keys.
use Rattle.std.proofs.Common.{◌≡◌, ◌≢◌, ℕ, ◌+◌, ◌<◌, ◌≤◌, ◌==◌, ◌∙◌, Bool, true, false, List, [], ◌∷◌, ◌++◌, length, map, take, drop}
use Rattle.std.proofs.Common.{get_or, refl, sym, ap, subst, ⊎_elim, arith, if◌then◌else◌, append-nil, append_assoc, add-one, drop-cons}
use Rattle.std.proofs.Common.{length-append}
use Rattle.std.specs.List.{IsDistinct}
use Rattle.std.specs.Str.{bytes_eq}
use Rattle.std.proofs.lemmas.Bool.{cases_eq, false≢true}
use Rattle.std.proofs.lemmas.Bool.Decides.{nat_tests}
use Rattle.std.proofs.lemmas.List.{get_or_append_left, take_more}
use Rattle.std.proofs.lemmas.List.Elements.{All-head, All-tail, All-weaker}
use Rattle.bohm_log.specs.Parts.{Begins, name_at}
use Rattle.bohm_txn.proofs.ForCallers.{same_key, key_itself}
use Rattle.bohm_types.specs.Keys.{is_among}
use Rattle.bohm_store.proofs.Names.{among_place}
use Rattle.bohm_store.specs.Chains.{Climb, versions_of_writes}
use Rattle.bohm_store.specs.declared.numbered_write.NumberedWrite.{NumberedWrite}
use Rattle.bohm_store.specs.Writes.{AreBelow, ClimbTo, named_write, versions_by}
use Rattle.bohm_place.proofs.ForCallers.{two_numbers}

by_push : (ws : List NumberedWrite) (w : NumberedWrite) (n : ℕ)
    → versions_by (ws ++ w ∷ []) n ≡ versions_by ws n ++ (if (w.number == n) then w.version ∷ [] else [])
by_push [] w n = append-nil (if (w.number == n) then w.version ∷ [] else [])
by_push (x ∷ ws) w n =
    rw (by_push ws w n) (sym (append_assoc (if (x.number == n) then x.version ∷ [] else []) (versions_by ws n)
    (if (w.number == n) then w.version ∷ [] else [])))

pub by_more : (ws : List NumberedWrite) (i : ℕ) (w : NumberedWrite) (n : ℕ) → i < length ws → w ≡ get_or ws i w
    → versions_by (take (i + 1) ws) n ≡ versions_by (take i ws) n ++ (if (w.number == n) then w.version ∷ [] else [])
by_more ws i w n lt at =
    let taken : take (i + 1) ws ≡ take i ws ++ w ∷ [] = take_more ws i w lt ∙ ap (λ (x : NumberedWrite). take i ws ++ x ∷ []) (sym at) in
    ap (λ (xs : List NumberedWrite). versions_by xs n) taken ∙ by_push (take i ws) w n

pub climb_more : (ws : List NumberedWrite) (i m top : ℕ) (w : NumberedWrite) → i < length ws → w ≡ get_or ws i w → ClimbTo m top (drop i ws)
    → (m ≤ w.version.begin) × ClimbTo w.version.begin top (drop (i + 1) ws)
climb_more ws i m top w lt at h =
    let left : drop i ws ≡ w ∷ drop (i + 1) ws = rw add-one (drop-cons ws i w lt) ∙ ap (λ (x : NumberedWrite). x ∷ drop (i + 1) ws) (sym at) in
    let h' : ClimbTo m top (w ∷ drop (i + 1) ws) = subst (λ (xs : List NumberedWrite). ClimbTo m top xs) left h in
    h'

pub climb_end : (m top : ℕ) (ws : List NumberedWrite) → ClimbTo m top ws → m ≤ top
climb_end m top [] h = h
climb_end m top (w ∷ ws) h = (let le = climb_end w.version.begin top ws h.1 in omega (arith, h.0))

-- ---- the same writes by key

keyed_by : (names : List (List ℕ)) (w : NumberedWrite) (ws : List NumberedWrite) (n : ℕ) → IsDistinct bytes_eq names
    → w.number < length names → n < length names → versions_of_writes (map (named_write names) ws) (name_at names n) ≡ versions_by ws n
    → versions_of_writes (map (named_write names) (w ∷ ws)) (name_at names n) ≡ versions_by (w ∷ ws) n
keyed_by names w ws n apart named inside more = ⊎_elim
    (λ (same : w.number ≡ n).
    let yes : (w.number == n) ≡ true = grind (arith, nat_tests) in
    let here : bytes_eq (name_at names w.number) (name_at names n) ≡ true =
    ap (λ (m : ℕ). bytes_eq (name_at names m) (name_at names n)) same ∙ key_itself (name_at names n) in
    rw (yes, here, more) refl)
    (λ (other : w.number ≢ n).
    let no : (w.number == n) ≡ false = grind (arith, nat_tests) in
    let here : bytes_eq (name_at names w.number) (name_at names n) ≡ false = two_numbers names w.number n apart named inside other in
    rw (no, here, more) refl)
    (cases_eq w.number n)

-- the named writes give the key with a number the versions that the numbered writes give the number
pub keyed_versions : (names : List (List ℕ)) (ws : List NumberedWrite) (n : ℕ) → IsDistinct bytes_eq names → AreBelow (length names) ws
    → n < length names → versions_of_writes (map (named_write names) ws) (name_at names n) ≡ versions_by ws n
keyed_versions names [] n apart below inside = refl
keyed_versions names (w ∷ ws) n apart below inside =
    keyed_by names w ws n apart (All-head (λ (x : NumberedWrite). x.number < length names) w ws below) inside
    (keyed_versions names ws n apart (All-tail (λ (x : NumberedWrite). x.number < length names) w ws below) inside)

none_by : (w : NumberedWrite) (ws : List NumberedWrite) (n : ℕ) → w.number < n → versions_by ws n ≡ [] → versions_by (w ∷ ws) n ≡ []
none_by w ws n lt more = let no : (w.number == n) ≡ false = grind (arith, nat_tests) in rw no more

pub none_past : (count : ℕ) (ws : List NumberedWrite) (n : ℕ) → AreBelow count ws → count ≤ n → versions_by ws n ≡ []
none_past count [] n below le = refl
none_past count (w ∷ ws) n below le =
    let lt : w.number < count = All-head (λ (x : NumberedWrite). x.number < count) w ws below in
    none_by w ws n (omega arith) (none_past count ws n (All-tail (λ (x : NumberedWrite). x.number < count) w ws below) le)

pub named_climb : (names : List (List ℕ)) (n top : ℕ) (ws : List NumberedWrite) → Climb n (map (named_write names) ws) top → ClimbTo n top ws
named_climb names n top [] h = h
named_climb names n top (w ∷ ws) h = (h.0, named_climb names w.version.begin top ws h.1)

-- the named writes give no version to a key that isn't among the names
unnamed_by : (names : List (List ℕ)) (w : NumberedWrite) (ws : List NumberedWrite) (k : List ℕ) (b : Bool)
    → bytes_eq (name_at names w.number) k ≡ b → w.number < length names → is_among names k ≡ false
    → versions_of_writes (map (named_write names) ws) k ≡ [] → versions_of_writes (map (named_write names) (w ∷ ws)) k ≡ []
unnamed_by names w ws k true e named absent more =
    let among : is_among names k ≡ true = among_place names w.number k named (same_key (name_at names w.number) k e) in
    absurd (false≢true (sym absent ∙ among))
unnamed_by names w ws k false e named absent more = rw e more

pub unnamed_versions : (names : List (List ℕ)) (ws : List NumberedWrite) (k : List ℕ) → AreBelow (length names) ws
    → is_among names k ≡ false → versions_of_writes (map (named_write names) ws) k ≡ []
unnamed_versions names [] k below absent = refl
unnamed_versions names (w ∷ ws) k below absent =
    unnamed_by names w ws k (bytes_eq (name_at names w.number) k) refl
    (All-head (λ (x : NumberedWrite). x.number < length names) w ws below) absent
    (unnamed_versions names ws k (All-tail (λ (x : NumberedWrite). x.number < length names) w ws below) absent)

-- ---- more names

pub below_longer : (names names' : List (List ℕ)) (ws : List NumberedWrite) → Begins names names' → AreBelow (length names) ws → AreBelow (length names') ws
below_longer names names' ws (more, e) below =
    let long : length names' ≡ length names + length more = ap length e ∙ length-append names more in
    All-weaker (λ (w : NumberedWrite). w.number < length names) (λ (w : NumberedWrite). w.number < length names') (λ w lt. omega (arith, lt, long)) ws below

longer_from : (names more : List (List ℕ)) (ws : List NumberedWrite) → AreBelow (length names) ws
    → map (named_write (names ++ more)) ws ≡ map (named_write names) ws
longer_from names more [] below = refl
longer_from names more (w ∷ ws) below =
    let here : name_at (names ++ more) w.number ≡ name_at names w.number =
    get_or_append_left names more [] w.number (All-head (λ (x : NumberedWrite). x.number < length names) w ws below) in
    rw (here, longer_from names more ws (All-tail (λ (x : NumberedWrite). x.number < length names) w ws below)) refl

-- when names are appended, each write keeps its key
pub longer_writes : (names names' : List (List ℕ)) (ws : List NumberedWrite) → Begins names names' → AreBelow (length names) ws
    → map (named_write names') ws ≡ map (named_write names) ws
longer_writes names names' ws (more, e) below = ap (λ (ns : List (List ℕ)). map (named_write ns) ws) e ∙ longer_from names more ws below
