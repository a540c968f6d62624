-- Steps of the check along a list.
use Rattle.std.proofs.Common.{◌≡◌, ℕ, ◌+◌, ◌-◌, ◌<◌, ◌≤◌, get_or, Bool, true, false, List, [], ◌∷◌}
use Rattle.std.proofs.Common.{take, drop, map, Some, Option, refl, ap, sym, ◌∙◌, subst, arith, length}
use Rattle.std.specs.Prelude.{◌&&◌}
use Rattle.std.specs.List.{count_by, slice_get}
use Rattle.std.proofs.lemmas.List.{take-map, length-drop}
use Rattle.std.proofs.lemmas.List.Sums.{count_by_more_no, count_by_more_yes}
use Rattle.std.proofs.lemmas.Option.{slice_get-get_or, slice_get_within, get_or_from_slice_get}
use Rattle.std.specs.Ordering.{is_lt, is_ge}
use Rattle.std.specs.declared.cmp.Ordering.{Ordering}
use Rattle.std.specs.declared.cmp.Ordering.TheVariants.{Less, Equal, Greater}
use Rattle.bohm_types.specs.declared.edition.Edition.{Edition}
use Rattle.bohm_types.specs.Txn.{Txn}
use Rattle.bohm_types.specs.Keys.{rising}
use Rattle.bohm_log.specs.declared.row.StmtRow.{StmtRow}
use Rattle.bohm_log.specs.Parts.{Parts, stmt_of, txn_of}
use Rattle.bohm_log.proofs.ForCallers.{drop_at}
use Rattle.bohm_txn.specs.declared.fault.CheckKind.{CheckKind}
use Rattle.bohm_txn.specs.Faulty.{stmt_faulty}
use Rattle.bohm_txn.specs.FirstFault.{found_or, first_from, find_stmt, find_txn, first_in_txn, least}
use Rattle.bohm_txn.proofs.Rises.{below}

pub counted_yes : {A : Type 0} (p : A → Bool) (xs : List A) (i : ℕ) (x : A) (n : ℕ) → slice_get xs i ≡ Some x → p x ≡ true → n ≡ count_by p (take i xs)
    → n + 1 ≡ count_by p (take (i + 1) xs)
counted_yes p xs i x n at is e = ap (λ m. m + 1) e
    ∙ sym (count_by_more_yes p xs i x (slice_get_within xs i x at) (ap p (get_or_from_slice_get xs i x x at) ∙ is))

pub counted_no : {A : Type 0} (p : A → Bool) (xs : List A) (i : ℕ) (x : A) (n : ℕ) → slice_get xs i ≡ Some x → p x ≡ false → n ≡ count_by p (take i xs)
    → n ≡ count_by p (take (i + 1) xs)
counted_no p xs i x n at isnt e = e ∙ sym (count_by_more_no p xs i x (slice_get_within xs i x at) (ap p (get_or_from_slice_get xs i x x at) ∙ isnt))

-- ---- keys in ascending order

rises_next : (ks : List (List ℕ)) (i : ℕ) (a b : List ℕ) → slice_get ks i ≡ Some a → slice_get ks (i + 1) ≡ Some b
    → rising (drop i ks) ≡ (below a b && rising (drop (i + 1) ks))
rises_next ks i a b at next = rw (drop_at ks i a at, drop_at ks (i + 1) b next) refl

pub rises_at : (ks : List (List ℕ)) (i : ℕ) (a b : List ℕ) → 1 ≤ i → slice_get ks (i - 1) ≡ Some a → slice_get ks i ≡ Some b
    → rising (drop (i - 1) ks) ≡ (below a b && rising (drop i ks))
rises_at ks i a b first at next =
    let there : i ≡ i - 1 + 1 = omega (arith, first) in
    rises_next ks (i - 1) a b at (subst (λ n. slice_get ks n ≡ Some b) there next) ∙ ap (λ n. below a b && rising (drop n ks)) (sym there)

pub falls : (o : Ordering) → is_ge o ≡ true → is_lt o ≡ false
falls Less e = absurd cc
falls Equal e = refl
falls Greater e = refl

pub climbs : (o : Ordering) → is_ge o ≡ false → is_lt o ≡ true
climbs Less e = refl
climbs Equal e = absurd cc
climbs Greater e = absurd cc

few_rise : (ks : List (List ℕ)) → length ks ≤ 1 → rising ks ≡ true
few_rise [] few = refl
few_rise (x ∷ []) few = refl
few_rise (x ∷ y ∷ ks) few = absurd (omega (arith, few))

pub last_rises : (ks : List (List ℕ)) (i : ℕ) → length ks ≤ i → rising (drop (i - 1) ks) ≡ true
last_rises ks i end = few_rise (drop (i - 1) ks) (omega (arith, length-drop (i - 1) ks, end))

-- ---- first faults

body_step : (e : Edition) (p : Parts) (rows : List StmtRow) (i : ℕ) (row : StmtRow) → rows ≡ p.rows → slice_get rows i ≡ Some row
    → first_from (find_stmt (txn_of e p)) i (map (stmt_of p) (drop i rows)) ≡ found_or (i + 1)
    (least (stmt_faulty (txn_of e p) (map (stmt_of p) (take i rows)) (stmt_of p row)))
    (first_from (find_stmt (txn_of e p)) (i + 1) (map (stmt_of p) (drop (i + 1) rows)))
body_step e p rows i row same at =
    let before : take i (map (stmt_of p) p.rows) ≡ map (stmt_of p) (take i rows) =
    take-map (stmt_of p) i p.rows ∙ ap (λ rs. map (stmt_of p) (take i rs)) (sym same) in
    rw (drop_at rows i row at)
    (ap (λ b. found_or (i + 1) (least (stmt_faulty (txn_of e p) b (stmt_of p row)))
    (first_from (find_stmt (txn_of e p)) (i + 1) (map (stmt_of p) (drop (i + 1) rows)))) before)

pub log_step : (log : List Txn) (i : ℕ) (t : Txn) → slice_get log i ≡ Some t
    → first_from find_txn i (drop i log) ≡ found_or (i + 1) (first_in_txn t) (first_from find_txn (i + 1) (drop (i + 1) log))
log_step log i t at = rw (drop_at log i t at) refl

-- a search from row i on finds the fault of row i, or else the first fault of the following rows
pub body_searched : (e : Edition) (p : Parts) (rows : List StmtRow) (i : ℕ) (d : StmtRow) (o : Option CheckKind) → rows ≡ p.rows → i < length rows
    → o ≡ least (stmt_faulty (txn_of e p) (map (stmt_of p) (take i rows)) (stmt_of p (get_or rows i d)))
    → first_from (find_stmt (txn_of e p)) i (map (stmt_of p) (drop i rows)) ≡ found_or (i + 1) o
    (first_from (find_stmt (txn_of e p)) (i + 1) (map (stmt_of p) (drop (i + 1) rows)))
body_searched e p rows i d o same inside found =
    body_step e p rows i (get_or rows i d) same (slice_get-get_or rows i d inside)
    ∙ ap (λ x. found_or (i + 1) x (first_from (find_stmt (txn_of e p)) (i + 1) (map (stmt_of p) (drop (i + 1) rows)))) (sym found)
