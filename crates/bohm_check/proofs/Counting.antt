-- How the lines of transactions are counted.
use Rattle.std.proofs.Common.{◌≡◌, ℕ, zero, suc, ◌+◌, List, [], ◌∷◌, length}
use Rattle.std.proofs.Common.{map, take, Some, sym, ◌∙◌, subst, add-one, arith}
use Rattle.std.specs.List.{flat_map, slice_get}
use Rattle.std.proofs.lemmas.List.{length-append, length-map}
use Rattle.bohm_types.specs.Txn.{Txn}
use Rattle.bohm_types.specs.Document.{Document}
use Rattle.bohm_text.specs.Print.{txn_lines, store_words, stmt_words, doc_lines}
use Rattle.bohm_check.specs.Lines.{opening_line}

flat_more : {A B : Type 0} (f : A → List B) (xs : List A) (i : ℕ) (x : A) → slice_get xs i ≡ Some x
    → length (flat_map f (take (suc i) xs)) ≡ length (flat_map f (take i xs)) + length (f x)
flat_more f [] i x at = absurd cc
flat_more f (y ∷ xs) zero x at =
    let same : y ≡ x = cc in
    length-append (f y) (flat_map f (take 0 xs)) ∙ rw same (omega arith)
flat_more f (y ∷ xs) (suc i) x at =
    length-append (f y) (flat_map f (take (suc i) xs)) ∙ rw (flat_more f xs i x at, length-append (f y) (flat_map f (take i xs))) (omega arith)

txn_length : (t : Txn) → length (txn_lines t) ≡ length t.body + 4
txn_length t = rw (length-append (map stmt_words t.body) _, length-map t.body stmt_words) (omega arith)

log_length : (d : Document) (log : List Txn) → length (doc_lines (record d { log = log })) ≡ 1 + length d.store + length (flat_map txn_lines log)
log_length d log = rw (length-append (map store_words d.store) (flat_map txn_lines log), length-map d.store store_words) (omega arith)

next_suc : (d : Document) (i : ℕ) (t : Txn) → slice_get d.log i ≡ Some t → opening_line d (suc i) ≡ opening_line d i + length t.body + 4
next_suc d i t at =
    let more = flat_more txn_lines d.log i t at in
    let lines = txn_length t in
    omega (arith, log_length d (take i d.log), log_length d (take (suc i) d.log), more, lines)

-- the opening line of the next transaction
pub next_opening : (d : Document) (i : ℕ) (t : Txn) → slice_get d.log i ≡ Some t → opening_line d (i + 1) ≡ opening_line d i + length t.body + 4
next_opening d i t at = subst (λ (n : ℕ). opening_line d n ≡ opening_line d i + length t.body + 4) (sym (add-one i)) (next_suc d i t at)
