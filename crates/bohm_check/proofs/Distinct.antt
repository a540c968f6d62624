-- The keys that transactions declare, collected one transaction after another.
use Rattle.std.proofs.Common.{◌≡◌, ℕ, ◌+◌, ◌≤◌, List, [], ◌∷◌, ◌++◌, Bool, length, drop, Some, refl, ap, sym, ◌∙◌}
use Rattle.std.specs.Prelude.{◌||◌}
use Rattle.std.specs.List.{list_any, slice_get}
use Rattle.std.proofs.Math.Bool.{or_assoc, or-false}
use Rattle.std.proofs.lemmas.List.{drop_all}
use Rattle.std.proofs.lemmas.List.Folds.{list_any-append}
use Rattle.std.specs.Str.{bytes_eq}
use Rattle.bohm_types.specs.Keys.{is_among}
use Rattle.bohm_types.specs.Txn.{Txn}
use Rattle.bohm_txn.proofs.ForCallers.{drop_at}
use Rattle.bohm_check.specs.Distinct.{declares, is_declared}

pub among_append : (xs ys : List (List ℕ)) (k : List ℕ) → is_among (xs ++ ys) k ≡ (is_among xs k || is_among ys k)
among_append xs ys k = list_any-append (λ x. bytes_eq x k) xs ys

-- the keys of one more transaction were added
pub one_more : (log : List Txn) (i : ℕ) (t : Txn) (k : List ℕ) (names read written shrunk : List (List ℕ)) → slice_get log i ≡ Some t
    → read ≡ names ++ t.reads → written ≡ read ++ t.writes → is_among shrunk k ≡ is_among written k
    → (is_among names k || is_declared (drop i log) k) ≡ is_declared log k → (is_among shrunk k || is_declared (drop (i + 1) log) k) ≡ is_declared log k
one_more log i t k names read written shrunk at reads writes same so_far =
    let rest = is_declared (drop (i + 1) log) k in
    let next : is_declared (drop i log) k ≡ ((is_among t.reads k || is_among t.writes k) || rest) =
    ap (λ (ts : List Txn). is_declared ts k) (drop_at log i t at) in
    let grown : is_among written k ≡ ((is_among names k || is_among t.reads k) || is_among t.writes k) =
    ap (λ (xs : List (List ℕ)). is_among xs k) writes
    ∙ among_append read t.writes k
    ∙ ap (λ (b : Bool). b || is_among t.writes k) (ap (λ (xs : List (List ℕ)). is_among xs k) reads ∙ among_append names t.reads k) in
    ap (λ (b : Bool). b || rest) (same ∙ grown ∙ or_assoc (is_among names k) (is_among t.reads k) (is_among t.writes k))
    ∙ or_assoc (is_among names k) (is_among t.reads k || is_among t.writes k) rest
    ∙ ap (λ (b : Bool). is_among names k || b) (sym next)
    ∙ so_far

-- no transaction is left
pub all_added : (log : List Txn) (i : ℕ) (k : List ℕ) (names : List (List ℕ)) → length log ≤ i
    → (is_among names k || is_declared (drop i log) k) ≡ is_declared log k → is_among names k ≡ is_declared log k
all_added log i k names end so_far =
    sym (or-false (is_among names k)) ∙ ap (λ (ts : List Txn). is_among names k || is_declared ts k) (sym (drop_all i log end)) ∙ so_far
