-- The keys that transactions declare.
use Rattle.std.proofs.Common.{◌≡◌, ◌∙◌, ℕ, ◌+◌, List, [], ◌∷◌, ◌++◌, take, Some, sym, ap, append-nil, append_assoc, slice_get}
use Rattle.std.proofs.lemmas.List.{take_more}
use Rattle.std.proofs.lemmas.Option.{get_or_from_slice_get, slice_get_within}
use Rattle.bohm_types.specs.Txn.{Txn}
use Rattle.bohm_board.specs.Bases.{declared_keys}

declared_push : (ts : List Txn) (x : Txn) → declared_keys (ts ++ x ∷ []) ≡ (declared_keys ts ++ x.reads) ++ x.writes
declared_push [] x = append-nil (x.reads ++ x.writes)
declared_push (t ∷ ts) x =
    let own = t.reads ++ t.writes in
    ap (λ (ks : List (List ℕ)). own ++ ks) (declared_push ts x)
    ∙ sym (append_assoc own (declared_keys ts ++ x.reads) x.writes)
    ∙ ap (λ (ks : List (List ℕ)). ks ++ x.writes) (sym (append_assoc own (declared_keys ts) x.reads))

-- the keys of one more transaction follow those of the ones before it
pub declared_more : (ts : List Txn) (i : ℕ) (x : Txn) → slice_get ts i ≡ Some x
    → declared_keys (take (i + 1) ts) ≡ (declared_keys (take i ts) ++ x.reads) ++ x.writes
declared_more ts i x here =
    ap declared_keys (take_more ts i x (slice_get_within ts i x here) ∙ ap (λ (t : Txn). take i ts ++ t ∷ []) (get_or_from_slice_get ts i x x here))
    ∙ declared_push (take i ts) x
