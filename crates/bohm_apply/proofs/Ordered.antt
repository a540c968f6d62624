-- Transactions that run one after another.
use Rattle.std.proofs.Common.{◌≡◌, ◌∙◌, ℕ, ◌+◌, ◌-◌, ◌≤◌, List, [], ◌∷◌, ◌++◌, take, Some, ap, arith}
use Rattle.std.specs.List.{slice_get}
use Rattle.std.proofs.lemmas.List.{take_more}
use Rattle.std.proofs.lemmas.Option.{get_or_from_slice_get, slice_get_within}
use Rattle.bohm_types.specs.Txn.{Txn}
use Rattle.bohm_txn.specs.declared.outcome.Reply.{Reply}
use Rattle.bohm_txn.specs.Meaning.{body}
use Rattle.bohm_txn.specs.Serial.{reply_of}
use Rattle.bohm_store.specs.Nexts.{IsSettledKept}
use Rattle.bohm_store.specs.Versions.{Timeline, past}
use Rattle.bohm_apply.specs.Runs.{IsApplied}
use Rattle.bohm_apply.proofs.Going.{settled_on, went_on}

-- the first i + 1 elements are the first i, followed by the element at index i
pub next_taken : {A : Type 0} (xs : List A) (i : ℕ) (x : A) → slice_get xs i ≡ Some x → take (i + 1) xs ≡ take i xs ++ x ∷ []
next_taken {A} xs i x here =
    take_more xs i x (slice_get_within xs i x here) ∙ ap (λ (y : A). take i xs ++ y ∷ []) (get_or_from_slice_get xs i x x here)

-- settling the transaction at index i after the first i continues the history by the first i + 1
pub one_more : (was mid now : Timeline) (txns : List Txn) (i keep : ℕ) (t : Txn) (a : List Reply) → was.floor ≤ was.top → slice_get txns i ≡ Some t
    → IsApplied was mid (take i txns) keep a → IsSettledKept mid now (t ∷ []) ((mid.top + 1) - keep)
    → IsApplied was now (take (i + 1) txns) keep (a ++ reply_of (body (past mid mid.top) t) ∷ [])
one_more was mid now txns i keep t a ordered here h settled =
    rw (next_taken txns i t here)
    (went_on was mid now (take i txns) (t ∷ []) keep a (reply_of (body (past mid mid.top) t) ∷ []) ordered h
    (settled_on mid now (t ∷ []) keep (omega arith) settled))
