-- The replies of a batch, one transaction after another.
use Rattle.std.proofs.Common.{◌≡◌, ℕ, zero, suc, ◌+◌, ◌<◌, ◌≤◌, List, [], ◌∷◌, ◌++◌, length, take, drop, get_or, Some}
use Rattle.std.proofs.Common.{None, Ok, Err, refl, sym, ap, ◌∙◌, arith, ⊎_elim}
use Rattle.std.specs.Prelude.{ℤ, Option}
use Rattle.std.specs.List.{slice_get}
use Rattle.std.proofs.lemmas.List.{take_all, take_more}
use Rattle.std.proofs.lemmas.Option.{get_or_from_slice_get, same_Some, slice_get_cases, slice_get_within}
use Rattle.bohm_types.specs.declared.cell.Cell.TheVariants.{Absent, Present}
use Rattle.bohm_types.specs.Txn.{Txn}
use Rattle.bohm_txn.specs.Declares.{shows_in}
use Rattle.bohm_txn.specs.Meaning.{Look, Ended, body}
use Rattle.bohm_txn.specs.Serial.{after, replies, reply_of, shows_of, state}
use Rattle.bohm_txn.specs.Stores.{cell_of}
use Rattle.bohm_txn.proofs.ForCallers.{shows_counted}
use Rattle.bohm_place.proofs.ForCallers.{get_drop}
use Rattle.bohm_exec.specs.Moments.{shown}
use Rattle.bohm_apply.proofs.Ordered.{next_taken}

-- ---- the values that one transaction shows

some_shown : (o : Option ℤ) (z : ℤ) → cell_of o ≡ Present z → o ≡ Some z
some_shown None z e = cc
some_shown (Some y) z e = cc

none_shown : (o : Option ℤ) → cell_of o ≡ Absent → o ≡ None
none_shown None e = refl
none_shown (Some y) e = cc

-- the first i shown values, followed by the value at index i, are the first i + 1
pub show_more : (zs : List ℤ) (i : ℕ) (z : ℤ) → shown zs i ≡ Present z → take i zs ++ z ∷ [] ≡ take (i + 1) zs
show_more zs i z e =
    let here : slice_get zs i ≡ Some z = some_shown (slice_get zs i) z e in
    sym (take_more zs i z (slice_get_within zs i z here) ∙ ap (λ y. take i zs ++ y ∷ []) (get_or_from_slice_get zs i z z here))

-- if there is no value at index i, the first i + 1 shown values are just the first i
pub show_ended : (zs : List ℤ) (i : ℕ) → shown zs i ≡ Absent → take i zs ≡ take (i + 1) zs
show_ended zs i e = ⊎_elim
    (λ (found : (z : ℤ) × (i < length zs) × (slice_get zs i ≡ Some z) × (get_or zs i z ≡ z)). absurd
    (some_there found.0 (sym found.2 ∙ none_shown (slice_get zs i) e)))
    (λ (past : (length zs ≤ i) × (slice_get zs i ≡ None)). take_all i zs past.0 ∙ sym (take_all (i + 1) zs (omega (arith, past.0))))
    ((slice_get_cases zs i).1)
  where
    some_there : (z : ℤ) → Some z ≡ None → ⊥
    some_there z p = cc

-- a body shows at most as many values as it has `show` statements
pub shows_few : (look : Look) (t : Txn) → length (shows_of (body look t)) ≤ shows_in t.body
shows_few look t = elim (body look t) as (λ (e : Ended). body look t ≡ e → length (shows_of e) ≤ shows_in t.body) [
  | Ok run ↦ λ is. (let same = shows_counted look t run is in omega arith)
  | Err fault ↦ λ is. omega arith
] refl

-- ---- the replies

-- the reply of the transaction at index i
reply_at : (look : Look) (txns : List Txn) (i : ℕ) (x : Txn) → slice_get txns i ≡ Some x
    → slice_get (replies look txns) i ≡ Some (reply_of (body (state look txns i) x))
reply_at look [] i x e = absurd (omega (arith, slice_get_within [] i x e))
reply_at look (t ∷ ts) zero x e = ap (λ (y : Txn). Some (reply_of (body look y))) (same_Some t x e)
reply_at look (t ∷ ts) (suc i) x e = reply_at (after look t) ts i x e

-- of the transactions from an index on, the replies of the first i + 1 are those of the first i, and then that of the one at index i
pub next_reply : (look : Look) (txns : List Txn) (from i : ℕ) (x : Txn) → slice_get txns (from + i) ≡ Some x
    → take (i + 1) (drop from (replies look txns)) ≡ take i (drop from (replies look txns)) ++ reply_of (body (state look txns (from + i)) x) ∷ []
next_reply look txns from i x here =
    let r = reply_of (body (state look txns (from + i)) x) in
    next_taken (drop from (replies look txns)) i r (get_drop from i (replies look txns) ∙ reply_at look txns (from + i) x here)
