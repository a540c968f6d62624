-- The states of the serial run, one after another.
use Rattle.std.proofs.Common.{◌≡◌, ℕ, zero, suc, ◌+◌, ◌<◌, ◌≤◌, List, [], ◌∷◌, ◌++◌, length, Some, refl, ap, arith}
use Rattle.std.specs.List.{slice_get}
use Rattle.std.proofs.lemmas.Option.{same_Some}
use Rattle.bohm_types.specs.Txn.{Txn}
use Rattle.bohm_txn.specs.Meaning.{Look, body}
use Rattle.bohm_txn.specs.Serial.{after, state, replies, reply_of}

pub there : {A : Type 0} (xs : List A) (i : ℕ) → i < length xs → (x : A) × (slice_get xs i ≡ Some x)
there [] i h = absurd (omega arith)
there (x ∷ xs) zero h = (x, refl)
there (x ∷ xs) (suc i) h = there xs i (omega arith)

-- S(i + 1) is S(i) after the transaction at index i
pub next : (look : Look) (ts : List Txn) (i : ℕ) (t : Txn) → slice_get ts i ≡ Some t → state look ts (suc i) ≡ after (state look ts i) t
next look [] i t e = absurd cc
next look (x ∷ xs) zero t e = ap (λ y. after look y) (same_Some x t e)
next look (x ∷ xs) (suc i) t e = next (after look x) xs i t e

pub length-replies : (look : Look) (ts : List Txn) → length (replies look ts) ≡ length ts
length-replies look [] = refl
length-replies look (t ∷ ts) = ap suc (length-replies (after look t) ts)

-- a state within the second part of a log is a state of this part over the first part's last state
pub state-append : (look : Look) (xs ys : List Txn) (p i : ℕ) → p ≡ length xs + i → state look (xs ++ ys) p ≡ state (state look xs (length xs)) ys i
state-append look [] ys p i e = let same : p ≡ i = omega arith in rw same refl
state-append look (x ∷ xs) ys zero i e = absurd (omega arith)
state-append look (x ∷ xs) ys (suc p) i e = state-append (after look x) xs ys p i (omega arith)

-- the states within the first part of a log don't depend on the second part
pub state-front : (look : Look) (xs ys : List Txn) (i : ℕ) → i ≤ length xs → state look (xs ++ ys) i ≡ state look xs i
state-front look xs ys zero h = refl
state-front look [] ys (suc i) h = absurd (omega arith)
state-front look (x ∷ xs) ys (suc i) h = state-front (after look x) xs ys i (omega arith)

pub replies-append : (look : Look) (xs ys : List Txn) → replies look (xs ++ ys) ≡ replies look xs ++ replies (state look xs (length xs)) ys
replies-append look [] ys = refl
replies-append look (x ∷ xs) ys = ap (λ rs. reply_of (body look x) ∷ rs) (replies-append (after look x) xs ys)
