-- The number of slots before each transaction.
use Rattle.std.proofs.Common.{◌≡◌, ℕ, zero, suc, ◌+◌, ◌*◌, ◌≤◌, List, [], ◌∷◌, slice_get, Some, arith, add-one, All}
use Rattle.std.proofs.lemmas.List.Elements.{All-head, All-tail}
use Rattle.std.proofs.lemmas.Option.{same_Some}
use Rattle.bohm_types.specs.Txn.{Txn}
use Rattle.bohm_txn.specs.Faulty.{IsWellFormedTxn}
use Rattle.bohm_txn.proofs.ForCallers.{usable}
use Rattle.bohm_place.specs.Slots.{width, offset, most_slots}

pub offset_next : (ts : List Txn) (i : ℕ) (x : Txn) → slice_get ts i ≡ Some x → offset ts (suc i) ≡ offset ts i + width x
offset_next [] i x e = absurd cc
offset_next (y ∷ ts) zero x e = let same : y ≡ x = same_Some y x e in rw same (omega arith)
offset_next (y ∷ ts) (suc i) x e = omega (arith, offset_next ts i x e)

pub next_offset : (ts : List Txn) (i : ℕ) (x : Txn) → slice_get ts i ≡ Some x → offset ts (i + 1) ≡ offset ts i + width x
next_offset ts i x e = rw add-one (offset_next ts i x e)

pub few_slots : (t : Txn) → IsWellFormedTxn t → width t ≤ most_slots
few_slots t formed = let keeps = usable t formed in omega (arith, keeps.few_writes, keeps.few_shows)

-- well-formed transactions have at most 32 slots each
pub offset_few : (ts : List Txn) (i : ℕ) → All IsWellFormedTxn ts → offset ts i ≤ most_slots * i
offset_few ts zero formed = omega arith
offset_few [] (suc i) formed = omega arith
offset_few (t ∷ ts) (suc i) formed = omega (
  arith,
  few_slots t (All-head IsWellFormedTxn t ts formed),
  offset_few ts i (All-tail IsWellFormedTxn t ts formed),
)
