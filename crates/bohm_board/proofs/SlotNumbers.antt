-- The numbers of slots, and the positions of timestamps.
use Rattle.std.proofs.Common.{◌≡◌, ℕ, ◌+◌, ◌<◌, length, Some, ap, sym, ◌∙◌, subst, arith}
use Rattle.std.specs.Prelude.{Option, unwrap_or}
use Rattle.std.specs.Option.{option_map}
use Rattle.std.specs.List.{slice_get}
use Rattle.std.proofs.lemmas.Option.{slice_get_within}
use Rattle.bohm_types.specs.declared.cell.Cell.{Cell}
use Rattle.bohm_types.specs.declared.cell.Cell.TheVariants.{Absent, Present}
use Rattle.bohm_types.specs.Txn.{Txn}
use Rattle.bohm_txn.specs.Serial.{state}
use Rattle.bohm_txn.proofs.ForCallers.{there}
use Rattle.bohm_board.specs.declared.batch.Batch.{Batch}
use Rattle.bohm_board.specs.declared.slot.Slot.{Slot}
use Rattle.bohm_board.specs.declared.knowledge.RightSlot.{RightSlot}
use Rattle.bohm_board.specs.declared.knowledge.Rights.{Rights}
use Rattle.bohm_place.specs.Slots.{width, offset}
use Rattle.bohm_board.specs.Serial.{own_cells, slot_at}
use Rattle.bohm_board.specs.Batches.{txns_of, base_of, first_of, position, timestamp, IsIn, IsSlot}
use Rattle.bohm_board.specs.Batches.{txn_at, width_at, number, slot_numbered, rights_of, IsRightCell}
use Rattle.bohm_board.specs.Encoding.{filled_word}
use Rattle.bohm_board.proofs.SlotPlaces.{first_right, outcomes_long, slots_long, slot_of_batch}
use Rattle.bohm_board.proofs.SerialSlots.{length-own_cells, offset_inside, slot_serial}

pub position_inside : (b : Batch) (t : ℕ) → IsIn b t → position b t < length (txns_of b)
position_inside b t is = omega (arith, is.from, is.below)

pub txn_there : (b : Batch) (t : ℕ) → IsIn b t → (x : Txn) × (txn_at b t ≡ Some x)
txn_there b t is = there (txns_of b) (position b t) (position_inside b t is)

pub width_there : (b : Batch) (t : ℕ) (x : Txn) → txn_at b t ≡ Some x → width_at b t ≡ width x
width_there b t x at = ap (λ (o : Option Txn). unwrap_or (option_map width o) 0) at

-- the transaction of a slot exists, and has more slots than the slot's index
pub slot_there : (b : Batch) (s : Slot) → IsSlot b s → (x : Txn) × (txn_at b s.txn ≡ Some x) × (s.index < width x)
slot_there b s is =
    let (x, at) = txn_there b s.txn is.txn in
    (x, at, omega (arith, is.index, width_there b s.txn x at))

pub number_inside : (b : Batch) (s : Slot) → IsSlot b s → number b s < length (rights_of b).slots
number_inside b s is =
    let (x, at, below) = slot_there b s is in
    omega (arith, below, offset_inside (txns_of b) (position b s.txn) x at, slots_long b)

-- the right slots have, at a slot's number, an entry of this slot
pub right_at : (b : Batch) (x : Slot) → IsSlot b x → (y : RightSlot) × (slice_get (rights_of b).slots (number b x) ≡ Some y) × (y.slot ≡ x)
unfolding rights_of
right_at b x is =
    let (txn, at, below) = slot_there b x is in
    let i = position b x.txn in
    let before = state (base_of b) (txns_of b) i in
    let (c, own) = there (own_cells before txn) x.index (omega (arith, below, length-own_cells before txn)) in
    let from = is.txn.from in
    let back : first_of b + i ≡ x.txn = omega arith in (
      slot_at (first_of b + i) x.index c,
      slot_serial (first_of b) (base_of b) (txns_of b) i txn x.index c at own,
      ap (λ (t : ℕ). record { txn = t; index = x.index }) back,
    )

pub right_there : (b : Batch) (x : Slot) → IsSlot b x → (c : Cell) × IsRightCell b x c
right_there b x is = let (y, at, e) = right_at b x is in (y.cell, ap (option_map (λ (z : RightSlot). z.cell)) at)

-- if the presence word of the right cell is 1, the right cell is `Absent`
pub right_by_word : (b : Batch) (x : Slot) (c : Cell) → IsRightCell b x c → filled_word c ≡ 1 → IsRightCell b x Absent
right_by_word b x Absent right e = right
right_by_word b x (Present z) right e = absurd (omega arith)

-- the slot found by a slot's number is this slot
pub named_number : (b : Batch) (x : Slot) → IsSlot b x → slot_numbered (rights_of b) (number b x) ≡ x
named_number b x is =
    let (y, at, e) = right_at b x is in
    ap (λ (o : Option RightSlot). unwrap_or (option_map (λ z. z.slot) o) (record { txn = 0; index = 0 })) at ∙ e

pub named_slot : (b : Batch) (r : Rights) (x : Slot) (k : ℕ) → r ≡ rights_of b → IsSlot b x → k ≡ number b x → slot_numbered r k ≡ x
named_slot b r x k own is e = (λ i. slot_numbered (own i) (e i)) ∙ named_number b x is

-- slots with the same number are equal
pub one_number : (b : Batch) (x y : Slot) → IsSlot b x → IsSlot b y → number b x ≡ number b y → x ≡ y
one_number b x y is also e = sym (named_number b x is) ∙ (ap (slot_numbered (rights_of b)) e ∙ named_number b y also)

-- each number below the count of slots is the number of a slot
pub number_named : (b : Batch) (k : ℕ) → k < length (rights_of b).slots
    → IsSlot b (slot_numbered (rights_of b) k) × (number b (slot_numbered (rights_of b) k) ≡ k)
number_named b k inside =
    let (y, at) = there (rights_of b).slots k inside in
    let own = slot_of_batch b k y at in
    let x : Slot = record { txn = first_of b + own.i; index = own.j } in
    let here : slot_numbered (rights_of b) k ≡ x =
    ap (λ (o : Option RightSlot). unwrap_or (option_map (λ z. z.slot) o) (record { txn = 0; index = 0 })) at ∙ own.slot in
    let place : position b x.txn ≡ own.i = omega arith in
    let txn : txn_at b x.txn ≡ Some own.txn = ap (λ (i : ℕ). slice_get (txns_of b) i) place ∙ own.is_at in
    let within = slice_get_within (txns_of b) own.i own.txn own.is_at in
    let is : IsSlot b x = record {
      txn = record { from = omega arith; below = omega arith };
      index = omega (arith, own.inside, width_there b x.txn own.txn txn);
    } in
    let same : number b x ≡ k = ap (λ (i : ℕ). offset (txns_of b) i + own.j) place ∙ sym own.place in
    subst (λ (z : Slot). IsSlot b z × (number b z ≡ k)) (sym here) (is, same)

-- t is the timestamp of its position
pub stamped : (b : Batch) (r : Rights) (t i : ℕ) → r ≡ rights_of b → IsIn b t → i ≡ position b t → timestamp r i ≡ t
stamped b r t i own is e = omega (arith, ap (λ (z : Rights). z.first) own, first_right b, is.from, e)

-- the timestamp of each position below the count of positions is in the batch, and has this position
pub stamp_inside : (b : Batch) (r : Rights) (i : ℕ) → r ≡ rights_of b → i < length (rights_of b).outcomes
    → IsIn b (timestamp r i) × (position b (timestamp r i) ≡ i)
stamp_inside b r i own inside =
    let first : r.first ≡ first_of b = ap (λ (z : Rights). z.first) own ∙ first_right b in
    let long = outcomes_long b in
    (record { from = omega arith; below = omega arith }, omega arith)

-- timestamps with the same position are equal
pub one_position : (b : Batch) (t u : ℕ) → IsIn b t → IsIn b u → position b t ≡ position b u → t ≡ u
one_position b t u is also e = omega (arith, is.from, also.from, e)
