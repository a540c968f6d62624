-- Each declared key has an access, and each wanted source is an earlier position of the batch.
use Rattle.std.proofs.Common.{◌≡◌, ℕ, ◌+◌, ◌<◌, ◌≤◌, List, [], ◌++◌, length, Bool, true, false, Option, Some}
use Rattle.std.proofs.Common.{option_map, unwrap_or, ap, sym, ◌∙◌, subst, ⊎_elim, inl, inr, refl, arith}
use Rattle.std.specs.Prelude.{Contains, ◌⊎◌, if◌then◌else◌}
use Rattle.std.specs.List.{slice_get}
use Rattle.std.proofs.Math.Logic.{∥∥₁_elim}
use Rattle.std.proofs.Props.{props}
use Rattle.std.proofs.lemmas.List.Elements.{Contains-append_cases}
use Rattle.std.proofs.lemmas.Option.{same_Some, slice_get_within, slice_get-get_or}
use Rattle.bohm_types.specs.Txn.{Txn}
use Rattle.bohm_txn.specs.Sure.{is_sure}
use Rattle.bohm_txn.proofs.ForCallers.{there}
use Rattle.bohm_place.specs.declared.access.Access.{Access}
use Rattle.bohm_place.specs.declared.access.Source.{Source}
use Rattle.bohm_place.specs.declared.access.Source.TheVariants.{Within}
use Rattle.bohm_place.specs.declared.declared_set.DeclaredSet.{DeclaredSet}
use Rattle.bohm_place.specs.declared.declared_set.DeclaredSet.TheVariants.{Reads, Writes}
use Rattle.bohm_place.specs.Plans.{IsRightAccess, AreRightAccesses, IsIndexOf, keys_in, slot_at, sure_at}
use Rattle.bohm_place.specs.Slots.{offset}
use Rattle.bohm_place.specs.Writers.{IsNewest}
use Rattle.bohm_place.proofs.ForCallers.{offset_few, row_paired}
use Rattle.bohm_board.specs.declared.batch.Batch.{Batch}
use Rattle.bohm_board.specs.Bases.{most_batch_slots}
use Rattle.bohm_board.specs.Batches.{accesses_in, txns_of, first_of, plan_of, position, rights_of, IsIn, IsSlot}
use Rattle.bohm_board.specs.Batches.{txn_at, reads_at, writes_at, wanted_at, is_sure_at, slot_in}
use Rattle.bohm_board.proofs.BoardLaw.{nothing_in}
use Rattle.bohm_board.proofs.SlotNumbers.{txn_there, width_there}
use Rattle.bohm_board.proofs.SlotPlaces.{slots_long}

-- there is an access for each declared key
pub keys_paired : (b : Batch) (set : DeclaredSet) (t : ℕ) (x : Txn) → txn_at b t ≡ Some x → length (keys_in set x) ≡ length (accesses_in set b t)
keys_paired b set t x at = row_paired (txns_of b) (plan_of b) set (position b t) x b.batched.right at

pub reads_paired : (b : Batch) (t : ℕ) (x : Txn) → txn_at b t ≡ Some x → length x.reads ≡ length (reads_at b t)
reads_paired b = keys_paired b Reads

pub writes_paired : (b : Batch) (t : ℕ) (x : Txn) → txn_at b t ≡ Some x → length x.writes ≡ length (writes_at b t)
writes_paired b = keys_paired b Writes

-- the source u is before t, and the slot of its version is a slot of the batch
pub record IsEarlier (b : Batch) (t : ℕ) (a : Access) (u : ℕ) : Type 0 where
  pub below : u < t
  pub slot : IsSlot b (slot_in u a)

earlier_prop : (b : Batch) (t : ℕ) (a : Access) (u : ℕ) → IsProp (IsEarlier b t a u)
earlier_prop b t a u = hlevel props

right_earlier : (b : Batch) (t : ℕ) (k : List ℕ) (a : Access) (u : ℕ) → IsIn b t → IsRightAccess (first_of b) (txns_of b) (first_of b + position b t) k a
    → a.source ≡ Within u → IsEarlier b t a u
right_earlier b t k a u inside r e =
    let n = subst (λ (s : Source). IsNewest (first_of b) (txns_of b) k (first_of b + position b t) s) e r.newest in
    let w = subst (λ (s : Source). IsIndexOf (first_of b) (txns_of b) k a.index s) e r.write in
    let stamp = w.there.timestamp in
    let within = slice_get_within (txns_of b) w.there.place w.txn w.there.is_at in
    let from = inside.from in
    let low = n.below in
    let place : position b u ≡ w.there.place = omega arith in
    let at : txn_at b u ≡ Some w.txn = ap (λ (i : ℕ). slice_get (txns_of b) i) place ∙ w.there.is_at in
    let index = slice_get_within w.txn.writes a.index k w.declared in
    record {
      below = omega arith;
      slot = record {
        txn = record { from = omega arith; below = omega arith };
        index = omega (arith, width_there b u w.txn at, index);
      };
    }

among_right : (b : Batch) (t : ℕ) (keys : List (List ℕ)) (accesses : List Access) (a : Access) (u : ℕ) → IsIn b t
    → AreRightAccesses (first_of b) (txns_of b) (first_of b + position b t) keys accesses → Contains accesses a → a.source ≡ Within u → IsEarlier b t a u
among_right b t keys accesses a u inside are in_it e =
    let j = in_it.0 in
    let at : slice_get accesses j ≡ Some a = slice_get-get_or accesses j a in_it.1 ∙ ap Some in_it.2 in
    let within = in_it.1 in
    let (k, at_key) = there keys j (omega (arith, within, are.paired)) in
    right_earlier b t k a u inside (are.each j k a at_key at) e

pub in_either : (b : Bool) (xs ys : List Access) (a : Access) → Contains (xs ++ (if b then [] else ys)) a → Contains xs a ⊎ ((b ≡ false) × Contains ys a)
in_either true xs ys a h = ⊎_elim (λ c. inl c) (λ (c : Contains [] a). absurd (nothing_in a c)) (Contains-append_cases xs [] a h)
in_either false xs ys a h = ⊎_elim (λ c. inl c) (λ (c : Contains ys a). inr (refl, c)) (Contains-append_cases xs ys a h)

-- the plan says correctly whether a transaction is sure
pub sure_planned : (b : Batch) (t : ℕ) (sure : Bool) → IsIn b t → sure_at (plan_of b) (position b t) ≡ Some sure → sure ≡ is_sure_at b t
sure_planned b t sure inside at =
    let (x, at_x) = txn_there b t inside in
    ∥∥₁_elim b.batched.right (hlevel props)
    (λ plan. same_Some sure (is_sure x) (sym at ∙ plan.sure (position b t) x at_x)
    ∙ sym (ap (λ (o : Option Txn). unwrap_or (option_map is_sure o) false) at_x))

-- the plan has the number of slots before a transaction, and the number of all slots
pub slot_planned : (b : Batch) (t n : ℕ) → IsIn b t → slot_at (plan_of b) (position b t) ≡ Some n → n ≡ offset (txns_of b) (position b t)
slot_planned b t n inside at =
    let (x, at_x) = txn_there b t inside in
    ∥∥₁_elim b.batched.right (hlevel props) (λ plan. same_Some n (offset (txns_of b) (position b t)) (sym at ∙ plan.slot (position b t) x at_x))

pub slots_planned : (b : Batch) → (plan_of b).slots ≡ length (rights_of b).slots
slots_planned b = ∥∥₁_elim b.batched.right (hlevel props) (λ plan. plan.slots ∙ sym (slots_long b))

pub few_slots : (b : Batch) → length (rights_of b).slots ≤ most_batch_slots
few_slots b = omega (arith, slots_long b, offset_few (txns_of b) (length (txns_of b)) b.batched.formed, b.batched.few)

-- a wanted source is an earlier position, and has the slot that the access names
pub wanted_earlier : (b : Batch) (t : ℕ) (a : Access) (u : ℕ) → IsIn b t → Contains (wanted_at b t) a → a.source ≡ Within u → IsEarlier b t a u
wanted_earlier b t a u inside in_it e =
    let (x, at) = txn_there b t inside in
    ∥∥₁_elim b.batched.right (earlier_prop b t a u) (λ plan. ⊎_elim
    (λ (h : Contains (reads_at b t) a). among_right b t x.reads (reads_at b t) a u inside (plan.reads (position b t) x at) h e)
    (λ (h : (is_sure_at b t ≡ false) × Contains (writes_at b t) a). among_right b t x.writes (writes_at b t) a u inside (plan.writes (position b t) x at) h.1 e)
    (in_either (is_sure_at b t) (reads_at b t) (writes_at b t) a in_it))
