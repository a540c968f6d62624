-- The cells that a position takes by its plan are its keys' cells in the state before it.
use Rattle.std.proofs.Common.{◌≡◌, ℕ, suc, ◌+◌, ◌-◌, ◌<◌, ◌≤◌, List, [], ◌∷◌, map, length, Option}
use Rattle.std.proofs.Common.{None, Some, refl, ap, sym, ◌∙◌, subst, arith, true, false, Bool}
use Rattle.std.specs.Prelude.{Ok, Err, ◌||◌}
use Rattle.std.specs.Option.{option_map}
use Rattle.std.specs.List.{slice_get, list_any}
use Rattle.std.specs.Str.{bytes_eq}
use Rattle.std.proofs.Math.Logic.{∥∥₁_elim}
use Rattle.std.specs.Coded.{Coded-set}
use Rattle.bohm_types.specs.contracts.cell.Cell.{the_row}
use Rattle.std.proofs.lemmas.Option.{same_Some, slice_get_within}
use Rattle.std.proofs.lemmas.Slice.Eq.{bytes_eq-Decides}
use Rattle.bohm_types.specs.declared.cell.Cell.{Cell}
use Rattle.bohm_types.specs.Txn.{Txn}
use Rattle.bohm_types.specs.Keys.{IsAmong}
use Rattle.bohm_txn.specs.declared.outcome.Outcome.{Outcome}
use Rattle.bohm_txn.specs.declared.outcome.Reason.{Reason}
use Rattle.bohm_txn.specs.Meaning.{Look, Ended, body, fresh}
use Rattle.bohm_txn.specs.Serial.{after, state, outcome_of}
use Rattle.bohm_txn.proofs.ForCallers.{there, next}
use Rattle.bohm_place.specs.declared.access.Access.{Access}
use Rattle.bohm_place.specs.declared.access.Source.{Source}
use Rattle.bohm_place.specs.declared.access.Source.TheVariants.{Before, Within}
use Rattle.bohm_place.specs.Plans.{IsRightPlan, IsRightAccess, AreRightAccesses, IsIndexOf, reads_of, writes_of}
use Rattle.bohm_place.specs.Writers.{IsNewest, WritesAt}
use Rattle.bohm_board.specs.declared.batch.Batch.{Batch}
use Rattle.bohm_board.specs.declared.knowledge.RightSlot.{RightSlot}
use Rattle.bohm_board.specs.declared.knowledge.Rights.{Rights}
use Rattle.bohm_place.specs.Slots.{offset}
use Rattle.bohm_board.specs.Serial.{own_cells}
use Rattle.bohm_board.specs.Batches.{base_of, txns_of, plan_of, first_of, rights_of, right_cell, number}
use Rattle.bohm_board.specs.Inputs.{IsCellFrom, IsCellOf, AreCellsOf, AreRight}
use Rattle.bohm_place.proofs.ForCallers.{usable_at, newest_state_by}
use Rattle.bohm_board.specs.Encoding.{stmt_of}
use Rattle.bohm_board.proofs.SlotPlaces.{outcomes_long}
use Rattle.bohm_board.proofs.SerialSlots.{slot_serial, own_write, outcome_serial, fault_within}

-- the own cells of position i in the serial run are the right cells of its slots
pub own_right : (b : Batch) (i : ℕ) (x : Txn) → slice_get (txns_of b) i ≡ Some x
    → AreRight (rights_of b) (offset (txns_of b) i) (own_cells (state (base_of b) (txns_of b) i) x)
unfolding rights_of
own_right b i x e = λ j c own. ap (λ o. option_map (λ s. s.cell) o) (slot_serial (first_of b) (base_of b) (txns_of b) i x j c e own)

pub outcome_right : (b : Batch) (i : ℕ) (x : Txn) → slice_get (txns_of b) i ≡ Some x
    → slice_get (rights_of b).outcomes i ≡ Some (outcome_of (body (state (base_of b) (txns_of b) i) x))
unfolding rights_of
outcome_right b i x e = outcome_serial (base_of b) (txns_of b) i x e

-- the right cell of u's slot for a key is the key's cell after u
pub slot_right : (b : Batch) (k : List ℕ) (u index : ℕ) → WritesAt (first_of b) (txns_of b) k u index
    → right_cell (rights_of b) (number b (record { txn = u; index = index })) ≡ Some (state (base_of b) (txns_of b) ((u + 1) - first_of b) k)
slot_right b k u index w =
    let p = w.there.place in
    let stamp : u ≡ first_of b + p = w.there.timestamp in
    let here : u - first_of b ≡ p = omega arith in
    let past : (u + 1) - first_of b ≡ suc p = omega arith in
    let own = own_right b p w.txn w.there.is_at index (after (state (base_of b) (txns_of b) p) w.txn k)
    (own_write (state (base_of b) (txns_of b) p) w.txn index k w.declared) in
    rw (here, past, next (base_of b) (txns_of b) p w.txn w.there.is_at) own

-- the cell from a key's newest earlier writer, or from the base, is the key's cell before the position
pub cell_before : (b : Batch) (i : ℕ) (k : List ℕ) (index : ℕ) (c : Cell) (s : Source) → i ≤ length (txns_of b) → IsNewest (first_of b) (txns_of b) k
    (first_of b + i) s → IsIndexOf (first_of b) (txns_of b) k index s → IsCellFrom b k index c s → state (base_of b) (txns_of b) i k ≡ c
cell_before b i k index c Before inside n w is = newest_state_by (base_of b) (txns_of b) (first_of b) i k Before b.batched.formed inside n ∙ sym is
cell_before b i k index c (Within u) inside n w is =
    newest_state_by (base_of b) (txns_of b) (first_of b) i k (Within u) b.batched.formed inside n
    ∙ same_Some (state (base_of b) (txns_of b) ((u + 1) - first_of b) k) c (sym (slot_right b k u index w) ∙ is)

access_before : (b : Batch) (i : ℕ) (k : List ℕ) (a : Access) (c : Cell) → i ≤ length (txns_of b)
    → IsRightAccess (first_of b) (txns_of b) (first_of b + i) k a → IsCellOf b k a c → state (base_of b) (txns_of b) i k ≡ c
access_before b i k a c inside r is = cell_before b i k a.index c a.source inside r.newest r.write is

cell_set : IsSet Cell
cell_set = Coded-set the_row.coded

-- a proof that a key's cell is c may use that the batch's plan is right
pub cell_planned : (b : Batch) (k : List ℕ) (look : Look) (c : Cell) → (IsRightPlan (txns_of b) (plan_of b) → look k ≡ c) → look k ≡ c
cell_planned b k look c f = ∥∥₁_elim b.batched.right (cell_set (look k) c) f

right_among : (b : Batch) (i : ℕ) (keys : List (List ℕ)) (accesses : List Access) (j : ℕ) (k : List ℕ) (c : Cell) → i ≤ length (txns_of b)
    → AreRightAccesses (first_of b) (txns_of b) (first_of b + i) keys accesses → slice_get keys j ≡ Some k
    → ((a : Access) → slice_get accesses j ≡ Some a → IsCellOf b k a c) → state (base_of b) (txns_of b) i k ≡ c
right_among b i keys accesses j k c inside are at_key is =
    let within = slice_get_within keys j k at_key in
    let (a, at_access) = there accesses j (omega (arith, within, are.paired)) in
    access_before b i k a c inside (are.each j k a at_key at_access) (is a at_access)

-- the cell of a declared read's access is the key's cell before the position
pub read_before : (b : Batch) (i : ℕ) (x : Txn) (j : ℕ) (k : List ℕ) (c : Cell) → slice_get (txns_of b) i ≡ Some x → slice_get x.reads j ≡ Some k
    → ((a : Access) → slice_get (reads_of (plan_of b) i) j ≡ Some a → IsCellOf b k a c) → state (base_of b) (txns_of b) i k ≡ c
read_before b i x j k c at at_key is =
    let within = slice_get_within (txns_of b) i x at in
    cell_planned b k (state (base_of b) (txns_of b) i) c
    (λ plan. right_among b i x.reads (reads_of (plan_of b) i) j k c (omega (arith, within)) (plan.reads i x at) at_key is)

-- the cell of a declared write's access is the key's cell before the position
pub write_before : (b : Batch) (i : ℕ) (x : Txn) (j : ℕ) (k : List ℕ) (c : Cell) → slice_get (txns_of b) i ≡ Some x → slice_get x.writes j ≡ Some k
    → ((a : Access) → slice_get (writes_of (plan_of b) i) j ≡ Some a → IsCellOf b k a c) → state (base_of b) (txns_of b) i k ≡ c
write_before b i x j k c at at_key is =
    let within = slice_get_within (txns_of b) i x at in
    cell_planned b k (state (base_of b) (txns_of b) i) c
    (λ plan. right_among b i x.writes (writes_of (plan_of b) i) j k c (omega (arith, within)) (plan.writes i x at) at_key is)

same_list : (look : Look) (keys : List (List ℕ)) (cells : List Cell) → length keys ≡ length cells
    → ((j : ℕ) (k : List ℕ) (c : Cell) → slice_get keys j ≡ Some k → slice_get cells j ≡ Some c → look k ≡ c) → map look keys ≡ cells
same_list look [] [] long each = refl
same_list look [] (c ∷ cs) long each = absurd (omega arith)
same_list look (k ∷ ks) [] long each = absurd (omega arith)
same_list look (k ∷ ks) (c ∷ cs) long each =
    let first : look k ≡ c = each 0 k c refl refl in
    let rest : map look ks ≡ cs = same_list look ks cs (omega arith) (λ j. each (suc j)) in
    λ i. first i ∷ rest i

-- the cells of all declared reads, by their accesses, are the keys' cells before the position
pub reads_before : (b : Batch) (i : ℕ) (x : Txn) (cells : List Cell) → slice_get (txns_of b) i ≡ Some x → AreCellsOf b x.reads (reads_of (plan_of b) i) cells
    → map (state (base_of b) (txns_of b) i) x.reads ≡ cells
reads_before b i x cells at are = same_list (state (base_of b) (txns_of b) i) x.reads cells are.paired
    (λ j k c at_key at_cell. read_before b i x j k c at at_key (λ a at_access. are.each j k a c at_key at_access at_cell))

pub writes_before : (b : Batch) (i : ℕ) (x : Txn) (cells : List Cell) → slice_get (txns_of b) i ≡ Some x
    → AreCellsOf b x.writes (writes_of (plan_of b) i) cells → map (state (base_of b) (txns_of b) i) x.writes ≡ cells
writes_before b i x cells at are = same_list (state (base_of b) (txns_of b) i) x.writes cells are.paired
    (λ j k c at_key at_cell. write_before b i x j k c at at_key (λ a at_access. are.each j k a c at_key at_access at_cell))

-- ---- indices of keys and of right cells

pub among_place : (ks : List (List ℕ)) (k : List ℕ) → IsAmong ks k → (j : ℕ) × (slice_get ks j ≡ Some k)
among_place [] k e = absurd cc
among_place (x ∷ ks) k e =
    elim (bytes_eq x k) as (λ (b : Bool). bytes_eq x k ≡ b → (b || list_any (λ y. bytes_eq y k) ks) ≡ true → (j : ℕ) × (slice_get (x ∷ ks) j ≡ Some k)) [
      | true ↦ λ same _. (0, ap Some ((bytes_eq-Decides x k).0 same))
      | false ↦ λ _ later. let (j, at) = among_place ks k later in (suc j, at)
    ] refl e

mapped : (o : Option RightSlot) (c : Cell) → option_map (λ x. x.cell) o ≡ Some c → (x : RightSlot) × (o ≡ Some x)
mapped None c e = absurd cc
mapped (Some x) c e = (x, refl)

-- a number with a right cell is below the count of slots
pub right_within : (r : Rights) (k : ℕ) (c : Cell) → right_cell r k ≡ Some c → k < length r.slots
right_within r k c e = let (x, at) = mapped (slice_get r.slots k) c e in slice_get_within r.slots k x at

-- ---- statement numbers in right outcomes are below 1000

few_of : (x : Txn) (e : Ended) → ((fault : Reason × ℕ) → e ≡ Err fault → fault.1 < 1000) → stmt_of (outcome_of e) < 1000
few_of x (Ok run) f = omega arith
few_of x (Err fault) f = f fault refl

pub short_outcome : (b : Batch) (i : ℕ) (o : Outcome) → slice_get (rights_of b).outcomes i ≡ Some o → stmt_of o < 1000
short_outcome b i o e =
    let within = slice_get_within (rights_of b).outcomes i o e in
    let long = outcomes_long b in
    let (x, at) = there (txns_of b) i (omega arith) in
    let keeps = usable_at (txns_of b) b.batched.formed i x at in
    let before : Look = state (base_of b) (txns_of b) i in
    let same : outcome_of (body before x) ≡ o = same_Some (outcome_of (body before x)) o (sym (outcome_right b i x at) ∙ e) in
    subst (λ (z : Outcome). stmt_of z < 1000) same
    (few_of x (body before x) (λ fault h. let few = keeps.few_stmts in omega (arith, fault_within x.edition before fresh 1 x.body fault h)))
