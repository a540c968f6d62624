-- Cells at the indices of their accesses, up to the current index of a loop.
use Rattle.std.proofs.Common.{◌≡◌, ◌≢◌, ℕ, ◌+◌, ◌<◌, List, length, set, take, None, Some, refl, sym, ap, ◌∙◌, subst, arith}
use Rattle.std.specs.Prelude.{Contains}
use Rattle.std.specs.List.{slice_get}
use Rattle.std.proofs.lemmas.Option.{same_Some, slice_get_within, slice_get-get_or}
use mathlib.Core.Logic.{dite}
use native.Mathlib.Decide.{ℕ_discrete}
use Rattle.bohm_types.specs.declared.cell.Cell.{Cell}
use Rattle.bohm_place.specs.declared.access.Access.{Access}
use Rattle.bohm_place.specs.declared.access.Source.{Source}
use Rattle.bohm_place.specs.declared.access.Source.TheVariants.{Before, Within}
use Rattle.bohm_place.specs.declared.declared_set.DeclaredSet.{DeclaredSet}
use Rattle.bohm_place.proofs.ForCallers.{set_same, set_other, in_take}
use Rattle.bohm_board.specs.declared.batch.Batch.{Batch}
use Rattle.bohm_board.specs.declared.slot.Slot.{Slot}
use Rattle.bohm_board.specs.declared.knowledge.View.{View}
use Rattle.bohm_board.specs.Batches.{IsIn, IsRightCell, accesses_in, slot_in}
use Rattle.bohm_board.specs.Passes.{IsKnown, Keeps}
use Rattle.bohm_board.proofs.ForCallers.{IsEarlier, contains_at, still_known, wanted_earlier}
use Rattle.bohm_exec.specs.Handed.{WantsAllOf, KnowsAll, AreFound, TakesSlot, slot_from, slot_of}

-- ---- lists

pub place : {A : Type 0} (xs : List A) (x : A) → Contains xs x → (j : ℕ) × (slice_get xs j ≡ Some x)
place xs x c = (c.0, slice_get-get_or xs c.0 x c.1 ∙ ap Some c.2)

-- a version of the batch that a wanted access takes is made by an earlier transaction
pub earlier_at : (b : Batch) (t : ℕ) (keys : DeclaredSet) (n : ℕ) (a : Access) (u : ℕ) → IsIn b t → WantsAllOf b t keys
    → slice_get (accesses_in keys b t) n ≡ Some a → a.source ≡ Within u → IsEarlier b t a u
earlier_at b t keys n a u is wants at source = wanted_earlier b t a u is (wants a (contains_at (accesses_in keys b t) n a at)) source

before_of : (x : Source) (j : ℕ) → None ≡ slot_from x j → x ≡ Before
before_of Before j e = refl
before_of (Within u) j e = cc

within_of : (x : Source) (j : ℕ) (s : Slot) → Some s ≡ slot_from x j → (x ≡ Within s.txn) × (slot_of s.txn j ≡ s)
within_of Before j s e = cc
within_of (Within u) j s e =
    let same : slot_of u j ≡ s = same_Some (slot_of u j) s (sym e) in
    (ap (λ (z : Slot). Within z.txn) same, ap (λ (z : Slot). slot_of z.txn j) (sym same) ∙ same)

-- the access takes no slot: its version is from before the batch
pub taken_before : (accesses : List Access) (n : ℕ) (e : TakesSlot accesses n None) → e.access.source ≡ Before
taken_before accesses n e = before_of e.access.source e.access.index e.taken

-- the access takes a slot: its version is of the batch, in that slot
pub taken_within : (accesses : List Access) (n : ℕ) (s : Slot) (e : TakesSlot accesses n (Some s))
    → (e.access.source ≡ Within s.txn) × (slot_in s.txn e.access ≡ s)
taken_within accesses n s e = within_of e.access.source e.access.index s e.taken

-- ---- the accesses before an index: slots that are known, and cells that are right

abbrev pub KnownBelow : Batch → View → List Access → ℕ → Type 0
KnownBelow b v accesses n = (j : ℕ) (a : Access) (u : ℕ) → j < n → slice_get accesses j ≡ Some a → a.source ≡ Within u → IsKnown b v (slot_in u a)

abbrev pub FoundBelow : Batch → List Access → List Cell → ℕ → Type 0
FoundBelow b accesses cells n = (j : ℕ) (a : Access) (u : ℕ) (c : Cell) → j < n → slice_get accesses j ≡ Some a → a.source ≡ Within u
    → slice_get cells j ≡ Some c → IsRightCell b (slot_in u a) c

pub known_next : (b : Batch) (v w : View) (accesses : List Access) (n : ℕ) (a : Access) → Keeps v w → KnownBelow b v accesses n
    → slice_get accesses n ≡ Some a → ((u : ℕ) → a.source ≡ Within u → IsKnown b w (slot_in u a)) → KnownBelow b w accesses (n + 1)
known_next b v w accesses n a keeps below at here = λ j x u l at_j is. dite (ℕ_discrete j n)
    (λ e. let same : a ≡ x = same_Some a x (sym at ∙ (ap (slice_get accesses) (sym e) ∙ at_j)) in
    subst (λ (y : Access). y.source ≡ Within u → IsKnown b w (slot_in u y)) same (here u) is)
    (λ ne. still_known b v w (slot_in u x) keeps (below j x u (omega arith) at_j is))

found_next : (b : Batch) (accesses : List Access) (old new : List Cell) (n : ℕ) (a : Access) → ((j : ℕ) → j ≢ n → slice_get new j ≡ slice_get old j)
    → FoundBelow b accesses old n → slice_get accesses n ≡ Some a
    → ((u : ℕ) (c : Cell) → a.source ≡ Within u → slice_get new n ≡ Some c → IsRightCell b (slot_in u a) c) → FoundBelow b accesses new (n + 1)
found_next b accesses old new n a kept below at here = λ j x u c l at_j is cell. dite (ℕ_discrete j n)
    (λ e. let same : a ≡ x = same_Some a x (sym at ∙ (ap (slice_get accesses) (sym e) ∙ at_j)) in
    subst (λ (y : Access). y.source ≡ Within u → IsRightCell b (slot_in u y) c) same (λ source. here u c source (ap (slice_get new) (sym e) ∙ cell)) is)
    (λ ne. below j x u c (omega arith) at_j is (sym (kept j ne) ∙ cell))

pub not_both : (s : Source) (u : ℕ) → s ≡ Before → s ≡ Within u → ⊥
not_both s u is_before is_within = cc

same_within : (s : Source) (u w : ℕ) → s ≡ Within u → s ≡ Within w → u ≡ w
same_within s u w e f = cc

-- an access whose version is from before the batch requires no slot to be known
pub known_base : (b : Batch) (v : View) (accesses : List Access) (n : ℕ) (a : Access) → Keeps v v → KnownBelow b v accesses n → slice_get accesses n ≡ Some a
    → a.source ≡ Before → KnownBelow b v accesses (n + 1)
known_base b v accesses n a keeps below at is = known_next b v v accesses n a keeps below at (λ u other. absurd (not_both a.source u is other))

pub found_base : (b : Batch) (accesses : List Access) (cells : List Cell) (n : ℕ) (a : Access) → FoundBelow b accesses cells n → slice_get accesses n ≡ Some a
    → a.source ≡ Before → FoundBelow b accesses cells (n + 1)
found_base b accesses cells n a below at is = found_next b accesses cells cells n a (λ j ne. refl) below at
    (λ u c other _. absurd (not_both a.source u is other))

-- an access whose version is of the batch requires its slot to have been seen filled
pub known_within : (b : Batch) (v w : View) (accesses : List Access) (n : ℕ) (a : Access) (u : ℕ) → Keeps v w → KnownBelow b v accesses n
    → slice_get accesses n ≡ Some a → a.source ≡ Within u → IsKnown b w (slot_in u a) → KnownBelow b w accesses (n + 1)
known_within b v w accesses n a u keeps below at is here =
    known_next b v w accesses n a keeps below at (λ x other. subst (λ (z : ℕ). IsKnown b w (slot_in z a)) (same_within a.source u x is other) here)

pub found_within : (b : Batch) (accesses : List Access) (cells : List Cell) (n : ℕ) (a : Access) (u : ℕ) (c : Cell) → n < length cells
    → FoundBelow b accesses cells n → slice_get accesses n ≡ Some a → a.source ≡ Within u → IsRightCell b (slot_in u a) c
    → FoundBelow b accesses (set cells n c) (n + 1)
found_within b accesses cells n a u c inside below at is right = found_next b accesses cells (set cells n c) n a (λ j ne. set_other cells n j c ne) below at
    (λ x d other cell.
    let same : c ≡ d = same_Some c d (sym (set_same cells n c inside) ∙ cell) in
    subst (λ (z : ℕ × Cell). IsRightCell b (slot_in z.0 a) z.1) (λ i. (same_within a.source u x is other i, same i)) right)

pub knows_all : (b : Batch) (v : View) (accesses : List Access) (n : ℕ) → length accesses ≡ n → KnownBelow b v accesses n → KnowsAll b v accesses
knows_all b v accesses n long below = λ a u in_it is.
    let (j, at) = place accesses a in_it in
    let within = slice_get_within accesses j a at in
    below j a u (omega arith) at is

pub are_found : (b : Batch) (accesses : List Access) (cells : List Cell) (n : ℕ) → length accesses ≡ n → FoundBelow b accesses cells n
    → AreFound b accesses cells
are_found b accesses cells n long below = λ j a u c at is cell.
    let within = slice_get_within accesses j a at in
    below j a u c (omega arith) at is cell

pub found_front : (b : Batch) (accesses : List Access) (cells : List Cell) (n : ℕ) → AreFound b accesses cells → AreFound b accesses (take n cells)
found_front b accesses cells n found = λ j a u c at is cell. found j a u c at is (in_take cells n j c cell)
