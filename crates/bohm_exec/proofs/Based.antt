-- The cells of all accesses, including cells of the base, and the cells of a transaction's slots.
use Rattle.std.proofs.Common.{◌≡◌, ◌≢◌, ℕ, zero, suc, ◌+◌, ◌-◌, ◌<◌, List, [], ◌∷◌, ◌++◌, length, set, Some, refl, sym, ap, ◌∙◌, subst, arith}
use Rattle.std.specs.Prelude.{ℤ, unwrap_or}
use Rattle.std.specs.List.{slice_get}
use Rattle.std.proofs.lemmas.Option.{same_Some}
use mathlib.Core.Logic.{dite}
use native.Mathlib.Decide.{ℕ_discrete}
use Rattle.bohm_types.specs.declared.cell.Cell.{Cell}
use Rattle.bohm_place.specs.declared.access.Access.{Access}
use Rattle.bohm_place.specs.declared.access.Source.{Source}
use Rattle.bohm_place.specs.declared.access.Source.TheVariants.{Before, Within}
use Rattle.bohm_place.proofs.ForCallers.{set_same, set_other}
use Rattle.bohm_board.specs.declared.batch.Batch.{Batch}
use Rattle.bohm_board.specs.Batches.{IsRightCell, base_of, slot_in}
use Rattle.bohm_board.specs.Inputs.{IsCellFrom, IsCellOf}
use Rattle.bohm_board.specs.Serial.{show_cells}
use Rattle.bohm_exec.specs.Handed.{AreFound}
use Rattle.bohm_exec.specs.Moments.{shown}
use Rattle.bohm_exec.proofs.Seen.{not_both}
use Rattle.bohm_exec.proofs.Serials.{show_at}

abbrev pub CellsBelow : Batch → List (List ℕ) → List Access → List Cell → ℕ → Type 0
CellsBelow b keys accesses cells n = (j : ℕ) (k : List ℕ) (a : Access) (c : Cell) → j < n → slice_get keys j ≡ Some k → slice_get accesses j ≡ Some a
    → slice_get cells j ≡ Some c → IsCellOf b k a c

-- the base's cell of a key is right for an access whose source is `Before`
pub from_base : (b : Batch) (k : List ℕ) (index : ℕ) (s : Source) (c : Cell) → s ≡ Before → c ≡ base_of b k → IsCellFrom b k index c s
from_base b k index s c is e = subst (λ (z : Source). IsCellFrom b k index c z) (sym is) e

pub from_within : (b : Batch) (k : List ℕ) (a : Access) (u : ℕ) (c : Cell) → a.source ≡ Within u → IsRightCell b (slot_in u a) c → IsCellOf b k a c
from_within b k a u c is right = subst (λ (z : Source). IsCellFrom b k a.index c z) (sym is) right

pub cells_next : (b : Batch) (keys : List (List ℕ)) (accesses : List Access) (old new : List Cell) (n : ℕ) (k : List ℕ) (a : Access)
    → ((j : ℕ) → j ≢ n → slice_get new j ≡ slice_get old j) → CellsBelow b keys accesses old n
    → slice_get keys n ≡ Some k → slice_get accesses n ≡ Some a → ((c : Cell) → slice_get new n ≡ Some c → IsCellOf b k a c)
    → CellsBelow b keys accesses new (n + 1)
cells_next b keys accesses old new n k a kept below at_key at here = λ j y x c l key_j at_j cell. dite (ℕ_discrete j n)
    (λ e.
    let same_key : k ≡ y = same_Some k y (sym at_key ∙ (ap (slice_get keys) (sym e) ∙ key_j)) in
    let same : a ≡ x = same_Some a x (sym at ∙ (ap (slice_get accesses) (sym e) ∙ at_j)) in
    subst (λ (z : List ℕ × Access). IsCellOf b z.0 z.1 c) (λ i. (same_key i, same i)) (here c (ap (slice_get new) (sym e) ∙ cell)))
    (λ ne. below j y x c (omega arith) key_j at_j (sym (kept j ne) ∙ cell))

-- writing the base's cell at index n, where the source is `Before`, makes the cells up to that index right
pub base_put : (b : Batch) (keys : List (List ℕ)) (accesses : List Access) (cells : List Cell) (n : ℕ) (k : List ℕ) (a : Access) (c : Cell) → n < length cells
    → CellsBelow b keys accesses cells n → slice_get keys n ≡ Some k → slice_get accesses n ≡ Some a
    → a.source ≡ Before → c ≡ base_of b k → CellsBelow b keys accesses (set cells n c) (n + 1)
base_put b keys accesses cells n k a c inside below at_key at is e =
    cells_next b keys accesses cells (set cells n c) n k a (λ j ne. set_other cells n j c ne) below at_key at
    (λ d here. let same : c ≡ d = same_Some c d (sym (set_same cells n c inside) ∙ here) in from_base b k a.index a.source d is (sym same ∙ e))

pub found_stays : (b : Batch) (accesses : List Access) (cells : List Cell) (n : ℕ) (a : Access) (c : Cell) → AreFound b accesses cells
    → slice_get accesses n ≡ Some a → a.source ≡ Before → AreFound b accesses (set cells n c)
found_stays b accesses cells n a c found at is = λ j x u d at_j source cell. dite (ℕ_discrete j n)
    (λ e. let same : a ≡ x = same_Some a x (sym at ∙ (ap (slice_get accesses) (sym e) ∙ at_j)) in
    absurd (not_both a.source u is (ap (λ (y : Access). y.source) same ∙ source)))
    (λ ne. found j x u d at_j source (sym (set_other cells n j c ne) ∙ cell))

-- at index n, where the source is `Within`, the cell is right already
pub within_there : (b : Batch) (keys : List (List ℕ)) (accesses : List Access) (cells : List Cell) (n : ℕ) (k : List ℕ) (a : Access) (u : ℕ)
    → AreFound b accesses cells → CellsBelow b keys accesses cells n → slice_get keys n ≡ Some k → slice_get accesses n ≡ Some a → a.source ≡ Within u
    → CellsBelow b keys accesses cells (n + 1)
within_there b keys accesses cells n k a u found below at_key at is =
    cells_next b keys accesses cells cells n k a (λ j ne. refl) below at_key at (λ c here. from_within b k a u c is (found n a u c at is here))

-- ---- the cells of a transaction's slots

pub own_at : (cells : List Cell) (n : ℕ) (shows : List ℤ) (j : ℕ) → j < length cells + n
    → slice_get (cells ++ show_cells n shows) j ≡ Some (unwrap_or (slice_get cells j) (shown shows (j - length cells)))
own_at [] n shows j l = let same : j - 0 ≡ j = omega arith in rw same (show_at n shows j (omega arith))
own_at (c ∷ cells) n shows zero l = refl
own_at (c ∷ cells) n shows (suc j) l = let same : suc j - suc (length cells) ≡ j - length cells = omega arith in rw same (own_at cells n shows j (omega arith))
