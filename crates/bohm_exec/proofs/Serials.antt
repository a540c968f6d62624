-- Right outcomes and cells are those of the serial run.
use Rattle.std.proofs.Common.{◌≡◌, ℕ, zero, suc, ◌+◌, ◌<◌, List, [], ◌∷◌, length, Some, refl, ap, sym, ◌∙◌, arith, add-one}
use Rattle.std.specs.Prelude.{ℤ}
use Rattle.std.specs.List.{slice_get}
use Rattle.std.proofs.lemmas.Option.{same_Some}
use Rattle.bohm_types.specs.declared.cell.Cell.{Cell}
use Rattle.bohm_types.specs.Txn.{Txn}
use Rattle.bohm_txn.specs.declared.outcome.Outcome.{Outcome}
use Rattle.bohm_txn.specs.Declares.{shows_in}
use Rattle.bohm_txn.specs.Meaning.{Look, body}
use Rattle.bohm_txn.specs.Serial.{after, outcome_of, shows_of}
use Rattle.bohm_txn.proofs.ForCallers.{next}
use Rattle.bohm_board.specs.declared.batch.Batch.{Batch}
use Rattle.bohm_place.specs.Slots.{offset}
use Rattle.bohm_board.specs.Serial.{show_cells}
use Rattle.bohm_board.specs.Batches.{txns_of, base_of, position, txn_at, rights_of, right_cell, IsRightCell, IsRightOutcome}
use Rattle.bohm_board.proofs.ForCallers.{own_right, outcome_right, own_write, own_show}
use Rattle.bohm_exec.specs.Handed.{slot_of}
use Rattle.bohm_exec.specs.Moments.{state_before, state_after, shown, IsSerialOutcome, IsSerialCell, IsSerialShow}

pub serial_outcome : (b : Batch) (t : ℕ) (o : Outcome) → IsRightOutcome b t o → IsSerialOutcome b t o
serial_outcome b t o right = λ x at. same_Some (outcome_of (body (state_before b t) x)) o (sym (outcome_right b (position b t) x at) ∙ right)

next_state : (b : Batch) (t : ℕ) (x : Txn) (k : List ℕ) → txn_at b t ≡ Some x → state_after b t k ≡ after (state_before b t) x k
next_state b t x k at = rw add-one (ap (λ (look : Look). look k) (next (base_of b) (txns_of b) (position b t) x at))

pub serial_cell : (b : Batch) (t j : ℕ) (c : Cell) → IsRightCell b (slot_of t j) c → IsSerialCell b t j c
serial_cell b t j c right = λ x k at key.
    let own : right_cell (rights_of b) (offset (txns_of b) (position b t) + j) ≡ Some (after (state_before b t) x k) =
    own_right b (position b t) x at j (after (state_before b t) x k) (own_write (state_before b t) x j k key) in
    next_state b t x k at ∙ same_Some (after (state_before b t) x k) c (sym own ∙ right)

-- the cell of a `show` is the value that it shows, or absence
pub show_at : (n : ℕ) (zs : List ℤ) (j : ℕ) → j < n → slice_get (show_cells n zs) j ≡ Some (shown zs j)
show_at zero zs j l = absurd (omega arith)
show_at (suc n) [] zero l = refl
show_at (suc n) [] (suc j) l = show_at n [] j (omega arith)
show_at (suc n) (z ∷ zs) zero l = refl
show_at (suc n) (z ∷ zs) (suc j) l = show_at n zs j (omega arith)

pub serial_show : (b : Batch) (t j : ℕ) (c : Cell) (y : Txn) → txn_at b t ≡ Some y → j < shows_in y.body → IsRightCell b (slot_of t (length y.writes + j)) c
    → IsSerialShow b t j c
serial_show b t j c y there below right = λ x at.
    let same : y ≡ x = same_Some y x (sym there ∙ at) in
    let looks = state_before b t in
    let own : right_cell (rights_of b) (offset (txns_of b) (position b t) + (length y.writes + j)) ≡ Some (shown (shows_of (body (state_before b t) y)) j) =
    own_right b (position b t) y there (length y.writes + j) (shown (shows_of (body (state_before b t) y)) j)
    (own_show (state_before b t) y j ∙ show_at (shows_in y.body) (shows_of (body (state_before b t) y)) j below) in
    ap (λ (z : Txn). shown (shows_of (body (state_before b t) z)) j) (sym same) ∙ same_Some (shown (shows_of (body (state_before b t) y)) j) c (sym own ∙ right)
