-- A window's fault as a fault of the whole text, where windows follow one another.
use Rattle.std.proofs.Common.{◌≡◌, inl, inr, ℕ, ◌≤◌, List, [], ◌∷◌, ◌++◌, length}
use Rattle.std.proofs.Common.{Result, Ok, Err, subst, sym, arith, append-nil}
use Rattle.bohm_types.specs.declared.edition.Edition.{Edition}
use Rattle.bohm_types.specs.Document.{Document}
use Rattle.bohm_text.specs.declared.windows.Chunk.{Chunk}
use Rattle.bohm_text.specs.declared.fault.WindowFault.{WindowFault}
use Rattle.bohm_text.specs.declared.fault.WindowFault.TheVariants as windows
use Rattle.bohm_text.specs.Cut.{whole_lines}
use Rattle.bohm_text.specs.Faults.{IsFirstBadLine}
use Rattle.bohm_text.specs.Windows.{IsWindow}
use Rattle.bohm_text.specs.Windowing.{IsWhole, ReadsWindow, IsChunkOf, IsTextOf}
use Rattle.bohm_text.proofs.ForCallers.{lines_short, bad_placed, short_placed, open_placed}
use Rattle.bohm_reading.specs.declared.fault.ReadingFault.{ReadingFault}
use Rattle.bohm_reading.specs.declared.fault.ReadingFault.TheVariants.{Read, TooLong, Line, Short, NoMemory}
use Rattle.bohm_reading.specs.declared.window.Window.{Window}
use Rattle.bohm_reading.specs.InOrder.{bytes_of, AreInOrder, IsBadAt, IsOpenAt, RefusesWindow, RefusesText}

-- ---- numbers of lines, and faults

pub chunk_short : (e : Edition) (w : List ℕ) (r : Result Chunk WindowFault) (chunk : Chunk) → ReadsWindow e w r → r ≡ Ok chunk → chunk.lines ≤ length w
chunk_short e w r chunk read is =
    let h : IsChunkOf e w chunk = subst (ReadsWindow e w) is read in
    omega (arith, h.lines, lines_short w)

pub open_short : (e : Edition) (w : List ℕ) (fault : WindowFault) (n : ℕ) → ReadsWindow e w (Err fault) → fault ≡ windows.Open n → n ≤ length w
open_short e w fault n read is =
    let h = subst (λ (f : WindowFault). ReadsWindow e w (Err f)) is read in
    omega (arith, h.lines, lines_short w)

bad_told : (bytes window rest : List ℕ) (b n : ℕ) (d : Document) → IsTextOf bytes b d → IsWindow window → IsBadAt d.edition window b n
    → IsFirstBadLine (whole_lines (bytes ++ (window ++ rest))) n
bad_told bytes window rest b n d so_far begins h =
    subst (λ (m : ℕ). IsFirstBadLine (whole_lines (bytes ++ (window ++ rest))) m) (sym h.same) (bad_placed bytes b d window rest h.line so_far begins h.bad)

open_told : (bytes window rest : List ℕ) (b n : ℕ) (d : Document) → IsTextOf bytes b d → IsWindow window → IsWhole window → IsWindow rest
    → IsOpenAt d.edition window b n → IsFirstBadLine (whole_lines (bytes ++ (window ++ rest))) n
open_told bytes window rest b n d so_far begins whole next h = subst (λ (m : ℕ). IsFirstBadLine (whole_lines (bytes ++ (window ++ rest))) m) (sym h.same)
    (open_placed bytes b d window rest h.lines so_far begins whole h.opened next)

pub told : (w : Window) (ws : List Window) (tail bytes : List ℕ) (b : ℕ) (d : Document) → IsTextOf bytes b d → AreInOrder (w ∷ ws) tail → (fault : ReadingFault)
    → RefusesWindow d.edition w.text.items w.last b fault → RefusesText (bytes ++ (w.text.items ++ (bytes_of ws ++ tail))) fault
told w ws tail bytes b d so_far order (Line n) refused =
    elim refused [
      | inl h ↦ bad_told bytes w.text.items (bytes_of ws ++ tail) b n d so_far order.0 h
      | inr h ↦ let inner = order.1 h.0 in open_told bytes w.text.items (bytes_of ws ++ tail) b n d so_far order.0 inner.0 inner.1 h.1
    ]
told w ws tail bytes b d so_far order Short refused =
    let none : bytes_of ws ++ tail ≡ [] = order.2 refused.0 in
    rw (none, append-nil w.text.items) (short_placed bytes b d w.text.items refused.1.lines so_far order.0 refused.1.opened)
told w ws tail bytes b d so_far order Read refused = absurd refused
told w ws tail bytes b d so_far order TooLong refused = absurd refused
told w ws tail bytes b d so_far order NoMemory refused = tt
