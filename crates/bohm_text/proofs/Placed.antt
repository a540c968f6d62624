-- A window after the text of a document.
use Rattle.std.proofs.Common.{◌≡◌, ℕ, suc, ◌+◌, ◌-◌, ◌≤◌, take, List, [], ◌∷◌, ◌++◌, length, ap, sym, subst, ◌∙◌, arith, append_assoc, length-append, Err}
use Rattle.std.proofs.lemmas.List.{append-nil, take-append-le}
use Rattle.std.specs.Prelude.{codes, ◌==◌, Bool, true, false, cond}
use Rattle.bohm_types.specs.declared.edition.Edition.{Edition}
use Rattle.bohm_types.specs.Document.{Document}
use Rattle.bohm_text.specs.declared.windows.Chunk.{Chunk}
use Rattle.bohm_text.specs.Print.{text_of, print_doc}
use Rattle.bohm_text.specs.Cut.{onto_first, whole_lines}
use Rattle.bohm_text.proofs.Cutting.{length-onto_first}
use Rattle.bohm_text.specs.Front.{text_lines, Front}
use Rattle.bohm_text.specs.Faults.{IsFirstBadLine, IsShort}
use Rattle.bohm_text.specs.Windows.{with_log, head_line, headed, IsWindow}
use Rattle.bohm_text.specs.Windowing.{IsWhole, ReadsFirst, ReadsWindow, IsChunkOf, IsBadWindow, IsOpenWindow, IsTextOf}
use Rattle.bohm_text.proofs.WindowLaws.{lines_begin, lines_on, headed_lines, window_found, window_line, window_short}
use Rattle.bohm_text.proofs.OpenLaws.{open_line}
use Rattle.bohm_text.proofs.TextLaws.{bad_line, short, lines_of_text}
use Rattle.bohm_text.specs.Parse.{ReadsBehind, ReadsText, text_fault_of}
use Rattle.bohm_text.specs.declared.fault.TextFault.TheVariants as texts
use Rattle.bohm_text.specs.declared.fault.WindowFault.{WindowFault}
use Rattle.bohm_text.specs.declared.fault.WindowFault.TheVariants.{Line, Open, NoMemory}

pub chunk_placed : (bytes : List ℕ) (lines : ℕ) (d : Document) (window : List ℕ) (chunk : Chunk) → IsTextOf bytes lines d → IsChunkOf d.edition window chunk
    → IsTextOf (bytes ++ window) (lines + chunk.lines) (with_log d chunk.log)
chunk_placed bytes lines d window chunk so_far is =
    let both = window_found d so_far.sound chunk.log window is.sound is.print in
    let all : whole_lines (bytes ++ window) ≡ text_lines d ++ whole_lines window =
    ap (λ (b : List ℕ). whole_lines (b ++ window)) (sym so_far.print) ∙ lines_on d so_far.sound window in
    let before : whole_lines bytes ≡ text_lines d = ap whole_lines (sym so_far.print) ∙ lines_of_text d so_far.sound in
    record {
      sound = both.0;
      print = both.1 ∙ ap (λ (b : List ℕ). b ++ window) so_far.print;
      lines = omega (arith, so_far.lines, is.lines, ap length all, ap length before, length-append (text_lines d) (whole_lines window));
    }

pub bad_placed : (bytes : List ℕ) (lines : ℕ) (d : Document) (window rest : List ℕ) (n : ℕ) → IsTextOf bytes lines d → IsWindow window
    → IsBadWindow d.edition window n → IsFirstBadLine (whole_lines (bytes ++ (window ++ rest))) (lines + n)
bad_placed bytes lines d window rest n so_far begins is =
    let count : length (whole_lines (print_doc d)) + n ≡ lines + n = omega (arith, so_far.lines, ap (λ (b : List ℕ). length (whole_lines b)) so_far.print) in
    subst (λ (m : ℕ). IsFirstBadLine (whole_lines (bytes ++ (window ++ rest))) m) count
    (subst (λ (b : List ℕ). IsFirstBadLine (whole_lines (b ++ (window ++ rest))) (length (whole_lines (print_doc d)) + n)) so_far.print
    (window_line d so_far.sound window rest begins n is.line))

pub short_placed : (bytes : List ℕ) (lines : ℕ) (d : Document) (window : List ℕ) (n : ℕ) → IsTextOf bytes lines d → IsWindow window
    → IsOpenWindow d.edition window n → IsShort (bytes ++ window)
short_placed bytes lines d window n so_far begins is =
    subst (λ (b : List ℕ). IsShort (b ++ window)) so_far.print (window_short d so_far.sound window begins is.short)

whole_headed : (e : Edition) (window : List ℕ) → IsWhole window → IsWhole (headed e window)
whole_headed e window whole = ap text_of (headed_lines e window) ∙ ap (λ (t : List ℕ). (head_line e ++ 10 ∷ []) ++ t) whole

pub lines_short : (text : List ℕ) → length (whole_lines text) ≤ length text
unfolding whole_lines
lines_short [] = omega arith
lines_short (b ∷ bs) =
    elim (b == 10) as (λ (t : Bool). length (cond t ([] ∷ whole_lines bs) (onto_first b (whole_lines bs))) ≤ suc (length bs)) [
      | true ↦ omega (arith, lines_short bs)
      | false ↦ omega (arith, lines_short bs, length-onto_first b (whole_lines bs))
    ]

pub longer : (window rest : List ℕ) → IsWindow window → IsWindow (window ++ rest)
longer window rest w = record { behind = w.behind ++ rest; begins = ap (λ (t : List ℕ). t ++ rest) w.begins ∙ append_assoc (codes "txn") (10 ∷ w.behind) rest }

pub open_placed : (bytes : List ℕ) (lines : ℕ) (d : Document) (window rest : List ℕ) (n : ℕ) → IsTextOf bytes lines d → IsWindow window → IsWhole window
    → IsOpenWindow d.edition window n → IsWindow rest → IsFirstBadLine (whole_lines (bytes ++ (window ++ rest))) (lines + (n + 1))
open_placed bytes lines d window rest n so_far begins whole is next =
    let count : length (whole_lines (headed d.edition window)) + 1 ≡ n + 1 + 1 = omega (arith, is.lines, ap length (headed_lines d.edition window)) in
    let alone : IsFirstBadLine (whole_lines (headed d.edition (window ++ rest))) (n + 1 + 1) =
    subst (λ (m : ℕ). IsFirstBadLine (whole_lines (headed d.edition (window ++ rest))) m) count
    (subst (λ (t : List ℕ). IsFirstBadLine (whole_lines t) (length (whole_lines (headed d.edition window)) + 1))
    (append_assoc (head_line d.edition ++ 10 ∷ []) window rest)
    (open_line (headed d.edition window) rest (whole_headed d.edition window whole) is.short next)) in
    let within : n + 1 ≤ length (window ++ rest) = omega (arith, is.lines, lines_short window, ap length next.begins, length-append window rest) in
    subst (λ (t : List ℕ). IsFirstBadLine (whole_lines (bytes ++ t)) (lines + (n + 1))) (append-nil (window ++ rest))
    (bad_placed bytes lines d (window ++ rest) [] (n + 1) so_far (longer window rest begins) (record { line = alone; within = within }))

-- ---- faults of windows and of whole texts

pub window_fault : (e : Edition) (text : List ℕ) (fault : WindowFault) → ReadsBehind e text (Err fault) → ReadsWindow e text (Err fault)
window_fault e text (Line n) h = record { line = bad_line (whole_lines (headed e text)) (n + 1) h.0; within = h.1 }
window_fault e text (Open n) h = record { short = short (headed e text) h.0; lines = h.1 }
window_fault e text NoMemory h = tt

pub first_fault : (text : List ℕ) (fault : WindowFault) → ReadsText text (Err fault) → ReadsFirst text (Err fault)
first_fault text (Line n) h = bad_line (whole_lines text) n h
first_fault text (Open n) h = record { short = short text h.0; lines = h.1 }
first_fault text NoMemory h = tt

-- the fault of a whole text names its first bad line, or says that the text is short
pub line_told : (text : List ℕ) (fault : WindowFault) (n : ℕ) → text_fault_of fault ≡ texts.Line n → ReadsText text (Err fault)
    → IsFirstBadLine (whole_lines text) n
line_told text (Line m) n e h = let same : m ≡ n = cc in subst (IsFirstBadLine (whole_lines text)) same (bad_line (whole_lines text) m h)
line_told text (Open m) n e h = absurd cc
line_told text NoMemory n e h = absurd cc

pub short_told : (text : List ℕ) (fault : WindowFault) → text_fault_of fault ≡ texts.Short → ReadsText text (Err fault) → IsShort text
short_told text (Line m) e h = absurd cc
short_told text (Open m) e h = short text h.0
short_told text NoMemory e h = absurd cc

-- the first bad line stays the first one if more bytes follow
pub bad_begins : (text rest : List ℕ) (n : ℕ) → IsFirstBadLine (whole_lines text) n → IsFirstBadLine (whole_lines (text ++ rest)) n
bad_begins text rest n h =
    let next = lines_begin text rest in
    let lines : List (List ℕ) = whole_lines text in
    rw next.1 record {
      counted = h.counted;
      within = omega (arith, h.within, length-append lines next.0);
      before = rw (take-append-le (n - 1) lines next.0 (omega (arith, h.within))) h.before;
      bad = λ (begins : Front (take n (lines ++ next.0))). h.bad (subst Front (take-append-le n lines next.0 h.within) begins);
    }
