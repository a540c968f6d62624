-- A text with a bad line is no document's text.
use Rattle.std.proofs.Common.{◌≡◌, ℕ, List, take, drop, sym, ap, subst, ◌∙◌}
use Rattle.std.proofs.lemmas.List.{take-append-drop}
use Rattle.bohm_types.specs.Document.{Document}
use Rattle.bohm_types.specs.Sound.{IsDocument}
use Rattle.bohm_text.specs.Cut.{whole_lines}
use Rattle.bohm_text.specs.Faults.{IsFirstBadLine}
use Rattle.bohm_text.specs.Front.{Front, text_lines}
use Rattle.bohm_text.specs.Print.{print_doc}
use Rattle.bohm_text.proofs.ForCallers.{lines_of_text}

front : (d : Document) (n : ℕ) → IsDocument d → Front (take n (text_lines d))
front d n sound = record { document = d; sound = sound; more = drop n (text_lines d); begins = sym (take-append-drop n (text_lines d)) }

pub no_text : (text : List ℕ) (n : ℕ) → IsFirstBadLine (whole_lines text) n → (d : Document) → IsDocument d → print_doc d ≡ text → ⊥
no_text text n bad d sound same =
    let lines : text_lines d ≡ whole_lines text = sym (lines_of_text d sound) ∙ ap whole_lines same in
    bad.bad (subst (λ (ls : List (List ℕ)). Front (take n ls)) lines (front d n sound))
