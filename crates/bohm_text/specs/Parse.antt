-- The results of reading a text.
use Rattle.std.specs.Prelude.{◌≡◌, ℕ, ◌+◌, ◌≤◌, List, ◌==◌, length, Option, Some, Result, Ok, Err}
use Rattle.std.specs.List.{position_from}
use Rattle.bohm_text.specs.declared.fault.TextFault.{TextFault}
use Rattle.bohm_text.specs.declared.fault.TextFault.TheVariants as texts
use Rattle.bohm_text.specs.declared.fault.WindowFault.{WindowFault}
use Rattle.bohm_text.specs.declared.fault.WindowFault.TheVariants.{Line, Open, NoMemory}
use Rattle.bohm_types.specs.declared.edition.Edition.{Edition}
use Rattle.bohm_text.specs.declared.reader.Reader.{Reader}
use Rattle.bohm_text.specs.Windows.{headed}
use Rattle.bohm_text.specs.Print.{text_of}
use Rattle.bohm_text.specs.Cut.{whole_lines}
use Rattle.bohm_text.specs.Stepping.{IsFirstRefused, IsLeftOpen}
use Rattle.bohm_text.specs.Step.{Nothing, Between, document_in, step, steps}

abbrev pub newline_in : List ℕ → Option ℕ
newline_in bytes = position_from (λ byte. byte == 10) 0 bytes

-- line n is the first line such that the complete lines up to it begin no document's text
abbrev pub IsFirstFault : List (List ℕ) → ℕ → Type 0
IsFirstFault = IsFirstRefused step Nothing

-- the complete lines begin some document's text, but the text isn't a document's
abbrev pub IsUnfinished : List ℕ → Type 0
IsUnfinished = IsLeftOpen step Nothing Between

-- the text's lines are all complete, and are the lines of the reader's document
abbrev pub IsReadAs : List ℕ → Reader → Type 0
IsReadAs text reader = (steps Nothing (whole_lines text) ≡ Some (Between (document_in reader))) × (text_of (whole_lines text) ≡ text)

-- the result of reading a document's text, with the number of its lines
abbrev pub ReadsText : List ℕ → Result (Reader × ℕ) WindowFault → Type 0
ReadsText text (Ok r) = IsReadAs text r.0 × (r.1 ≡ length (whole_lines text))
ReadsText text (Err (Line n)) = IsFirstFault (whole_lines text) n
ReadsText text (Err (Open n)) = IsUnfinished text × (n ≡ length (whole_lines text))
ReadsText text (Err NoMemory) = Unit {0}

-- the result of reading the lines after a head line, with their number
abbrev pub ReadsBehind : Edition → List ℕ → Result (Reader × ℕ) WindowFault → Type 0
ReadsBehind e text (Ok r) = IsReadAs (headed e text) r.0 × (r.1 ≡ length (whole_lines text))
ReadsBehind e text (Err (Line n)) = IsFirstFault (whole_lines (headed e text)) (n + 1) × (n ≤ length text)
ReadsBehind e text (Err (Open n)) = IsUnfinished (headed e text) × (n ≡ length (whole_lines text))
ReadsBehind e text (Err NoMemory) = Unit {0}

-- a window's fault as the fault of a whole text
abbrev pub text_fault_of : WindowFault → TextFault
text_fault_of (Line n) = texts.Line n
text_fault_of (Open n) = texts.Short
text_fault_of NoMemory = texts.NoMemory
