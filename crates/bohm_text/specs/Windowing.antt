-- The results of reading a text in windows.
use Rattle.std.specs.Prelude.{◌≡◌, ℕ, ◌+◌, ◌≤◌, List, length, Result, Ok, Err}
use Rattle.bohm_types.specs.declared.edition.Edition.{Edition}
use Rattle.bohm_types.specs.Document.{Document}
use Rattle.bohm_types.specs.Sound.{IsDocument}
use Rattle.bohm_text.specs.declared.fault.WindowFault.{WindowFault}
use Rattle.bohm_text.specs.declared.fault.WindowFault.TheVariants.{Line, Open, NoMemory}
use Rattle.bohm_text.specs.declared.windows.Chunk.{Chunk}
use Rattle.bohm_text.specs.declared.windows.FirstWindow.{FirstWindow}
use Rattle.bohm_text.specs.Print.{text_of, print_doc}
use Rattle.bohm_text.specs.Cut.{whole_lines}
use Rattle.bohm_text.specs.Faults.{IsFirstBadLine, IsShort}
use Rattle.bohm_text.specs.Windows.{segment, headed}

-- the text is empty or ends with a newline
abbrev pub IsWhole : List ℕ → Type 0
IsWhole text = text_of (whole_lines text) ≡ text

-- the window is the text of the chunk's transactions
pub record IsChunkOf (e : Edition) (window : List ℕ) (chunk : Chunk) : Type 0 where
  pub sound : IsDocument (segment e chunk.log)
  pub print : print_doc (segment e chunk.log) ≡ headed e window
  pub lines : chunk.lines ≡ length (whole_lines window)

-- line n of the window, counted from 1, is the first line such that the lines up to it begin no transactions
pub record IsBadWindow (e : Edition) (window : List ℕ) (n : ℕ) : Type 0 where
  pub line : IsFirstBadLine (whole_lines (headed e window)) (n + 1)
  pub within : n ≤ length window

-- the window's lines begin transactions, but the window isn't a text of complete transactions
pub record IsOpenWindow (e : Edition) (window : List ℕ) (n : ℕ) : Type 0 where
  pub short : IsShort (headed e window)
  pub lines : n ≡ length (whole_lines window)

abbrev pub ReadsWindow : Edition → List ℕ → Result Chunk WindowFault → Type 0
ReadsWindow e window (Ok chunk) = IsChunkOf e window chunk
ReadsWindow e window (Err (Line n)) = IsBadWindow e window n
ReadsWindow e window (Err (Open n)) = IsOpenWindow e window n
ReadsWindow e window (Err NoMemory) = Unit {0}

-- the bytes, which have this many lines, are the document's text
pub record IsTextOf (bytes : List ℕ) (count : ℕ) (d : Document) : Type 0 where
  pub sound : IsDocument d
  pub print : print_doc d ≡ bytes
  pub lines : count ≡ length (whole_lines bytes)

-- the document in a text's first window
abbrev pub document_of_first : FirstWindow → Document
document_of_first w = record { edition = w.edition; store = w.store.items; log = w.chunk.log }

-- the first window begins a document, and ends within a transaction, the store or the head
pub record IsOpenFirst (text : List ℕ) (n : ℕ) : Type 0 where
  pub short : IsShort text
  pub lines : n ≡ length (whole_lines text)

abbrev pub ReadsFirst : List ℕ → Result FirstWindow WindowFault → Type 0
ReadsFirst text (Ok first) = IsTextOf text first.chunk.lines (document_of_first first)
ReadsFirst text (Err (Line n)) = IsFirstBadLine (whole_lines text) n
ReadsFirst text (Err (Open n)) = IsOpenFirst text n
ReadsFirst text (Err NoMemory) = Unit {0}
