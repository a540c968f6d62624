-- The reading side of a run.
use Rattle.std.specs.Prelude.{◌≡◌, ◌⊎◌, ℕ, ◌<◌, List, [], ◌∷◌, ◌++◌, false, length, Option}
use Rattle.bohm_types.specs.Document.{Document}
use Rattle.bohm_text.specs.Print.{print_doc}
use Rattle.bohm_text.specs.declared.windows.Chunk.{Chunk}
use Rattle.bohm_reading.specs.declared.fault.ReadingFault.{ReadingFault}
use Rattle.bohm_reading.specs.Reading.{IsReadOn, IsReady, RefusesOn, left_of}
use Rattle.bohm_read_ahead.specs.declared.checked_chunk.CheckedChunk.{CheckedChunk}
use Rattle.bohm_read_ahead.specs.declared.reading_state.ReadingState.{ReadingState}
use Rattle.bohm_read_ahead.specs.Parsing.{AreParsing, windows_of}
use Rattle.bohm_read_ahead.specs.Preparing.{IsCheckedBehind}

-- a document and the bytes `first` after it were read: after the document these chunks were taken, and the windows ahead are being parsed
abbrev pub IsTaken : Option (List ℕ) → Option (List ℕ) → Document → List ℕ → List Chunk → ReadingState → Type 0
IsTaken unread unread' d first chunks r = IsReadOn unread unread' d first chunks (windows_of r.ahead.items) r.source

-- reading can continue from here
pub record IsGoing (r : ReadingState) : Type 0 where
  pub ready : IsReady r.source
  pub parsing : AreParsing r.edition r.ahead.items

abbrev pub left : ReadingState → ℕ
left r = left_of (windows_of r.ahead.items) r.source

-- there are windows that weren't taken
abbrev pub HasMore : ReadingState → Type 0
HasMore r = (r.source.ended ≡ false) ⊎ (0 < length r.ahead.items)

-- windows were read, and are being parsed
pub record ReadsAhead (unread unread' : Option (List ℕ)) (was now : ReadingState) : Type 0 where
  pub edition : now.edition ≡ was.edition
  pub count : now.count ≡ was.count
  pub going : IsGoing now
  pub left : left now ≡ left was
  pub more : HasMore was → HasMore now
  pub reads : (u : Option (List ℕ)) (d : Document) (first : List ℕ) (chunks : List Chunk)
      → IsTaken u unread d first chunks was → IsTaken u unread' d first chunks now

-- the next window's chunk was taken, checked and planned
pub record ReadsChunk (unread unread' : Option (List ℕ)) (was now : ReadingState) (checked : CheckedChunk) : Type 0 where
  pub edition : now.edition ≡ was.edition
  pub going : IsGoing now
  pub less : left now < left was
  pub place : IsCheckedBehind was.count now.count checked
  pub chunk : Chunk
  pub same : checked.log ≡ chunk.log
  pub reads : (u : Option (List ℕ)) (d : Document) (first : List ℕ) (chunks : List Chunk) → d.edition ≡ was.edition
      → IsTaken u unread d first chunks was → IsTaken u unread' d first (chunks ++ chunk ∷ []) now

-- whatever was read of a text of this edition, the text is refused with this fault
abbrev pub RefusesChunk : Option (List ℕ) → Option (List ℕ) → ReadingState → ReadingFault → Type 0
RefusesChunk unread unread' was fault = (u : Option (List ℕ)) (d : Document) (first : List ℕ) (chunks : List Chunk) → d.edition ≡ was.edition
    → IsTaken u unread d first chunks was → RefusesOn u unread' d first (length (print_doc d ++ first)) fault
