-- A document from a reader, in windows.
use Rattle.std.specs.Prelude.{◌≡◌, ◌⊎◌, ℕ, ◌+◌, ◌-◌, ◌<◌, ◌≤◌, List, [], ◌∷◌, ◌++◌, Bool, true, false, length, Option}
use Rattle.std.specs.Io.KnownBytes.{Consumes, IsAtEnd}
use Rattle.bohm_types.specs.Document.{Document}
use Rattle.bohm_types.specs.Sound.{IsDocument}
use Rattle.bohm_types.specs.Txn.{Txn}
use Rattle.bohm_text.specs.declared.windows.Chunk.{Chunk}
use Rattle.bohm_text.specs.Cut.{whole_lines}
use Rattle.bohm_text.specs.Print.{print_doc}
use Rattle.bohm_text.specs.Windows.{IsWindow, with_log}
use Rattle.bohm_text.specs.Windowing.{IsWhole, document_of_first}
use Rattle.bohm_text.specs.declared.windows.FirstWindow.{FirstWindow}
use Rattle.bohm_reading.specs.declared.fault.ReadingFault.{ReadingFault}
use Rattle.bohm_reading.specs.declared.fault.ReadingFault.TheVariants.{Read, TooLong, Line, Short, NoMemory}
use Rattle.bohm_reading.specs.declared.reading.Source.{Source}
use Rattle.bohm_reading.specs.declared.window.Window.{Window}
use Rattle.bohm_types.specs.declared.edition.Edition.{Edition}
use Rattle.bohm_reading.specs.Pieces.{IsLast}
use Rattle.bohm_reading.specs.InOrder.{bytes_of, AreInOrder, logs_of, RefusesText}
use Rattle.bohm_types.specs.Limits.{longest_text}

-- more bytes were read than a text may have, with `before` bytes read before
pub record IsTooLong (unread unread' : Option (List ℕ)) (before : ℕ) : Type 0 where
  pub more : List ℕ
  pub long : longest_text < before + length more
  pub read : Consumes unread unread' more

-- the reader was read to its end, with `before` bytes read before
pub record IsDrained (unread unread' : Option (List ℕ)) (before : ℕ) : Type 0 where
  pub more : List ℕ
  pub read : Consumes unread unread' more
  pub at_end : IsAtEnd unread'
  pub short : before + length more ≤ longest_text

abbrev pub Drains : Option (List ℕ) → Option (List ℕ) → ℕ → ReadingFault → ReadingFault → Type 0
Drains unread unread' before fault result = ((result ≡ fault) × IsDrained unread unread' before)
    ⊎ ((result ≡ Read) ⊎ ((result ≡ TooLong) × IsTooLong unread unread' before))

-- the number of bytes read, with `before` bytes read before
pub record IsCounted (unread unread' : Option (List ℕ)) (before : ℕ) (now : ℕ) : Type 0 where
  pub more : List ℕ
  pub read : Consumes unread unread' more
  pub total : now ≡ before + length more

-- a document was read, then these windows, and then the rest of the source
pub record IsReading (unread : Option (List ℕ)) (d : Document) (ahead : List Window) (s : Source) : Type 0 where
  pub sound : IsDocument d
  pub lines : s.lines ≡ length (whole_lines (print_doc d))
  pub total : s.total ≡ length (print_doc d ++ (bytes_of ahead ++ s.rest.items))
  pub short : s.total ≤ longest_text
  -- whatever follows
  pub order : (more : List ℕ) → (s.ended ≡ true → more ≡ []) → AreInOrder ahead (s.rest.items ++ more)
  pub next : s.ended ≡ false → IsWindow s.rest.items
  pub last : s.ended ≡ true → IsLast unread s.rest.items

-- these transactions follow a document: their text is the bytes `rest` that were read already, and all further bytes of the reader
pub record ReadsOn (unread unread' : Option (List ℕ)) (d : Document) (rest : List ℕ) (log : List Txn) : Type 0 where
  pub more : List ℕ
  pub read : Consumes unread unread' more
  pub at_end : IsAtEnd unread'
  pub sound : IsDocument (with_log d log)
  pub print : print_doc (with_log d log) ≡ print_doc d ++ (rest ++ more)
  pub short : length (print_doc d ++ (rest ++ more)) ≤ longest_text

-- the whole text was read, and it is refused with this fault
pub record RefusesAll (unread unread' : Option (List ℕ)) (d : Document) (rest : List ℕ) (fault : ReadingFault) : Type 0 where
  pub more : List ℕ
  pub read : Consumes unread unread' more
  pub at_end : IsAtEnd unread'
  pub short : length (print_doc d ++ (rest ++ more)) ≤ longest_text
  pub is : RefusesText (print_doc d ++ (rest ++ more)) fault

abbrev pub RefusesOn : Option (List ℕ) → Option (List ℕ) → Document → List ℕ → ℕ → ReadingFault → Type 0
RefusesOn unread unread' d rest before Read = Unit {0}
RefusesOn unread unread' d rest before NoMemory = Unit {0}
RefusesOn unread unread' d rest before TooLong = IsTooLong unread unread' before
RefusesOn unread unread' d rest before (Line n) = RefusesAll unread unread' d rest (Line n)
RefusesOn unread unread' d rest before Short = RefusesAll unread unread' d rest Short

-- a document was read, and the bytes `first` after it: the chunks follow the document, then these windows, and then the rest of the source
pub record IsReadOn (unread unread' : Option (List ℕ)) (d : Document) (first : List ℕ) (chunks : List Chunk) (ahead : List Window) (s : Source) : Type 0 where
  pub more : List ℕ
  pub read : Consumes unread unread' more
  pub is : IsReading unread' (with_log d (logs_of chunks)) ahead s
  pub same : print_doc (with_log d (logs_of chunks)) ++ (bytes_of ahead ++ s.rest.items) ≡ print_doc d ++ (first ++ more)

-- the reader or an allocation failed
abbrev pub IsReadFailure : ReadingFault → Type 0
IsReadFailure Read = Unit {0}
IsReadFailure NoMemory = Unit {0}
IsReadFailure TooLong = ⊥
IsReadFailure (Line n) = ⊥
IsReadFailure Short = ⊥

-- a fault of the reader, not of the text
abbrev pub IsSourceFault : ReadingFault → Type 0
IsSourceFault Read = Unit {0}
IsSourceFault TooLong = Unit {0}
IsSourceFault NoMemory = Unit {0}
IsSourceFault (Line n) = ⊥
IsSourceFault Short = ⊥

-- whatever may follow the first window, the whole text is refused with this fault
abbrev pub FirstRefused : List ℕ → Bool → ReadingFault → Type 0
FirstRefused text last fault = (rest : List ℕ) → (last ≡ false → IsWhole text × IsWindow rest) → (last ≡ true → rest ≡ []) → RefusesText (text ++ rest) fault

-- the reader was read to its end, and its bytes are this document's text
pub record ReadsTextOf (unread unread' : Option (List ℕ)) (d : Document) : Type 0 where
  pub sound : IsDocument d
  pub read : Consumes unread unread' (print_doc d)
  pub at_end : IsAtEnd unread'
  pub short : length (print_doc d) ≤ longest_text

-- the reader was read to its end, and its text is refused with this fault
pub record ReadsRefused (unread unread' : Option (List ℕ)) (fault : ReadingFault) : Type 0 where
  pub text : List ℕ
  pub read : Consumes unread unread' text
  pub at_end : IsAtEnd unread'
  pub short : length text ≤ longest_text
  pub is : RefusesText text fault

abbrev pub RefusesReading : Option (List ℕ) → Option (List ℕ) → ReadingFault → Type 0
RefusesReading unread unread' Read = Unit {0}
RefusesReading unread unread' NoMemory = Unit {0}
RefusesReading unread unread' TooLong = IsTooLong unread unread' 0
RefusesReading unread unread' (Line n) = ReadsRefused unread unread' (Line n)
RefusesReading unread unread' Short = ReadsRefused unread unread' Short

-- ---- the calls

-- the next window can be read
pub record IsReady (s : Source) : Type 0 where
  pub next : s.ended ≡ false → IsWindow s.rest.items
  pub short : s.total ≤ longest_text

-- how many bytes may still be parsed: reading a window leaves this number unchanged, and taking the window decreases it
abbrev pub left_of : List Window → Source → ℕ
left_of ahead s = (longest_text - s.total) + length (bytes_of ahead ++ s.rest.items)

-- the first window was read: the document so far, and the bytes read after it
pub record ReadsBeginning (unread unread' : Option (List ℕ)) (first : FirstWindow) (s : Source) : Type 0 where
  pub more : List ℕ
  pub read : Consumes unread unread' more
  pub same : print_doc (document_of_first first) ++ s.rest.items ≡ more
  pub is : IsReading unread' (document_of_first first) [] s

-- whatever was read before, the window follows it
pub record ReadsNext (unread unread' : Option (List ℕ)) (was now : Source) (w : Window) : Type 0 where
  pub begins : IsWindow w.text.items
  pub reads : (u : Option (List ℕ)) (d : Document) (first : List ℕ) (chunks : List Chunk) (ahead : List Window)
      → IsReadOn u unread d first chunks ahead was → IsReadOn u unread' d first chunks (ahead ++ w ∷ []) now
  pub ready : IsReady now
  pub left : (ahead : List Window) → left_of (ahead ++ w ∷ []) now ≡ left_of ahead was

-- whatever was read before, the text is refused with this fault
abbrev pub RefusesNext : Option (List ℕ) → Option (List ℕ) → Source → ReadingFault → Type 0
RefusesNext unread unread' was fault = (u : Option (List ℕ)) (d : Document) (first : List ℕ) (chunks : List Chunk) (ahead : List Window)
    → IsReadOn u unread d first chunks ahead was → RefusesOn u unread' d first (length (print_doc d ++ first)) fault

-- whatever was read of a text of this edition up to the window, the chunk replaces the window
pub record TakesWindow (e : Edition) (w : Window) (was now : Source) (chunk : Chunk) : Type 0 where
  pub reads : (u v : Option (List ℕ)) (d : Document) (first : List ℕ) (chunks : List Chunk) (ahead : List Window) → d.edition ≡ e
      → IsReadOn u v d first chunks (w ∷ ahead) was → IsReadOn u v d first (chunks ++ chunk ∷ []) ahead now
  pub ready : IsReady now
  pub left : (ahead : List Window) → left_of ahead now + length w.text.items ≡ left_of (w ∷ ahead) was

-- whatever was read of a text of this edition up to the window, the text is refused with this fault
abbrev pub RefusesTaking : Edition → Window → Option (List ℕ) → Option (List ℕ) → Source → ReadingFault → Type 0
RefusesTaking e w unread unread' was fault = (u : Option (List ℕ)) (d : Document) (first : List ℕ) (chunks : List Chunk) (ahead : List Window) → d.edition ≡ e
    → IsReadOn u unread d first chunks (w ∷ ahead) was → RefusesOn u unread' d first (length (print_doc d ++ first)) fault
