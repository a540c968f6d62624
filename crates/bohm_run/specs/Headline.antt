-- What a run over bytes reads, answers and refuses.
use Rattle.std.specs.Prelude.{ℕ, ◌-◌, ◌<◌, ◌≤◌, List, length, Option, unwrap_or}
use Rattle.std.specs.Io.KnownBytes.{Consumes, Appends}
use Rattle.bohm_types.specs.Document.{Document}
use Rattle.bohm_types.specs.Sound.{IsDocument}
use Rattle.bohm_txn.specs.Faulty.{WellFormed, IsFirstFault}
use Rattle.bohm_text.specs.Cut.{whole_lines}
use Rattle.bohm_text.specs.Faults.{IsFirstBadLine, IsShort}
use Rattle.bohm_text.specs.Print.{print_doc}
use Rattle.bohm_text.specs.declared.fault.TextFault.TheVariants as texts
use Rattle.bohm_settings.specs.Given.{Given}
use Rattle.bohm_answer.specs.Bytes.{ReadsAll, Sends}
use Rattle.bohm_answer.specs.declared.fault.RunFault.{RunFault}
use Rattle.bohm_answer.specs.declared.fault.RunFault.TheVariants.{Read, TooLong, Text, Check, Trimmed, Future, NoMemory, Write}
use Rattle.bohm_types.specs.Limits.{longest_text}
pub use Rattle.bohm_answer.specs.Answer.{answer_of}
pub use Rattle.bohm_answer.specs.Refusing.{IsBeforeWriting}

-- the timestamp whose store is printed: the requested one, or the log's length
abbrev pub time_of : Given → Document → ℕ
time_of given d = unwrap_or given.at (length d.log)

-- that timestamp is not above the log's length, and not below the final floor
pub record IsReadable (given : Given) (d : Document) : Type 0 where
  pub there : time_of given d ≤ length d.log
  pub kept : length d.log - given.keep ≤ time_of given d

-- all that was read is the text of this well-formed document
pub record ReadsDocument (unread unread' : Option (List ℕ)) (document : Document) : Type 0 where
  pub sound : IsDocument document
  pub well_formed : WellFormed document
  pub read : ReadsAll unread unread' (print_doc document)

-- a well-formed document was read to the reader's end, and its answer was written and nothing else
pub record Answers (given : Given) (unread unread' written written' : Option (List ℕ)) : Type 0 where
  pub document : Document
  pub read : ReadsDocument unread unread' document
  pub readable : IsReadable given document
  pub wrote : Appends written written' (answer_of document (time_of given document))

-- a well-formed document was read to the reader's end, and the first bytes of its answer were written
pub record StopsWriting (given : Given) (unread unread' written written' : Option (List ℕ)) (sent : ℕ) : Type 0 where
  pub document : Document
  pub read : ReadsDocument unread unread' document
  pub readable : IsReadable given document
  pub wrote : Sends written written' (answer_of document (time_of given document)) sent

-- a well-formed document with this property was read to the reader's end
pub record ReadsLog (unread unread' : Option (List ℕ)) (P : Document → Type 0) : Type 0 where
  pub document : Document
  pub read : ReadsDocument unread unread' document
  pub is : P document

-- the reader had more bytes than a text may have
pub record ReadsTooMuch (unread unread' : Option (List ℕ)) : Type 0 where
  pub bytes : List ℕ
  pub long : longest_text < length bytes
  pub read : Consumes unread unread' bytes

-- all that was read has this property
pub record ReadsText (unread unread' : Option (List ℕ)) (P : List ℕ → Type 0) : Type 0 where
  pub text : List ℕ
  pub read : ReadsAll unread unread' text
  pub is : P text

-- all that was read is the text of a document with this first fault
pub record ReadsFaulty (unread unread' : Option (List ℕ)) (P : Document → Type 0) : Type 0 where
  pub document : Document
  pub sound : IsDocument document
  pub read : ReadsAll unread unread' (print_doc document)
  pub is : P document

-- the meaning of each refusal
abbrev pub Refuses : Given → Option (List ℕ) → Option (List ℕ) → Option (List ℕ) → Option (List ℕ) → RunFault → Type 0
Refuses given unread unread' written written' Read = Unit {0}
Refuses given unread unread' written written' TooLong = ReadsTooMuch unread unread'
Refuses given unread unread' written written' (Text (texts.Line n)) = ReadsText unread unread' (λ text. IsFirstBadLine (whole_lines text) n)
Refuses given unread unread' written written' (Text texts.Short) = ReadsText unread unread' IsShort
Refuses given unread unread' written written' (Text texts.NoMemory) = ⊥
Refuses given unread unread' written written' (Check fault) = ReadsFaulty unread unread' (λ document. IsFirstFault document fault)
Refuses given unread unread' written written' Trimmed = ReadsLog unread unread' (λ document. time_of given document < length document.log - given.keep)
Refuses given unread unread' written written' Future = ReadsLog unread unread' (λ document. length document.log < time_of given document)
Refuses given unread unread' written written' NoMemory = Unit {0}
Refuses given unread unread' written written' (Write sent) = StopsWriting given unread unread' written written' sent
