-- A log that is run as it is read.
use Rattle.std.specs.Prelude.{◌≡◌, ℕ, List, [], ◌++◌, length, Option}
use Rattle.bohm_types.specs.Document.{Document}
use Rattle.bohm_types.specs.Txn.{Txn}
use Rattle.bohm_types.specs.declared.edition.Edition.{Edition}
use Rattle.bohm_txn.specs.Stores.{cell_in, store_of}
use Rattle.bohm_text.specs.declared.windows.Chunk.{Chunk}
use Rattle.bohm_text.specs.Print.{print_doc, print_numbered}
use Rattle.bohm_txn.specs.Serial.{replies}
use Rattle.bohm_reading.specs.declared.fault.ReadingFault.{ReadingFault}
use Rattle.bohm_reading.specs.declared.reading.Source.{Source}
use Rattle.bohm_reading.specs.Reading.{IsReading, ReadsOn, RefusesOn}
use Rattle.bohm_reading.specs.InOrder.{logs_of}
use Rattle.bohm_apply.specs.Runs.{IsHistoryOf}
use Rattle.bohm_run.specs.declared.chunks.RunState.{RunState}
use Rattle.bohm_read_ahead.specs.declared.reading_state.ReadingState.{ReadingState}
use Rattle.bohm_run.specs.Chunks.{RunsChunk}
use Rattle.bohm_run.specs.Headline.{ReadsDocument}
use Rattle.bohm_read_ahead.specs.Reading.{IsTaken}

-- a document of this edition and log was read, and this source follows it
pub record IsBegun (e : Edition) (txns : List Txn) (unread : Option (List ℕ)) (s : Source) (d : Document) : Type 0 where
  pub edition : d.edition ≡ e
  pub log : d.log ≡ txns
  pub is : IsReading unread d [] s

-- transactions after a document were read to the end, and the whole log was run
pub record StreamsOn (unread unread' : Option (List ℕ)) (d : Document) (rest : List ℕ) (was now : RunState) : Type 0 where
  pub log : List Txn
  pub read : ReadsOn unread unread' d rest log
  pub runs : RunsChunk (d.log ++ log) was now

-- chunks after a document were taken, and all transactions but the last ones were run
pub record StreamsTo (unread unread' : Option (List ℕ)) (d : Document) (first : List ℕ) (r : ReadingState) (pending : List Txn) (was now : RunState)
    : Type 0 where
  pub behind : List Chunk
  pub ran : List Txn
  pub read : IsTaken unread unread' d first behind r
  pub all : ran ++ pending ≡ d.log ++ logs_of behind
  pub runs : RunsChunk ran was now

-- as StreamsOn, whichever document was read before
abbrev pub RunsBehind : Edition → List Txn → Option (List ℕ) → Option (List ℕ) → Source → RunState → RunState → Type 0
RunsBehind e log unread unread' s was now = (d : Document) → IsBegun e log unread s d → StreamsOn unread unread' d s.rest.items was now

abbrev pub RunsBehindTo : Edition → List Txn → Option (List ℕ) → Option (List ℕ) → Source → ReadingState → List Txn → RunState → RunState → Type 0
RunsBehindTo e log unread unread' s r pending was now = (d : Document) → IsBegun e log unread s d → StreamsTo unread unread' d s.rest.items r pending was now

abbrev pub RefusesLog : Edition → List Txn → Option (List ℕ) → Option (List ℕ) → Source → ReadingFault → Type 0
RefusesLog e log unread unread' s fault = (d : Document) → IsBegun e log unread s d
    → RefusesOn unread unread' d s.rest.items (length (print_doc d ++ s.rest.items)) fault

-- a well-formed document was read to the reader's end and run from its store on
pub record IsLogRun (keep : ℕ) (unread unread' : Option (List ℕ)) (s : RunState) : Type 0 where
  pub document : Document
  pub read : ReadsDocument unread unread' document
  pub count : s.count ≡ length document.log
  pub replies : s.text ≡ print_numbered 1 (replies (cell_in (store_of document.store)) document.log)
  pub history : IsHistoryOf (cell_in (store_of document.store)) document.log keep s.history
