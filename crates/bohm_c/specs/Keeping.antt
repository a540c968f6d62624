-- What the functions on a handle guarantee.
use Rattle.std.specs.Prelude.{◌≡◌, ℕ, ℤ, ◌+◌, ◌<◌, ◌≤◌, Bool, true, false, List, [], length, max, min, take}
use Rattle.std.specs.FinMap.{entries}
use Rattle.bohm_types.specs.Document.{Document}
use Rattle.bohm_types.specs.Sound.{IsDocument}
use Rattle.bohm_types.specs.declared.cell.Cell.{Cell}
use Rattle.bohm_types.specs.declared.cell.Cell.TheVariants.{Absent, Present}
use Rattle.bohm_txn.specs.declared.outcome.Reply.{Reply}
use Rattle.bohm_txn.specs.Faulty.{WellFormed}
use Rattle.bohm_txn.specs.Stores.{cell_in, store_of}
use Rattle.bohm_text.specs.Print.{print_doc, print_numbered}
use Rattle.bohm_answer.specs.Answer.{answer_of}
use Rattle.bohm_store.specs.Versions.{Timeline, kept_versions, most_counted, total, versions}
use Rattle.bohm_machine.specs.Machines.{GoesOn, HasRun, floor_of, past_of, top_of}
use Rattle.bohm_machine.specs.Segments.{AreWholeBatches, IsTaken, RunsOn, IsRefused as IsUntakenBy}
use Rattle.bohm_machine.specs.declared.fault.SegmentFault.{SegmentFault}
use Rattle.bohm_answer.specs.declared.fault.RunFault.TheVariants.{NoMemory}
use Rattle.bohm_c.specs.declared.counts.BohmCounts.{BohmCounts}
use Rattle.bohm_c.specs.declared.session.Session.{Session}
use Rattle.bohm_c.specs.declared.session.OpenFault.{OpenFault}
use Rattle.bohm_c.specs.declared.session.OpenFault.TheVariants.{Text, HasLog}
use Rattle.bohm_c.specs.Reading.{IsRead, IsRefused, snapshot_of}
use Rattle.bohm_types.specs.Limits.{largest_batch}

-- a machine on a snapshot's store, as it was at a timestamp: each key has one version, no reply is waiting, and no handle was made
pub record IsOpened (snapshot : Document) (start : ℕ) (session : Session) : Type 0 where
  pub alone : snapshot.log ≡ []
  pub top : top_of session.machine ≡ start
  pub floor : floor_of session.machine ≡ start
  pub run : HasRun (cell_in (store_of snapshot.store)) start [] session.machine
  pub count : total session.machine.chains ≡ length snapshot.store
  pub handed : session.waiting ≡ []
  pub names : session.single ≡ []

-- such a machine, on the snapshot that the text is
pub record IsOpening (text : List ℕ) (start : ℕ) (session : Session) : Type 0 where
  pub document : Document
  pub read : IsRead text document
  pub opened : IsOpened document start session

-- why a snapshot isn't opened: it has transactions, or an allocation failed
abbrev pub IsUnopened : Document → OpenFault → Type 0
IsUnopened snapshot (Text fault) = (snapshot.log ≡ []) × (fault ≡ NoMemory)
IsUnopened snapshot HasLog = 0 < length snapshot.log

-- no reply was waiting, and whole batches of a segment were run, with these replies; handles keep their keys
pub record IsRun (was now : Session) (segment : Document) (answered : List Reply) : Type 0 where
  pub waited : was.waiting ≡ []
  pub taken : IsTaken was.machine segment
  pub goes_on : GoesOn was.machine now.machine (take (length answered) segment.log) answered
  pub runs_on : RunsOn was.machine now.machine (take (length answered) segment.log) answered
  pub batches : 0 < length answered → AreWholeBatches segment.log largest_batch (length answered)
  pub names : now.single ≡ was.single

-- the whole segment was run, and the text of the replies is returned
pub record IsRunWhole (was now : Session) (segment : Document) (answer : List ℕ) : Type 0 where
  pub answered : List Reply
  pub run : IsRun was now segment answered
  pub whole : length answered ≡ length segment.log
  pub says : answer ≡ print_numbered (top_of was.machine + 1) answered
  pub handed : now.waiting ≡ []

-- the segment was run in part, and the text of the replies is returned
pub record IsRunPartly (was now : Session) (segment : Document) (answer : List ℕ) : Type 0 where
  pub answered : List Reply
  pub run : IsRun was now segment answered
  pub part : length answered < length segment.log
  pub says : answer ≡ print_numbered (top_of was.machine + 1) answered
  pub handed : now.waiting ≡ []

-- the segment was run, in part or whole, and the replies are waiting
pub record IsRunUntold (was now : Session) (segment : Document) : Type 0 where
  pub run : IsRun was now segment now.waiting
  pub behind : now.behind ≡ top_of was.machine

-- the segment was run, in part or whole, and the replies, at least one, are waiting
pub record IsRunKept (was now : Session) (segment : Document) : Type 0 where
  pub run : IsRunUntold was now segment
  pub some : 0 < length now.waiting

-- `IsRunWhole`, `IsRunPartly` and `IsRunKept` of the segment that a text is
pub record IsDone (was now : Session) (text answer : List ℕ) : Type 0 where
  pub document : Document
  pub read : IsRead text document
  pub run : IsRunWhole was now document answer

pub record IsStopped (was now : Session) (text answer : List ℕ) : Type 0 where
  pub document : Document
  pub read : IsRead text document
  pub run : IsRunPartly was now document answer

pub record IsKept (was now : Session) (text : List ℕ) : Type 0 where
  pub document : Document
  pub read : IsRead text document
  pub run : IsRunKept was now document

-- the segment that the text is was run whole, and the replies are waiting
pub record IsHeld (was now : Session) (text : List ℕ) : Type 0 where
  pub document : Document
  pub read : IsRead text document
  pub run : IsRunUntold was now document
  pub whole : length now.waiting ≡ length document.log

-- the segment that the text is was run in part, and the replies are waiting
pub record IsHeldPartly (was now : Session) (text : List ℕ) : Type 0 where
  pub document : Document
  pub read : IsRead text document
  pub run : IsRunUntold was now document
  pub part : length now.waiting < length document.log

-- the text is a segment that the machine refuses, with this fault
pub record IsUntaken (m : Timeline) (text : List ℕ) (fault : SegmentFault) : Type 0 where
  pub document : Document
  pub read : IsRead text document
  pub untaken : IsUntakenBy m document fault

-- the text is that of a well-formed document with transactions
pub record HasTransactions (text : List ℕ) : Type 0 where
  pub document : Document
  pub read : IsRead text document
  pub some : 0 < length document.log

abbrev pub IsRefusedOpening : List ℕ → OpenFault → Type 0
IsRefusedOpening text (Text fault) = IsRefused text fault
IsRefusedOpening text HasLog = HasTransactions text

-- ---- the other functions

-- the text is that of a well-formed document, and these bytes are its answer
pub record IsAnswer (text answer : List ℕ) : Type 0 where
  pub document : Document
  pub read : IsRead text document
  pub answers : answer ≡ answer_of document (length document.log)

-- the timestamp lies between the floor and the top, both included
pub record IsReadable (m : Timeline) (ts : ℕ) : Type 0 where
  pub kept : floor_of m ≤ ts
  pub there : ts ≤ top_of m

-- the cell that a truth value and a number represent
abbrev pub told : Bool → ℤ → Cell
told true z = Present z
told false z = Absent

-- the text is that of a well-formed document without transactions, whose store is the store after the transaction with a timestamp
pub record IsSnapshot (m : Timeline) (ts : ℕ) (text : List ℕ) : Type 0 where
  pub store : List (List ℕ × ℤ)
  pub readable : IsReadable m ts
  pub holds : cell_in (store_of store) ≡ past_of m ts
  pub listed : store ≡ entries (store_of store)
  pub sound : IsDocument (snapshot_of store)
  pub formed : WellFormed (snapshot_of store)
  pub printed : text ≡ print_doc (snapshot_of store)

-- these are the machine's counts. Nothing is said of the bytes
pub record HasCounts (session : Session) (counts : BohmCounts) : Type 0 where
  pub floor : counts.floor ≡ floor_of session.machine
  pub top : counts.top ≡ top_of session.machine
  pub versions : counts.versions ≡ min (total session.machine.chains) most_counted
  pub waiting : counts.waiting ≡ length session.waiting
  pub names : counts.names ≡ length session.machine.chains
  pub left : counts.top + counts.left ≡ 4294967295

-- the past from the new floor on is unchanged, and so are waiting replies and handles; versions that ended below the floor are gone
pub record IsTrimmed (was now : Session) (least : ℕ) : Type 0 where
  pub floor : floor_of now.machine ≡ max (floor_of was.machine) least
  pub top : top_of now.machine ≡ top_of was.machine
  pub past : (ts : ℕ) → floor_of now.machine ≤ ts → past_of now.machine ts ≡ past_of was.machine ts
  pub dropped : floor_of was.machine < least → (k : List ℕ) → versions now.machine k ≡ kept_versions least (versions was.machine k)
  pub same : least ≤ floor_of was.machine → (k : List ℕ) → versions now.machine k ≡ versions was.machine k
  pub count : total now.machine.chains ≤ total was.machine.chains
  pub waiting : now.waiting ≡ was.waiting
  pub behind : now.behind ≡ was.behind
  pub names : now.single ≡ was.single
