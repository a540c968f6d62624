-- The effect of a line, after the lines before it.
use Rattle.std.specs.Prelude.{◌≡◌, ℕ, ℤ, List, [], ◌∷◌, ◌++◌, Option, Some, None, Result, Ok, Err, if◌then◌else◌, codes}
use Rattle.std.specs.Str.{bytes_eq}
use Rattle.bohm_types.specs.Stmt.{Stmt}
use Rattle.bohm_types.specs.declared.edition.Edition.{Edition}
use Rattle.bohm_types.specs.declared.edition.Edition.TheVariants.{One, Two}
use Rattle.bohm_types.specs.Txn.{Txn}
use Rattle.bohm_types.specs.Document.{Document}
use Rattle.bohm_log.specs.Drafting.{Drafted, IsBare, IsBetween, fresh}
use Rattle.bohm_text.specs.declared.fault.ReadFault.{ReadFault}
use Rattle.bohm_text.specs.declared.reader.Place.{Place}
use Rattle.bohm_text.specs.declared.reader.Place.TheVariants as places
use Rattle.bohm_text.specs.declared.reader.Reader.{Reader}
use Rattle.bohm_text.specs.Print.{Words}
use Rattle.bohm_text.specs.Cut.{split}
use Rattle.bohm_text.specs.Reading.{◌>>=◌, Fails, keys_of, after, stmt_of, entry_of}
use Rattle.bohm_text.specs.Stepping.{after_lines}

-- what the lines so far spell: nothing yet; a document; or a document whose next transaction is open, with its reads, its writes and some statements
pub data Progress : Type 0 where
  Nothing : Progress
  Between : Document → Progress
  Opened : Document → Progress
  Reading : Document → Words → Progress
  Body : Document → Words → Words → List Stmt → Progress

abbrev pub progress_at : Place → Document → Words → Words → List Stmt → Progress
progress_at places.Between d reads writes body = Between d
progress_at places.Opened d reads writes body = Opened d
progress_at places.Reading d reads writes body = Reading d reads
progress_at places.Body d reads writes body = Body d reads writes body

-- the document of a reader's complete transactions
abbrev pub document_in : Reader → Document
document_in r = record { edition = r.edition; store = r.store; log = r.log }

abbrev pub progress_of : Reader → Progress
progress_of r = progress_at r.place (document_in r) r.draft.txn.reads r.draft.txn.writes r.draft.txn.body

-- a reader accepted a line, unless an allocation failed
abbrev pub Feeds : Result (Unit {0}) ReadFault → Option Progress → Progress → Type 0
Feeds (Ok done) read next = read ≡ Some next
Feeds (Err e) read next = Fails e read

abbrev pub begun : Edition → Progress
begun edition = Between (record { edition = edition; store = []; log = [] })

unfoldable pub head_of : List ℕ → Option Edition
head_of line = if bytes_eq line (codes "log 1") then Some One else (if bytes_eq line (codes "log 2") then Some Two else None)

abbrev pub with_entry : Document → List ℕ × ℤ → Document
with_entry d entry = record d { store = d.store ++ entry ∷ [] }

abbrev pub with_txn : Document → Words → Words → List Stmt → Document
with_txn d reads writes body = record d { log = d.log ++ (record { edition = d.edition; reads = reads; writes = writes; body = body }) ∷ [] }

-- the store ends where the log begins
abbrev pub next_entry : Document → List Txn → Words → Option Progress
next_entry d [] words = entry_of words >>= λ entry. Some (Between (with_entry d entry))
next_entry d (t ∷ ts) words = None

unfoldable pub after_between : Document → List ℕ → Option Progress
after_between d line = if bytes_eq line (codes "txn") then Some (Opened d) else next_entry d d.log (split 32 line)

unfoldable pub after_body : Document → Words → Words → List Stmt → List ℕ → Option Progress
after_body d reads writes body line =
    if bytes_eq line (codes "end") then Some (Between (with_txn d reads writes body))
    else (stmt_of (split 32 line) >>= λ s. Some (Body d reads writes (body ++ s ∷ [])))

unfoldable pub step : Progress → List ℕ → Option Progress
step Nothing line = head_of line >>= λ edition. Some (begun edition)
step (Between d) line = after_between d line
step (Opened d) line = after (codes "reads") keys_of (split 32 line) >>= λ reads. Some (Reading d reads)
step (Reading d reads) line = after (codes "writes") keys_of (split 32 line) >>= λ writes. Some (Body d reads writes [])
step (Body d reads writes body) line = after_body d reads writes body line

-- the effect of lines, from the progress before them
abbrev pub steps : Progress → List (List ℕ) → Option Progress
steps = after_lines step

-- the draft is ready for the next line
abbrev pub IsReadyAt : Place → Edition → Drafted → Type 0
IsReadyAt places.Between edition d = Unit {0}
IsReadyAt places.Opened edition d = d ≡ fresh edition
IsReadyAt places.Reading edition d = IsBare d × (d.txn.edition ≡ edition) × (d.txn.writes ≡ [])
IsReadyAt places.Body edition d = IsBetween d × (d.txn.edition ≡ edition)

abbrev pub IsReady : Reader → Type 0
IsReady r = IsReadyAt r.place r.edition r.draft
