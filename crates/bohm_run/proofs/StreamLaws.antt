-- A log that is read and run window after window.
use Rattle.std.proofs.Common.{◌≡◌, inl, ℕ, ◌≤◌, ◌++◌, List, [], ◌∷◌, true, length}
use Rattle.std.proofs.Common.{refl, append_assoc, append-nil, ap, sym, subst, ◌∙◌, arith, take}
use Rattle.std.specs.Prelude.{Option, None}
use Rattle.std.proofs.Math.Seq.{take-length}
use Rattle.std.proofs.lemmas.Grind.{flat_map-append}
use Rattle.bohm_types.specs.Document.{Document}
use Rattle.bohm_types.specs.Txn.{Txn}
use Rattle.bohm_types.specs.declared.edition.Edition.{Edition}
use Rattle.bohm_txn.specs.Chunked.{IsCheckedTo, IsCountOf, store_fault}
use Rattle.bohm_txn.specs.Faulty.{WellFormed, IsFirstFault}
use Rattle.bohm_txn.specs.Stores.{cell_in, store_of}
use Rattle.bohm_txn.specs.declared.fault.CheckFault.{CheckFault}
use Rattle.bohm_txn.proofs.ForCallers.{store_checked, few_txns, no_store_fault_of, length-replies}
use Rattle.bohm_store.specs.Versions.{past}
use Rattle.bohm_text.specs.Print.{print_doc}
use Rattle.bohm_text.specs.Windows.{with_log}
use Rattle.bohm_text.specs.Windowing.{document_of_first}
use Rattle.bohm_text.specs.declared.windows.Chunk.{Chunk}
use Rattle.bohm_text.specs.declared.windows.FirstWindow.{FirstWindow}
use Rattle.bohm_reading.specs.declared.fault.ReadingFault.{ReadingFault}
use Rattle.bohm_reading.specs.declared.fault.ReadingFault.TheVariants as reading
use Rattle.bohm_reading.specs.declared.reading.Source.{Source}
use Rattle.bohm_reading.specs.Reading.{ReadsBeginning, ReadsTextOf, RefusesReading}
use Rattle.bohm_reading.specs.InOrder.{logs_of}
use Rattle.bohm_reading.proofs.ForCallers.{on_none, on_end, later_refused, later_read}
use Rattle.bohm_settings.specs.Given.{Given}
use Rattle.bohm_apply.specs.Runs.{IsApplied}
use Rattle.bohm_apply.proofs.ForCallers.{at_rest, whole_run}
use Rattle.bohm_answer.specs.Bytes.{ReadsAll}
use Rattle.bohm_run.specs.Headline.{Refuses, IsBeforeWriting}
use Rattle.bohm_answer.specs.Refusing.{reading_refusal_of}
use Rattle.bohm_read_ahead.specs.Reading.{ReadsAhead, ReadsChunk, RefusesChunk}
use Rattle.bohm_read_ahead.specs.declared.checked_chunk.CheckedChunk.{CheckedChunk}
use Rattle.bohm_run.specs.declared.chunks.RunState.{RunState}
use Rattle.bohm_read_ahead.specs.declared.reading_state.ReadingState.{ReadingState}
use Rattle.bohm_answer.specs.declared.fault.RunFault.TheVariants.{Check}
use Rattle.bohm_run.specs.Chunks.{IsRunTo, IsStarted, RunsChunk}
use Rattle.bohm_run.specs.Streaming.{IsBegun, IsLogRun, RefusesLog, RunsBehind, RunsBehindTo, StreamsOn}
use Rattle.bohm_run.proofs.ChunkLaws.{exact, runs_none, runs_on}

-- ---- window after window

pub begin : (e : Edition) (log : List Txn) (u : Option (List ℕ)) (s : Source) (r : ReadingState) (state : RunState) → r.source ≡ s → r.ahead.items ≡ []
    → RunsBehindTo e log u u s r log state state
begin e log u s r state same none = λ d begun. record {
  behind = [];
  ran = [];
  read = rw (same, none) (on_none u d s begun.is);
  all = sym begun.log ∙ sym (append-nil d.log);
  runs = runs_none state;
}

-- if the window after the first one is refused, so is the log
pub refused_first : (e : Edition) (log : List Txn) (u : Option (List ℕ)) (s : Source) (r : ReadingState) → r.edition ≡ e → r.source ≡ s
    → r.ahead.items ≡ [] → (x : Option (List ℕ)) (fault : ReadingFault) → RefusesChunk u x r fault → RefusesLog e log u x s fault
refused_first e log u s r edition same none x fault h = λ d begun. h u d s.rest.items [] (begun.edition ∙ sym edition)
    (rw (same, none) (on_none u d s begun.is))

module _ (e : Edition) (log : List Txn) (u v : Option (List ℕ)) (s : Source) (mid : ReadingState) (pending : List Txn) (was state : RunState)
    (edition : mid.edition ≡ e) (so_far : RunsBehindTo e log u v s mid pending was state) where
  pub go_on : (x : Option (List ℕ)) (now : ReadingState) (checked : CheckedChunk) (after : RunState) → RunsChunk pending state after
      → ReadsChunk v x mid now checked → RunsBehindTo e log u x s now checked.log was after
  go_on x now checked after ran read = λ d begun.
      let there = so_far d begun in
      let behind : logs_of there.behind ++ checked.log ≡ logs_of (there.behind ++ read.chunk ∷ []) =
      ap (λ (l : List Txn). logs_of there.behind ++ l) (read.same ∙ sym (append-nil read.chunk.log))
      ∙ sym (flat_map-append (λ (k : Chunk). k.log) there.behind (read.chunk ∷ [])) in
      record {
        behind = there.behind ++ read.chunk ∷ [];
        ran = there.ran ++ pending;
        read = read.reads u d s.rest.items there.behind (begun.edition ∙ sym edition) there.read;
        all = ap (λ (l : List Txn). l ++ checked.log) there.all
            ∙ (append_assoc d.log (logs_of there.behind) checked.log ∙ ap (λ (l : List Txn). d.log ++ l) behind);
        runs = runs_on there.ran pending was state after there.runs ran;
      }

  pub ahead_on : (x : Option (List ℕ)) (now : ReadingState) → ReadsAhead v x mid now → RunsBehindTo e log u x s now pending was state
  ahead_on x now ahead = λ d begun.
      let there = so_far d begun in
      record {
        behind = there.behind;
        ran = there.ran;
        read = ahead.reads u d s.rest.items there.behind there.read;
        all = there.all;
        runs = there.runs;
      }

  pub refused : (x : Option (List ℕ)) (fault : ReadingFault) → RefusesChunk v x mid fault → RefusesLog e log u x s fault
  refused x fault h = λ d begun. let there = so_far d begun in h u d s.rest.items there.behind (begun.edition ∙ sym edition) there.read

  pub at_end : mid.source.ended ≡ true → mid.ahead.items ≡ [] → (next : RunState) → RunsChunk pending state next → RunsBehind e log u v s was next
  at_end done none next ran = λ d begun.
      let there = so_far d begun in
      record {
        log = logs_of there.behind;
        read = on_end u v d s.rest.items there.behind mid.source (let h = there.read in rw none at h) done;
        runs = subst (λ (l : List Txn). RunsChunk l was next) there.all (runs_on there.ran pending was state next there.runs ran);
      }

-- ---- refusals

all_read : (u v : Option (List ℕ)) (d : Document) → ReadsTextOf u v d → ReadsAll u v (print_doc d)
all_read u v d h = record { read = h.read; at_end = h.at_end; short = h.short }

pub reading_refused : (given : Given) (u v : Option (List ℕ)) (fault : ReadingFault) → RefusesReading u v fault
    → Refuses given u v None None (reading_refusal_of fault)
reading_refused given u v reading.Read h = tt
reading_refused given u v reading.NoMemory h = tt
reading_refused given u v reading.TooLong h = record { bytes = h.more; long = omega (arith, h.long); read = h.read }
reading_refused given u v (reading.Line n) h = record { text = h.text; read = record { read = h.read; at_end = h.at_end; short = h.short }; is = h.is }
reading_refused given u v reading.Short h = record { text = h.text; read = record { read = h.read; at_end = h.at_end; short = h.short }; is = h.is }

pub reading_before : (fault : ReadingFault) → IsBeforeWriting (reading_refusal_of fault)
reading_before reading.Read = tt
reading_before reading.NoMemory = tt
reading_before reading.TooLong = tt
reading_before (reading.Line n) = tt
reading_before reading.Short = tt

-- ---- the whole log

module _ (u v y : Option (List ℕ)) (first : FirstWindow) (s : Source) (begun : ReadsBeginning u v first s) where
  abbrev pub d : Document
  d = document_of_first first

  is_begun : IsBegun first.edition first.chunk.log v s d
  is_begun = record { edition = refl; log = refl; is = begun.is }

  pub log_refused : (given : Given) (fault : ReadingFault) → RefusesLog first.edition first.chunk.log v y s fault
      → Refuses given u y None None (reading_refusal_of fault)
  log_refused given fault h = reading_refused given u y fault (later_refused u v y first s begun fault (h d is_begun))

  module _ (keep : ℕ) (start now : RunState) (started : IsStarted keep first.store.items start)
      (ran : RunsBehind first.edition first.chunk.log v y s start now) where
    streams : StreamsOn v y d s.rest.items start now
    streams = ran d is_begun

    abbrev whole : Document
    whole = with_log d streams.log

    read : ReadsTextOf u y whole
    read = later_read u v y first s begun streams.log streams.read

    ordered : start.history.floor ≤ start.history.top
    ordered = omega (arith, started.top, started.floor)

    abbrev empty : Document
    empty = record d { log = [] }

    begins : IsRunTo start.history empty start
    begins = record {
      counted = inl started.count;
      checked = subst (IsCheckedTo empty) (sym (started.fault ∙ started.in_store)) (store_checked empty refl);
      run = λ none few. record { answered = []; applied = at_rest start.history start.executor.keep; wrote = started.text };
    }

    run_to : IsRunTo start.history whole now
    run_to = streams.runs.runs start.history empty ordered begins

    kept : now.executor.keep ≡ keep
    kept = streams.runs.keep ∙ started.keeps

    in_store : now.in_store ≡ store_fault whole.store
    in_store = streams.runs.in_store ∙ started.in_store

    pub log_faulty : (given : Given) (fault : CheckFault) → ((c : Document) → now.in_store ≡ store_fault c.store → IsCountOf (length c.log) now.count
        → IsCheckedTo c now.fault → IsFirstFault c fault) → Refuses given u y None None (Check fault)
    log_faulty given fault h = record {
      document = whole;
      sound = read.sound;
      read = all_read u y whole read;
      is = h whole in_store run_to.counted run_to.checked;
    }

    pub log_run : ((c : Document) → now.in_store ≡ store_fault c.store → IsCountOf (length c.log) now.count → IsCheckedTo c now.fault → WellFormed c)
        → now.fault ≡ None → IsLogRun keep u y now
    log_run h clean =
        let formed : WellFormed whole = h whole in_store run_to.counted run_to.checked in
        let few : length whole.log ≤ 1000000 = few_txns whole formed in
        let run = run_to.run clean few in
        let sound : start.in_store ≡ None = started.in_store ∙ no_store_fault_of whole formed in
        let opened : past start.history 0 ≡ cell_in (store_of whole.store) = started.past sound in
        let long : length run.answered ≡ length whole.log =
        ap length run.applied.replies ∙ length-replies (past start.history start.history.top) whole.log in
        let front : take (length run.answered) whole.log ≡ whole.log = ap (λ (n : ℕ). take n whole.log) long ∙ take-length whole.log in
        let applied : IsApplied start.history now.history whole.log keep run.answered =
        subst (λ (k : ℕ). IsApplied start.history now.history whole.log k run.answered) kept run.applied in
        let result = whole_run (cell_in (store_of whole.store)) start.history now.history whole.log keep run.answered started.floor
        started.top opened (rw front applied) long in
        record {
          document = whole;
          read = record { sound = read.sound; well_formed = formed; read = all_read u y whole read };
          count = exact (length whole.log) now.count run_to.counted few;
          replies = rw (sym result.0) run.wrote;
          history = result.1;
        }
