use Rattle.std.proofs.Common.{ℕ, List, length, refl, ap, sym, subst, ◌∙◌}
use Rattle.std.proofs.lemmas.Result.{err_from_is_err_and}
use Rattle.bohm_types.specs.Txn.{Txn}
use Rattle.bohm_reading.specs.Reading.{IsReady}
use Rattle.bohm_read_ahead.specs.declared.reading_state.ReadingState.{ReadingState}
use Rattle.bohm_read_ahead.specs.declared.parsing.Parsing.{Parsing}
use Rattle.bohm_read_ahead.specs.Parsing.{AreParsing}
use Rattle.bohm_read_ahead.specs.Preparing.{count_with, IsPrepared}
use Rattle.bohm_run.specs.Streaming.{RunsBehindTo}
use Rattle.bohm_run.proofs.StreamLaws.{begin, ahead_on, go_on, refused, refused_first, at_end}
use Rattle.bohm_run.proofs.streaming.run_to_end.Goals as goal

pub read_ahead-requires : goal.read_ahead-requires
read_ahead-requires g c =
    let same = c.prepare.ensures.same in
    record {
      going = record {
        ready = subst IsReady (sym (ap (λ (r : ReadingState). r.source) same)) c.requires.ready;
        parsing = subst (λ (ahead : List Parsing). AreParsing c.prepare.new.self.state.edition ahead)
            (sym (ap (λ (r : ReadingState). r.ahead.items) same ∙ c.requires.none)) tt;
      };
    }

pub returns-in_err-read_ahead-clause-err : goal.returns-in_err-read_ahead-clause-err
returns-in_err-read_ahead-clause-err g c =
    let p = err_from_is_err_and c.from_residual-in_err-read_ahead.result c.from_residual-in_err-read_ahead.ensures.1 in
    let same = c.prepare.ensures.same in
    let was = c.args.log_reader.now.state in
    let unread = g.R.Read.remaining c.args.reader.now in
    rw (p.1, p.2) (refused_first was.edition c.args.first.log unread was.source c.prepare.new.self.state (ap (λ (r : ReadingState). r.edition) same)
    (ap (λ (r : ReadingState). r.source) same) (ap (λ (r : ReadingState). r.ahead.items) same ∙ c.requires.none) _ c.in_err-read_ahead.field-0.0
    c.in_err-read_ahead.ensures.err)

pub returns-in_err-chunk-clause-err : goal.returns-in_err-chunk-clause-err
returns-in_err-chunk-clause-err g c =
    let p = err_from_is_err_and c.from_residual.result c.from_residual.ensures.1 in rw (p.1, p.2) (λ d begun. tt)

pub windows-init : goal.windows-init
windows-init g c =
    let same = c.prepare.ensures.same in
    let chunk = c.in_ok-chunk.chunk in
    let made = c.in_ok-chunk.ensures.checked in
    let first = c.in_ok-chunk.ensures.log in
    let source = ap (λ (r : ReadingState). r.source) same in
    let none = ap (λ (r : ReadingState). r.ahead.items) same ∙ c.requires.none in
    let edition = ap (λ (r : ReadingState). r.edition) same in
    let unread = g.R.Read.remaining c.args.reader.now in
    let e = c.args.log_reader.now.state.edition in
    let s = c.args.log_reader.now.state.source in
    let ahead = c.in_ok-read_ahead.ensures.ok in
    let count = c.requires.count ∙ sym c.requires.begun in
    record {
      edition = ahead.edition ∙ edition;
      going = ahead.going;
      next = record {
        level = λ clean few. c.requires.top ∙ sym c.requires.begun;
        behind = made.behind ∙ count;
        prepared = subst (λ (n : ℕ). IsPrepared n chunk.log chunk.prepared) count made.prepared;
      };
      count = ahead.count ∙ (made.count ∙ ap (λ (n : ℕ). count_with n (length chunk.log)) count);
      streams = ahead_on e c.args.first.log unread unread s c.prepare.new.self.state chunk.log c.args.state.now c.args.state.now edition
          (subst (λ (l : List Txn). RunsBehindTo e c.args.first.log unread unread s c.prepare.new.self.state l c.args.state.now c.args.state.now)
          (sym first)
          (begin e c.args.first.log unread s c.prepare.new.self.state c.args.state.now source none)) _ c.read_ahead.new.self.state ahead;
    }

pub returns-in_err-chunk-2-clause-err : goal.returns-in_err-chunk-2-clause-err
returns-in_err-chunk-2-clause-err g c =
    let p = err_from_is_err_and c.from_residual-in_err-chunk-2.result c.from_residual-in_err-chunk-2.ensures.1 in
    let was = c.windows.invariant in
    rw (p.1, p.2) (refused c.args.log_reader.now.state.edition c.args.first.log _ _ c.args.log_reader.now.state.source c.windows.log_reader.state
    c.windows.chunk.log c.args.state.now c.windows.state was.edition was.streams _ c.in_err-chunk-2.field-0.0 c.in_err-chunk-2.ensures.err)

pub windows-smaller : goal.windows-smaller
windows-smaller g c = c.in_ok-chunk-2.ensures.ok.less

pub windows-preserved : goal.windows-preserved
windows-preserved g c =
    let was = c.windows.invariant in
    let chunk = c.in_ok-chunk-2.chunk in
    let now = c.run_and_read.new.log_reader.state in
    let state = c.run_and_read.new.state in
    let read = c.in_ok-chunk-2.ensures.ok in
    let ran = c.in_ok-chunk-2.ensures.runs in
    let counted = was.count ∙ sym ran.count in
    record {
      edition = read.edition ∙ was.edition;
      going = read.going;
      next = record {
        level = ran.runs.level was.next.level;
        behind = read.place.behind ∙ counted;
        prepared = subst (λ (n : ℕ). IsPrepared n chunk.log chunk.prepared) counted read.place.prepared;
      };
      count = read.place.count ∙ ap (λ (n : ℕ). count_with n (length chunk.log)) counted;
      streams = go_on c.args.log_reader.now.state.edition c.args.first.log _ _ c.args.log_reader.now.state.source c.windows.log_reader.state c.windows.chunk.log
          c.args.state.now c.windows.state was.edition was.streams _ now chunk state ran.runs read;
    }

pub returns-in_err-run_chunk-clause-err : goal.returns-in_err-run_chunk-clause-err
returns-in_err-run_chunk-clause-err g c =
    let p = err_from_is_err_and c.from_residual-in_err-run_chunk.result c.from_residual-in_err-run_chunk.ensures.1 in rw (p.1, p.2) (λ d begun. tt)

pub returns-clause-ok : goal.returns-clause-ok
returns-clause-ok g c =
    let was = c.windows.invariant in
    let none = c.windows-test.ensures.none refl in
    at_end c.args.log_reader.now.state.edition c.args.first.log _ _ c.args.log_reader.now.state.source c.windows.log_reader.state c.windows.chunk.log
    c.args.state.now c.windows.state was.edition was.streams none.0 none.1 c.run_chunk.new.state c.in_ok-run_chunk.ensures.runs
