use Rattle.std.proofs.Common.{refl}
use Rattle.std.proofs.lemmas.Result.{err_from_is_err_and}
use Rattle.bohm_read_ahead.specs.declared.reading_state.ReadingState.{ReadingState}
use Rattle.bohm_read_ahead.proofs.AheadLaws.{none_ahead, one_ahead, refused_ahead}
use Rattle.bohm_read_ahead.proofs.log_reader.LogReader.read_ahead.Goals as goal

pub windows-init : goal.windows-init
windows-init g c = record {
  ahead = none_ahead (g.R.Read.remaining c.args.reader.now) c.args.self.now.state c.requires.going;
  settings = refl;
}

pub returns-in_err-window-clause-err : goal.returns-in_err-window-clause-err
returns-in_err-window-clause-err g c =
    let p = err_from_is_err_and c.from_residual.result c.from_residual.ensures.1 in
    rw (p.1, p.2) (refused_ahead (g.R.Read.remaining c.args.reader.now) (g.R.Read.remaining c.windows.reader) c.args.self.now.state c.windows.self.state
    c.windows.invariant.ahead (g.R.Read.remaining c.next_window.new.reader) c.in_err-window.field-0.0 c.in_err-window.ensures.err)

pub windows-preserved : goal.windows-preserved
windows-preserved g c =
    let was = c.windows.self.state in
    let now : ReadingState = record was { source = c.next_window.new.source; ahead = c.push_back.new.self } in
    record {
      ahead = one_ahead (g.R.Read.remaining c.args.reader.now) (g.R.Read.remaining c.windows.reader) c.args.self.now.state was
          c.windows.invariant.ahead (g.R.Read.remaining c.next_window.new.reader) now c.in_ok-window.window c.start-parsing.result
          c.in_ok-window.ensures.ok c.start-parsing.ensures.window c.start-parsing.ensures.parsing c.in_ok-push_back.ensures.items refl refl;
      settings = c.windows.invariant.settings;
    }
