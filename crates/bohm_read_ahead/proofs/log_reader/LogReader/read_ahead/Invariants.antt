use Rattle.std.proofs.Common.{◌≡◌, ◌-◌, length}
use Rattle.bohm_read_ahead.specs.Reading.{ReadsAhead}
use Rattle.bohm_read_ahead.proofs.log_reader.LogReader.read_ahead.Given as goal

abbrev pub invariant-windows : goal.invariant-windows
invariant-windows g l = record {
  ahead : ReadsAhead (g.R.Read.remaining l.initial.reader) (g.R.Read.remaining l.reader) l.fn.self.state l.self.state;
  settings : l.self.settings ≡ l.fn.self.settings;
}

abbrev pub decreases-windows : goal.decreases-windows
decreases-windows g l = l.most - length l.self.state.ahead.items
