use Rattle.std.proofs.Common.{◌≡◌, length}
use Rattle.bohm_run.specs.Chunks.{IsNext}
use Rattle.bohm_read_ahead.specs.Preparing.{count_with}
use Rattle.bohm_read_ahead.specs.Reading.{IsGoing, left}
use Rattle.bohm_run.specs.Streaming.{RunsBehindTo}
use Rattle.bohm_run.proofs.streaming.run_to_end.Given as goal

abbrev pub invariant-windows : goal.invariant-windows
invariant-windows g l = record {
  edition : l.log_reader.state.edition ≡ l.fn.log_reader.state.edition;
  going : IsGoing l.log_reader.state;
  next : IsNext l.state l.chunk;
  count : l.log_reader.state.count ≡ count_with l.state.count (length l.chunk.log);
  streams : RunsBehindTo l.fn.log_reader.state.edition l.fn.first.log (g.R.Read.remaining l.fn.reader)
      (g.R.Read.remaining l.reader) l.fn.log_reader.state.source l.log_reader.state l.chunk.log l.initial.state l.state;
}

abbrev pub decreases-windows : goal.decreases-windows
decreases-windows g l = left l.log_reader.state
