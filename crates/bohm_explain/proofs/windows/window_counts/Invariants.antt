use Rattle.bohm_reading.specs.Reading.{IsReady}
use Rattle.bohm_explain.proofs.windows.window_counts.Given as goal

abbrev pub invariant-windows : goal.invariant-windows
invariant-windows l = IsReady l.source
