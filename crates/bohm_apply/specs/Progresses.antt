-- The progress of the executing side.
use Rattle.std.specs.Prelude.{ℕ, Result, is_ok}
use Rattle.bohm_types.specs.declared.memory.NoMemory.{NoMemory}
use Rattle.bohm_store.specs.Versions.{Timeline}
use Rattle.bohm_apply.specs.declared.executing.Progress.{Progress}
use Rattle.bohm_place.specs.Cuttings.{Cutting}
use Rattle.bohm_apply.specs.Runs.{IsWalked}

-- the result of a walk over a cut log, from a history
abbrev pub IsWalkOf : Timeline → Cutting → ℕ → Progress × Result (Unit {0}) NoMemory → Type 0
IsWalkOf was c keep r = IsWalked was r.0.history c keep r.0.replies (is_ok r.1)
