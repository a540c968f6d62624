use Rattle.bohm_apply.specs.Runs.{cutting_behind}
use Rattle.bohm_apply.proofs.applying.apply.Given as goal

abbrev pub ghosts-apply_on : goal.ghosts-apply_on
ghosts-apply_on g a = record { cutting = cutting_behind a.history a.txns.now a.cuts.now }
