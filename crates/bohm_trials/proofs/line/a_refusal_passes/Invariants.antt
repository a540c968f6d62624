use Rattle.std.proofs.Common.{[], ◌∷◌}
use Rattle.bohm_trials.proofs.line.a_refusal_passes.Given as goal

abbrev pub ghosts-take_refusal : goal.ghosts-take_refusal
ghosts-take_refusal g a = record { cutting = record { first = 1; log = a.txns.now; sizes = 1 ∷ 2 ∷ [] } }
