use Rattle.clap.proofs.WalkLemmas.{both}
use Rattle.bohm_command.proofs.Takings.{found_among}
use Rattle.bohm_command.proofs.line.parse_line.Goals as goal

pub returns-in-Ok-clause-rows : goal.returns-in-Ok-clause-rows
returns-in-Ok-clause-rows c = (c.in-Ok.ensures.matches (both _ _ c.requires.simple).0).0

pub returns-in-Err-clause-found : goal.returns-in-Err-clause-found
returns-in-Err-clause-found c = found_among _ c.in-Err.error _ c.of.ensures (c.in-Err.ensures.kinds c.requires.simple)
