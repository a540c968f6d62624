use Rattle.bohm_exec.proofs.Serials.{serial_outcome}
use Rattle.bohm_exec.specs.Answers.{batch_of_finished}
use Rattle.bohm_exec.proofs.finished.Finished.outcome.Goals as goal

pub returns : goal.returns
returns c = serial_outcome (batch_of_finished c.args.self.now) c.args.t c.in-Some.outcome c.in-Some.ensures.right
