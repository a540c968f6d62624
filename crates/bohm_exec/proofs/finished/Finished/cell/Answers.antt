use Rattle.bohm_exec.proofs.Serials.{serial_cell}
use Rattle.bohm_exec.specs.Answers.{batch_of_finished}
use Rattle.bohm_exec.proofs.finished.Finished.cell.Goals as goal

pub returns : goal.returns
returns c = serial_cell (batch_of_finished c.args.self.now) c.args.t c.args.index c.slot.result c.slot.ensures
