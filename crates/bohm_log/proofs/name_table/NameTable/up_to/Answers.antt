use Rattle.std.proofs.Common.{arith}
use Rattle.bohm_log.proofs.Layers.{cut_behind}
use Rattle.bohm_log.proofs.name_table.NameTable.up_to.Goals as goal

pub returns-else-count-self : goal.returns-else-count-self
returns-else-count-self c = cut_behind c.args.self.shared.now c.args.self.own.now c.args.count (omega (arith, c.if-count-self.false))
