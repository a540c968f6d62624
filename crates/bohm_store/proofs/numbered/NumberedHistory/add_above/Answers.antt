use Rattle.std.proofs.Common.{arith}
use Rattle.bohm_log.specs.Layers.{all_names}
use Rattle.bohm_store.specs.Numbered.{timeline}
use Rattle.bohm_store.proofs.Kept.{trim_settled}
use Rattle.bohm_store.proofs.numbered.NumberedHistory.add_above.Goals as goal

pub trim-requires : goal.trim-requires
trim-requires c =
    let (txns, h) = c.requires.writes in
    let settled = c.in-Ok.ensures.ok txns h in
    omega (arith, settled.top, h.many, c.requires.floor)

pub returns-in-Ok-clause-ok : goal.returns-in-Ok-clause-ok
returns-in-Ok-clause-ok c = λ txns h.
    let done = c.trim.ensures in
    trim_settled (all_names c.args.names) (timeline (all_names c.args.names) c.args.self.now) c.add_writes.new.self c.trim.new.self
    txns c.args.floor c.requires.names (c.in-Ok.ensures.ok txns h) done.floor done.top done.versions done.unchanged
