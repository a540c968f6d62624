use Rattle.std.proofs.Common.{sym}
use Rattle.bohm_entries.proofs.ForCallers.{define_read}
use Rattle.bohm_replay.proofs.reading.read_define.Goals as goal

pub returns-in-Ok-clause-found : goal.returns-in-Ok-clause-found
returns-in-Ok-clause-found c = define_read c.args.words c.in-Some.name c.args.lines.now c.in-Ok.procedure (sym c.in-Some.ensures) c.in-Ok.ensures.sound c.in-Ok.ensures.found
