use Rattle.std.proofs.Common.{[], sym, append-nil}
use Rattle.bohm_store.proofs.numbering.number_of.Goals as goal

pub returns-then-is_numbered-clause-longer : goal.returns-then-is_numbered-clause-longer
returns-then-is_numbered-clause-longer c = ([], sym (append-nil c.args.names.now))
