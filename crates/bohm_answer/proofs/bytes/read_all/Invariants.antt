use Rattle.std.proofs.Common.{◌-◌, length}
use Rattle.std.specs.Io.KnownBytes.{Consumes}
use Rattle.bohm_answer.proofs.bytes.read_all.Given as goal

abbrev pub invariant-reads : goal.invariant-reads
invariant-reads g l = Consumes (g.R.Read.remaining l.initial.reader) (g.R.Read.remaining l.reader) l.text.items

abbrev pub decreases-reads : goal.decreases-reads
decreases-reads g l = 67108865 - length l.text.items
