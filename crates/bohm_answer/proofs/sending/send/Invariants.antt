use Rattle.std.proofs.Common.{◌-◌, ◌≤◌, length, take}
use Rattle.std.specs.Io.KnownBytes.{Appends}
use Rattle.bohm_answer.proofs.sending.send.Given as goal

abbrev pub invariant-writes : goal.invariant-writes
invariant-writes g l = record {
  within : l.sent ≤ length l.bytes;
  so_far : Appends (g.W.Write.contents l.initial.writer) (g.W.Write.contents l.writer) (take l.sent l.bytes);
}

abbrev pub decreases-writes : goal.decreases-writes
decreases-writes g l = length l.bytes - l.sent
