use Rattle.std.proofs.Common.{◌≡◌, ◌++◌, drop}
use Rattle.bohm_tidy.specs.Line.{apart}
use Rattle.bohm_tidy.proofs.line.set_apart.Given as goal

abbrev pub invariant-loop-byte : goal.invariant-loop-byte
invariant-loop-byte l = l.out.items ++ apart l.signs l.before (drop l.byte-index l.bytes) ≡ l.initial.out.items ++ apart l.signs 32 l.bytes
