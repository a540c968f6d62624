use Rattle.std.proofs.Common.{◌≡◌, ◌++◌, map, take}
use Rattle.bohm_check.specs.Shown.{printable}
use Rattle.bohm_check.proofs.shown.put_printable.Given as goal

abbrev pub invariant-loop-byte : goal.invariant-loop-byte
invariant-loop-byte l = l.out.items ≡ l.initial.out.items ++ map printable (take l.byte-index l.bytes)
