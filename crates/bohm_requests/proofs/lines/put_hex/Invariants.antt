use Rattle.std.proofs.Common.{◌≡◌, ◌++◌, length}
use Rattle.bohm_requests.specs.Lines.{hex_of}
use Rattle.bohm_requests.proofs.lines.put_hex.Given as goal

abbrev pub invariant-bytes : goal.invariant-bytes
invariant-bytes l = l.out.items ++ hex_of l.rest ≡ l.fn.out.items ++ hex_of l.bytes

abbrev pub decreases-bytes : goal.decreases-bytes
decreases-bytes l = length l.rest
