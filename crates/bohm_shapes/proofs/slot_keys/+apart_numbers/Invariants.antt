use Rattle.std.proofs.Common.{length}
use Rattle.bohm_shapes.proofs.slot_keys.+apart_numbers.Given as goal

abbrev pub decreases-apart_numbers : goal.decreases-apart_numbers
decreases-apart_numbers l = length l.numbers.now
