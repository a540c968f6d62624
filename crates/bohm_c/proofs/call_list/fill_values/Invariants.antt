use Rattle.std.proofs.Common.{◌≡◌, take}
use Rattle.bohm_c.proofs.call_list.fill_values.Given as goal

abbrev pub invariant-loop-number : goal.invariant-loop-number
invariant-loop-number l = l.values.items ≡ take l.number-index l.numbers
