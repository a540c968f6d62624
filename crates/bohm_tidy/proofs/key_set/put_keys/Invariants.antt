use Rattle.std.proofs.Common.{◌≡◌, ◌++◌, take}
use Rattle.bohm_text.specs.Print.{spaced}
use Rattle.bohm_tidy.proofs.key_set.put_keys.Given as goal

abbrev pub invariant-loop-key : goal.invariant-loop-key
invariant-loop-key l = l.out.items ≡ l.initial.out.items ++ spaced (take l.key-index l.keys)
