use Rattle.std.proofs.Common.{◌≡◌, ◌++◌, take, map}
use Rattle.std.specs.Fmt.{signed_decimal}
use Rattle.bohm_text.specs.Print.{spaced}
use Rattle.bohm_text.proofs.answers.put_shows.Given as goal

abbrev pub invariant-loop-value : goal.invariant-loop-value
invariant-loop-value l = l.out.items ≡ l.initial.out.items ++ spaced (map signed_decimal (take l.value-index l.shows))
