use Rattle.std.proofs.Common.{◌≡◌, ◌++◌, length}
use Rattle.bohm_tidy.specs.Line.{joined}
use Rattle.bohm_tidy.specs.declared.line.Gap.TheVariants.{Start}
use Rattle.bohm_tidy.proofs.line.put_joined.Given as goal

abbrev pub invariant-each : goal.invariant-each
invariant-each l = l.out.items ++ joined l.signs l.gap l.words ≡ l.initial.out.items ++ joined l.signs Start l.initial.words

abbrev pub decreases-each : goal.decreases-each
decreases-each l = length l.words
