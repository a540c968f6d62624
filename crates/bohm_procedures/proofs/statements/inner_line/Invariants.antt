use Rattle.std.proofs.Common.{◌≡◌, drop}
use Rattle.bohm_text.specs.Cut.{whole_lines}
use Rattle.bohm_procedures.proofs.statements.inner_line.Given as goal

abbrev pub invariant-loop : goal.invariant-loop
invariant-loop l = whole_lines l.rest ≡ drop l.counter (whole_lines l.text)
