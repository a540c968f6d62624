use Rattle.std.proofs.Common.{◌≡◌, ◌≤◌, drop}
use Rattle.bohm_text.specs.Reading.{digits_of}
use Rattle.bohm_text.proofs.numbers.read_digits.Given as goal

abbrev pub invariant-loop-byte : goal.invariant-loop-byte
invariant-loop-byte l = record { small : l.number ≤ l.limit; so_far : digits_of l.limit l.number (drop l.byte-index l.digits) ≡ digits_of l.limit 0 l.digits }
