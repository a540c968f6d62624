use Rattle.std.proofs.Common.{◌≡◌, ◌≤◌, ◌<◌, ◌^◌, ℕ, drop}
use Rattle.bohm_text.specs.Reading.{digits_of}
use Rattle.bohm_text.proofs.numbers.read_few.Given as goal

abbrev pub invariant-loop-byte : goal.invariant-loop-byte
invariant-loop-byte l = record {
  small : l.number < 10 ^ l.byte-index;
  so_far : (limit : ℕ) → 10 ^ 18 ≤ limit → digits_of limit l.number (drop l.byte-index l.digits) ≡ digits_of limit 0 l.digits;
}
