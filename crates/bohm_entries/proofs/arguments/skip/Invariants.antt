use Rattle.std.proofs.Common.{◌≡◌, ◌+◌, ◌-◌, drop, length}
use Rattle.bohm_entries.proofs.arguments.skip.Given as goal

abbrev pub invariant-words : goal.invariant-words
invariant-words l = record {
  rest : drop (l.count - l.counter) l.words ≡ drop l.count l.fn.words;
  passed : length l.words + l.counter ≡ length l.fn.words;
}
