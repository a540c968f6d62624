use Rattle.std.proofs.Common.{◌≡◌, ◌-◌, take}
use Rattle.bohm_text.specs.Reading.{keys_of}
use Rattle.bohm_entries.proofs.Reading.{with_front}
use Rattle.bohm_entries.proofs.arguments.read_keys.Given as goal

abbrev pub invariant-words : goal.invariant-words
invariant-words l = with_front l.keys.items (keys_of (take (l.count - l.counter) l.rest)) ≡ keys_of (take l.count l.fn.words)
