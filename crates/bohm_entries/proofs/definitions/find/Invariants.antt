use Rattle.std.proofs.Common.{◌≡◌, drop}
use Rattle.bohm_entries.specs.Meaning.{defined}
use Rattle.bohm_entries.proofs.definitions.find.Given as goal

abbrev pub invariant-loop-key : goal.invariant-loop-key
invariant-loop-key l = defined (drop l.key-index l.definitions) l.name ≡ defined l.definitions l.name
