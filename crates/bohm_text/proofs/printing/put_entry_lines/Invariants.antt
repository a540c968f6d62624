use Rattle.std.proofs.Common.{◌≡◌, ◌++◌, take, map}
use Rattle.bohm_text.specs.Print.{lines_text, store_words}
use Rattle.bohm_text.proofs.printing.put_entry_lines.Given as goal

abbrev pub invariant-loop-key : goal.invariant-loop-key
invariant-loop-key l = l.out.items ≡ l.initial.out.items ++ lines_text (map store_words (take l.key-index l.entries))
