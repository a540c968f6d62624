use Rattle.std.proofs.Common.{◌≡◌, ◌+◌, ◌++◌, drop}
use Rattle.bohm_text.specs.Print.{BeginsWith, lines_text, reply_lines, print_numbered}
use Rattle.bohm_text.proofs.answers.put_lines.Given as goal

abbrev pub invariant-loop-index : goal.invariant-loop-index
invariant-loop-index l = record {
  begins : BeginsWith l.initial.out.items l.out.items;
  text : l.out.items ++ lines_text (reply_lines (l.first + l.index) (drop l.index l.replies)) ≡ l.initial.out.items ++ print_numbered l.first l.replies;
}
