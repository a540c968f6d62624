use Rattle.std.proofs.Common.{◌≡◌, ◌+◌, ◌*◌, ◌≤◌, ◌^◌, ◌++◌, drop}
use Rattle.bohm_explain.specs.Aborts.{aborts_from, aborts_in}
use Rattle.bohm_explain.proofs.aborts.print_lines.Given as goal

-- a log has at most 1,000,000 transactions, so the openings of all of them stay below 2 ^ 127
abbrev pub invariant-loop-index : goal.invariant-loop-index
invariant-loop-index l = record {
  low : l.opening ≤ 2 ^ 64 + 2 + l.index * (2 ^ 64 + 4);
  text : l.out.items ++ aborts_from (l.index + 1) l.opening (drop l.index l.checked.log) (drop l.index l.replies) ≡ aborts_in l.checked l.replies;
}
