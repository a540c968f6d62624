use Rattle.std.proofs.Common.{◌≡◌, ◌++◌, map, take}
use Rattle.bohm_store.specs.Writes.{with_number}
use Rattle.bohm_store.proofs.share_numbers.append_renumbered.Given as goal

abbrev pub invariant-loop-write : goal.invariant-loop-write
invariant-loop-write l = l.out.items ≡ l.initial.out.items ++ map (with_number l.known l.numbers) (take l.write-index l.share.writes.items)
