use Rattle.std.proofs.Common.{◌≡◌, take}
use Rattle.std.specs.List.{count_by}
use Rattle.bohm_types.specs.Parts.{is_show}
use Rattle.bohm_txn.proofs.showing.shows.Given as goal

abbrev pub invariant-loop-index : goal.invariant-loop-index
invariant-loop-index l = l.count ≡ count_by is_show (take l.index l.txn.body)
