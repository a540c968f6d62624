use Rattle.std.proofs.Common.{◌≡◌, ◌≤◌, ◌*◌, ◌++◌, drop}
use Rattle.bohm_place.specs.Shares.{rows_from}
use Rattle.bohm_place.specs.Slots.{offset}
use Rattle.bohm_place.proofs.row.rows.Given as goal

abbrev pub invariant-loop-index : goal.invariant-loop-index
invariant-loop-index l = record {
  few : l.start ≤ 32 * l.index;
  slots : l.slots ≡ offset l.txns l.index;
  rows : l.rows.items ++ rows_from l.start l.slots (drop l.index l.txns) ≡ rows_from 0 0 l.txns;
}
