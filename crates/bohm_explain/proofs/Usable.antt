-- The transactions of a well-formed list are usable, with at most 16 keys in each set.
use Rattle.std.proofs.Common.{◌≤◌, length}
use Rattle.bohm_types.specs.Txn.{Txn}
use Rattle.bohm_txn.specs.Declares.{IsUsable}
use Rattle.bohm_place.specs.Plans.{keys_in}
use Rattle.bohm_place.specs.declared.declared_set.DeclaredSet.{DeclaredSet}
use Rattle.bohm_place.specs.declared.declared_set.DeclaredSet.TheVariants.{Reads, Writes}

pub few_keys : (set : DeclaredSet) (t : Txn) → IsUsable t → length (keys_in set t) ≤ 16
few_keys Reads t u = u.few_reads
few_keys Writes t u = u.few_writes
