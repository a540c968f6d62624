use Rattle.std.proofs.Common.{◌∙◌}
use Rattle.std.specs.Str.{bytes_eq}
use Rattle.std.proofs.lemmas.List.Filters.{dedup_is}
use Rattle.bohm_txn.proofs.KeySets.{sorted_set}
use Rattle.bohm_txn.proofs.key_lists.sort_keys.Goals as goal

pub returns : goal.returns
returns c = dedup_is bytes_eq _ _ c.dedup.ensures.filtered ∙ sorted_set _ _ c.sort_unstable.ensures.permutation c.sort_unstable.ensures.sorted
