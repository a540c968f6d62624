-- The lemmas of this crate that other crates cite. Each lemma is proved in the file of its subject.

-- list elements by index
pub use Rattle.bohm_place.proofs.Lists.{get_drop, in_take, set_same, set_other, each_pushed}
-- rising keys are distinct, and each transaction of a well-formed list is usable
pub use Rattle.bohm_place.proofs.Distinct.{AreDistinct-rising}
pub use Rattle.bohm_place.proofs.NewestCell.{formed_at, usable_at}
-- a key's cell before a transaction is its cell after the key's newest earlier writer
pub use Rattle.bohm_place.proofs.NewestCell.{newest_state_by}
-- a right plan has an access for each declared key, and noting an index changes no source
pub use Rattle.bohm_place.proofs.Noted.{row_paired, sources_same, sources_twice, sources_long}
pub use Rattle.bohm_place.proofs.NotedSets.{AreNotedBelow, none_noted, next_passed, next_noted, next_row, entered, few_keys}
-- keys with different numbers differ
pub use Rattle.bohm_place.proofs.Numbers.{two_numbers}
-- the number of slots before each transaction
pub use Rattle.bohm_place.proofs.Offsets.{offset_next, next_offset, offset_few}
-- the number of transactions before each batch
pub use Rattle.bohm_place.proofs.Sizes.{ahead_next}
