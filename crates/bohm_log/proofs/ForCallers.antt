-- The lemmas of this crate that other crates cite. Each lemma is proved in the file of its subject.

-- the rest of a list from an index on, a range of a list, and a property of all elements of a list
pub use Rattle.bohm_log.proofs.Lists.{front, drop_at, each_append, each_push, each_map}
pub use Rattle.bohm_log.proofs.Growth.{between-front, Begins-itself}
pub use Rattle.bohm_log.proofs.Widening.{Begins-trans}
-- equal keys, and the edition of a log
pub use Rattle.bohm_log.proofs.EqualKeys.{same_key, key_itself, other_key}
pub use Rattle.bohm_log.proofs.Appending.{same_self}
-- a fact that holds in any case holds after a failure
pub use Rattle.bohm_log.proofs.Failing.{on_err}
-- instances of procedures
pub use Rattle.bohm_log.proofs.InstanceSound.{instance_sound}
-- sets of keys
pub use Rattle.bohm_log.proofs.Placing.{among_key_set, key_set_few}
-- names by their numbers
pub use Rattle.bohm_log.proofs.Seeking.{none_from, at_its_number}
pub use Rattle.bohm_log.proofs.Widening.{named_more, same_names}
