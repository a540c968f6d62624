-- The lemmas of this crate that other crates cite. Each lemma is proved in the file of its subject.

-- bounds on the number of versions
pub use Rattle.bohm_store.proofs.Bounds.{fewer_count, settled_early, to_few}
-- the replies of the next batch
pub use Rattle.bohm_store.proofs.ProducedVersions.{next_replies}
-- a list of all writes of a batch
pub use Rattle.bohm_store.proofs.Shares.{one_share}
