-- The lemmas of this crate that other crates cite. Each lemma is proved in the file of its subject.

-- a run of no transactions, and runs in succession
pub use Rattle.bohm_apply.proofs.Going.{at_rest, went_on}
-- the floor stays while the top is at most `keep`
pub use Rattle.bohm_apply.proofs.Going.{floor_stays}
-- the store at a timestamp, and the run of a whole log on a new history
pub use Rattle.bohm_apply.proofs.Walks.{store_then, whole_run}
