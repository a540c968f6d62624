-- The lemmas of this crate that other crates cite. Each lemma is proved in the file of its subject.

-- a refusal before writing doesn't depend on the written bytes
pub use Rattle.bohm_run.proofs.Refusals.{before_writing}
