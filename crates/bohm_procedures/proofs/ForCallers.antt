-- The lemmas of this crate that other crates cite. Each lemma is proved in the file of its subject.

-- the transaction that a call runs by the compiled body of its procedure
pub use Rattle.bohm_procedures.proofs.CallLaws.{first_apart, run_body, run_many, run_usable, run_writes}
