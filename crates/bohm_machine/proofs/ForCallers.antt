-- The lemmas of this crate that other crates cite. Each lemma is proved in the file of its subject.

-- the entries of a store rise
pub use Rattle.bohm_machine.proofs.Rising.{listed_rise}
-- numbers keep their keys when keys are appended
pub use Rattle.bohm_machine.proofs.Numbers.{pushed_named, pushed_names}
