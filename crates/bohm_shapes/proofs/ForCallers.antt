-- The lemmas of this crate that other crates cite. Each lemma is proved in the file of its subject.

-- a list in which no name occurs twice
pub use Rattle.bohm_shapes.proofs.Terms.{apart}
-- what a transaction does depends on its edition and its body alone, and a call has its instance's body
pub use Rattle.bohm_shapes.proofs.CallLaw.{same_effects, call_body, call_effects}
