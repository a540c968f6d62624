-- The lemmas of this crate that other crates cite. Each lemma is proved in the file of its subject.

-- the positions of a share, and the positions that its sweep defers
pub use Rattle.bohm_exec.proofs.Coverage.{share_covers, share_inside, picked_contains}
-- a property of a share's positions, one position after another
pub use Rattle.bohm_exec.proofs.Accounts.{next}
-- numbers of evaluations
pub use Rattle.bohm_exec.proofs.Counting.{counted_same, counted_then, counted_whole}
