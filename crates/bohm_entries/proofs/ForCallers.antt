-- The lemmas of this crate that other crates cite. Each lemma is proved in the file of its subject.

-- the first line of an entry
pub use Rattle.bohm_entries.proofs.ByKind.{id_read, kind_read, weight_read}
-- what entries of each kind do
pub use Rattle.bohm_entries.proofs.ByKind.{define_runs_none, not_defining, only_defining}
-- what was read of an entry
pub use Rattle.bohm_entries.proofs.Reading.{call_read, define_read}
-- what is refused is no entry
pub use Rattle.bohm_entries.proofs.Refusing.{IsSame, entry_not_refused, no_first_line, no_line, not_refused, one_head, read_alike, said_alike}
