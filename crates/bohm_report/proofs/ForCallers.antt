-- The lemmas of this crate that other crates cite.

-- the faults of reading, as refusals
pub use Rattle.bohm_report.proofs.ReadFaults.{of_reading}
