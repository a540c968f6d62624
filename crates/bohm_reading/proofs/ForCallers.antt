-- The lemmas of this crate that other crates cite. Each lemma is proved in the file of its subject.

-- from the first window to the end of the source
pub use Rattle.bohm_reading.proofs.ReadingLaws.{ready, on_none, on_end}
-- the first window, and the text after the window
pub use Rattle.bohm_reading.proofs.SegmentLaws.{later_refused, later_read}
