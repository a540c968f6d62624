-- The lemmas of this crate that other crates cite. Each lemma is proved in the file of its subject.

-- a later view keeps everything that an earlier view observed
pub use Rattle.bohm_board.proofs.Monotonicity.{keeps_same, keeps_then, keeps_along, keeps_claimed, keeps_looked}
pub use Rattle.bohm_board.proofs.Monotonicity.{keeps_joined, keeps_saw, still_done, still_known, knows_on, knows_looked, joined_done}
pub use Rattle.bohm_board.proofs.FinishedOnce.{finished_saw, none_left}
-- a batch's transactions, accesses and wanted sources
pub use Rattle.bohm_board.proofs.SlotNumbers.{txn_there, width_there}
pub use Rattle.bohm_board.proofs.WantedSources.{keys_paired, reads_paired, writes_paired, IsEarlier, in_either, wanted_earlier}
pub use Rattle.bohm_board.proofs.BasePlaces.{member_among, declared_any}
pub use Rattle.bohm_board.proofs.EntrySearch.{none_equal}
pub use Rattle.bohm_board.proofs.Evaluation.{contains_at}
-- the right outcome and cells of a position, and the cells before it
pub use Rattle.bohm_board.proofs.Inputs.{own_right, outcome_right, reads_before, writes_before}
pub use Rattle.bohm_board.proofs.SerialSlots.{own_write, own_show, get_left}
-- the core: its runs, and the outcome and cells of a position over its input
pub use Rattle.bohm_board.proofs.EventRuns.{reached_lawful, reached_stays, claimed_once, finished_once}
pub use Rattle.bohm_board.proofs.BoardLaw.{wanted_filled, nothing_in}
pub use Rattle.bohm_board.proofs.Evaluation.{read_by_access, write_by_access, sure_wants, outcome_is_right, cell_is_right}
