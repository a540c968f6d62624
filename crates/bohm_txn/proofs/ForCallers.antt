-- The lemmas of this crate that other crates cite. Each lemma is proved in the file of its subject.

-- equal keys, the rest of a list from an index on, and a property of all elements of two lists: lemmas of bohm_log
pub use Rattle.bohm_log.proofs.ForCallers.{same_key, key_itself, other_key, front, drop_at, each_append}
-- whether a key is in a list
pub use Rattle.bohm_txn.proofs.Bodies.{among_at}
pub use Rattle.bohm_txn.proofs.Apart.{among_first, among_then}
-- keys in ascending order differ from one another, and how keys compare
pub use Rattle.bohm_txn.proofs.Apart.{AllApart, rising_apart, apart_each, rising_distinct, none_before, less}
pub use Rattle.bohm_txn.proofs.Lookups.{no_fall, same_at}
pub use Rattle.bohm_txn.proofs.KeySets.{rising_rest}
-- sets of keys
pub use Rattle.bohm_txn.proofs.KeySets.{key_set_rises, key_set_itself}
-- the elements that a list contains, and tests over its first elements
pub use Rattle.bohm_txn.proofs.Lists.{contains_head, contains_tail, contains_cases, any_more}
-- a well-formed transaction, and its body over two looks
pub use Rattle.bohm_txn.proofs.UseLaws.{usable, rising_writes}
pub use Rattle.bohm_txn.proofs.Bodies.{kept, same_reads, same_after, same_cells, map_same, shows_counted}
pub use Rattle.bohm_txn.proofs.SureLaws.{sure_body, sure_after}
-- the states and replies of the serial run
pub use Rattle.bohm_txn.proofs.States.{there, next, state-front, state-append, replies-append, length-replies}
pub use Rattle.bohm_txn.proofs.ReplyParts.{replied}
-- stores, their cells and their entries
pub use Rattle.bohm_txn.proofs.Stores.{tested, cell_in-put_all, cell_in-after, same_store}
pub use Rattle.bohm_txn.proofs.Entries.{get-store_of, store_of-insert, store_of-remove, store_of-take}
pub use Rattle.bohm_txn.proofs.Listed.{same_moved, entries_listed}
-- the check of a log in chunks
pub use Rattle.bohm_txn.proofs.Chunked.{is_none, store_checked, checked_kept, no_store_fault, no_store_fault_of}
pub use Rattle.bohm_txn.proofs.UseLaws.{few_txns}
-- the first fault of a document
pub use Rattle.bohm_txn.proofs.FirstLaw.{well_formed, first_fault}
pub use Rattle.bohm_txn.proofs.OneFault.{one_first_fault, none_well_formed}
-- a test that an element at an index passes, and a test that fails
pub use Rattle.bohm_txn.proofs.UseLaws.{at_some}
pub use Rattle.bohm_txn.proofs.FirstLaw.{not_true}
-- comparisons of consecutive keys
pub use Rattle.bohm_txn.proofs.Checking.{falls, climbs}
pub use Rattle.bohm_txn.proofs.Rises.{below}
-- the index of a key in a list without duplicates, and a total with one more term
pub use Rattle.bohm_txn.proofs.Places.{only_place}
pub use Rattle.bohm_txn.proofs.Totals.{total_step}
-- how a run over tables of cells ends
pub use Rattle.bohm_txn.proofs.Tracking.{EndAlike, IsCommit, ends_alike, committed, aborted}
pub use Rattle.bohm_txn.proofs.Answering.{commit_cells}
