-- The lemmas of this crate that other crates cite. Each lemma is proved in the file of its subject.

-- the lines of a document's text, and of a procedure's
pub use Rattle.bohm_text.proofs.TextLaws.{lines_of_text, one_text, text_steps}
pub use Rattle.bohm_text.proofs.ProcedureAgain.{lines_of_procedure, text_stages}
-- a text is a document's, or has one first bad line, or is short
pub use Rattle.bohm_text.proofs.Verdicts.{one_line, bad_not_short, document_not_bad}
-- texts that are printed element by element
pub use Rattle.bohm_text.proofs.Printed.{print_more, spaced_append, lines_append}
-- how a text is split, by the index of its first separator
pub use Rattle.bohm_text.proofs.Cuts.{IsCutAt, cut_from}
-- lines of joined texts
pub use Rattle.bohm_text.proofs.WindowLaws.{headed_lines, lines_begin, window_lines}
pub use Rattle.bohm_text.proofs.OpenLaws.{lines_behind_whole, whole_ended, open_line}
-- windows after the text of a document
pub use Rattle.bohm_text.proofs.Placed.{longer, lines_short, chunk_placed, bad_placed, short_placed, open_placed, bad_begins}
-- a list that has something left
pub use Rattle.bohm_text.proofs.Stepping.{some_left}
-- replies that follow other replies
pub use Rattle.bohm_text.specs.Numbered.{numbered-append}
