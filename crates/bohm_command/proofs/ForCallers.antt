-- The lemmas of this crate that other crates cite. Each lemma is proved in the file of its subject.

-- clap's result for a command line is the one for the arguments after the program's name
pub use Rattle.bohm_command.proofs.Takings.{takes_line, same_faults, same_rows}
-- an option that was parsed has the number of its arguments, within its range
pub use Rattle.bohm_command.proofs.Numbers.{IsNumber, IsNumberOr, number, number_or}
