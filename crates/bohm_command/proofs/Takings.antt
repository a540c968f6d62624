-- clap's result for a command line is the one for the arguments after the program's name.
use Rattle.std.proofs.Common.{◌≡◌, true, List, ◌∷◌, sym, subst, inl, inr}
use Rattle.clap.specs.Values.{kind_of}
use Rattle.clap.specs.Words.{App, Kinds, HasKind, IsAmong, Text, matches_of, takes, fault_of}
use Rattle.clap.specs.declared.error.Error.{Error}
use Rattle.clap.specs.declared.error.kind.ErrorKind.{ErrorKind}
use Rattle.bohm_command.specs.Taken.{AreTaken, faults_in, rows_in}
use Rattle.bohm_command.specs.Faults.{IsOfKind, IsFoundAmong}
use Rattle.bohm_command.specs.declared.fault.ArgumentFault.{ArgumentFault}
use Rattle.bohm_command.specs.declared.fault.ArgumentFault.TheVariants.{Bad, Help, Version, NoMemory}

-- the command is the one defined, and the line is the program's name and the arguments
module _ (app command : App) (line arguments : List Text) (is : command ≡ app) (whole : line ≡ app.top.name ∷ arguments) where
  pub takes_line : AreTaken app arguments → takes command line ≡ true
  unfolding AreTaken
  takes_line taken = subst (λ (p : App × List Text). takes p.0 p.1 ≡ true) (λ i. (sym is i, sym whole i)) taken

  pub same_faults : fault_of command line ≡ faults_in app arguments
  unfolding faults_in
  same_faults = λ i. fault_of (is i) (whole i)

  pub same_rows : matches_of command line ≡ rows_in app arguments
  unfolding rows_in
  same_rows = λ i. matches_of (is i) (whole i)

-- if an error's kind is one of these, so is its fault
pub found_among : (kinds : Kinds) (error : Error) (fault : ArgumentFault) → IsOfKind (kind_of error) fault → HasKind kinds error → IsFoundAmong kinds fault
found_among kinds error (Bad text) said (inl is) = absurd (said.0 is)
found_among kinds error (Bad text) said (inr among) = (kind_of error, said.1, said.2, among)
found_among kinds error (Help text) said (inl is) = absurd cc
found_among kinds error (Help text) said (inr among) = subst (λ (kind : ErrorKind). IsAmong kind kinds) said among
found_among kinds error (Version text) said (inl is) = absurd cc
found_among kinds error (Version text) said (inr among) = subst (λ (kind : ErrorKind). IsAmong kind kinds) said among
found_among kinds error NoMemory said has = tt
