use Rattle.std.proofs.Common.{◌∙◌, codes, rules}
use Rattle.clap.specs.Words.{found_of}
use Rattle.clap.proofs.WalkLemmas.{first_value-rows}
use Rattle.bohm_command.proofs.with_file.file_given.Goals as goal

pub returns-in_ok-from_str-in-Some : goal.returns-in_ok-from_str-in-Some
returns-in_ok-from_str-in-Some c =
    let read = c.get_str.ensures ∙ first_value-rows (found_of c.args.matches.now) (codes "file") in search (rules, read)

pub returns-in-None : goal.returns-in-None
returns-in-None c =
    let read = c.get_str.ensures ∙ first_value-rows (found_of c.args.matches.now) (codes "file") in search (rules, read)
