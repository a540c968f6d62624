use Rattle.std.proofs.Common.{◌≡◌, ◌∷◌, ◌∙◌, map, ap, codes, sym, subst}
use Rattle.std.specs.Prelude.{string_bytes}
use Rattle.std.proofs.lemmas.Result.{err_from_is_err_and}
use Rattle.clap.specs.Walk.{texts}
use Rattle.clap.specs.Words.{Kinds}
use Rattle.bohm_command.specs.Faults.{IsFoundAmong}
use Rattle.bohm_command.specs.Options.{file_in}
use Rattle.bohm_command.proofs.ForCallers.{takes_line, same_faults, same_rows}
use Rattle.bohm_check_cli.proofs.arguments.read_arguments.Goals.{After-as_slice}
use Rattle.bohm_check_cli.proofs.arguments.read_arguments.Goals as goal

-- the command line is the program's name, followed by the arguments
whole : (c : After-as_slice) → texts c.as_slice.result.now ≡ codes "bohm-check" ∷ map string_bytes c.args.arguments.now
whole c = rw c.as_slice.ensures.value c.in_ok-line.ensures

pub returns-clause-ok : goal.returns-clause-ok
returns-clause-ok c =
    let line = whole (goal.at.returns-clause-ok c).After-as_slice in
    c.in_ok-file_given.ensures ∙ ap file_in (c.in_ok-matches.ensures.rows ∙ same_rows _ _ _ _ c.in_ok-command_with_file.ensures line)

pub returns-clause-faultless : goal.returns-clause-faultless
returns-clause-faultless c =
    let line = whole (goal.at.returns-clause-faultless c).After-as_slice in
    sym (same_faults _ _ _ _ c.in_ok-command_with_file.ensures line) ∙ c.in_ok-matches.ensures.faultless

pub returns-in_err-matches-clause-taken : goal.returns-in_err-matches-clause-taken
returns-in_err-matches-clause-taken c = λ taken.
    let line = whole (goal.at.returns-in_err-matches-clause-taken c).After-as_slice in
    let p = err_from_is_err_and c.from_residual-in_err-matches.result c.from_residual-in_err-matches.ensures.1 in
    rw (p.1, p.2) (c.in_err-matches.ensures.taken (takes_line _ _ _ _ c.in_ok-command_with_file.ensures line taken))

pub returns-in_err-matches-clause-found : goal.returns-in_err-matches-clause-found
returns-in_err-matches-clause-found c =
    let line = whole (goal.at.returns-in_err-matches-clause-found c).After-as_slice in
    let same = same_faults _ _ _ _ c.in_ok-command_with_file.ensures line in
    let p = err_from_is_err_and c.from_residual-in_err-matches.result c.from_residual-in_err-matches.ensures.1 in
    rw (p.1, p.2) (subst (λ (kinds : Kinds). IsFoundAmong kinds c.in_err-matches.field-0.0) same c.in_err-matches.ensures.found)
