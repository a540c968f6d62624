use Rattle.std.proofs.Common.{◌≡◌, ◌∷◌, ◌∙◌, map, sym, subst}
use Rattle.std.specs.Prelude.{string_bytes}
use Rattle.clap.specs.Walk.{texts}
use Rattle.clap.specs.Words.{Kinds}
use Rattle.bohm_command.specs.Faults.{IsFoundAmong}
use Rattle.bohm_command.proofs.Takings.{takes_line, same_faults}
use Rattle.bohm_command.proofs.no_options.read_no_options.Goals as goal

pub returns-in-Ok-clause-faultless : goal.returns-in-Ok-clause-faultless
returns-in-Ok-clause-faultless c =
    let line : texts c.as_slice.result.now ≡ c.args.program.name.now ∷ map string_bytes c.args.arguments.now =
    rw c.as_slice.ensures.value c.in_ok-line.ensures in
    sym (same_faults _ _ _ _ c.command.ensures line) ∙ c.in-Ok.ensures.faultless

pub returns-clause-taken : goal.returns-clause-taken
returns-clause-taken c = λ taken.
    let line : texts c.as_slice.result.now ≡ c.args.program.name.now ∷ map string_bytes c.args.arguments.now =
    rw c.as_slice.ensures.value c.in_ok-line.ensures in
    c.in-Err.ensures.taken (takes_line _ _ _ _ c.command.ensures line taken)

pub returns-clause-found : goal.returns-clause-found
returns-clause-found c =
    let line : texts c.as_slice.result.now ≡ c.args.program.name.now ∷ map string_bytes c.args.arguments.now =
    rw c.as_slice.ensures.value c.in_ok-line.ensures in
    subst (λ (kinds : Kinds). IsFoundAmong kinds c.in-Err.fault) (same_faults _ _ _ _ c.command.ensures line) c.in-Err.ensures.found
