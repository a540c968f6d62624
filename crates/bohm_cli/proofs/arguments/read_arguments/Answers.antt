use Rattle.std.proofs.Common.{◌≡◌, ◌∷◌, ◌∙◌, map, codes, refl, sym, subst, ap, arith, rules}
use Rattle.std.specs.Prelude.{Some, string_bytes}
use Rattle.std.proofs.lemmas.Result.{err_from_is_err_and}
use Rattle.clap.specs.Walk.{rows_of, texts}
use Rattle.clap.specs.Words.{Kinds, found_of}
use Rattle.bohm_settings.specs.Given.{Given}
use Rattle.bohm_settings.specs.declared.settings.TheConstants.{MOST_WORKERS, MOST_PARTS, LARGEST_BATCH, MOST_KEPT}
use Rattle.bohm_command.specs.Faults.{IsFoundAmong}
use Rattle.bohm_command.proofs.ForCallers.{takes_line, same_faults, same_rows, number, number_or}
use Rattle.bohm_cli.specs.Taken.{settings_in}
use Rattle.bohm_cli.proofs.Readings.{settings_read, same_settings}
use Rattle.bohm_cli.proofs.arguments.read_arguments.Goals.{After-as_slice, After-new-settings}
use Rattle.bohm_cli.proofs.arguments.read_arguments.Goals as goal

-- the command line is the program's name and the arguments
whole : (c : After-as_slice) → texts c.as_slice.result.now ≡ codes "bohm" ∷ map string_bytes c.args.arguments.now
whole c = rw c.as_slice.ensures.value c.in_ok-line.ensures

-- the parsed numbers make the settings that the arguments give
made : (c : After-new-settings) → c.new-settings.result ≡ Some (settings_in (map string_bytes c.args.arguments.now))
made c =
    let line = whole (goal.at.unwrap-requires c).After-as_slice in
    let is = c.in_ok-command.ensures in
    let read = number_or _ _ _ c.in_ok-matches.ensures.parsed is refl refl in
    let plain = c.default-defaults.ensures in
    let cc = read (codes "cc") 1 MOST_WORKERS (omega arith) refl refl _ _ _ _ (c.count.ensures.count ∙ c.cc.ensures.value ∙ ap (λ (g : Given). g.cc) plain)
    (rw c.count.ensures.count c.cc.ensures.in_range) c.unwrap_or.ensures c.get_one.ensures.none c.get_one.ensures.value in
    let exec = read (codes "exec") 1 MOST_WORKERS (omega arith) refl refl _ _ _ _
    (c.count-2.ensures.count ∙ c.exec.ensures.value ∙ ap (λ (g : Given). g.exec) plain)
    (rw c.count-2.ensures.count c.exec.ensures.in_range) c.unwrap_or-2.ensures c.get_one-2.ensures.none c.get_one-2.ensures.value in
    let parts = read (codes "parts") 1 MOST_PARTS (omega arith) refl refl _ _ _ _ (c.parts.ensures.value ∙ ap (λ (g : Given). g.parts) plain)
    c.parts.ensures.in_range c.unwrap_or-3.ensures c.get_one-3.ensures.none c.get_one-3.ensures.value in
    let batch = read (codes "batch") 1 LARGEST_BATCH (omega arith) refl refl _ _ _ _ (c.batch.ensures.value ∙ ap (λ (g : Given). g.batch) plain)
    c.batch.ensures.in_range c.unwrap_or-4.ensures c.get_one-4.ensures.none c.get_one-4.ensures.value in
    let keep = read (codes "keep") 0 MOST_KEPT (omega arith) refl refl _ _ _ _ (c.timestamps.ensures ∙ c.keep.ensures.value ∙ ap (λ (g : Given). g.keep) plain)
    (omega arith, rw c.timestamps.ensures c.keep.ensures.in_range) c.unwrap_or-5.ensures c.get_one-5.ensures.none c.get_one-5.ensures.value in
    let at = number _ _ _ c.in_ok-matches.ensures.parsed is refl refl (codes "at") 0 4294967295
    (omega arith) refl refl _ c.get_one-6.ensures.none c.get_one-6.ensures.value in
    let same = same_settings _ _ (c.in_ok-matches.ensures.rows ∙ same_rows _ _ _ _ is line) in
    settings_read (rows_of (found_of c.in_ok-matches.matches)) _ cc exec parts batch keep at _ c.new-settings.ensures ∙ ap Some same

pub unwrap-requires : goal.unwrap-requires
unwrap-requires c = rw (made c) refl

pub returns-clause-ok : goal.returns-clause-ok
returns-clause-ok c =
    let read = made (goal.at.returns-clause-ok c).After-new-settings in
    let taken : Some c.unwrap.result ≡ Some (settings_in (map string_bytes c.args.arguments.now)) = search (rules, read) in
    search (rules, taken)

pub returns-clause-faultless : goal.returns-clause-faultless
returns-clause-faultless c =
    let line = whole (goal.at.returns-clause-faultless c).After-as_slice in
    sym (same_faults _ _ _ _ c.in_ok-command.ensures line) ∙ c.in_ok-matches.ensures.faultless

pub returns-in_err-matches-clause-taken : goal.returns-in_err-matches-clause-taken
returns-in_err-matches-clause-taken c = λ taken.
    let line = whole (goal.at.returns-in_err-matches-clause-taken c).After-as_slice in
    let p = err_from_is_err_and c.from_residual-in_err-matches.result c.from_residual-in_err-matches.ensures.1 in
    rw (p.1, p.2) (c.in_err-matches.ensures.taken (takes_line _ _ _ _ c.in_ok-command.ensures line taken))

pub returns-in_err-matches-clause-found : goal.returns-in_err-matches-clause-found
returns-in_err-matches-clause-found c =
    let line = whole (goal.at.returns-in_err-matches-clause-found c).After-as_slice in
    let same = same_faults _ _ _ _ c.in_ok-command.ensures line in
    let p = err_from_is_err_and c.from_residual-in_err-matches.result c.from_residual-in_err-matches.ensures.1 in
    rw (p.1, p.2) (subst (λ (kinds : Kinds). IsFoundAmong kinds c.in_err-matches.field-0.0) same c.in_err-matches.ensures.found)
