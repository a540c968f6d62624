use Rattle.std.proofs.Common.{◌≡◌, ◌∷◌, ◌∙◌, map, codes, refl, sym, subst, ap, arith, rules}
use Rattle.std.specs.Prelude.{Some, string_bytes}
use Rattle.std.proofs.lemmas.Result.{err_from_is_err_and}
use Rattle.clap.specs.Walk.{rows_of, texts}
use Rattle.clap.specs.Words.{Kinds, found_of}
use Rattle.bohm_settings.specs.Given.{Given}
use Rattle.bohm_settings.specs.declared.settings.TheConstants.{MOST_WORKERS, MOST_PARTS, LARGEST_BATCH}
use Rattle.bohm_explain.specs.declared.request.TheConstants.{LISTED, MOST_LISTED, LAST_PART}
use Rattle.bohm_command.specs.Options.{file_in, flag_in}
use Rattle.bohm_command.specs.Faults.{IsFoundAmong}
use Rattle.bohm_command.proofs.ForCallers.{takes_line, same_faults, same_rows, number, number_or}
use Rattle.bohm_explain_cli.specs.Options.{asked_in}
use Rattle.bohm_explain_cli.proofs.Readings.{request_read, wish_read}
use Rattle.bohm_explain_cli.proofs.arguments.read_arguments.Goals.{After-as_slice, After-new-request}
use Rattle.bohm_explain_cli.proofs.arguments.read_arguments.Goals as goal

-- the command line is the program's name, followed by the arguments
whole : (c : After-as_slice) → texts c.as_slice.result.now ≡ codes "bohm-explain" ∷ map string_bytes c.args.arguments.now
whole c = rw c.as_slice.ensures.value c.in_ok-line.ensures

-- the parsed numbers and flags make a request
made : (c : After-new-request) → c.new-request.result ≡ Some (asked_in (rows_of (found_of c.in_ok-matches.matches)))
made c =
    let is = c.in_ok-command.ensures in
    let read = number_or _ _ _ c.in_ok-matches.ensures.parsed is refl refl in
    let plain = c.default-defaults.ensures in
    let cc = read (codes "cc") 1 MOST_WORKERS (omega arith) refl refl _ _ _ _ (c.count.ensures.count ∙ c.cc.ensures.value ∙ ap (λ (g : Given). g.cc) plain)
    (rw c.count.ensures.count c.cc.ensures.in_range) c.unwrap_or.ensures c.get_one.ensures.none c.get_one.ensures.value in
    let exec = read (codes "exec") 1 MOST_WORKERS (omega arith) refl refl _ _ _ _
    (c.count-2.ensures.count ∙ c.exec.ensures.value ∙ ap (λ (g : Given). g.exec) plain)
    (rw c.count-2.ensures.count c.exec.ensures.in_range) c.unwrap_or-2.ensures c.get_one-2.ensures.none c.get_one-2.ensures.value in
    let parts = read (codes "parts") 1 MOST_PARTS (omega arith) refl refl _ _ _ _ (c.parts.ensures.value ∙ ap (λ (g : Given). g.parts) plain)
    c.parts.ensures.in_range c.unwrap_or-3.ensures c.get_one-3.ensures.none c.get_one-3.ensures.value in
    let batch = read (codes "batch") 1 LARGEST_BATCH (omega arith) refl refl _ _ _ _ (c.batch.ensures.value ∙ ap (λ (g : Given). g.batch) plain)
    c.batch.ensures.in_range c.unwrap_or-4.ensures c.get_one-4.ensures.none c.get_one-4.ensures.value in
    let top = read (codes "top") 0 MOST_LISTED (omega arith) refl refl LISTED _ _ _ refl
    (omega arith, omega arith) c.unwrap_or-5.ensures c.get_one-5.ensures.none c.get_one-5.ensures.value in
    let picture = number _ _ _ c.in_ok-matches.ensures.parsed is refl refl (codes "svg") 1 LAST_PART
    (omega arith) refl refl _ c.get_one-6.ensures.none c.get_one-6.ensures.value in
    let layout : record { summary = c.is_given.result; json = c.is_given-2.result } ≡ record {
      summary =
          flag_in (rows_of (found_of c.in_ok-matches.matches)) (codes "summary");
      json = flag_in (rows_of (found_of c.in_ok-matches.matches)) (codes "json");
    } =
    λ i. record { summary = c.is_given.ensures i; json = c.is_given-2.ensures i } in
    request_read (rows_of (found_of c.in_ok-matches.matches)) _ _ _ _ _ _ _ cc exec parts batch top picture layout _ c.new-request.ensures

pub unwrap-requires : goal.unwrap-requires
unwrap-requires c = rw (made (goal.at.unwrap-requires c).After-new-request) refl

pub returns-clause-file : goal.returns-clause-file
returns-clause-file c =
    let line = whole (goal.at.returns-clause-file c).After-as_slice in
    c.in_ok-file.ensures ∙ ap file_in (c.in_ok-matches.ensures.rows ∙ same_rows _ _ _ _ c.in_ok-command.ensures line)

pub returns-clause-ok : goal.returns-clause-ok
returns-clause-ok c =
    let line = whole (goal.at.returns-clause-ok c).After-as_slice in
    let read = made (goal.at.returns-clause-ok c).After-new-request in
    let taken : Some c.unwrap.result ≡ Some (asked_in (rows_of (found_of c.in_ok-matches.matches))) = search (rules, read) in
    let asked : c.unwrap.result ≡ asked_in (rows_of (found_of c.in_ok-matches.matches)) = search (rules, taken) in
    wish_read (rows_of (found_of c.in_ok-matches.matches)) _ _ _ _ (c.in_ok-matches.ensures.rows ∙ same_rows _ _ _ _ c.in_ok-command.ensures line)
    c.is_given-3.ensures asked c.wished-wish.ensures

pub returns-clause-faultless : goal.returns-clause-faultless
returns-clause-faultless c =
    let line = whole (goal.at.returns-clause-faultless c).After-as_slice in
    sym (same_faults _ _ _ _ c.in_ok-command.ensures line) ∙ c.in_ok-matches.ensures.faultless

pub returns-in_err-matches-clause-taken : goal.returns-in_err-matches-clause-taken
returns-in_err-matches-clause-taken c = λ taken.
    let line = whole (goal.at.returns-in_err-matches-clause-taken c).After-as_slice in
    let p = err_from_is_err_and c.from_residual-in_err-matches.result c.from_residual-in_err-matches.ensures.1 in
    rw (p.1, p.2) (c.in_err-matches.ensures.taken (takes_line _ _ _ _ c.in_ok-command.ensures line taken))

pub returns-in_err-matches-clause-found : goal.returns-in_err-matches-clause-found
returns-in_err-matches-clause-found c =
    let line = whole (goal.at.returns-in_err-matches-clause-found c).After-as_slice in
    let same = same_faults _ _ _ _ c.in_ok-command.ensures line in
    let p = err_from_is_err_and c.from_residual-in_err-matches.result c.from_residual-in_err-matches.ensures.1 in
    rw (p.1, p.2) (subst (λ (kinds : Kinds). IsFoundAmong kinds c.in_err-matches.field-0.0) same c.in_err-matches.ensures.found)
