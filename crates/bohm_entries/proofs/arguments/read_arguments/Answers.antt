use Rattle.std.proofs.Common.{◌≡◌, ◌+◌, None, length, drop, take, ap, sym, subst, ◌∙◌, arith, length-drop, length-take}
use Rattle.std.proofs.lemmas.Result.{err_from_is_err_and}
use Rattle.bohm_entries.specs.Batches.{values_of}
use Rattle.bohm_entries.specs.Refusals.{RefusesArguments}
use Rattle.bohm_entries.proofs.Reading as lemma
use Rattle.bohm_entries.proofs.arguments.read_arguments.Goals as goal

pub returns-in_err-values_read-clause-refused : goal.returns-in_err-values_read-clause-refused
returns-in_err-values_read-clause-refused c r is =
    let behind = c.skip.ensures.rest c.if-not-skip.false ∙ ap (drop c.args.keys) c.fork-behind.ensures in
    let ahead = c.skip-2.ensures.rest c.if-not-skip-2.false ∙ ap (drop c.args.values) c.fork-ahead.ensures in
    let count = lemma.words_counted c.args.words c.skip.new.words c.skip-2.new.words c.args.keys c.args.values behind ahead
    (omega (arith, c.skip.ensures.enough c.if-not-skip.false, ap length c.fork-behind.ensures))
    (omega (arith, c.skip-2.ensures.enough c.if-not-skip-2.false, ap length c.fork-ahead.ensures)) c.in-None.ensures.0 in
    let p = err_from_is_err_and c.from_residual.result c.from_residual.ensures.1 in
    let told = sym p.1 ∙ is in
    let same = p.2 in
    let why = c.in_err-values_read.ensures.refused r (cc) in
    subst (RefusesArguments c.args.words c.args.keys c.args.values) (sym why.0) (count, ap values_of (sym behind) ∙ why.1)

pub returns-in_err-keys_read-clause-refused : goal.returns-in_err-keys_read-clause-refused
returns-in_err-keys_read-clause-refused c r is =
    let behind = c.skip.ensures.rest c.if-not-skip.false ∙ ap (drop c.args.keys) c.fork-behind.ensures in
    let ahead = c.skip-2.ensures.rest c.if-not-skip-2.false ∙ ap (drop c.args.values) c.fork-ahead.ensures in
    let count = lemma.words_counted c.args.words c.skip.new.words c.skip-2.new.words c.args.keys c.args.values behind ahead
    (omega (arith, c.skip.ensures.enough c.if-not-skip.false, ap length c.fork-behind.ensures))
    (omega (arith, c.skip-2.ensures.enough c.if-not-skip-2.false, ap length c.fork-ahead.ensures)) c.in-None.ensures.0 in
    let p = err_from_is_err_and c.from_residual-in_err-keys_read.result c.from_residual-in_err-keys_read.ensures.1 in
    let told = sym p.1 ∙ is in
    let same = p.2 in
    let why = c.in_err-keys_read.ensures.refused r (cc) in
    let some = lemma.some_is _ _ (ap values_of (sym behind) ∙ c.in_ok-values_read.ensures.found) in
    subst (RefusesArguments c.args.words c.args.keys c.args.values) (sym why.0) (count, some, why.1)

pub returns-clause-words : goal.returns-clause-words
returns-clause-words c =
    let behind = c.skip.ensures.rest c.if-not-skip.false ∙ ap (drop c.args.keys) c.fork-behind.ensures in
    let ahead = c.skip-2.ensures.rest c.if-not-skip-2.false ∙ ap (drop c.args.values) c.fork-ahead.ensures in
    lemma.words_counted c.args.words c.skip.new.words c.skip-2.new.words c.args.keys c.args.values behind ahead
    (omega (arith, c.skip.ensures.enough c.if-not-skip.false, ap length c.fork-behind.ensures))
    (omega (arith, c.skip-2.ensures.enough c.if-not-skip-2.false, ap length c.fork-ahead.ensures)) c.in-None.ensures.0

pub returns-clause-counts : goal.returns-clause-counts
returns-clause-counts c =
    let behind = c.skip.ensures.rest c.if-not-skip.false ∙ ap (drop c.args.keys) c.fork-behind.ensures in
    let ahead = c.skip-2.ensures.rest c.if-not-skip-2.false ∙ ap (drop c.args.values) c.fork-ahead.ensures in
    let enough = c.skip.ensures.enough c.if-not-skip.false in
    let count = lemma.words_counted c.args.words c.skip.new.words c.skip-2.new.words c.args.keys c.args.values behind ahead
    (omega (arith, enough, ap length c.fork-behind.ensures))
    (omega (arith, c.skip-2.ensures.enough c.if-not-skip-2.false, ap length c.fork-ahead.ensures)) c.in-None.ensures.0 in
    let keys = lemma.keys_counted (take c.args.keys c.args.words) _ c.in_ok-keys_read.ensures.found in
    let values = lemma.values_counted c.skip.new.words _ c.in_ok-values_read.ensures.found in (
      omega (arith, keys, count, length-take c.args.keys c.args.words),
      omega (arith, values, count, ap length behind, length-drop c.args.keys c.args.words),
    )
