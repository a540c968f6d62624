use Rattle.std.proofs.Common.{sym, ◌∙◌}
use Rattle.std.proofs.lemmas.Result.{err_from_is_err_and}
use Rattle.bohm_replay.proofs.Admitted as lemma
use Rattle.bohm_replay.proofs.admitting.admit.Goals as goal

pub returns-in_err-read_by_kind-clause-refused : goal.returns-in_err-read_by_kind-clause-refused
returns-in_err-read_by_kind-clause-refused c r is =
    let p = err_from_is_err_and c.from_residual.result c.from_residual.ensures.1 in
    let told = sym p.1 ∙ is in
    let same = p.2 in
    let why = c.in_err-read_by_kind.ensures.refused r (cc) in
    lemma.refused_behind _ c.args.entry.now r (record {
      kind = c.in-Some.field-0.first.kind;
      id = _;
      rest = c.in-Some.field-0.first.rest;
      lines = c.in-Some.field-0.lines.now;
      head = c.in-Some.ensures.some;
      small = λ large. absurd (let wrong = sym (c.is_large.ensures.no large) ∙ c.if-is_large.false in cc);
      why = why;
    })
