use Rattle.std.specs.Prelude.{Err}
use Rattle.std.proofs.Common.{ap, ◌∙◌, length, arith}
use Rattle.bohm_types.specs.Document.{Document}
use Rattle.bohm_entries.proofs.Reading as lemma
use Rattle.bohm_entries.proofs.Storeless.{no_store}
use Rattle.bohm_entries.proofs.transaction.read_transaction.Goals as goal

pub overflow_sub-result : goal.overflow_sub-result
overflow_sub-result c = (c.in-Err-Line.ensures.line c.in-Err-Line.line (ap Err c.in-Err-Line.field-0-is)).counted

pub returns-in-Ok-check-clause-found : goal.returns-in-Ok-check-clause-found
returns-in-Ok-check-clause-found c =
    let read = lemma.txn_read c.args.edition c.args.lines.now c.in-Ok-parse_with_seed.doc c.in-Ok-parse_with_seed.ensures.sound
    (c.in-Ok-parse_with_seed.ensures.found ∙ c.as_slice.ensures.value ∙ c.in-Ok.ensures) (omega (arith, ap length c.log.ensures, c.len.ensures, c.if-len-ne1.false)) in
    (read.0, ap (λ (d : Document). d.log) c.in-Ok-check.ensures.ok ∙ read.1, read.2)

pub returns-clause-check : goal.returns-clause-check
returns-clause-check c = λ f is.
    let read = lemma.txn_read c.args.edition c.args.lines.now c.in-Ok-parse_with_seed.doc c.in-Ok-parse_with_seed.ensures.sound
    (c.in-Ok-parse_with_seed.ensures.found ∙ c.as_slice.ensures.value ∙ c.in-Ok.ensures) (omega (arith, ap length c.log.ensures, c.len.ensures, c.if-len-ne1.false)) in
    (c.in-Ok-parse_with_seed.doc, read.0, read.1, read.2, lemma.same_fault _ _ _ is c.in-Err.ensures.err)

pub returns-in-Ok-check-clause-store : goal.returns-in-Ok-check-clause-store
returns-in-Ok-check-clause-store c =
    ap (λ (d : Document). d.store) c.in-Ok-check.ensures.ok
    ∙ no_store c.args.edition c.args.lines.now c.in-Ok-parse_with_seed.doc c.in-Ok-parse_with_seed.ensures.sound
    (c.in-Ok-parse_with_seed.ensures.found ∙ c.as_slice.ensures.value ∙ c.in-Ok.ensures)
