use Rattle.std.proofs.Common.{refl, sym, ◌∙◌}
use Rattle.bohm_entries.proofs.Cutting as lemma
use Rattle.bohm_entries.proofs.batch.split_entry.Goals as goal

pub lines-init : goal.lines-init
lines-init c = lemma.nothing_passed c.args.text.now

pub lines-preserved : goal.lines-preserved
lines-preserved c = lemma.one_passed c.args.text.now c.lines.rest.now c.in-Some.line.now c.in-Some.others.now c.lines.invariant
    c.in-Some.ensures.bytes c.in-Some.ensures.lines (sym c.ends_entry.ensures ∙ c.if-ends_entry.false)

pub returns-then-ends_entry-clause-entries : goal.returns-then-ends_entry-clause-entries
returns-then-ends_entry-clause-entries c = (lemma.cut_after c.args.text.now c.lines.rest.now c.in-Some.line.now c.in-Some.others.now _ c.lines.invariant
    c.in-Some.ensures.bytes c.in-Some.ensures.lines (sym c.ends_entry.ensures ∙ c.if-ends_entry.true) refl).entries

pub returns-then-ends_entry-clause-bytes : goal.returns-then-ends_entry-clause-bytes
returns-then-ends_entry-clause-bytes c = (lemma.cut_after c.args.text.now c.lines.rest.now c.in-Some.line.now c.in-Some.others.now _ c.lines.invariant
    c.in-Some.ensures.bytes c.in-Some.ensures.lines (sym c.ends_entry.ensures ∙ c.if-ends_entry.true) refl).bytes

pub returns-then-ends_entry-clause-whole : goal.returns-then-ends_entry-clause-whole
returns-then-ends_entry-clause-whole c = (lemma.cut_after c.args.text.now c.lines.rest.now c.in-Some.line.now c.in-Some.others.now _ c.lines.invariant
    c.in-Some.ensures.bytes c.in-Some.ensures.lines (sym c.ends_entry.ensures ∙ c.if-ends_entry.true) refl).whole

pub returns-clause-entries : goal.returns-clause-entries
returns-clause-entries c = lemma.none_left c.args.text.now c.lines.rest.now c.lines.invariant c.in_default.ensures.none
