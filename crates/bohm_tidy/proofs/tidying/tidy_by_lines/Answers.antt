use Rattle.std.proofs.Common.{◌≡◌, List, ℕ, None, Err, ap, sym, subst, ◌∙◌}
use Rattle.bohm_tidy.specs.Plain.{Written, written, written_of}
use Rattle.bohm_tidy.specs.Tidied.{IsExactDoc}
use Rattle.bohm_tidy.proofs.Exact.{no_text}
use Rattle.bohm_tidy.proofs.Readings.{double_by_lines, read_by_lines}
use Rattle.bohm_tidy.proofs.tidying.tidy_by_lines.Goals as goal

pub returns-in-Ok-print_settled-clause-ok : goal.returns-in-Ok-print_settled-clause-ok
returns-in-Ok-print_settled-clause-ok c =
    read_by_lines c.args.text.now _ c.as_slice.result.now c.as_slice-2.result.now c.as_slice-3.result.now (written_of c.in_ok-plain.plain) c.in-Ok.doc
    c.in_ok-plain.ensures (sym c.as_slice.ensures.value) (sym c.as_slice-2.ensures.value)
    (sym c.as_slice-3.ensures.value) c.in-Ok.ensures.found c.in-Ok.ensures.sound c.in-Ok-print_settled.ensures.distinct c.in-Ok-print_settled.ensures.text

pub returns-in-Err-Line-clause-err : goal.returns-in-Err-Line-clause-err
returns-in-Err-Line-clause-err c =
    let bytes : c.as_slice.result.now ≡ (written c.args.text.now).text = c.as_slice.ensures.value ∙ ap (λ (w : Written). w.text) c.in_ok-plain.ensures in
    let bad = no_text c.as_slice.result.now _ (c.in-Err-Line.ensures.line _ (ap (λ e. Err e) c.in-Err-Line.field-0-is)) in
    (subst (λ (t : List ℕ). IsExactDoc t None) bytes bad, c.in_ok-loose_line-in-Err-Line.ensures)

pub returns-in-Err-Short-clause-err : goal.returns-in-Err-Short-clause-err
returns-in-Err-Short-clause-err c =
    let bytes : c.as_slice.result.now ≡ (written c.args.text.now).text = c.as_slice.ensures.value ∙ ap (λ (w : Written). w.text) c.in_ok-plain.ensures in
    let short = c.in-Err-Short.ensures.short (ap (λ e. Err e) c.in-Err-Short.field-0-is) in
    subst (λ (t : List ℕ). IsExactDoc t None) bytes short.none

pub returns-clause-err : goal.returns-clause-err
returns-clause-err c =
    double_by_lines c.args.text.now c.as_slice.result.now (written_of c.in_ok-plain.plain) c.in-Ok.doc
    c.in_ok-plain.ensures (sym c.as_slice.ensures.value) c.in-Ok.ensures.found c.in-Ok.ensures.sound
    (c.in-Err-Twice.ensures.twice (ap (λ e. Err e) c.in-Err-Twice.field-0-is))
