use Rattle.std.proofs.Common.{◌≡◌, ◌+◌, ◌∷◌, List, ℕ, length, ap, sym, subst, ◌∙◌, arith, Err, length-append}
use Rattle.std.proofs.Sketches.{bounds}
use Rattle.bohm_text.specs.Cut.{whole_lines}
use Rattle.bohm_text.specs.Step.{Nothing, step}
use Rattle.bohm_text.specs.declared.fault.WindowFault.{WindowFault}
use Rattle.bohm_text.specs.Parse.{IsFirstFault, IsUnfinished, IsReadAs, ReadsBehind}
use Rattle.bohm_text.specs.Windows.{headed}
use Rattle.bohm_text.proofs.Lines.{step-head_bad}
use Rattle.bohm_text.proofs.Stepping.{read_none, line_fault}
use Rattle.bohm_text.proofs.Headed.{is_headed, lines_headed}
use Rattle.bohm_text.proofs.Placed.{lines_short}
use Rattle.bohm_text.proofs.parsing.read_text.Goals as goal

pub returns-in_default-read_head : goal.returns-in_default-read_head
returns-in_default-read_head c =
    line_fault (read_none step Nothing c.args.text.now) c.in-Some.head.now c.in-Some.others.now c.in-Some.ensures.lines
    (step-head_bad c.in-Some.head.now (sym c.read_head.ensures ∙ c.in_default-read_head.is))

pub overflow_add-result : goal.overflow_add-result
overflow_add-result c = omega (
  arith,
  bounds,
  c.in-Ok.ensures.1,
  lines_short c.in-Some.others.now,
  ap length c.in-Some.ensures.bytes,
  length-append c.in-Some.head.now (10 ∷ c.in-Some.others.now),
)

pub overflow_add-result-in-Err-Open : goal.overflow_add-result-in-Err-Open
overflow_add-result-in-Err-Open c =
    let h = subst (λ (f : WindowFault). ReadsBehind c.in-Some-read_head.edition c.in-Some.others.now (Err f)) c.in-Err-Open.field-0-is c.in-Err-Open.ensures in
    omega (
      arith,
      bounds,
      h.1,
      lines_short c.in-Some.others.now,
      ap length c.in-Some.ensures.bytes,
      length-append c.in-Some.head.now (10 ∷ c.in-Some.others.now),
    )

pub returns-in-Ok : goal.returns-in-Ok
returns-in-Ok c =
    let same : headed c.in-Some-read_head.edition c.in-Some.others.now ≡ c.args.text.now = is_headed c.in-Some-read_head.edition c.args.text.now
    c.in-Some.head.now c.in-Some.others.now c.in-Some.ensures.bytes (sym c.read_head.ensures ∙ c.in-Some-read_head.is) in (
      subst (λ (text : List ℕ). IsReadAs text c.in-Ok.reader) same c.in-Ok.ensures.0,
      omega (arith, c.in-Ok.ensures.1, lines_headed c.in-Some-read_head.edition c.in-Some.others.now, ap (λ (text : List ℕ). length (whole_lines text)) same),
    )

pub returns-in-Err-Line : goal.returns-in-Err-Line
returns-in-Err-Line c =
    let same : headed c.in-Some-read_head.edition c.in-Some.others.now ≡ c.args.text.now = is_headed c.in-Some-read_head.edition c.args.text.now
    c.in-Some.head.now c.in-Some.others.now c.in-Some.ensures.bytes (sym c.read_head.ensures ∙ c.in-Some-read_head.is) in
    subst (λ (text : List ℕ). IsFirstFault (whole_lines text) (c.in-Err-Line.n + 1)) same
    (subst (λ (f : WindowFault). ReadsBehind c.in-Some-read_head.edition c.in-Some.others.now (Err f)) c.in-Err-Line.field-0-is c.in-Err-Line.ensures).0

pub returns-in-Err-Open : goal.returns-in-Err-Open
returns-in-Err-Open c =
    let same : headed c.in-Some-read_head.edition c.in-Some.others.now ≡ c.args.text.now = is_headed c.in-Some-read_head.edition c.args.text.now
    c.in-Some.head.now c.in-Some.others.now c.in-Some.ensures.bytes (sym c.read_head.ensures ∙ c.in-Some-read_head.is) in
    let h = subst (λ (f : WindowFault). ReadsBehind c.in-Some-read_head.edition c.in-Some.others.now (Err f)) c.in-Err-Open.field-0-is
    c.in-Err-Open.ensures in (
      subst IsUnfinished same h.0,
      omega (arith, h.1, lines_headed c.in-Some-read_head.edition c.in-Some.others.now, ap (λ (text : List ℕ). length (whole_lines text)) same),
    )
