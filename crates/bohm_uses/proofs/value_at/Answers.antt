use Rattle.std.proofs.Common.{ap, ◌∙◌}
use Rattle.bohm.specs.Print.{print_doc}
use Rattle.bohm_uses.proofs.Reading.{not_below, same_value}
use Rattle.bohm_uses.proofs.value_at.Goals as goal

pub returns : goal.returns
returns g c =
    let h = c.in_ok-answer.answer.history in
    let run = c.in_ok-answer.ensures.history in
    let read = c.value_at.result in
    let cell = c.in_ok-cell.cell in
    let above = not_below read cell _ c.args.ts h.floor c.in_ok-cell.was c.value_at.ensures.trimmed.1 in
    let below = not_below read cell _ h.top c.args.ts c.in_ok-cell.was c.value_at.ensures.future.1 in
    let held = same_value read cell _ c.in_ok-cell.was (c.value_at.ensures.within above below) in (
      c.in_ok-checked.checked,
      ap print_doc c.in_ok-checked.ensures.ok ∙ c.in_ok-doc.ensures.found,
      held ∙ ap (λ look. look c.args.key.now) (run.past c.args.ts above below),
    )
