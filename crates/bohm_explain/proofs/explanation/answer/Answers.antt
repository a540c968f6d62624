use Rattle.std.proofs.Common.{◌≡◌, ◌∙◌, ℕ, List, None, ap, arith, rules, sym}
use Rattle.bohm_place.specs.CutLogs.{cutting_of}
use Rattle.bohm_read_ahead.specs.declared.checked_chunk.Sharing.{Sharing}
use Rattle.bohm_explain.specs.declared.heat.Heat.{Heat}
use Rattle.bohm_explain.specs.declared.parts.Part.{Part}
use Rattle.bohm_explain.specs.Parts.{parts_in}
use Rattle.bohm_explain.specs.Printed.{figures_text}
use Rattle.bohm_explain.proofs.Requests.{figures, no_picture, picture}
use Rattle.bohm_explain.proofs.Surveys.{apart}
use Rattle.bohm_explain.proofs.explanation.answer.Goals as goal

pub rank-ranked-requires : goal.rank-ranked-requires
rank-ranked-requires c = record { distinct = apart _ (c.in_ok-heats.ensures _ _ c.in_ok-survey.ensures.keys).distinct }

pub returns-then-count-number-clause-lacking : goal.returns-then-count-number-clause-lacking
returns-then-count-number-clause-lacking c =
    no_picture c.args.request c.args.log.now c.settings.result c.in_ok-cut.cut.cuts c.in_ok-cut.cut.ways.items c.settings.ensures c.in_ok-cut.ensures.cut
    c.in-Some.number (sym c.picture-2.ensures.value ∙ c.in-Some.is) (omega (arith, c.count.ensures, c.if-count-number.true))

pub returns-in-Some-clause-answers : goal.returns-in-Some-clause-answers
returns-in-Some-clause-answers c =
    picture c.args.request c.args.log.now c.settings.result c.in_ok-cut.cut.cuts c.in_ok-cut.cut.ways.items c.settings.ensures c.in_ok-cut.ensures.cut
    c.in_ok-text.text.items c.in-Some.number (sym c.picture-2.ensures.value ∙ c.in-Some.is) (omega (arith, c.count.ensures, c.if-count-number.false))

pub returns-clause-answers : goal.returns-clause-answers
returns-clause-answers c =
    let asked = c.args.request in
    let k = cutting_of c.new-cut_up.result in
    let how = c.in_ok-cut.cut.ways.items in
    let none : c.picture-2.result ≡ None = search rules in
    let says = c.in_ok-text-2.ensures
    ∙ (ap (λ (ps : List Part). figures_text asked ps c.as_slice-2.result.now c.as_slice-3.result.now)
    (c.as_slice-parts.ensures.value ∙ (c.in_ok-survey.ensures.parts ∙ ap (λ (ws : List Sharing). parts_in k ws) c.as_slice.ensures.value))
    ∙ (ap (λ (hs : List Heat). figures_text asked (parts_in k how) hs c.as_slice-3.result.now) c.as_slice-2.ensures.value
    ∙ ap (λ (ps : List ℕ). figures_text asked (parts_in k how) c.rank-ranked.result.items ps) c.as_slice-3.ensures.value)) in
    figures asked c.args.log.now c.settings.result c.in_ok-cut.cut.cuts how c.settings.ensures c.in_ok-cut.ensures.cut k c.new-cut_up.ensures
    c.in_ok-heats.field-0.items c.rank-ranked.result.items c.in_ok-survey.survey.longest.items c.in_ok-text-2.text.items
    (c.in_ok-heats.ensures _ _ c.in_ok-survey.ensures.keys) c.rank-ranked.ensures c.in_ok-survey.ensures.longest says (sym c.picture-2.ensures.value ∙ none)
