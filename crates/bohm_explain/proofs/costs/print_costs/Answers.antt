use Rattle.std.proofs.Common.{◌≡◌, ◌∙◌, ◌++◌, true, false, ap, sym}
use Rattle.bohm_procedures.specs.Accepting.{own}
use Rattle.bohm_settings.specs.Given.{Given}
use Rattle.bohm_explain.specs.Costs.{cost_json, cost_of, cost_table}
use Rattle.bohm_explain.specs.declared.layout.Layout.{Layout}
use Rattle.bohm_explain.proofs.costs.print_costs.Goals as goal

pub returns-then-layout : goal.returns-then-layout
returns-then-layout c =
    let own = own c.args.procedure.now in
    let cost : c.cost_of-cost.result ≡ cost_of c.args.request.given own = c.cost_of-cost.ensures own (c.part.ensures.same ∙ c.in_ok-log.ensures)
    ∙ ap (λ (g : Given). cost_of g own) c.settings.ensures in
    let json : c.args.request.layout.json ≡ true = sym (ap (λ (l : Layout). l.json) c.layout.ensures) ∙ c.if-layout.true in
    rw json (c.in_ok-put_json.ensures ∙ (λ i. c.new-out.ensures.items i ++ cost_json (cost i)))

pub returns : goal.returns
returns c =
    let own = own c.args.procedure.now in
    let cost : c.cost_of-cost.result ≡ cost_of c.args.request.given own = c.cost_of-cost.ensures own (c.part.ensures.same ∙ c.in_ok-log.ensures)
    ∙ ap (λ (g : Given). cost_of g own) c.settings.ensures in
    let plain : c.args.request.layout.json ≡ false = sym (ap (λ (l : Layout). l.json) c.layout.ensures) ∙ c.if-layout.false in
    rw plain (c.in_ok-put_table.ensures ∙ (λ i. c.new-out.ensures.items i ++ cost_table (cost i)))
