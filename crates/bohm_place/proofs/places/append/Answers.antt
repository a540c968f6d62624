use Rattle.std.proofs.Common.{sym, ap, ◌∙◌}
use Rattle.std.proofs.lemmas.Result.{IfOk-weaker}
use Rattle.bohm_place.specs.Chains.{items_of, last_or, none}
use Rattle.bohm_place.proofs.Keyed.{last_or-items}
use Rattle.bohm_place.proofs.places.append.Goals as goal

pub returns-in-Some-clause-newest : goal.returns-in-Some-clause-newest
returns-in-Some-clause-newest c = IfOk-weaker c.extend.result _ _
    (λ v e. e ∙ sym (ap (last_or none) (ap items_of (sym c.in-Some.ensures.value)) ∙ last_or-items none c.in-Some.chain.now)) c.extend.ensures.newest
