use Rattle.std.proofs.Common.{ℕ, List, ap, sym, subst, ◌∙◌}
use Rattle.bohm_log.specs.Interning.{with_name}
use Rattle.bohm_log.specs.Parts.{Begins}
use Rattle.bohm_log.proofs.Seeking.{numbered_already}
use Rattle.bohm_log.proofs.Widening.{with_name_begins}
use Rattle.bohm_log.proofs.names.Names.id.Goals as goal

pub returns-in-Some-clause-names : goal.returns-in-Some-clause-names
returns-in-Some-clause-names g c = numbered_already _ _ _ c.in-Some.ensures

pub returns-clause-kept : goal.returns-clause-kept
returns-clause-kept g c =
    subst (λ (names : List (List ℕ)). Begins c.args.self.now names)
    (sym (c.in_ok-index.ensures.keys ∙ ap (λ (names : List (List ℕ)). with_name names c.args.name) c.self.view_is))
    (with_name_begins c.args.self.now c.args.name)
