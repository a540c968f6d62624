use Rattle.std.proofs.Common.{◌≡◌, arith, ap, ◌∙◌}
use Rattle.bohm_store.specs.Versions.{Timeline, kept_versions, versions}
use Rattle.bohm_machine.specs.Machines.{past_of}
use Rattle.bohm_machine.proofs.GoingOn.{trimmed}
use Rattle.bohm_machine.proofs.machine.Machine.trim.Goals as goal

pub returns-clause-past : goal.returns-clause-past
returns-clause-past c = λ ts above. c.trim.ensures.past ts above ∙ ap (λ (m : Timeline). past_of m ts) c.self.view_is

pub returns-clause-versions : goal.returns-clause-versions
returns-clause-versions c = λ above k.
    let floor : c.self.inside.history.floor ≡ c.args.self.now.floor = ap (λ (m : Timeline). m.floor) c.self.view_is in
    c.trim.ensures.versions (omega (arith, floor, above)) k ∙ ap (λ (m : Timeline). kept_versions c.args.floor (versions m k)) c.self.view_is

pub returns-clause-same : goal.returns-clause-same
returns-clause-same c = λ below k.
    let floor : c.self.inside.history.floor ≡ c.args.self.now.floor = ap (λ (m : Timeline). m.floor) c.self.view_is in
    c.trim.ensures.unchanged (omega (arith, floor, below)) k ∙ ap (λ (m : Timeline). versions m k) c.self.view_is

pub returns-clause-run : goal.returns-clause-run
returns-clause-run c = λ look start log h.
    let was = c.args.self.now in
    let floor : c.self.inside.history.floor ≡ was.floor = ap (λ (m : Timeline). m.floor) c.self.view_is in
    let top : c.self.inside.history.top ≡ was.top = ap (λ (m : Timeline). m.top) c.self.view_is in
    trimmed look start log was c.trim.new.self
    (omega (arith, floor, c.trim.ensures.floor))
    (omega (arith, floor, top, h.ordered, c.requires, c.trim.ensures.floor, c.trim.ensures.top))
    (omega (arith, top, c.trim.ensures.top))
    (λ ts above. c.trim.ensures.past ts above ∙ ap (λ (m : Timeline). past_of m ts) c.self.view_is)
    h
