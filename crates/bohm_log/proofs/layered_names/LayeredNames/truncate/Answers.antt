use Rattle.std.proofs.Common.{◌++◌, List, ℕ, ap, take, ◌∙◌, arith}
use Rattle.bohm_log.proofs.Layers.{cut_shared, cut_own, taken_interned}
use Rattle.bohm_log.proofs.layered_names.LayeredNames.truncate.Goals as goal

pub invariant_of-self : goal.invariant_of-self
invariant_of-self g c = (
  omega (arith, c.if-count-self.true, c.self.invariant.0),
  rw (
    c.clear.ensures,
    cut_shared c.self.inside.shared c.self.inside.own c.self.inside.shown c.args.count c.self.invariant.0
        (omega (arith, c.if-count-self.true)),
  )
      (taken_interned c.args.count _ c.self.invariant.1),
)

pub invariant_of-self-else-count-self : goal.invariant_of-self-else-count-self
invariant_of-self-else-count-self g c = (
  c.self.invariant.0,
  rw (
    c.truncate.ensures,
    cut_own c.self.inside.shared c.self.inside.own c.self.inside.shown c.args.count c.self.invariant.0
        (omega (arith, c.if-count-self.false)),
  )
      (taken_interned c.args.count _ c.self.invariant.1),
)

pub returns-else-count-self : goal.returns-else-count-self
returns-else-count-self g c =
    ap (λ (own : List (List ℕ)). take c.self.inside.shown c.self.inside.shared ++ own) c.truncate.ensures
    ∙ (cut_own c.self.inside.shared c.self.inside.own c.self.inside.shown c.args.count c.self.invariant.0 (omega (arith, c.if-count-self.false))
    ∙ ap (take c.args.count) c.self.view_is)
