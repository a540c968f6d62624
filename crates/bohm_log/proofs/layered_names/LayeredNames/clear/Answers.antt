use Rattle.std.proofs.Common.{◌≡◌, ◌++◌, List, ℕ, ap, sym, take, ◌∙◌, arith, append-nil}
use Rattle.bohm_log.proofs.Layers.{cut_shared, taken_interned}
use Rattle.bohm_log.proofs.layered_names.LayeredNames.clear.Goals as goal

pub invariant_of-self : goal.invariant_of-self
invariant_of-self g c = (
  c.self.invariant.0,
  rw (c.clear.ensures, cut_shared c.self.inside.shared c.self.inside.own c.self.inside.shown c.self.inside.shown c.self.invariant.0 (omega arith))
      (taken_interned c.self.inside.shown _ c.self.invariant.1),
)

pub returns-clause-kept : goal.returns-clause-kept
returns-clause-kept g c =
    let front = take c.self.inside.shown c.self.inside.shared in
    let cut : front ++ c.clear.new.self ≡ front = ap (λ (own : List (List ℕ)). front ++ own) c.clear.ensures ∙ append-nil front in
    (c.self.inside.own, sym (ap (λ (names : List (List ℕ)). names ++ c.self.inside.own) cut ∙ c.self.view_is))
