use Rattle.std.proofs.Common.{◌<◌, ◌∷◌, [], List, All, length-append, arith}
use Rattle.std.proofs.lemmas.List.Elements.{All-push}
use Rattle.bohm_place.specs.declared.placeholder.Placeholder.{Placeholder}
use Rattle.bohm_place.proofs.newest.Newest.several.Goals as goal

pub loop-preserved : goal.loop-preserved
loop-preserved c =
    let old = c.loop.several.items in
    let one = c.new.result in
    rw c.in_ok-push.ensures.items (record {
      count = omega (arith, length-append old (one ∷ []), c.loop.invariant.count);
      unplanned = λ t. All-push (λ (a : List Placeholder). All (λ p. p.begin < t) a) old one (c.loop.invariant.unplanned t)
          (rw c.new.ensures (λ k d inside. absurd (omega arith)));
    })
