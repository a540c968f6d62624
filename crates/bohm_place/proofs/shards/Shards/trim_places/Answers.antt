use Rattle.std.proofs.Common.{◌≡◌, ◌<◌, ◌++◌, length, take, drop, arith}
use Rattle.std.proofs.lemmas.Grind.{common_steps}
use Rattle.bohm_place.specs.Chains.{chain_in, kept}
use Rattle.bohm_place.proofs.Keeping.{All-kept}
use Rattle.bohm_place.proofs.shards.Shards.trim_places.Goals as goal

pub returns-clause-below : goal.returns-clause-below
returns-clause-below c part k ts low =
    let left = c.trim_parts.new.parts in
    let old = c.self.inside.parts.items in
    let same : take c.self.inside.parts.len (left ++ drop (length left) old) ≡ left = grind (arith, common_steps) in
    let is : chain_in part left k ≡ kept c.args.floor (chain_in part old k) = rw c.as_mut_slice.ensures.value at (c.trim_parts.ensures part k) in
    rw (same, is) (All-kept (λ b. b < ts) c.args.floor (chain_in part old k) (rw (← c.self.view_is) at low))
