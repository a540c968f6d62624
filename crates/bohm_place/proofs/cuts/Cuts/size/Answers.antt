use Rattle.std.proofs.Common.{◌≡◌, ◌+◌, ◌<◌, ◌≤◌, ◌∙◌, length}
use Rattle.std.specs.Prelude.{slice_index}
use Rattle.std.specs.List.{sum}
use Rattle.std.proofs.lemmas.Grind.{get_or_default_zero}
use Rattle.bohm_place.specs.Cuttings.{ahead}
use Rattle.bohm_place.proofs.Sizes.{size_at, ahead_inside}
use Rattle.bohm_place.proofs.cuts.Cuts.size.Goals as goal

pub returns-clause-in_range : goal.returns-clause-in_range
returns-clause-in_range c =
    let sizes = c.self.inside.sizes.items in
    let at : c.args.place < length sizes = rw c.self.view_is c.requires in
    let same : c.index.result.now ≡ slice_index sizes c.args.place = c.index.ensures ∙ get_or_default_zero sizes c.args.place c.index.result.now at in
    rw same (size_at sizes c.self.invariant.0 c.args.place at)

pub returns-clause-inside : goal.returns-clause-inside
returns-clause-inside c =
    let sizes = c.self.inside.sizes.items in
    let at : c.args.place < length sizes = rw c.self.view_is c.requires in
    let same : c.index.result.now ≡ slice_index sizes c.args.place = c.index.ensures ∙ get_or_default_zero sizes c.args.place c.index.result.now at in
    let inside : ahead sizes c.args.place + c.index.result.now ≤ sum sizes = rw same (ahead_inside sizes c.args.place at) in
    rw c.self.view_is at inside
