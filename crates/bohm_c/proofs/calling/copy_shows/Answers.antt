use Rattle.std.proofs.Common.{◌∙◌}
use Rattle.std.specs.Int.{w64}
use Rattle.std.proofs.lemmas.Int.{to_z-of_z}
use Rattle.bohm_c.proofs.Seams.{replaced}
use Rattle.bohm_c.proofs.calling.copy_shows.Goals as goal

pub loop-index-preserved : goal.loop-index-preserved
loop-index-preserved c =
    replaced c.args.shows.now c.args.shown.now c.loop-index.shown c.loop-index.index _ c.index-shows-index.result c.loop-index.invariant
    c.loop-index-test.true c.requires (to_z-of_z w64 c.get.result (record { sfits = c.get.type_inv }) ∙ c.get.ensures ∙ c.index-shows-index.is)
