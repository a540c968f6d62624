use Rattle.std.proofs.Common.{◌-◌, refl}
use Rattle.bohm_place.proofs.Noted.{noted_there}
use Rattle.bohm_place.proofs.planned.Plan.note.Goals as goal

pub returns : goal.returns
returns c =
    let inside = rw (← c.self.view_is) at c.requires.index in
    let before = rw (← c.self.view_is) at c.requires.source in
    let value = rw c.place-accessed.ensures at c.index_mut.ensures.value in
    rw (← c.self.view_is, c.place-accessed.ensures)
    (noted_there c.self.inside.first c.self.inside.slots c.self.inside.placeholders.items c.self.inside.rows.items
    c.args.set (c.args.t - c.self.inside.first) c.args.index c.args.place c.index-row.result.now c.index_mut.result.now
    (record { begin = c.index_mut.result.now.begin; index = c.args.place }) c.self.invariant.laid c.index-row.ensures inside value refl refl before)
