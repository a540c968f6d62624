use Rattle.bohm_board.proofs.DeclaredPlaces.{distinct_steady, listed_base}
use Rattle.bohm_board.proofs.batch.Batch.new.Goals as goal

pub invariant_of-result : goal.invariant_of-result
invariant_of-result c =
    let entries = c.args.base.items in
    let noted = rw c.deref.ensures.value at c.note_places.ensures.noted in
    record {
      batched = c.note_places.ensures.batched;
      based = listed_base c.args.txns c.note_places.new.plan entries c.from.result c.from.ensures (distinct_steady entries c.requires.base.apart) noted;
    }
