use Rattle.bohm_board.proofs.DeclaredPlaces.{listed_base}
use Rattle.bohm_board.proofs.batch.Batch.own.Goals as goal

pub invariant_of-result : goal.invariant_of-result
invariant_of-result c =
    let entries = c.args.base.items in
    let noted = rw (c.deref.ensures.value, c.log.ensures.same) at c.note_in_order.ensures.noted in
    record {
      batched = rw c.log.ensures.same at c.note_in_order.ensures.batched;
      based = listed_base c.args.document.log c.note_in_order.new.plan entries c.from.result c.from.ensures c.requires.steady noted;
    }
