use Rattle.std.proofs.Common.{List, ℕ, subst}
use Rattle.bohm_reading.specs.Reading.{FirstRefused}
use Rattle.bohm_reading.proofs.SegmentLaws.{first_last, first_drained}
use Rattle.bohm_reading.proofs.reading.read_first.Goals as goal

pub returns-then-ended-clause-err : goal.returns-then-ended-clause-err
returns-then-ended-clause-err g c =
    let refused = subst (λ (t : List ℕ). FirstRefused t c.in_ok-text.field-0.ended c.first_refusal-fault.result) c.as_slice-in-Err.ensures.value
    c.first_refusal-fault.ensures in
    first_last (g.R.Read.remaining c.args.reader.now) (g.R.Read.remaining c.next_piece.new.reader) c.new.result.items c.new.ensures.items c.in_ok-text.field-0
    c.in_ok-text.ensures.piece c.first_refusal-fault.result refused c.if-ended.true

pub returns-clause-err : goal.returns-clause-err
returns-clause-err g c =
    let refused = subst (λ (t : List ℕ). FirstRefused t c.in_ok-text.field-0.ended c.first_refusal-fault.result) c.as_slice-in-Err.ensures.value
    c.first_refusal-fault.ensures in
    first_drained (g.R.Read.remaining c.args.reader.now) (g.R.Read.remaining c.next_piece.new.reader) c.new.result.items c.new.ensures.items
    c.in_ok-text.field-0 c.in_ok-text.ensures.piece
    (g.R.Read.remaining c.drain.new.reader) c.first_refusal-fault.result c.drain.result refused c.if-ended.false c.drain.ensures
