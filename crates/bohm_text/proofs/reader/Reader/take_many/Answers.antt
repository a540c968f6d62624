use Rattle.std.proofs.Common.{arith}
use Rattle.bohm_text.specs.Step.{progress_of}
use Rattle.bohm_text.proofs.WholeTxns.{piece_short, pieces_joined}
use Rattle.bohm_text.proofs.reader.Reader.take_many.Goals as goal

pub overflow_add-count : goal.overflow_add-count
overflow_add-count c = omega (
  arith,
  piece_short c.args.text.now c.txns.rest.now c.txns.count (progress_of c.args.self.now) (progress_of c.txns.self) c.txns.invariant.so_far,
  piece_short c.txns.rest.now c.in-Some-take_whole.behind.now c.in-Some-take_whole.lines (progress_of c.txns.self)
      (progress_of c.take_whole-in-txns.new.self) c.in-Some-take_whole.ensures.read,
)

pub txns-smaller : goal.txns-smaller
txns-smaller c = omega (
  arith,
  c.in-Some-take_whole.ensures.read.some,
  piece_short c.txns.rest.now c.in-Some-take_whole.behind.now c.in-Some-take_whole.lines (progress_of c.txns.self)
      (progress_of c.take_whole-in-txns.new.self) c.in-Some-take_whole.ensures.read,
)

pub txns-preserved : goal.txns-preserved
txns-preserved c = record {
  so_far = pieces_joined c.args.text.now c.txns.rest.now c.in-Some-take_whole.behind.now c.txns.count c.in-Some-take_whole.lines
      (progress_of c.args.self.now) (progress_of c.txns.self) (progress_of c.take_whole-in-txns.new.self) c.txns.invariant.so_far
      c.in-Some-take_whole.ensures.read;
  place = c.in-Some-take_whole.ensures.place;
  ready = c.in-Some-take_whole.ensures.ready;
}
