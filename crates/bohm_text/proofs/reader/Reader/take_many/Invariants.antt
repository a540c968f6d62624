use Rattle.std.proofs.Common.{◌≡◌, length}
use Rattle.bohm_text.specs.Pieces.{PieceRead}
use Rattle.bohm_text.specs.Step.{IsReady, progress_of}
use Rattle.bohm_text.specs.declared.reader.Place.TheVariants as places
use Rattle.bohm_text.proofs.reader.Reader.take_many.Given as goal

abbrev pub invariant-txns : goal.invariant-txns
invariant-txns l = record {
  so_far : PieceRead l.fn.text l.rest l.count (progress_of l.fn.self) (progress_of l.self);
  place : l.self.place ≡ places.Between;
  ready : IsReady l.self;
}

abbrev pub decreases-txns : goal.decreases-txns
decreases-txns l = length l.rest
