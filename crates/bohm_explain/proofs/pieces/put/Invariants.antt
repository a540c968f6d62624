use Rattle.std.proofs.Common.{◌≡◌, ◌++◌, flat_map, take}
use Rattle.bohm_explain.specs.Pieces.{piece_text}
use Rattle.bohm_explain.proofs.pieces.put.Given as goal

abbrev pub invariant-loop-piece : goal.invariant-loop-piece
invariant-loop-piece l = l.out.items ≡ l.initial.out.items ++ flat_map piece_text (take l.piece-index l.pieces)
