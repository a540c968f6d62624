use Rattle.std.proofs.Common.{rules, arith, ◌<◌, length}
use Rattle.std.proofs.lemmas.Option.{slice_get_within}
use Rattle.bohm_board.specs.Batches.{rights_of}
use Rattle.bohm_board.proofs.Inputs.{short_outcome}
use Rattle.bohm_board.proofs.Refinement.{finishes}
use Rattle.bohm_board.proofs.board.Board.store_outcome.Goals as goal

pub outcome_word-word-requires : goal.outcome_word-word-requires
outcome_word-word-requires c = short_outcome c.args.self.now.batch c.args.position c.args.outcome c.requires.right

pub store-requires : goal.store-requires
store-requires c =
    let inside : c.args.position < length (rights_of c.args.self.now.batch).outcomes =
    slice_get_within (rights_of c.args.self.now.batch).outcomes c.args.position c.args.outcome c.requires.right in
    let words = c.args.self.now.sized in (
      search rules,
      omega arith,
      finishes _ _ _ _ _ c.args.outcome _ c.outcome_word-word.ensures (rw c.args.self.now.keyed inside)
          (rw c.args.self.now.keyed c.requires.own.right) c.requires.held
          (rw c.args.self.now.keyed c.requires.filled) (rw c.args.self.now.keyed c.requires.wanted) (rw c.args.self.now.keyed c.requires.right),
    )
