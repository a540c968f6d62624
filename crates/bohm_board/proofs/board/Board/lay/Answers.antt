use Rattle.std.proofs.Common.{rules, arith, ap, length, sym, ◌∙◌}
use Rattle.bohm_board.specs.Batches.{rights_of}
use Rattle.bohm_board.proofs.Refinement.{opens, blank_line}
use Rattle.bohm_board.proofs.SlotPlaces.{outcomes_long}
use Rattle.bohm_board.proofs.board.Board.lay.Goals as goal

pub of_words-requires : goal.of_words-requires
of_words-requires c =
    let positions = outcomes_long c.args.batch.now in
    opens _ _ (c.as_slice.ensures.value ∙ (c.in_ok-words.ensures.items_if_clones_equal (search rules)
    ∙ blank_line (rights_of c.args.batch.now) _ (omega (arith, positions, c.len-positions.ensures, c.slots-slots.ensures.slots))))

pub returns-clause-room : goal.returns-clause-room
returns-clause-room c =
    let positions = c.len-positions.ensures ∙ sym (outcomes_long c.args.batch.now) in
    let slots = c.slots-slots.ensures.slots in
    record {
      statuses = c.in_ok-columns.ensures.statuses ∙ positions;
      presences = c.in_ok-columns.ensures.presences ∙ slots;
      values = c.in_ok-columns.ensures.values ∙ slots;
    }

pub returns-clause-sized : goal.returns-clause-sized
returns-clause-sized c =
    omega (
      arith,
      c.in_ok-table.ensures.0,
      ap length c.as_slice.ensures.value,
      c.in_ok-words.ensures.len,
      c.in_ok-words.words.ok.0,
      outcomes_long c.args.batch.now,
      c.len-positions.ensures,
      c.slots-slots.ensures.slots,
    )
