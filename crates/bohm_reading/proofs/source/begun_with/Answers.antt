use Rattle.std.proofs.Common.{arith}
use Rattle.bohm_reading.proofs.PieceLaws.{copied}
use Rattle.bohm_reading.proofs.source.begun_with.Goals as goal

pub returns-clause-begun : goal.returns-clause-begun
returns-clause-begun c = copied c.args.begun.now c.copy_from_slice.new.self _ _ c.make_room.new.buffer.len c.copy_from_slice.ensures.after
    (omega (arith, c.in_ok-make_room.ensures.room, c.make_room.new.buffer.ok))
