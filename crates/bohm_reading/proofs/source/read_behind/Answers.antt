use Rattle.std.proofs.Common.{◌≡◌, ◌++◌, ◌+◌, ◌≤◌, List, ℕ, arith, take, ap, ◌∙◌, sym, length}
use Rattle.bohm_reading.proofs.PieceLaws.{read_in, within_of}
use Rattle.bohm_reading.proofs.source.read_behind.Goals as goal

pub returns-clause-ok : goal.returns-clause-ok
returns-clause-ok g c =
    let count = c.in-Ok.count in
    let f = c.args.filled in
    let room = c.in_ok-make_room.ensures.room in
    let bound = c.in-Ok.ensures.bound in
    let short : f ≤ length c.deref_mut.result.now = omega (arith, room, ap length c.deref_mut.ensures.value) in
    let fits : f + count ≤ c.make_room.new.buffer.len =
    omega (arith, room, bound.0, c.read.auto.buf, c.make_room.new.buffer.ok, ap length c.deref_mut.ensures.value) in
    let same = read_in f count c.make_room.new.buffer.len c.deref_mut.result.now c.read.new.buf _ _ short bound.0 fits in
    let front : take f c.deref_mut.result.now ≡ take f c.args.buffer.now.items =
    ap (take f) c.deref_mut.ensures.value ∙ c.in_ok-make_room.ensures.same f c.requires.filled in
    record {
      more = take count c.read.new.buf;
      read = c.in-Ok.ensures.bytes.0;
      many = sym bound.1;
      within = within_of f count _ c.deref_mut.result.now c.read.new.buf short bound.0 same;
      same = same ∙ ap (λ (l : List ℕ). l ++ take count c.read.new.buf) front;
      at_end = λ none. c.in-Ok.ensures.bytes.1 none (omega (arith, c.requires.some, c.read.auto.buf));
    }
