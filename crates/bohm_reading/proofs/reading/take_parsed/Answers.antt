use Rattle.std.proofs.Common.{◌≡◌, ◌+◌, ◌++◌, arith, refl, subst, length-append}
use Rattle.bohm_text.specs.Windowing.{IsChunkOf, ReadsWindow}
use Rattle.bohm_reading.specs.InOrder.{bytes_of}
use Rattle.bohm_reading.specs.declared.reading.Source.{Source}
use Rattle.bohm_reading.proofs.InOrderLaws.{chunk_short}
use Rattle.bohm_reading.proofs.ReadingLaws.{room, on_taken, refused_last, drained}
use Rattle.bohm_reading.proofs.reading.take_parsed.Goals as goal

pub returns-in-Ok-clause-ok : goal.returns-in-Ok-clause-ok
returns-in-Ok-clause-ok g c =
    let w = c.args.parsed.window in
    let was = c.args.source.now in
    let is : IsChunkOf c.args.edition w.text.items c.in-Ok.chunk = subst (ReadsWindow c.args.edition w.text.items) c.in-Ok.is c.requires.read in
    let now : Source =
    record { rest = was.rest; total = was.total; lines = c.saturating_add-source.result; ended = was.ended; spare = c.push.new.self } in
    record {
      reads = λ u v d first chunks ahead edition so_far.
          let lines : now.lines ≡ was.lines + c.in-Ok.chunk.lines = omega (
            arith,
            c.saturating_add-source.ensures,
            room u v d first chunks w ahead was so_far,
            chunk_short c.args.edition w.text.items c.args.parsed.result c.in-Ok.chunk c.requires.read c.in-Ok.is,
          ) in
          on_taken u v d first chunks w ahead was so_far c.args.edition c.in-Ok.chunk now edition is lines refl refl refl;
      ready = record { next = c.requires.ready.next; short = c.requires.ready.short };
      left = λ ahead. omega (
        arith,
        length-append (bytes_of ahead) was.rest.items,
        length-append (w.text.items ++ bytes_of ahead) was.rest.items,
        length-append w.text.items (bytes_of ahead),
      );
    }

pub drain-requires : goal.drain-requires
drain-requires g c = c.requires.ready.short

pub returns-then-source-clause-err : goal.returns-then-source-clause-err
returns-then-source-clause-err g c = λ u d first chunks ahead edition so_far.
    let w = c.args.parsed.window in
    let was = c.args.source.now in
    let read = g.R.Read.remaining c.args.reader.now in
    refused_last u read d first chunks w ahead was so_far c.args.edition c.refusal-fault.result edition
    (c.refusal-fault.ensures (room u read d first chunks w ahead was so_far)) c.if-source.true

pub returns-clause-err : goal.returns-clause-err
returns-clause-err g c = λ u d first chunks ahead edition so_far.
    let w = c.args.parsed.window in
    let was = c.args.source.now in
    let read = g.R.Read.remaining c.args.reader.now in
    drained u read d first chunks w ahead was so_far c.args.edition c.refusal-fault.result c.drain.result (g.R.Read.remaining c.drain.new.reader) edition
    (c.refusal-fault.ensures (room u read d first chunks w ahead was so_far)) c.if-source.false c.drain.ensures
