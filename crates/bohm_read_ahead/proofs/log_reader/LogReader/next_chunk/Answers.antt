use Rattle.std.proofs.Common.{ap, refl, subst}
use Rattle.std.specs.Prelude.{IfOk, IfSome, Result}
use Rattle.std.proofs.lemmas.Result.{err_from_is_err_and}
use Rattle.bohm_txn.specs.Chunked.{IsLogCheckedTo}
use Rattle.bohm_text.specs.declared.fault.WindowFault.{WindowFault}
use Rattle.bohm_text.specs.declared.windows.Chunk.{Chunk}
use Rattle.bohm_read_ahead.specs.declared.reading_state.ReadingState.{ReadingState}
use Rattle.bohm_read_ahead.proofs.AheadLaws.{refused_first, refused_later, one_chunk}
use Rattle.bohm_read_ahead.proofs.log_reader.LogReader.next_chunk.Goals as goal

pub returns-in_err-chunk-clause-err : goal.returns-in_err-chunk-clause-err
returns-in_err-chunk-clause-err g c =
    let p = err_from_is_err_and c.from_residual-in_err-chunk.result c.from_residual-in_err-chunk.ensures.1 in
    rw (p.1, p.2) (refused_first (g.R.Read.remaining c.args.reader.now) (g.R.Read.remaining c.read_ahead.new.reader) c.args.self.now.state
    c.read_ahead.new.self.state c.in_ok-read_ahead.ensures.ok c.in-Some.parsing c.pop_front.new.self.items c.in-Some.ensures.items
    c.finish-parsed.result.parsed.window c.finish-parsed.ensures.parsed.window (g.R.Read.remaining c.take_parsed.new.reader)
    c.in_err-chunk.field-0.0 c.in_err-chunk.ensures.err)

pub returns-in_err-read_ahead-2-clause-err : goal.returns-in_err-read_ahead-2-clause-err
returns-in_err-read_ahead-2-clause-err g c =
    let p = err_from_is_err_and c.from_residual-in_err-read_ahead-2.result c.from_residual-in_err-read_ahead-2.ensures.1 in
    let mid = c.read_ahead.new.self.state in
    let then : ReadingState = record mid { source = c.take_parsed.new.source; ahead = c.pop_front.new.self } in
    rw (p.1, p.2) (refused_later (g.R.Read.remaining c.args.reader.now) (g.R.Read.remaining c.read_ahead.new.reader) c.args.self.now.state mid
    c.in_ok-read_ahead.ensures.ok c.in-Some.parsing c.pop_front.new.self.items c.in-Some.ensures.items c.finish-parsed.result.parsed.window
    c.finish-parsed.ensures.parsed.window then c.in_ok-chunk.chunk c.in_ok-chunk.ensures.ok refl refl refl (g.R.Read.remaining c.take_parsed.new.reader)
    (ap g.R.Read.remaining c.in_ok-chunk.ensures.unread) (g.R.Read.remaining c.read_ahead-2.new.reader) c.in_err-read_ahead-2.field-0.0
    c.in_err-read_ahead-2.ensures.err)

pub first_fault-fault-requires : goal.first_fault-fault-requires
first_fault-fault-requires g c = subst (λ (r : Result Chunk WindowFault). IfOk r (λ chunk. IfSome c.finish-parsed.result.fault (IsLogCheckedTo chunk.log)))
    c.in_ok-chunk.ensures.chunk c.finish-parsed.ensures.checked

pub returns-clause-ok : goal.returns-clause-ok
returns-clause-ok g c =
    let mid = c.read_ahead.new.self.state in
    let then : ReadingState = record mid { source = c.take_parsed.new.source; ahead = c.pop_front.new.self } in
    one_chunk (g.R.Read.remaining c.args.reader.now) (g.R.Read.remaining c.read_ahead.new.reader) c.args.self.now.state mid c.in_ok-read_ahead.ensures.ok
    c.in-Some.parsing c.pop_front.new.self.items c.in-Some.ensures.items c.finish-parsed.result.parsed.window c.finish-parsed.ensures.parsed.window then
    c.in_ok-chunk.chunk c.in_ok-chunk.ensures.ok refl refl refl (g.R.Read.remaining c.take_parsed.new.reader)
    (ap g.R.Read.remaining c.in_ok-chunk.ensures.unread) (g.R.Read.remaining c.read_ahead-2.new.reader) c.read_ahead-2.new.self.state
    c.in_ok-read_ahead-2.ensures.ok c.prepare.new.self.state c.in_ok-prepare.field-0 c.prepare.ensures.same c.in_ok-prepare.ensures.log
    c.in_ok-prepare.ensures.checked
