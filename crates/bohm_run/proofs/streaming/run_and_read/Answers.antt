use Rattle.std.proofs.Common.{subst, sym}
use Rattle.std.specs.Prelude.{IfErr, IfOk}
use Rattle.std.proofs.lemmas.Result.{err_from_is_err_and, IfOk-at_ok}
use Rattle.bohm_read_ahead.specs.declared.reading_state.ReadingState.{ReadingState}
use Rattle.bohm_read_ahead.specs.Reading.{ReadsChunk, RefusesChunk}
use Rattle.bohm_run.proofs.streaming.run_and_read.Goals as goal

pub returns-in_err-ran-clause-err : goal.returns-in_err-ran-clause-err
returns-in_err-ran-clause-err g c =
    let p = err_from_is_err_and c.from_residual-in_err-ran.result c.from_residual-in_err-ran.ensures.1 in
    rw (p.1, p.2) (λ u d first chunks edition taken. tt)

pub returns-in_err-keep-clause-err : goal.returns-in_err-keep-clause-err
returns-in_err-keep-clause-err g c =
    let p = err_from_is_err_and c.from_residual-in_err-keep.result c.from_residual-in_err-keep.ensures.1 in
    rw (p.1, p.2) (λ u d first chunks edition taken. tt)

pub returns-then-is_planned-clause-ok : goal.returns-then-is_planned-clause-ok
returns-then-is_planned-clause-ok g c =
    let read = g.R.Read.remaining c.args.reader.now in
    let left = g.R.Read.remaining c.run_beside_reading-ran.new.reader in
    subst (λ (r : ReadingState). ReadsChunk read left c.args.log_reader.now.state r c.in_ok-next.next) (sym c.keep.ensures.state)
    (IfOk-at_ok _ c.in_ok-next.was c.run_beside_reading-ran.ensures.ok)

pub returns-clause-ok : goal.returns-clause-ok
returns-clause-ok g c =
    let read = g.R.Read.remaining c.args.reader.now in
    let left = g.R.Read.remaining c.next_chunk.new.reader in
    subst (λ (r : ReadingState). IfOk c.next_chunk.result (ReadsChunk read left r c.next_chunk.new.self.state)) c.keep-2.ensures.state c.next_chunk.ensures.ok

pub returns-clause-err : goal.returns-clause-err
returns-clause-err g c =
    let read = g.R.Read.remaining c.args.reader.now in
    let left = g.R.Read.remaining c.next_chunk.new.reader in
    subst (λ (r : ReadingState). IfErr c.next_chunk.result (RefusesChunk read left r)) c.keep-2.ensures.state c.next_chunk.ensures.err
