use Rattle.std.proofs.Common.{◌≡◌, List, ℕ, ap, subst, refl, Err}
use Rattle.std.proofs.lemmas.Result.{err_from_is_err_and}
use Rattle.bohm_reading.specs.declared.fault.ReadingFault.{ReadingFault}
use Rattle.bohm_reading.specs.declared.reading.Source.{Source}
use Rattle.bohm_reading.specs.declared.window.Window.{Window}
use Rattle.bohm_reading.specs.Pieces.{IsPiece}
use Rattle.bohm_reading.proofs.ReadingLaws.{window_begins, on_next, ready_next, left_next, source_refused}
use Rattle.bohm_reading.proofs.reading.next_window.Goals as goal

pub returns-in_err-text-clause-err : goal.returns-in_err-text-clause-err
returns-in_err-text-clause-err g c =
    let p = err_from_is_err_and c.from_residual.result c.from_residual.ensures.1 in
    rw (p.1, p.2)
    (λ u d first chunks ahead so_far. source_refused u (g.R.Read.remaining c.args.reader.now) (g.R.Read.remaining c.next_piece.new.reader) d first chunks
    ahead c.args.source.now so_far c.in_err-text.field-0.0 c.in_err-text.ensures.refusals
    (λ e. c.in_err-text.ensures.long (ap (λ (f : ReadingFault). Err f) e)))

pub returns-clause-ok : goal.returns-clause-ok
returns-clause-ok g c =
    let begun : c.replace-begun.result.items ≡ c.args.source.now.rest.items = λ i. (c.replace-begun.ensures.value i).items in
    let read = g.R.Read.remaining c.args.reader.now in
    let left = g.R.Read.remaining c.next_piece.new.reader in
    let piece = c.in_ok-text.field-0 in
    let is : IsPiece read left c.args.source.now.rest.items c.args.source.now.total piece =
    subst (λ (b : List ℕ). IsPiece read left b c.args.source.now.total piece) begun c.in_ok-text.ensures.piece in
    let now : Source =
    record { rest = piece.rest; total = piece.total; lines = c.args.source.now.lines; ended = piece.ended; spare = c.next_piece.new.spare } in
    let window : Window = record { text = piece.text; last = piece.ended } in
    record {
      begins = window_begins read left c.args.source.now now piece is window refl refl refl refl refl (c.requires.ready.next c.requires.going);
      reads = λ u d first chunks ahead so_far. on_next read left c.args.source.now now piece is window refl refl refl refl refl refl c.requires.going u d
          first chunks ahead so_far;
      ready = ready_next read left c.args.source.now now piece is window refl refl refl refl refl;
      left = left_next read left c.args.source.now now piece is window refl refl refl refl refl;
    }
