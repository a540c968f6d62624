use Rattle.std.proofs.lemmas.Result.{err_from_is_err_and}
use Rattle.bohm_types.specs.Document.{Document}
use Rattle.bohm_text.specs.Step.{document_in}
use Rattle.bohm_text.proofs.TextLaws.{found}
use Rattle.bohm_text.proofs.Placed.{first_fault}
use Rattle.bohm_text.proofs.windows.parse_first_window.Goals as goal

pub returns-in_err-reader : goal.returns-in_err-reader
returns-in_err-reader c =
    let p = err_from_is_err_and c.from_residual.result c.from_residual.ensures.1 in
    rw (p.1, p.2) (first_fault c.args.text.now c.in_err-reader.field-0.0 c.in_err-reader.ensures)

pub returns : goal.returns
returns c =
    let d : Document = document_in c.in_ok-reader.reader in
    let is = found c.args.text.now d c.in_ok-reader.ensures.0.0 c.in_ok-reader.ensures.0.1 in
    rw (c.into_vec.ensures, c.shrink_to_fit.ensures) (record { sound = is.0; print = is.1; lines = c.in_ok-reader.ensures.1 })
