use Rattle.std.proofs.Common.{◌≡◌, Some, subst, ◌∙◌}
use Rattle.std.specs.Prelude.{Option}
use Rattle.std.proofs.lemmas.Result.{err_from_is_err_and}
use Rattle.bohm_types.specs.Document.{Document, document_of}
use Rattle.bohm_types.specs.Sound.{IsDocument}
use Rattle.bohm_text.specs.declared.fault.TextFault.TheVariants.{Line, Short}
use Rattle.bohm_text.specs.Parse.{text_fault_of}
use Rattle.bohm_text.specs.Step.{document_in}
use Rattle.bohm_text.specs.Print.{print_doc}
use Rattle.bohm_text.proofs.TextLaws.{found, is_document}
use Rattle.bohm_text.proofs.Placed.{line_told, short_told}
use Rattle.bohm_text.proofs.parsing.read_doc.Goals as goal

pub returns-in_err-reader-clause-line : goal.returns-in_err-reader-clause-line
returns-in_err-reader-clause-line c = λ n e.
    let p = err_from_is_err_and c.from_residual.result c.from_residual.ensures.1 in
    let same : text_fault_of c.in_err-reader.field-0.0 ≡ Line n = cc (p.1, p.2, e) in
    line_told c.args.text.now c.in_err-reader.field-0.0 n same c.in_err-reader.ensures

pub returns-in_err-reader-clause-short : goal.returns-in_err-reader-clause-short
returns-in_err-reader-clause-short c = λ e.
    let p = err_from_is_err_and c.from_residual.result c.from_residual.ensures.1 in
    let same : text_fault_of c.in_err-reader.field-0.0 ≡ Short = cc (p.1, p.2, e) in
    short_told c.args.text.now c.in_err-reader.field-0.0 same c.in_err-reader.ensures

pub unreachable-requires : goal.unreachable-requires
unreachable-requires c =
    let d : Document = document_in c.in_ok-reader.reader in
    let text = found c.args.text.now d c.in_ok-reader.ensures.0.0 c.in_ok-reader.ensures.0.1 in
    let made : document_of d.edition c.into_vec.result.items d.log ≡ Some d = rw (c.into_vec.ensures, c.shrink_to_fit.ensures) (is_document d text.0) in
    cc (made, c.new.ensures, c.in-None.is)

same_doc : (d doc : Document) (o : Option Document) → o ≡ Some d → o ≡ Some doc → d ≡ doc
same_doc d doc o e h = cc

pub returns-clause-found : goal.returns-clause-found
returns-clause-found c =
    let d : Document = document_in c.in_ok-reader.reader in
    let text = found c.args.text.now d c.in_ok-reader.ensures.0.0 c.in_ok-reader.ensures.0.1 in
    let made : document_of d.edition c.into_vec.result.items d.log ≡ Some d = rw (c.into_vec.ensures, c.shrink_to_fit.ensures) (is_document d text.0) in
    let same : d ≡ c.in-Some.doc = same_doc d c.in-Some.doc c.new.result (c.new.ensures ∙ made) c.in-Some.is in
    subst (λ (x : Document). print_doc x ≡ c.args.text.now) same text.1

pub returns-clause-sound : goal.returns-clause-sound
returns-clause-sound c =
    let d : Document = document_in c.in_ok-reader.reader in
    let text = found c.args.text.now d c.in_ok-reader.ensures.0.0 c.in_ok-reader.ensures.0.1 in
    let made : document_of d.edition c.into_vec.result.items d.log ≡ Some d = rw (c.into_vec.ensures, c.shrink_to_fit.ensures) (is_document d text.0) in
    let same : d ≡ c.in-Some.doc = same_doc d c.in-Some.doc c.new.result (c.new.ensures ∙ made) c.in-Some.is in
    subst IsDocument same text.0
