use Rattle.std.proofs.Common.{refl}
use Rattle.bohm_text.specs.Step.{document_in}
use Rattle.bohm_text.proofs.WholeTxns.{reader_piece}
use Rattle.bohm_text.proofs.reader.Reader.take_whole.Goals as goal

pub returns-in-Ok-clause-read : goal.returns-in-Ok-clause-read
returns-in-Ok-clause-read c =
    let reader = c.args.self.now in
    let read = c.take_txn.new.draft in
    reader_piece c.args.text.now c.in-Some.rest.now c.in-Some-lines_in.lines reader.place (document_in reader) reader.draft.txn.reads reader.draft.txn.writes
    reader.draft.txn.body c.close.new.self read.txn c.requires c.in-Ok.ensures.ok (c.in-Some.ensures.edition refl) c.in-Some-lines_in.ensures.sound
    c.in-Some.ensures.bytes c.in-Some-lines_in.ensures.lines
