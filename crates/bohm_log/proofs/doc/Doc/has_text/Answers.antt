use Rattle.std.proofs.Common.{subst}
use Rattle.bohm_types.specs.Sound.{IsDocument}
use Rattle.bohm_log.proofs.Documents.{is_document}
use Rattle.bohm_log.proofs.doc.Doc.has_text.Goals as goal

pub returns : goal.returns
returns c =
    subst IsDocument c.self.view_is
    (is_document c.self.inside.edition c.self.inside.store c.self.inside.log c.self.invariant.1 c.self.invariant.0 c.part.ensures.sound)
