use Rattle.std.proofs.Common.{subst}
use Rattle.std.specs.Prelude.{Option}
use Rattle.bohm_types.specs.Document.{Document}
use Rattle.bohm_tidy.specs.Tidied.{IsExactDoc}
use Rattle.bohm_tidy.proofs.Readings.{exactly}
use Rattle.bohm_tidy.proofs.tidying.tidy.Goals as goal

pub returns-in-Ok-clause-ok : goal.returns-in-Ok-clause-ok
returns-in-Ok-clause-ok c =
    let is = subst (λ (o : Option Document). IsExactDoc c.args.text.now o) c.in-Some.is c.in_ok-doc.ensures in
    exactly c.args.text.now _ c.in-Some.doc is.0 is.1 c.in-Ok.ensures.distinct c.in-Ok.ensures.text
