use Rattle.std.proofs.Common.{List, sym, subst}
use Rattle.std.specs.Prelude.{IsTrue}
use Rattle.std.specs.List.{list_all}
use Rattle.bohm_types.specs.Document.{in_edition}
use Rattle.bohm_types.specs.Txn.{Txn}
use Rattle.bohm_log.proofs.doc.Doc.handle.Goals as goal

pub invariant_of-self : goal.invariant_of-self
invariant_of-self c = (
  subst (λ (ts : List Txn). IsTrue (list_all (in_edition c.self.inside.edition) ts)) (sym c.handle.ensures.same) c.self.invariant.0,
  c.self.invariant.1,
)
