use Rattle.std.proofs.Common.{◌≡◌, ◌^◌, ℤ, Option, Some, pos, subst}
use Rattle.std.specs.Prelude.{◌≤ℤ◌}
use Rattle.std.proofs.lemmas.Int.{to_z-of_z}
use lib.IntN.{neg_ℤ}
use mir.Syntax.{w64}
use mir.Val.{to_z, of_z}
use Rattle.bohm_txn.proofs.Evaluating.{read_number}
use Rattle.bohm_txn.proofs.environment.Environment.atom_or_least.Goals as goal

pub returns-in-Read : goal.returns-in-Read
returns-in-Read c =
    let view = c.args.self.now in
    let number : ℤ = c.number_or_least.result in
    let same : to_z w64 (of_z w64 number) ≡ number = to_z-of_z w64 number (record { sfits = c.number_or_least.type_inv }) in
    rw same (subst (λ (o : Option ℤ). neg_ℤ (pos (2 ^ 58)) ≤ℤ number → o ≡ Some number)
    (read_number view.txn.now view.cells.now view.locals.now c.args.term.kind c.args.term.place c.index-self-place.result
    view.rising view.paired c.requires c.in-Read.is) c.number_or_least.ensures)
