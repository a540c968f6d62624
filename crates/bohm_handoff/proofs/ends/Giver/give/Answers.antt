use Rattle.std.proofs.Common.{rules, ap, ◌∙◌, ◌∷◌}
use Rattle.std.specs.Prelude.{Some}
use Rattle.atomic_table.specs.Table.{rest}
use Rattle.bohm_handoff.proofs.Steps.{given}
use Rattle.bohm_handoff.proofs.ends.Giver.give.Goals as goal

pub store-requires : goal.store-requires
store-requires g c =
    let place = c.args.self.place.value.shared in
    let was = c.args.self.holds in
    let done = c.exchange.ensures in
    let seat = done.3 ∙ ap (λ m. (m.0, (0, Some c.args.value) ∷ rest m.1)) was in (
      search rules,
      search rules,
      rw (c.deref.ensures, c.args.self.sized.1, done.1 ∙ c.args.self.first, seat)
          (given (g.P.Promise.kept_by place.key) place.key c.args.value c.requires),
    )
