use Rattle.std.proofs.Common.{◌≡◌, ◌∙◌, ◌≤◌, [], ap, sym, length, arith}
use Rattle.std.proofs.lemmas.Bool.Decides.{nat_tests}
use Rattle.std.proofs.lemmas.Option.{get_or_from_slice_get}
use Rattle.std.proofs.lemmas.Result.{IfOk-weaker}
use Rattle.bohm_types.specs.Procedure.{argument_or}
use Rattle.bohm_log.specs.Parts.{names_at}
use Rattle.bohm_machine.proofs.Numbers.{past_arguments}
use Rattle.bohm_machine.proofs.single_calls.number_for.Goals as goal
use Rattle.bohm_machine.proofs.single_calls.number_for.Goals.{in-Some+in_default-get, in_default}

pub returns-clause-key : goal.returns-clause-key
returns-clause-key c =
    let names = c.args.names.now in
    let ids = c.args.arguments.now in
    let k = c.args.name.now in
    let itself : argument_or k (names_at names ids) c.args.parameter ≡ k =
    elim c.match-parameter.branch [
      | in-Some+in_default-get w ↦
          let over : length ids ≤ w.in-Some.place = grind (arith, nat_tests, w.in_default-get.ensures.lookup.0) in
          ap (argument_or k (names_at names ids)) w.in-Some.is ∙ past_arguments names ids k w.in-Some.place over
      | in_default w ↦ ap (argument_or k (names_at names ids)) w.in_default.is
    ] in
    IfOk-weaker c.number_of.result _ _ (λ n at. get_or_from_slice_get c.number_of.new.names n k [] at ∙ sym itself) c.number_of.ensures.named
