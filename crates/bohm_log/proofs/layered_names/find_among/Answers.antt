use Rattle.std.proofs.Common.{◌∙◌, arith}
use Rattle.bohm_log.proofs.Layers.{found_none, found_past, found_some}
use Rattle.bohm_log.proofs.layered_names.find_among.Goals as goal

pub returns-in_err-number : goal.returns-in_err-number
returns-in_err-number g c =
    c.from_residual.ensures ∙ found_none c.args.name.now c.args.shown c.args.shared.now c.in_err-number.ensures

pub returns-then-number-shown : goal.returns-then-number-shown
returns-then-number-shown g c =
    found_some c.args.name.now c.args.shown c.args.shared.now c.in_ok-number.number c.in_ok-number.ensures c.if-number-shown.true

pub returns-else-number-shown : goal.returns-else-number-shown
returns-else-number-shown g c =
    found_past c.args.name.now c.args.shown c.args.shared.now c.in_ok-number.number c.in_ok-number.ensures (omega (arith, c.if-number-shown.false))
