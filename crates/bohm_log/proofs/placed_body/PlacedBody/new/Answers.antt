use Rattle.std.proofs.Common.{◌≡◌, List, Err, length, arith, rules, ap}
use Rattle.std.specs.Prelude.{ℤ, pos, replicate}
use Rattle.std.proofs.lemmas.Result.{err_from_is_err_and}
use Rattle.bohm_log.specs.Calling.{let_terms}
use Rattle.bohm_log.specs.declared.fault.LogFault.TheVariants.{Full}
use Rattle.bohm_log.proofs.Lets.{zero_terms}
use Rattle.bohm_log.proofs.placed_body.PlacedBody.new.Goals as goal

pub returns-in_err-add_lets-clause-full : goal.returns-in_err-add_lets-clause-full
returns-in_err-add_lets-clause-full c e =
    let p = err_from_is_err_and c.from_residual-in_err-add_lets.result c.from_residual-in_err-add_lets.ensures.1 in
    let at : c.add_lets.result ≡ Err Full = cc (c.in_err-add_lets.was, p.1, p.2, e) in
    let zeros : c.as_slice.result.now ≡ replicate (length c.args.locals.now) (pos 0) = search rules in
    omega (
      arith,
      c.add_lets.ensures.full at,
      ap (λ (vs : List ℤ). length (let_terms 0 vs)) zeros,
      zero_terms 0 (length c.args.locals.now),
    )
