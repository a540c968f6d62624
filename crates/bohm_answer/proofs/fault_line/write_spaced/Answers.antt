use Rattle.std.proofs.Common.{◌≡◌, ℕ, List, [], ◌∷◌, OnErr, subst}
use Rattle.std.specs.Fmt.{decimal}
use Rattle.bohm_answer.specs.FaultLine.{AppendsFront}
use Rattle.bohm_answer.proofs.Fronts.{then_err, wider}
use Rattle.bohm_answer.proofs.fault_line.write_spaced.Goals as goal
use Rattle.bohm_log.proofs.ForCallers.{on_err}

pub returns-in_err-write_bytes-clause-err : goal.returns-in_err-write_bytes-clause-err
returns-in_err-write_bytes-clause-err g c = on_err c.from_residual.result (wider _ _ (32 ∷ []) (decimal c.args.number) c.in_err-write_bytes.ensures.err)

pub returns-clause-err : goal.returns-clause-err
returns-clause-err g c =
    let digits : c.as_bytes.result.now ≡ decimal c.args.number = cc (c.as_bytes.ensures.value, c.format.ensures.text) in
    let rest = subst
    (λ (bs : List ℕ). OnErr c.write_bytes-2.result
    (AppendsFront (g.W.Write.contents c.write_bytes.new.writer) (g.W.Write.contents c.write_bytes-2.new.writer) bs)) digits c.write_bytes-2.ensures.err in
    then_err _ _ _ (32 ∷ []) (decimal c.args.number) c.in_ok-write_bytes.ensures.ok c.write_bytes-2.result rest
