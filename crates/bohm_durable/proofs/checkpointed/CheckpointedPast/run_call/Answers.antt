use Rattle.std.proofs.Common.{◌≡◌, ℕ, ◌+◌, [], ◌∷◌, ap, ◌∙◌, arith, rules}
use Rattle.std.proofs.lemmas.Result.{on_ok_weaker}
use Rattle.bohm_types.specs.Procedure.{instance}
use Rattle.bohm_machine.specs.Machines.{floor_of, past_of}
use Rattle.bohm_durable.proofs.checkpointed.CheckpointedPast.run_call.Goals as goal

pub returns-clause-replies : goal.returns-clause-replies
returns-clause-replies c =
    let call = instance c.args.procedure.now c.args.keys.now c.args.values.now in
    let log : c.hold_call-held.new.calls.log ≡ call ∷ [] = search rules in
    on_ok_weaker c.apply_call.result (λ replied. replied call log) c.apply_call.ensures.replies

pub returns-clause-past : goal.returns-clause-past
returns-clause-past c =
    let was = c.args.self.now.machine in
    let now = c.apply_call.new.machine in
    let ordered = c.args.self.now.since.ordered in
    on_ok_weaker c.apply_call.result (λ top n low. ap (λ (f : ℕ). past_of now (f + n)) c.apply_call.ensures.checkpoint.floor
    ∙ c.apply_call.ensures.earlier (floor_of was + n) (omega arith) (omega arith)) c.apply_call.ensures.top
