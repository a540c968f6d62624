use Rattle.std.proofs.Common.{ℕ, ◌+◌, ap, ◌∙◌, arith}
use Rattle.std.proofs.lemmas.Result.{on_ok_weaker}
use Rattle.bohm_machine.specs.Machines.{floor_of, past_of}
use Rattle.bohm_durable.proofs.checkpointed.CheckpointedPast.run_one.Goals as goal

pub returns-clause-past : goal.returns-clause-past
returns-clause-past c =
    let was = c.args.self.now.machine in
    let now = c.apply_one.new.machine in
    let ordered = c.args.self.now.since.ordered in
    on_ok_weaker c.apply_one.result (λ top n low. ap (λ (f : ℕ). past_of now (f + n)) c.apply_one.ensures.checkpoint.floor
    ∙ c.apply_one.ensures.earlier (floor_of was + n) (omega arith) (omega arith)) c.apply_one.ensures.top
