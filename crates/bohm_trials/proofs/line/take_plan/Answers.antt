use Rattle.std.proofs.Common.{rules, IsSome}
use Rattle.std.proofs.lemmas.List.Elements.{All-push}
use Rattle.bohm_apply.specs.declared.plan_queue.note.PlanNote.{PlanNote}
use Rattle.bohm_trials.proofs.line.take_plan.Goals as goal

pub returns-clause-open : goal.returns-clause-open
returns-clause-open g c =
    let there : IsSome c.take-note.result.plan = search rules in
    rw c.take-note.ensures.taken (All-push (λ (x : PlanNote). IsSome x.plan) c.args.receiver.now.notes c.take-note.result c.requires.open there)
