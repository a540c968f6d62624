use Rattle.std.proofs.Common.{◌≡◌, ◌+◌, ◌∙◌, List, ℕ, refl, ap, sym, subst, arith}
use Rattle.std.specs.Prelude.{None, length}
use Rattle.std.proofs.lemmas.Result.{on_ok_weaker}
use Rattle.bohm_types.specs.Txn.{Txn}
use Rattle.bohm_apply.specs.Runs.{cutting_behind}
use Rattle.bohm_read_ahead.specs.Preparing.{count_with, ArePlanned, AreReady, IsPrepared}
use Rattle.bohm_run.specs.Chunks.{IsPartRun}
use Rattle.bohm_place.specs.Cuttings.{ArePlans}
use Rattle.bohm_run.proofs.ChunkLaws.{next_ran, next_skipped, no_some}
use Rattle.bohm_run.proofs.chunks.run_chunk.Goals as goal

pub returns-in-Ready : goal.returns-in-Ready
returns-in-Ready g c =
    let was = c.args.state.now in
    let log = c.args.chunk.now.log in
    let clean : was.fault ≡ None = no_some was.fault (sym c.is_some.ensures ∙ c.if-is_some.false) in
    let ready : AreReady was.count log = subst (IsPrepared was.count log) (sym c.replace.ensures.value ∙ c.in-Ready.is) c.requires.prepared in
    let count = c.counted-state.ensures ∙ (λ i. count_with (c.requires.behind i) ((c.len.ensures ∙ ap length c.part-log.ensures.same) i)) in
    on_ok_weaker c.run_to_text.result
    (λ part. next_ran was _ c.args.chunk.now c.requires refl refl count ready clean clean
    (subst (λ (txns : List Txn). IsPartRun was.history c.run_to_text.new.history txns was.executor.keep (was.history.top + 1) was.text
    c.run_to_text.new.text) c.part-log.ensures.same part)) c.run_to_text.ensures

pub returns-in-Planned : goal.returns-in-Planned
returns-in-Planned g c =
    let was = c.args.state.now in
    let log = c.args.chunk.now.log in
    let clean : was.fault ≡ None = no_some was.fault (sym c.is_some.ensures ∙ c.if-is_some.false) in
    let planned : ArePlanned was.count log c.in-Planned.cuts c.in-Planned.plans.items =
    subst (IsPrepared was.count log) (sym c.replace.ensures.value ∙ c.in-Planned.is) c.requires.prepared in
    let count = c.counted-state.ensures ∙ (λ i. count_with (c.requires.behind i) ((c.len.ensures ∙ ap length c.part-log.ensures.same) i)) in
    on_ok_weaker c.run_planned_to_text.result
    (λ part. next_ran was _ c.args.chunk.now c.requires refl c.run_planned_to_text.ensures.keep count planned.ready clean clean
    (subst (λ (txns : List Txn). IsPartRun was.history c.run_planned_to_text.new.history txns was.executor.keep (was.history.top + 1)
    was.text c.run_planned_to_text.new.text) c.part-log.ensures.same part)) c.run_planned_to_text.ensures.run

pub returns-then-is_some : goal.returns-then-is_some
returns-then-is_some g c =
    next_skipped c.args.state.now _ c.args.chunk.now c.requires refl refl
    (c.counted-state.ensures ∙ (λ i. count_with (c.requires.behind i) ((c.len.ensures ∙ ap length c.part-log.ensures.same) i)))
    (sym c.is_some.ensures ∙ c.if-is_some.true) refl

pub run_planned_to_text-requires-clause-plans : goal.run_planned_to_text-requires-clause-plans
run_planned_to_text-requires-clause-plans g c κs within =
    let was = c.args.state.now in
    let planned : ArePlanned was.count c.args.chunk.now.log c.in-Planned.cuts c.in-Planned.plans.items =
    subst (IsPrepared was.count c.args.chunk.now.log) (sym c.replace.ensures.value ∙ c.in-Planned.is) c.requires.prepared in
    let clean : was.fault ≡ None = no_some was.fault (sym c.is_some.ensures ∙ c.if-is_some.false) in
    let top : was.history.top ≡ was.count = c.requires.level clean (omega (arith, planned.ready.few)) in
    subst (λ (txns : List Txn). ArePlans (cutting_behind was.history txns c.in-Planned.cuts) c.in-Planned.plans.items) (sym c.part-log.ensures.same)
    (subst (λ (n : ℕ). ArePlans (record { first = n + 1; log = c.args.chunk.now.log; sizes = c.in-Planned.cuts }) c.in-Planned.plans.items) (sym top)
    planned.planned)
