use Rattle.std.proofs.Common.{◌≡◌, ◌+◌, ◌∙◌, ◌∷◌, ◌++◌, [], ap, sym, subst, arith, length}
use Rattle.std.proofs.lemmas.List.Elements.{All-push}
use Rattle.bohm_board.specs.declared.batch.Batch.{Batch}
use Rattle.bohm_board.specs.declared.knowledge.View.{View}
use Rattle.bohm_board.specs.declared.status.Status.{Status}
use Rattle.bohm_board.specs.declared.status.Status.TheVariants.{Done}
use Rattle.bohm_board.specs.Batches.{IsIn, first_of, txns_of}
use Rattle.bohm_board.specs.Passes.{HoldsNothing, batch_of, view}
use Rattle.bohm_board.specs.Views.{after_status}
use Rattle.bohm_board.proofs.ForCallers.{finished_saw}
use Rattle.bohm_apply.proofs.SharedRest.{IsLeftBelow, left_done, left_more, saw_free}
use Rattle.bohm_apply.proofs.shared_batch.unfinished.Goals as goal
use Rattle.bohm_apply.proofs.shared_batch.unfinished.Goals.{in-Done, in_default+in_ok-push-in_default}

pub loop-distance-preserved : goal.loop-distance-preserved
loop-distance-preserved c =
    let at = c.loop-distance in
    let was = at.invariant in
    let b = batch_of c.args.board.now in
    let v = view at.pass in
    let n = at.distance in
    let t = c.first-first.result + n in
    let s = c.status.result in
    let saw = c.status.ensures.view in
    let from : c.first-first.result ≡ first_of b = c.first-first.ensures ∙ ap (λ (z : Batch). first_of z) c.batch.ensures in
    let long : c.len-len.result ≡ length (txns_of b) = c.len-len.ensures ∙ ap (λ (z : Batch). length (txns_of z)) c.batch-2.ensures in
    let here : t ≡ first_of b + n = omega (arith, from) in
    let inside : IsIn b t = record { from = omega (arith, here); below = omega (arith, here, long, c.loop-distance-test.true) } in
    let free : HoldsNothing (view c.status.new.pass) = subst HoldsNothing (sym saw) (saw_free v t s was.free) in
    let same : (view c.status.new.pass).finished ≡ (view c.args.pass.now).finished =
    ap (λ (z : View). z.finished) saw ∙ finished_saw v t s ∙ was.same in
    elim c.match-status.branch [
      | in-Done w ↦
          let seen = subst (λ (z : Status). IsLeftBelow b (after_status v t z) at.left.items (n + 1)) (sym w.in-Done.is)
          (left_done b v at.left.items n t here was.left) in
          rw w.left-is (record {
            own = c.status.ensures.own;
            free = free;
            same = same;
            left = subst (λ (z : View). IsLeftBelow b z at.left.items (n + 1)) (sym saw) seen;
            inside = was.inside;
          })
      | in_default+in_ok-push-in_default w ↦
          let more = left_more b v at.left.items n t s here was.left in
          rw (w.left-is, w.in_ok-push-in_default.ensures.items) (record {
            own = c.status.ensures.own;
            free = free;
            same = same;
            left = subst (λ (z : View). IsLeftBelow b z (at.left.items ++ t ∷ []) (n + 1)) (sym saw) more;
            inside = All-push (IsIn b) at.left.items t was.inside inside;
          })
    ]

pub returns-clause-left : goal.returns-clause-left
returns-clause-left c = λ t within. c.loop-distance.invariant.left t within
    (omega (arith, within.from, within.below, c.len-len.ensures, ap (λ (z : Batch). length (txns_of z)) c.batch-2.ensures))
