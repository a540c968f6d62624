use Rattle.std.proofs.Common.{◌≡◌, ◌<◌, ◌++◌, ◌∷◌, [], List, length, get_or, sym, ap, subst, ◌∙◌, append_assoc, append-nil, length-append, arith}
use Rattle.std.specs.Vec.Iter.{into_iter_items}
use Rattle.std.proofs.lemmas.List.{length_push}
use Rattle.bohm_board.specs.Passes.{batch_of, view}
use Rattle.bohm_exec.proofs.ForCallers.{counted_whole}
use Rattle.bohm_apply.specs.declared.workers.job.Swept.{Swept}
use Rattle.bohm_apply.specs.declared.workers.job.Worker.{Worker}
use Rattle.bohm_apply.specs.Sweeps.{IsShareSwept, IsSwept}
use Rattle.bohm_apply.proofs.Swept.{swept_more, swept_all, at_length, nothing_left}
use Rattle.bohm_apply.proofs.workers.gather.Goals as goal

pub loop-one-preserved : goal.loop-one-preserved
loop-one-preserved c =
    let at = c.loop-one in
    let was = at.invariant in
    let b = batch_of c.args.board.now in
    let all = c.args.swept.items in
    let x = c.in-Some.one in
    let rest = into_iter_items c.next.new.self in
    let n = length at.yielded in
    let w : Worker = record { number = n; count = length all } in
    let steps : into_iter_items at.one-iterator ≡ x ∷ rest = c.in-Some.ensures.steps.0 in
    let gone = c.in-Some.ensures.steps.1 in
    let short = ap length steps in
    let whole : at.yielded ++ x ∷ rest ≡ all = ap (λ (xs : List Swept). at.yielded ++ xs) (sym steps) ∙ was.items in
    let low : n < length all = omega (arith, ap length whole, length-append at.yielded (x ∷ rest)) in
    let here : get_or all n x ≡ x = ap (λ (xs : List Swept). get_or xs n x) (sym whole) ∙ at_length at.yielded x rest x in
    let this : IsSwept c.args.board.now w x = subst (IsSwept c.args.board.now w) here (c.requires.each n x low) in
    let share : IsShareSwept b w (view x.pass) c.in_ok-one.field-0 = let h = this.share in rw c.in_ok-one.was at h in
    record {
      own = c.join-pass.ensures.own;
      free = rw c.join-pass.ensures.view was.free;
      counted = rw c.join-pass.ensures.view (omega (
        arith,
        was.counted,
        this.counted,
        counted_whole (length (view at.pass).finished),
        counted_whole (length (view x.pass).finished),
        counted_whole (length ((view at.pass).finished ++ (view x.pass).finished)),
        c.saturating_add-evaluations.ensures,
        length-append (view at.pass).finished (view x.pass).finished,
      ));
      items = append_assoc at.yielded (x ∷ []) rest ∙ whole;
      count = omega (arith, was.count, gone, short);
      swept = rw (c.in_ok-push.ensures.items, c.join-pass.ensures.view, length_push at.yielded x)
          (swept_more b w (view at.pass) (view x.pass) at.asides.items c.in_ok-one.field-0 was.swept share);
      pool = c.give_back.ensures.count ∙ was.pool;
    }

pub returns-clause-all : goal.returns-clause-all
returns-clause-all c =
    let at = c.loop-one in
    let was = at.invariant in
    let none = c.in-None.ensures.steps in
    let empty : into_iter_items at.one-iterator ≡ [] = nothing_left (into_iter_items at.one-iterator) (sym was.count ∙ none.0) in
    let all : at.yielded ≡ c.args.swept.items = sym (append-nil at.yielded) ∙ (let h = was.items in rw empty at h) in
    swept_all (batch_of c.args.board.now) (length c.args.swept.items) (length at.yielded) (view at.pass) at.asides.items c.requires.some
    (ap length all) was.swept
