use Rattle.std.proofs.Common.{rules, ◌≡◌, ◌+◌, ◌*◌, ◌≤◌, ◌++◌, ◌∷◌, [], ℕ, List, length, take}
use Rattle.std.proofs.Common.{refl, sym, ap, subst, ◌∙◌, append_assoc, append-nil, length-append, arith}
use Rattle.std.specs.Map.{keys_of}
use Rattle.std.specs.Vec.Iter.{into_iter_items}
use Rattle.std.proofs.lemmas.List.{length_push, take_all}
use Rattle.bohm_txn.specs.declared.outcome.Reply.{Reply}
use Rattle.bohm_txn.proofs.ForCallers.{length-replies}
use Rattle.bohm_place.proofs.ForCallers.{each_pushed}
use Rattle.bohm_board.specs.Batches.{base_of, first_of, txns_of}
use Rattle.bohm_exec.specs.Answers.{batch_of_finished}
use Rattle.bohm_store.specs.declared.listed_writes.ListedWrites.{ListedWrites}
use Rattle.bohm_store.specs.Writes.{AreListedFrom}
use Rattle.bohm_apply.specs.Replies.{replies_of}
use Rattle.bohm_log.proofs.ForCallers.{on_err}
use Rattle.bohm_apply.proofs.Shares.{Joins, comes_next, one_more_range}
use Rattle.bohm_apply.proofs.Swept.{nothing_left}
use Rattle.bohm_apply.proofs.settling.settle_batch.Given.{Over}
use Rattle.bohm_apply.proofs.settling.settle_batch.Goals as goal

joins : (g : Over) → Joins g.S.ReplySink.appended
joins g = (g.met.S.ReplySink g.world.𝓛 g.world.𝓜 g.world.𝓡 ((λ s x. x), (λ x. x), (λ x. x), λ x. x)).joined

pub loop-share-init : goal.loop-share-init
loop-share-init g c = record {
  items = refl;
  count = search rules;
  many = ap length c.in_ok-listed.ensures.items;
  replies =
      let none : 0 ≡ 0 * c.share_size-size.result = omega arith in
      let u = first_of (batch_of_finished c.args.finished.now) in
      let old = c.args.answered.now in
      subst (λ (k : ℕ). g.S.ReplySink.appended u old (take k (replies_of c.args.finished.now)) old) none
      ((g.met.S.ReplySink g.world.𝓛 g.world.𝓜 g.world.𝓡 ((λ s x. x), (λ x. x), (λ x. x), λ x. x)).nothing u old);
  listed = λ i d low. absurd (omega (arith, low, ap length c.in_ok-listed.ensures.items));
}

pub returns-in_err-replies-clause-err : goal.returns-in_err-replies-clause-err
returns-in_err-replies-clause-err g c = on_err c.from_residual-in_err-replies.result (_, c.loop-share.invariant.replies)

pub returns-in_err-append-clause-err : goal.returns-in_err-append-clause-err
returns-in_err-append-clause-err g c =
    let at = c.loop-share in
    let told = take (length at.yielded * c.share_size-size.result) (replies_of c.args.finished.now) in
    let u = first_of (batch_of_finished c.args.finished.now) in
    on_err c.from_residual-in_err-append.result (
      told ++ [],
      joins g u c.args.answered.now at.answered c.append.new.self told [] at.invariant.replies (c.in_err-append.ensures.err (u + length told)),
    )

pub returns-in_err-push-clause-err : goal.returns-in_err-push-clause-err
returns-in_err-push-clause-err g c =
    let at = c.loop-share in
    let whole : at.yielded ++ c.in-Some.share ∷ into_iter_items c.next.new.self ≡ c.in_ok-shares.shares.items =
    ap (λ xs. at.yielded ++ xs) (sym c.in-Some.ensures.steps.0) ∙ at.invariant.items ∙ c.into_iter-share-iterator.ensures.into_iter_gives.0 in
    let (low, found) = comes_next at.yielded c.in-Some.share (into_iter_items c.next.new.self) c.in_ok-shares.shares.items whole in
    let given = c.in_ok-shares.ensures.replies (length at.yielded) c.in-Some.share low in
    let made = rw (found, c.in_ok-replies.was) at given in
    on_err c.from_residual-in_err-push.result (
      _,
      one_more_range g.S.ReplySink.is_bare g.S.ReplySink.appended (joins g) c.args.finished.now
          c.args.answered.now at.answered c.append.new.self c.in_ok-replies.field-0.replies (length at.yielded) (length c.in_ok-shares.shares.items)
          c.share_size-size.result c.in_ok-append.ensures.ok low c.in_ok-shares.ensures.last made at.invariant.replies,
    )

pub loop-share-preserved : goal.loop-share-preserved
loop-share-preserved g c =
    let at = c.loop-share in
    let was = at.invariant in
    let b = batch_of_finished c.args.finished.now in
    let size = c.share_size-size.result in
    let x = c.in-Some.share in
    let rest = into_iter_items c.next.new.self in
    let steps = c.in-Some.ensures.steps in
    let n = length at.yielded in
    let so_far : at.yielded ++ x ∷ rest ≡ into_iter_items c.into_iter-share-iterator.result = ap (λ xs. at.yielded ++ xs) (sym steps.0) ∙ was.items in
    let whole : at.yielded ++ x ∷ rest ≡ c.in_ok-shares.shares.items = so_far ∙ c.into_iter-share-iterator.ensures.into_iter_gives.0 in
    let (low, found) = comes_next at.yielded x rest c.in_ok-shares.shares.items whole in
    let given = c.in_ok-shares.ensures.replies n x low in
    let made = rw (found, c.in_ok-replies.was) at given in
    let given_list = c.in_ok-shares.ensures.writes n x low in
    let own_list : AreListedFrom (keys_of c.args.history.now.chains) b (n * size) size c.in_ok-replies.field-0.writes =
    (rw (found, c.in_ok-replies.was) at given_list) in
    let listed = at.listed.items in
    let P : ℕ → ListedWrites → Type 0 = λ i l. AreListedFrom (keys_of c.args.history.now.chains) b (i * size) size l in
    record {
      items = append_assoc at.yielded (x ∷ []) rest ∙ so_far;
      count = omega (arith, was.count, steps.1, ap length steps.0);
      many = ap length c.in_ok-push.ensures.items ∙ length-append listed (c.in_ok-replies.field-0.writes ∷ []) ∙ (λ i. was.many i + 1)
          ∙ sym (length-append at.yielded (x ∷ []));
      replies = rw (length_push at.yielded x) (one_more_range g.S.ReplySink.is_bare g.S.ReplySink.appended (joins g) c.args.finished.now
          c.args.answered.now at.answered c.append.new.self c.in_ok-replies.field-0.replies n (length c.in_ok-shares.shares.items) size
          c.in_ok-append.ensures.ok low c.in_ok-shares.ensures.last made was.replies);
      listed = rw c.in_ok-push.ensures.items (λ i d below. each_pushed P listed c.in_ok-replies.field-0.writes was.listed
          (subst (λ (k : ℕ). P k c.in_ok-replies.field-0.writes) (sym was.many) own_list) i d
          (omega (arith, below, length-append listed (c.in_ok-replies.field-0.writes ∷ []))));
    }

pub returns-clause-replies : goal.returns-clause-replies
returns-clause-replies g c =
    let at = c.loop-share in
    let b = batch_of_finished c.args.finished.now in
    let r = replies_of c.args.finished.now in
    let was = at.invariant in
    let none = nothing_left (into_iter_items at.share-iterator) (sym was.count ∙ c.in-None.ensures.steps.0) in
    let all : at.yielded ≡ c.in_ok-shares.shares.items =
    sym (append-nil at.yielded) ∙ (let h = was.items in rw none at h) ∙ c.into_iter-share-iterator.ensures.into_iter_gives.0 in
    let many : length r ≤ length at.yielded * c.share_size-size.result =
    rw all (omega (arith, c.in_ok-shares.ensures.whole, length-replies (base_of b) (txns_of b))) in
    subst (λ (rs : List Reply). g.S.ReplySink.appended (first_of b) c.args.answered.now rs at.answered)
    (take_all (length at.yielded * c.share_size-size.result) r many) was.replies

pub returns-clause-listed : goal.returns-clause-listed
returns-clause-listed g c =
    let at = c.loop-share in
    let was = at.invariant in
    let none = nothing_left (into_iter_items at.share-iterator) (sym was.count ∙ c.in-None.ensures.steps.0) in
    let all : at.yielded ≡ c.in_ok-shares.shares.items =
    sym (append-nil at.yielded) ∙ (let h = was.items in rw none at h) ∙ c.into_iter-share-iterator.ensures.into_iter_gives.0 in
    record {
      size = c.share_size-size.result;
      each = was.listed;
      whole = rw (was.many ∙ ap length all) c.in_ok-shares.ensures.whole;
    }
