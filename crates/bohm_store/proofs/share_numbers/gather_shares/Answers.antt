use Rattle.std.proofs.Common.{◌≡◌, ◌∙◌, ◌+◌, ◌*◌, ◌++◌, ◌<◌, ◌≤◌, List, ℕ, length, map, take, ap, sym, arith, subst, refl, suc, length-append}
use Rattle.std.proofs.Math.Nat.{suc-mul}
use Rattle.std.proofs.Math.Seq.{take-append_seam}
use Rattle.std.proofs.lemmas.List.{take_all}
use Rattle.std.proofs.lemmas.List.Elements.{All-nil}
use Rattle.bohm_board.specs.declared.batch.Batch.{Batch}
use Rattle.bohm_board.specs.Batches.{base_of, first_of, txns_of}
use Rattle.bohm_store.specs.declared.numbered_write.NumberedWrite.{NumberedWrite}
use Rattle.bohm_store.specs.Writes.{AreBelow, AreListedFrom, AreShares, all_txn_writes, named_write, names_with}
use Rattle.bohm_store.proofs.Shares.{written_between}
use Rattle.bohm_store.proofs.share_numbers.gather_shares.Goals as goal
use Rattle.bohm_store.proofs.share_numbers.gather_shares.Goals.{After-share-item}
use Rattle.bohm_log.proofs.ForCallers.{Begins-itself, Begins-trans}

pub loop-share-init : goal.loop-share-init
loop-share-init c = record {
  longer = Begins-itself c.args.names.now;
  below = rw c.new-out.ensures.items (All-nil (λ (w : NumberedWrite). w.number < length c.args.names.now));
  listed = λ b s. let none : 0 * s.size ≡ 0 = omega arith in rw (c.new-out.ensures.items, none) refl;
}

-- the names at the time of listing are the first ones
front : (c : After-share-item) → take c.len-known.result c.loop-share.names ≡ c.args.names.now
front c =
    let (more, e) = c.loop-share.invariant.longer in
    (λ i. take (c.len-known.ensures i) (e i)) ∙ take-append_seam c.args.names.now more

share : (c : After-share-item) (b : Batch) (s : AreShares c.args.names.now b c.args.shares.now)
    → AreListedFrom c.args.names.now b (c.loop-share.share-index * s.size) s.size c.share-item.result
share c b s = subst (AreListedFrom c.args.names.now b (c.loop-share.share-index * s.size) s.size) (sym c.share-item.is)
    (s.each c.loop-share.share-index c.share-item.result c.loop-share-test.true)

pub append_share-requires : goal.append_share-requires
append_share-requires c =
    let here = (goal.at.append_share-requires c).After-share-item in
    let (more, e) = c.loop-share.invariant.longer in
    let (b, s) = c.requires in
    record {
      known = omega (arith, c.len-known.ensures, ap length e, length-append c.args.names.now more);
      share = subst (λ (ns : List (List ℕ)). AreBelow (length (names_with ns c.share-item.result.fresh.items)) c.share-item.result.writes.items)
          (sym (front here)) (share here b s).below;
      below = c.loop-share.invariant.below;
    }

pub loop-share-preserved : goal.loop-share-preserved
loop-share-preserved c =
    let here = (goal.at.loop-share-preserved c).After-share-item in
    let was = c.loop-share.invariant in
    let i = c.loop-share.share-index in
    let fresh = c.share-item.result.fresh.items in
    let ws = c.share-item.result.writes.items in
    record {
      longer = Begins-trans c.args.names.now c.loop-share.names c.append_share.new.names was.longer c.append_share.ensures.longer;
      below = c.in_ok-append_share.ensures.below;
      listed = λ b s.
          let next : i * s.size + s.size ≡ (i + 1) * s.size = sym (suc-mul i s.size)
          ∙ (let one : suc i ≡ i + 1 = omega arith in ap (λ (n : ℕ). n * s.size) one) in
          let own = ap (λ (ns : List (List ℕ)). map (named_write (names_with ns fresh)) ws) (front here) ∙ (share here b s).listed in
          c.in_ok-append_share.ensures.listed
          ∙ (λ j. was.listed b s j ++ own j)
          ∙ sym (written_between (first_of b) (base_of b) (txns_of b) (i * s.size) s.size)
          ∙ ap (λ (n : ℕ). all_txn_writes (first_of b) (base_of b) (take n (txns_of b))) next;
    }

pub returns : goal.returns
returns c =
    let was = c.loop-share.invariant in
    let end : c.loop-share.share-index ≡ length c.args.shares.now = omega (arith, c.loop-share-test.false, c.loop-share.auto.share-index-end) in
    record {
      longer = was.longer;
      writes = λ b s.
          let all : length (txns_of b) ≤ c.loop-share.share-index * s.size = subst (λ (n : ℕ). length (txns_of b) ≤ n * s.size) (sym end) s.whole in
          record {
            below = was.below;
            listed = was.listed b s
                ∙ ap (all_txn_writes (first_of b) (base_of b)) (take_all (c.loop-share.share-index * s.size) (txns_of b) all);
          };
    }
