use Rattle.std.proofs.Common.{◌≡◌, ◌∙◌, ◌++◌, ℕ, List, length, refl, ap, sym, subst, arith}
use Rattle.std.specs.List.{between, sum}
use Rattle.std.proofs.lemmas.List.Edits.{length-between}
use Rattle.std.proofs.lemmas.List.Elements.{All-drop, All-take}
use Rattle.bohm_types.specs.Txn.{Txn}
use Rattle.bohm_txn.specs.Faulty.{IsWellFormedTxn}
use Rattle.bohm_explain.specs.Parts.{sizes_of, ways_of, AreCut}
use Rattle.bohm_explain.proofs.Cutting.{cut_all, cut_more, cuts_made, none_cut, paired_more}
use Rattle.bohm_explain.proofs.parts.cut_log.Goals as goal

pub loop-count-init : goal.loop-count-init
loop-count-init c = record {
  inside = omega arith;
  cut = rw (c.new-sizes.ensures.items, c.new-ways.ensures.items) (none_cut c.args.settings c.args.log.now);
  paired = rw (c.new-sizes.ensures.items, c.new-ways.ensures.items) refl;
  total = rw c.new-sizes.ensures.items refl;
  sized = rw c.new-sizes.ensures.items refl;
}

pub put_window-requires-clause-formed : goal.put_window-requires-clause-formed
put_window-requires-clause-formed c =
    rw c.between.ensures (All-take IsWellFormedTxn _ _ (All-drop IsWellFormedTxn _ c.args.log.now c.requires.formed))

pub loop-count-preserved : goal.loop-count-preserved
loop-count-preserved c =
    let log = c.args.log.now in
    let given = c.args.settings in
    let was = c.loop-count.invariant in
    let start = c.loop-count.start in
    let end = c.min-end.result in
    let window = between start end log in
    let is : c.between.result ≡ window = c.between.ensures in
    let sizes : c.put_window.new.sizes.items ≡ c.loop-count.sizes.items ++ sizes_of given window =
    c.in_ok-put_window.ensures.sizes ∙ ap (λ (w : List Txn). c.loop-count.sizes.items ++ sizes_of given w) is in
    let ways : c.put_window.new.ways.items ≡ c.loop-count.ways.items ++ ways_of given window =
    c.in_ok-put_window.ensures.ways ∙ ap (λ (w : List Txn). c.loop-count.ways.items ++ ways_of given w) is in
    record {
      inside = omega arith;
      cut = cut_more given log start end _ _ _ _ window was.cut (omega arith) refl sizes ways;
      paired = paired_more given log window _ _ _ _ was.paired sizes ways;
      total = omega (arith, c.in_ok-put_window.ensures.total, was.total, ap length is, length-between log start end (omega arith));
      sized = c.in_ok-put_window.ensures.in_range was.sized;
    }

pub returns : goal.returns
returns c =
    let log = c.args.log.now in
    let given = c.args.settings in
    let was = c.loop-count.invariant in
    let start = c.loop-count.start in
    let end = length log in
    let window = between start end log in
    let is : c.between-2.result ≡ window = c.between-2.ensures ∙ ap (λ (n : ℕ). between start n log) c.len-2.ensures in
    let new = c.put_window-2.new.sizes.items in
    let how = c.put_window-2.new.ways.items in
    let sizes : new ≡ c.loop-count.sizes.items ++ sizes_of given window =
    c.in_ok-put_window-2.ensures.sizes ∙ ap (λ (w : List Txn). c.loop-count.sizes.items ++ sizes_of given w) is in
    let ways : how ≡ c.loop-count.ways.items ++ ways_of given window =
    c.in_ok-put_window-2.ensures.ways ∙ ap (λ (w : List Txn). c.loop-count.ways.items ++ ways_of given w) is in
    let total : sum new ≡ end =
    omega (arith, c.in_ok-put_window-2.ensures.total, was.total, was.inside, ap length is, length-between log start end (omega arith)) in
    let made = cuts_made new end (c.in_ok-put_window-2.ensures.in_range was.sized) total (omega (arith, c.requires.few)) c.new.result c.in-Some.cuts
    c.new.ensures c.in-Some.is in
    let cut = cut_all given log new how (cut_more given log start end _ _ _ _ window was.cut was.inside refl sizes ways) in
    record {
      cut = subst (λ (ns : List ℕ). AreCut given log ns how) (sym made) cut;
      total = ap sum made ∙ total;
      paired = paired_more given log window _ _ _ _ was.paired sizes ways ∙ ap length (sym made);
    }
