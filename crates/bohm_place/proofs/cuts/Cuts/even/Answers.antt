use Rattle.std.proofs.Common.{◌≡◌, ◌++◌, ◌∷◌, [], ◌/◌, ◌%◌, ◌∙◌, ap, sym, arith, replicate, ℕ, Global}
use Rattle.std.specs.declared.vec.Vec.{Vec}
use Rattle.bohm_place.proofs.Sizes.{IsCutEvenly, cut_full, cut_rest, even_sizes}
use Rattle.bohm_place.proofs.cuts.Cuts.even.Goals as goal
use Rattle.bohm_place.proofs.cuts.Cuts.even.Goals.{then-len-batch-gt0+in_ok-push-2, else-len-batch-gt0}

cut : (c : goal.Joined-len-batch-gt0) → IsCutEvenly c.args.batch c.args.len c.if-len-batch-gt0.sizes.items
cut c =
    let batch = c.args.batch in
    let len = c.args.len in
    let ended : c.loop.counter ≡ len / batch = omega (arith, c.loop-test.false, c.loop.auto.counter-end) in
    let whole : c.loop.sizes.items ≡ replicate (len / batch) batch = c.loop.invariant ∙ ap (λ n. replicate n batch) ended in
    elim c.if-len-batch-gt0.branch [
      | then-len-batch-gt0+in_ok-push-2 w ↦
          let is : c.if-len-batch-gt0.sizes.items ≡ replicate (len / batch) batch ++ (len % batch) ∷ [] =
          ap (λ (v : Vec ℕ Global). v.items) w.sizes-is ∙ w.in_ok-push-2.ensures.items ∙ ap (λ xs. xs ++ (len % batch) ∷ []) whole in
          cut_rest batch len c.if-len-batch-gt0.sizes.items c.requires.some w.if-len-batch-gt0.true is
      | else-len-batch-gt0 w ↦
          let none : len % batch ≡ 0 = let no = w.if-len-batch-gt0.false in omega (arith, no) in
          cut_full batch len c.if-len-batch-gt0.sizes.items c.requires.some none (ap (λ (v : Vec ℕ Global). v.items) w.sizes-is ∙ whole)
    ]

pub invariant_of-result : goal.invariant_of-result
invariant_of-result c =
    let few = c.ranges.len.fits in
    (even_sizes c.args.batch c.args.len c.if-len-batch-gt0.sizes.items c.requires.few (omega (arith, few)) (cut c), sym (cut c).total)

pub returns-clause-even : goal.returns-clause-even
returns-clause-even c = (cut c).even
