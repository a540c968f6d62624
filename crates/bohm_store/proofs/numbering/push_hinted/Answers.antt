use Rattle.std.proofs.Common.{◌+◌, ◌∷◌, [], ◌∙◌, ap, refl, length-append}
use Rattle.bohm_log.specs.Layers.{all_names}
use Rattle.bohm_store.proofs.Advanced.{numbers_more}
use Rattle.bohm_store.proofs.Names.{placed_at}
use Rattle.bohm_store.proofs.numbering.push_hinted.Goals as goal

pub loop-i-preserved : goal.loop-i-preserved
loop-i-preserved c =
    let at = c.loop-i in
    let names = all_names c.args.names in
    let n = c.index-hint.result in
    let k = c.key.result.now in
    let (inside, is) = placed_at names k n (c.if-not-is_numbered.ensures refl) in
    rw c.in_ok-push.ensures.items (record {
      count = length-append at.numbers.items (n ∷ []) ∙ ap (λ m. m + 1) at.invariant.count;
      numbers = numbers_more names at.numbers.items c.args.keys.now at.i n k c.key.ensures inside is at.invariant.numbers;
    })
