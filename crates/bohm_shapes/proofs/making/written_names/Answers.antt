use Rattle.std.proofs.Common.{◌≡◌, ℕ, ◌++◌, ◌∷◌, [], List, ap, sym, ◌∙◌, get_or, take}
use Rattle.std.proofs.lemmas.List.{take_more}
use Rattle.std.proofs.lemmas.Option.{get_or_from_slice_get, slice_get_within}
use Rattle.bohm_shapes.proofs.making.written_names.Goals as goal

pub loop-place-preserved : goal.loop-place-preserved
loop-place-preserved c =
    let keys = c.args.writes.now in
    let i = c.loop-place.place in
    let k = c.key.result.now in
    let more = take_more keys i k (slice_get_within keys i k c.key.ensures) in
    let is : get_or keys i k ≡ k = get_or_from_slice_get keys i k k c.key.ensures in
    c.in_ok-push.ensures.items ∙ ap (λ (xs : List (List ℕ)). xs ++ k ∷ []) c.loop-place.invariant
    ∙ sym (more ∙ ap (λ (x : List ℕ). take i keys ++ x ∷ []) is)
