use Rattle.std.proofs.Common.{◌≡◌, ◌++◌, ◌∷◌, [], refl, ◌∙◌, append_assoc}
use Rattle.bohm_text.specs.Print.{spaced}
use Rattle.bohm_text.proofs.Printed.{print_more}
use Rattle.bohm_text.proofs.printing.put_set.Goals as goal

pub loop-place-preserved : goal.loop-place-preserved
loop-place-preserved c =
    let word : c.extend_from_slice-in-loop-place.new.self.items ≡ c.loop-place.out.items ++ 32 ∷ c.key.result.now = c.in_ok-extend_from_slice-2.ensures.items
    ∙ rw (c.as_slice.ensures.name, c.text.ensures.same, c.in_ok-push.ensures.items) (append_assoc c.loop-place.out.items (32 ∷ []) c.key.result.now) in
    print_more spaced c.args.keys.now c.loop-place.place c.key.result.now _ (32 ∷ c.key.result.now) _ _ c.key.ensures refl word c.loop-place.invariant
