use Rattle.std.proofs.Common.{◌≡◌, ◌<◌, length, slice_get, set, Some, arith, ap, sym, ◌∙◌, ⊎_elim}
use Rattle.std.proofs.lemmas.Option.{slice_get-get_or, slice_get_past}
use Rattle.std.proofs.lemmas.Bool.{cases_eq, cases_lt}
use Rattle.bohm_place.proofs.Lists.{set_same, set_other}
use Rattle.bohm_place.proofs.Placed.{AreKept-parts, trimmed_here, trimmed_past}
use Rattle.bohm_place.proofs.shards.trim_parts.Goals as goal

pub loop-i-preserved : goal.loop-i-preserved
loop-i-preserved c =
    let all = c.args.parts.now in
    let parts = c.loop-i.parts in
    let i = c.loop-i.i in
    let old = c.index-parts-i.result in
    let new = c.trim.new.self in
    let inside : i < length parts = omega arith in
    let at : slice_get parts i ≡ Some old = slice_get-get_or parts i old inside ∙ ap (λ x. Some x) (sym c.index-parts-i.is) in
    let was : slice_get all i ≡ Some old = sym (c.loop-i.invariant.1 i (omega arith)) ∙ at in (
      λ j low. ⊎_elim
          (λ e. rw e (trimmed_here c.args.floor (slice_get all i) (slice_get (set parts i new) i) old new was (set_same parts i new inside)
          (λ k. (let told = c.trim.ensures k in rw (← c.index-parts-i.is) at told))))
          (λ apart. rw (set_other parts i j new apart) (c.loop-i.invariant.0 j (omega arith)))
          (cases_eq j i),
      λ j high. set_other parts i j new (omega arith) ∙ c.loop-i.invariant.1 j (omega arith),
    )

pub returns : goal.returns
returns c = AreKept-parts c.args.floor c.args.parts.now c.loop-i.parts (λ j. ⊎_elim
    (λ low. c.loop-i.invariant.0 j (omega arith))
    (λ high. trimmed_past c.args.floor (slice_get c.args.parts.now j) (slice_get c.loop-i.parts j) (slice_get_past c.args.parts.now j high)
    (slice_get_past c.loop-i.parts j (omega arith)))
    (cases_lt j (length c.args.parts.now)))
