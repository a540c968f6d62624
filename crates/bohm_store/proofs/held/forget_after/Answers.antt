use Rattle.std.proofs.Common.{◌≡◌, ◌≢◌, ◌<◌, ◌≤◌, ◌∙◌, [], List, length, get_or, slice_set, refl, ap, ⊎_elim, arith}
use Rattle.std.proofs.lemmas.Bool.{cases_eq, cases_lt}
use Rattle.std.proofs.lemmas.List.{get_or-set_same, get_or-set_other, get_or_read}
use Rattle.std.proofs.Math.ListN.{get_or-eq_default}
use Rattle.bohm_hints.specs.declared.held.Held.{Held}
use Rattle.bohm_hints.specs.declared.held.Held.TheVariants.{Never}
use Rattle.bohm_store.specs.Held.{held_at, held_versions}
use Rattle.bohm_store.specs.Versions.{versions_to}
use Rattle.bohm_store.proofs.held.forget_after.Goals as goal

pub loop-i-init : goal.loop-i-init
loop-i-init c = record { done = λ n lt. absurd (omega arith); left = λ n le. refl }

pub loop-i-preserved : goal.loop-i-preserved
loop-i-preserved c =
    let at = c.loop-i in
    let i = at.i in
    let was = at.invariant in
    let held = c.held_up_to.result in
    let inside : i < length at.newest = omega (arith, c.loop-i-test.true, at.auto.newest) in
    let read : c.index-newest-i.result ≡ get_or at.newest i Never = get_or_read at.newest i c.index-newest-i.result inside c.index-newest-i.is Never in
    record {
      done = λ n lt. ⊎_elim
          (λ (same : n ≡ i).
          let here : held_at (slice_set at.newest i held) i ≡ held_versions held = ap held_versions (get_or-set_same at.newest i held Never inside) in
          rw same (here ∙ c.held_up_to.ensures ∙ ap (λ (h : Held). versions_to c.args.ts (held_versions h)) read
          ∙ ap (versions_to c.args.ts) (was.left i (omega arith))))
          (λ (other : n ≢ i). ap held_versions (get_or-set_other at.newest i n held Never other) ∙ was.done n (omega (arith, lt, other)))
          (cases_eq n i);
      left = λ n le. (let other : n ≢ i = λ (e : n ≡ i). absurd (omega (arith, e, le)) in
          ap held_versions (get_or-set_other at.newest i n held Never other) ∙ was.left n (omega arith));
    }

pub returns : goal.returns
returns c n =
    let at = c.loop-i in
    let none : (xs : List Held) → length xs ≤ n → held_at xs n ≡ [] = λ xs le. ap held_versions (get_or-eq_default xs Never le) in
    ⊎_elim
    (λ (lt : n < at.i). at.invariant.done n lt)
    (λ (le : at.i ≤ n). rw (
      none at.newest (omega (arith, le, c.loop-i-test.false, at.auto.newest)),
      none c.args.newest.now (omega (arith, le, c.loop-i-test.false)),
    ) refl)
    (cases_lt n at.i)
