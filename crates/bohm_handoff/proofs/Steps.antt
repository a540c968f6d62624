-- Each step of a handoff keeps its rule.
use Rattle.std.proofs.Common.{◌≡◌, inl, inr, ℕ, [], ◌∷◌, ◌++◌, true, false, get_or, refl, ◌∙◌, ap, set, arith, Option, Some, None, length-set, get_or-set_same}
use mathlib.Core.Logic.{dite}
use mathlib.Core.Option.{some}
use native.Mathlib.Decide.{ℕ_discrete}
use lib.ListN.{get_elem?}
use Rattle.atomic_table.specs.Table.{State, keeps, takes, gives, Allows, Arrives}
use Rattle.atomic_table.proofs.Lists.{at_set, at_snoc, set_here}
use Rattle.bohm_handoff.specs.declared.rule.Side.{Side}
use Rattle.bohm_handoff.specs.Handoffs.{side, IsHandoff, HasEmpty, HasValue}

module _ {T P : Type 0} (fits : T → Type 0) where
  not_fresh : (key : P) (v : Side P) → side key false ≡ v → v.fresh ≡ true → ⊥
  not_fresh key v same fresh = absurd (cc (ap (λ (x : Side P). x.fresh) same, fresh))

  -- after the first side has begun, only that side may be fresh
  first_after : (s : State (Option T) (Side P)) → IsHandoff fits s → (key : P) (id : ℕ) (v : Side P)
      → get_elem? (set s.views 0 (side key false)) id ≡ some v → v.fresh ≡ true → id ≡ 0
  first_after s g key id v there fresh =
      elim (at_set s.views 0 id (side key false) v there) [
        | inl t ↦ t.0
        | inr t ↦ g.first id v t.1 fresh
      ]

  none_after : {A : Type 0} (s : State (Option T) (Side P)) (key : P) (v : Side P) → get_elem? (set s.views 0 (side key false)) 0 ≡ some v → v.fresh ≡ true → A
  none_after s key v there fresh =
      elim (at_set s.views 0 0 (side key false) v there) [
        | inl t ↦ absurd (not_fresh key v t.1 fresh)
        | inr t ↦ absurd (t.0 refl)
      ]

  pub begins : (key : P) → Allows (IsHandoff fits) 1 0 (side key true, []) 0 (λ _. 1) (λ _ m. HasEmpty key m)
  begins key s g wide me small =
      let at = g.empty (side key true) me refl in
      let one = get_or-set_same s.words 0 1 0 (omega (arith, g.one)) in (
        side key false,
        takes 0 None,
        at.0,
        record {
          one = length-set s.words 0 1 ∙ g.one;
          filled = λ e. absurd (omega (arith, e, one));
          first = first_after s g key;
          empty = none_after s key;
        },
        refl,
      )

  pub given : (key : P) (value : T) → fits value → Allows (IsHandoff fits) 1 0 (side key false, (0, Some value) ∷ []) 0 (λ _. 0) (λ _ _. Unit {0})
  given key value ok s g wide me small = (
    side key false,
    gives,
    tt,
    record {
      one = length-set s.words 0 0 ∙ g.one;
      filled = λ e. (value, set_here s.homes 0 (some (Some value)) (omega (arith, wide)), ok);
      first = first_after s g key;
      empty = none_after s key;
    },
    tt,
  )

  first_more : (s : State (Option T) (Side P)) → IsHandoff fits s → (key : P) (id : ℕ) (v : Side P) → get_elem? (s.views ++ side key false ∷ []) id ≡ some v
      → v.fresh ≡ true → id ≡ 0
  first_more s g key id v there fresh =
      elim (at_snoc s.views (side key false) v id there) [
        | inl t ↦ g.first id v t fresh
        | inr t ↦ absurd (not_fresh key v t fresh)
      ]

  old_one : (s : State (Option T) (Side P)) (key : P) (v : Side P) → get_elem? (s.views ++ side key false ∷ []) 0 ≡ some v → v.fresh ≡ true
      → get_elem? s.views 0 ≡ some v
  old_one s key v there fresh =
      elim (at_snoc s.views (side key false) v 0 there) [
        | inl t ↦ t
        | inr t ↦ absurd (not_fresh key v t fresh)
      ]

  pub taken : (n : ℕ) (key : P) → Arrives (IsHandoff fits) n 0 (λ _. 1) (λ r m. r ≡ 0 → HasValue {P = P} fits m)
  taken n key s g wide small =
      let one = get_or-set_same s.words 0 1 0 (omega (arith, g.one)) in
      dite (ℕ_discrete (get_or s.words 0 0) 0)
      (λ free. let t = g.filled free in (
        side key false,
        takes 0 (Some t.0),
        t.1,
        record {
          one = length-set s.words 0 1 ∙ g.one;
          filled = λ e. absurd (omega (arith, e, one));
          first = first_more s g key;
          empty = λ v there fresh. absurd (omega (arith, free, (g.empty v (old_one s key v there fresh) fresh).1));
        },
        (λ _. (t.0, refl, t.2)),
      ))
      (λ held. (
        side key false,
        keeps,
        tt,
        record {
          one = length-set s.words 0 1 ∙ g.one;
          filled = λ e. absurd (omega (arith, e, one));
          first = first_more s g key;
          empty = λ v there fresh. ((g.empty v (old_one s key v there fresh) fresh).0, one);
        },
        (λ e. absurd (held e)),
      ))
