-- The kept placeholders of a chain, and their begins.
use Rattle.std.proofs.Common.{◌≡◌, ℕ, ◌<◌, Bool, true, false, List, [], ◌∷◌, length, refl, arith, nat_le, All}
use Rattle.std.proofs.lemmas.List.Elements.{All-tail}
use Rattle.bohm_place.specs.declared.placeholder.Placeholder.{Placeholder}
use Rattle.bohm_place.specs.Chains.{begins, RisesFrom, kept, kept_items}

begins-kept_by : (floor : ℕ) (v w : Placeholder) (ws : List Placeholder) (b : Bool) → nat_le w.begin floor ≡ b
    → begins (kept_items floor (w ∷ ws)) ≡ kept floor (begins (w ∷ ws)) → begins (kept_items floor (v ∷ w ∷ ws)) ≡ kept floor (begins (v ∷ w ∷ ws))
begins-kept_by floor v w ws true e h = rw e h
begins-kept_by floor v w ws false e h = rw e refl

pub begins-kept : (floor : ℕ) (vs : List Placeholder) → begins (kept_items floor vs) ≡ kept floor (begins vs)
begins-kept floor [] = refl
begins-kept floor (v ∷ []) = refl
begins-kept floor (v ∷ w ∷ ws) = begins-kept_by floor v w ws (nat_le w.begin floor) refl (begins-kept floor (w ∷ ws))

kept_twice_by : (floor : ℕ) (v w : Placeholder) (ws : List Placeholder) (b : Bool) → nat_le w.begin floor ≡ b → kept_items floor
    (kept_items floor (w ∷ ws)) ≡ kept_items floor (w ∷ ws) → kept_items floor (kept_items floor (v ∷ w ∷ ws)) ≡ kept_items floor (v ∷ w ∷ ws)
kept_twice_by floor v w ws true e h = rw e h
kept_twice_by floor v w ws false e h = rw (e, e) refl

pub kept_twice : (floor : ℕ) (vs : List Placeholder) → kept_items floor (kept_items floor vs) ≡ kept_items floor vs
kept_twice floor [] = refl
kept_twice floor (v ∷ []) = refl
kept_twice floor (v ∷ w ∷ ws) = kept_twice_by floor v w ws (nat_le w.begin floor) refl (kept_twice floor (w ∷ ws))

pub kept_short : (floor : ℕ) (vs : List Placeholder) → length vs < 2 → kept_items floor vs ≡ vs
kept_short floor [] h = refl
kept_short floor (v ∷ []) h = refl
kept_short floor (v ∷ w ∷ ws) h = absurd (omega arith)

RisesFrom-kept_by : (n floor b c : ℕ) (cs : List ℕ) (t : Bool) → nat_le c floor ≡ t → RisesFrom n (b ∷ c ∷ cs)
    → (RisesFrom n (c ∷ cs) → RisesFrom n (kept floor (c ∷ cs))) → RisesFrom n (kept floor (b ∷ c ∷ cs))
RisesFrom-kept_by n floor b c cs true e h more = rw e (more (omega (arith, h.0, h.1.0), h.1.1))
RisesFrom-kept_by n floor b c cs false e h more = rw e h

pub RisesFrom-kept : (n floor : ℕ) (bs : List ℕ) → RisesFrom n bs → RisesFrom n (kept floor bs)
RisesFrom-kept n floor [] h = h
RisesFrom-kept n floor (b ∷ []) h = h
RisesFrom-kept n floor (b ∷ c ∷ cs) h = RisesFrom-kept_by n floor b c cs (nat_le c floor) refl h (RisesFrom-kept n floor (c ∷ cs))

-- ---- a property of all begins holds for the kept begins

All-kept_by : (P : ℕ → Type 0) (floor b c : ℕ) (cs : List ℕ) (t : Bool) → nat_le c floor ≡ t → All P (b ∷ c ∷ cs) → All P (kept floor (c ∷ cs))
    → All P (kept floor (b ∷ c ∷ cs))
All-kept_by P floor b c cs true e h more = rw e more
All-kept_by P floor b c cs false e h more = rw e h

pub All-kept : (P : ℕ → Type 0) (floor : ℕ) (bs : List ℕ) → All P bs → All P (kept floor bs)
All-kept P floor [] h = h
All-kept P floor (b ∷ []) h = h
All-kept P floor (b ∷ c ∷ cs) h = All-kept_by P floor b c cs (nat_le c floor) refl h (All-kept P floor (c ∷ cs) (All-tail P b (c ∷ cs) h))
