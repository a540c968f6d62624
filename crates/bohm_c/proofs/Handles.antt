-- The machine values of a handle. Assumes `Logic`.
use Rattle.std.proofs.Common.{◌≡◌, ℕ, List, [], ◌∷◌, ◌++◌, lit<, refl, subst}
use Rattle.std.specs.Prelude.{Option, Some, None}
use seplogic.Ra.Ura.{Ura}
use mir.Syntax.{w64}
use mir.Raw.{raw as bare}
use mir.Val.{Val, vint, vptr, vstruct, vcons, vnil, of_list}
use base.Fraction.{full_share}
use base.Fml.{Fml}
use base.Logic.{ent, guard, never, fst∗, snd∗, via, guard_i}
use types.Logic.{Logic, sem}
use types.Kit.{Item, Goal, Seq, Step, step, ‵, given, learn, use1, ◌$◌, drop, fsplit, fjoin, fpick, fpack, feq_i, feq_l}
use contract.Monad.{fact_use}
use denote.RattleType.{RattleType, Valss}
use denote.Builtin.{RawPtr}
use denote.Memory.{lone}
use denote.Param.{layout}
use denote.RawPtr.{lies_at, Ptr, block_ptr, null_ptr, ptr_val, in_a_block, Testable}
use denote.Steps.{nothing}
use denote.Struct.Struct.{within}
use denote.Struct.Owning.{shape}
use Rattle.core.proofs.cell.Inside.{Good}
use Rattle.std.specs.contracts.impls.GlobalAllocator.TheImpl.{ghosts}
use Rattle.std.proofs.GlobalToken.{dealloc_token-Testable}
use Rattle.bohm_c.specs.Kept.{owned}
use Rattle.bohm_c.specs.declared.kept.Kept.{Kept}
use Rattle.std_alloc.specs.Box.Ownership.{box_owns}
use Rattle.bohm_c.specs.contracts.kept.Kept as kept
use Rattle.bohm_c.specs.contracts.handle.BohmHandle as held

abbrev pub one : Val → Val
one v = vstruct (vcons v vnil)

abbrev pub null_val : Val
null_val = vint w64 0

abbrev pub Held : RattleType
Held = held.the_row

-- the right to free a block
abbrev token : Ptr → Fml
token = ghosts.dealloc_token (record { memory = record { seal = tt } }) (bare (lone (kept.the_row).mir))

abbrev pub boxed : Ptr → Kept → Fml
boxed = box_owns (ghosts.dealloc_token (record { memory = record { seal = tt } })) kept.the_row

pub pointer_fits : (p : Ptr) → Good (layout Held) (one (ptr_val p))
pointer_fits (block_ptr b o) = (tt, (tt, tt))
pointer_fits null_ptr = (tt, (record { fits = lit< tt }, tt))

-- a box's pointer may be compared with null
tested : {M : Type 1} {𝓤 : Ura M} (𝓛 : Logic 𝓤) (p : Ptr) (x : Kept) → ent 𝓤 (sem 𝓛 (boxed p x)) (guard 𝓤 (Testable p) (sem 𝓛 (boxed p x)))
tested {𝓤 = 𝓤} 𝓛 p x =
    fact_use 𝓤 (Testable p) (via 𝓤 (sem 𝓛 (token p)) (snd∗ 𝓤 (sem 𝓛 (lies_at kept.the_row full_share p x)) (sem 𝓛 (token p)))
    (dealloc_token-Testable 𝓛 (record { memory = record { seal = tt } }) (bare (lone (kept.the_row).mir)) p)) (guard_i 𝓤 (Testable p) (sem 𝓛 (boxed p x)))

module _ {M : Type 1} {𝓤 : Ura M} {𝓛 : Logic 𝓤} {K : Type 0} {Γ : List (Item 𝓤)} {G : Goal 𝓤 𝓛.H} where
  -- a pointer is null and has no box, or has a box and may be compared with null
  pub behind : K → (p : Ptr) (y : Option Kept)
      → (y ≡ None → p ≡ null_ptr → Seq K 𝓛 Γ G)
      → ((b o : ℕ) (x : Kept) → y ≡ Some x → p ≡ block_ptr b o → Testable (block_ptr b o) → Seq K 𝓛 (‵ (boxed (block_ptr b o) x) ∷ Γ) G)
      → Seq K 𝓛 (‵ (owned boxed p y) ∷ Γ) G
  behind t p None none some = feq_l t (λ e. none refl e)
  behind t p (Some x) none some =
      in_a_block t p (λ q. boxed q x) (fst∗ 𝓤 (never 𝓤) (sem 𝓛 (token null_ptr))) (λ b o e.
      use1 𝓛 (given (Testable (block_ptr b o)) (‵ (boxed (block_ptr b o) x))) (tested 𝓛 (block_ptr b o) x) $
      learn t (λ may. some b o x refl e may))

  pub held_out : K → (d : Held.Denot) (vs : List Val)
      → (d.value ≡ None → vs ≡ one null_val ∷ [] → Seq K 𝓛 Γ G)
      → ((b o : ℕ) (x : Kept) → d.value ≡ Some x → Testable (block_ptr b o) → vs ≡ one (vptr b o) ∷ [] → Seq K 𝓛 (‵ (boxed (block_ptr b o) x) ∷ Γ) G)
      → Seq K 𝓛 (‵ (Held.own_val d vs) ∷ Γ) G
  held_out t d vs none some =
      fsplit t $ fpick t (λ vss. fsplit t $ feq_l t (λ ev. fsplit t $ feq_l t (λ ep. drop t $
      behind t d.at d.value
      (λ is e. none is (subst (λ (p : Ptr). vs ≡ vstruct (of_list (ptr_val p ∷ [])) ∷ []) e
      (subst (λ (ps : List Val). vs ≡ vstruct (of_list (ps ++ [])) ∷ []) ep ev)))
      (λ b o x is e may. some b o x is may (subst (λ (p : Ptr). vs ≡ vstruct (of_list (ptr_val p ∷ [])) ∷ []) e
      (subst (λ (ps : List Val). vs ≡ vstruct (of_list (ps ++ [])) ∷ []) ep ev))))))

  pub held_in : K → (b o : ℕ) (x : Kept)
      → Step K 𝓛 (‵ (Held.own_val (record { at = block_ptr b o; value = Some x }) (one (vptr b o) ∷ [])) ∷ Γ) G (‵ (boxed (block_ptr b o) x) ∷ Γ) G
  held_in t b o x = step (λ s. let v : Val = one (vptr b o) in
      nothing t $ feq_i t (List Val) (vptr b o ∷ []) (vptr b o ∷ []) refl $ fjoin t $ feq_i t (List Val) (v ∷ []) (v ∷ []) refl $ fjoin t $
      fpack t (Valss (RawPtr ∷ [])) (within (shape held.the_type) (block_ptr b o, tt) (v ∷ [])) (vptr b o ∷ [], tt) $ fjoin t $ s)

  pub held_none : K → Step K 𝓛 (‵ (Held.own_val (record { at = null_ptr; value = None }) (one null_val ∷ [])) ∷ Γ) G Γ G
  held_none t = step (λ s. let v : Val = one null_val in
      feq_i t Ptr null_ptr null_ptr refl $ nothing t $ feq_i t (List Val) (null_val ∷ []) (null_val ∷ []) refl $ fjoin t
      $ feq_i t (List Val) (v ∷ []) (v ∷ []) refl $ fjoin t $
      fpack t (Valss (RawPtr ∷ [])) (within (shape held.the_type) (null_ptr, tt) (v ∷ [])) (null_val ∷ [], tt) $ fjoin t $ s)

  -- a handle that is dropped leaves only its value
  pub held_gone : K → (d : Held.Denot) (vs : List Val) → (vs ≡ one (ptr_val d.at) ∷ [] → Seq K 𝓛 Γ G) → Seq K 𝓛 (‵ (Held.own_val d vs) ∷ Γ) G
  held_gone t d vs k = fsplit t $ fpick t
      (λ vss. fsplit t $ feq_l t
      (λ ev. fsplit t $ feq_l t (λ ep. drop t $ drop t $ k (subst (λ (ps : List Val). vs ≡ vstruct (of_list (ps ++ [])) ∷ []) ep ev))))
