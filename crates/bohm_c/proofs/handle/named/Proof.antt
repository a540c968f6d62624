-- `named` compares the pointer with null, and moves it back.
use Rattle.core.specs.declared.option.Option.TheVariants.{None, Some}
use Rattle.std.proofs.Common.{◌≡◌, List, [], ◌∷◌, ◌++◌, refl, sym, subst, lit<}
use mir.Syntax.{impl, tnil, dnil}
use mir.Val.{Val, vptr, vcons, vnil}
use base.Logic.{SProp, ent, emp, id⊢}
use base.Fml.{ftrue}
use prog.Wp.{WpFn}
use types.Kit.{‵, raw, ◌⊛◌, at_ret, ◌$◌, ◌∵◌, !, qed, by, move, keep, split, fsplit, fjoin, suffices, use0, use1}
use types.Run.{stop, fld, lit, bin, of_opd, no_more, and_then, first, branches, exec, returns, enter}
use types.ByLocal.{alloc_all, pass_all, free_all, look_at, get, get_in, sets, sets_last, env}
use types.Part.{agg, sub, whole}
use types.Match.{live}
use contract.Monad.{fact, fact_i}
use contract.Running.{tables}
use denote.Exit.{yes}
use denote.RattleType.{RattleType, owns}
use denote.Signature.{types_at, type_at, plain}
use denote.RawPtr.{block_ptr, tests_null}
use denote.Param.{layout}
use denote.Steps.{nothing}
use denote.Triple.Walked.{Stays, stay_dropped, walk_of}
use Rattle.core.proofs.alloc.Calls.{Al, handle_tells, Goes-blank}
use Rattle.core.proofs.alloc.Shapes.{after}
use Rattle.core.proofs.cell.Inside.{Good}
use Rattle.core.proofs.option.Made.{Some-of, none_of}
use Rattle.std.specs.contracts.alloc.Global as heap
use Rattle.std.proofs.alloc.Global.TheLaws as heap_laws
use Rattle.std.specs.contracts.impls.GlobalAllocator.TheImpl.{ghosts}
use Rattle.std_alloc.proofs.ResultValues.{and_tt}
use Rattle.std.proofs.raw_atomic.Walks.{proved_at, leaves}
use Rattle.bohm_c.specs.contracts.kept.Kept as kept
use Rattle.bohm_c.proofs.Values.{both, RawBox, loose_good, loose_in}
use Rattle.bohm_c.proofs.Handles.{one, null_val, Held, held_out}
use Rattle.bohm_c.specs.contracts.handle.named.{ended, clauses}
use Rattle.bohm_c.specs.contracts.handle.named.Key.{name as #self}
use Rattle.bohm_c.proofs.handle.named.Statement.{statement}
use Rattle.bohm_c.proofs.handle.named.Code as code

pub named_spec : {M : Type 1} → statement M
named_spec 𝓤 𝓛 𝓜 𝓡 wired =
    let H = 𝓛.H in let 𝓣 = tables 𝓤 H 𝓜 𝓡 𝓡.env in let R : RattleType = kept.the_row in let Z : RattleType = heap.the_row in let LZ = heap_laws.the_row_laws in
    let En = ended in let c = clauses 𝓛 𝓜.mem 𝓡.returns in let fn = code.function in let Lr : RattleType = RawBox R Z LZ ghosts in
    let A : Al = record { row = Z; laws = LZ; g = ghosts; d = impl [] tnil dnil; drops = impl [] tnil dnil } in
    let hs : Stays En.signature.params En.kept = (stay_dropped (plain (λ _. Z)) yes, (stay_dropped (plain (λ _. Held)) yes, tt)) in
    proved_at 𝓛 En hs c 𝓜 𝓡 (Goes-blank 𝓛 0 (plain (λ _. Z)) yes (λ κs x f. tt), (Goes-blank 𝓛 0 (plain (λ _. Held)) yes (λ κs x f. tt), tt)) #self fn
    (code.unfolded 𝓤 H 𝓜 𝓡 wired) (λ z are.
    let κs = z.0.0 in
    let a = z.0.3.0 in
    let v = z.0.3.1.0 in
    let Post : Val → SProp 𝓤 = (walk_of 𝓛 En hs c).post z in
    let Run : List Val → SProp 𝓤 = λ ws. WpFn 𝓤 H 𝓣.C 𝓣.Λ fn ws Post in
    let Out : RattleType = type_at En.signature.result κs in
    let asked = raw ((c κs z.0.3).requires z.1) in
    qed 𝓛 ((‵ ftrue ⊛ ‵ (owns (types_at En.signature.params κs) z.0.3 z.0.4)) ∷ asked ∷ []) ∵ split ! $ move ! (1 ∷ []) $ fsplit !
    $ handle_tells A ! a z.0.4.0 (λ h hs' fits. move ! (1 ∷ []) $ fsplit ! $
    held_out ! v z.0.4.1.0
    (λ is ws. let v₀ : Val = live 0 vnil in
    suffices ! (Run (h ∷ one null_val ∷ [])) (subst (λ (us : List Val). ent 𝓤 (Run (h ∷ one null_val ∷ [])) (Run us)) (sym (λ i. hs' i ++ (ws i ++ [])))
    (id⊢ 𝓤 (Run (h ∷ one null_val ∷ [])))) $
    enter ! 𝓣.C 𝓣.Λ fn (h ∷ one null_val ∷ []) Post
    $ alloc_all ! (λ l. pass_all ! refl (fits, ((tt, (record { fits = lit< tt }, tt)), tt)) $ let Ev = env fn.locals l in
    sets ! (of_opd ! (get_in ! (fld ! refl (stop !)) (sub ! 0 refl (whole !)))) refl (tt, record { fits = lit< tt })
    $ sets ! (bin ! (get ! refl) (lit ! tt) tt) refl (tt, tt) $ first ! $ branches ! (get ! refl)
    (λ _. sets_last ! (agg ! (and_then ! (lit ! tt) (no_more !))) refl (tt, (record { fits = lit< tt }, tt))
    $ exec ! 𝓣.C 𝓣.Λ Ev (after 3 fn.body) (at_ret Ev Post) $ sets ! (of_opd ! (get ! refl)) refl (tt, (record { fits = lit< tt }, tt)) $
    use0 𝓛 (‵ (Out.own_val None (v₀ ∷ []))) (none_of 𝓛 Lr) $
    use0 𝓛 (raw (fact 𝓤 (v.value ≡ None))) (fact_i 𝓤 (v.value ≡ None) (emp 𝓤) is) $ nothing ! $ nothing ! $ fjoin ! $ nothing ! $ fjoin ! $
    returns ! (look_at ! 0 refl) $ free_all ! refl $ keep ! (5 ∷ 0 ∷ 2 ∷ 1 ∷ [])
    $ by ! (leaves 𝓛 En hs c z v₀ None (tt, (tt, tt)) (tt, (tt, tt)))) (λ wrong. absurd wrong)))
    (λ b o x is may ws.
    let made : Val = both (vptr b o) h in
    let typed = loose_good R Z LZ ghosts b o h fits in
    let v₁ : Val = live 1 (vcons made vnil) in
    let d : Lr.Denot = record { at = block_ptr b o; alloc = a; value = x } in
    let good : Good (layout Out) v₁ = (and_tt _ typed.0, (record { fits = lit< tt }, (typed.1, tt))) in
    suffices ! (Run (h ∷ one (vptr b o) ∷ [])) (subst (λ (us : List Val). ent 𝓤 (Run (h ∷ one (vptr b o) ∷ [])) (Run us)) (sym (λ i. hs' i ++ (ws i ++ [])))
    (id⊢ 𝓤 (Run (h ∷ one (vptr b o) ∷ [])))) $
    enter ! 𝓣.C 𝓣.Λ fn (h ∷ one (vptr b o) ∷ []) Post $ alloc_all ! (λ l. pass_all ! refl (fits, ((tt, (tt, tt)), tt)) $ let Ev = env fn.locals l in
    sets ! (of_opd ! (get_in ! (fld ! refl (stop !)) (sub ! 0 refl (whole !)))) refl (tt, tt) $ sets !
    (bin ! (get ! refl) (lit ! tt) (tests_null (block_ptr b o) may)) refl (tt, tt) $ first ! $ branches ! (get ! refl) (λ wrong. absurd wrong) (λ _.
    sets ! (of_opd ! (get ! refl)) refl (tt, tt) $
    sets ! (agg ! (and_then ! (get ! refl) (and_then ! (get ! refl) (no_more !)))) refl typed
    $ sets_last ! (agg ! (and_then ! (lit ! tt) (and_then ! (get ! refl) (no_more !)))) refl good $
    exec ! 𝓣.C 𝓣.Λ Ev (after 3 fn.body) (at_ret Ev Post) $ sets ! (of_opd ! (get ! refl)) refl good $ move ! (0 ∷ 2 ∷ []) $ loose_in R Z LZ ghosts ! b o h a x $
    use1 𝓛 (‵ (Out.own_val (Some d) (v₁ ∷ []))) (Some-of 𝓛 Lr d made) $
    use0 𝓛 (raw (fact 𝓤 (v.value ≡ Some x))) (fact_i 𝓤 (v.value ≡ Some x) (emp 𝓤) is) $ nothing ! $ nothing ! $ fjoin ! $ nothing ! $ fjoin ! $
    returns ! (look_at ! 0 refl) $ free_all ! refl $ keep ! (4 ∷ 0 ∷ 2 ∷ 1 ∷ []) $ by ! (leaves 𝓛 En hs c z v₁ (Some d) (tt, (tt, tt)) (tt, (tt, tt))))))))
