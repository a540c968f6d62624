-- A call does what its instance does.
use Rattle.std.proofs.Common.{◌≡◌, ℕ, zero, suc, ◌+◌, ◌<◌, List, [], ◌∷◌, ◌++◌, map, take, length, Some, None, refl, ap, ◌∙◌, arith}
use Rattle.std.specs.Prelude.{ℤ, pos, negsuc, All}
use Rattle.std.proofs.lemmas.List.{get_or-map}
use Rattle.bohm_types.specs.Procedure.{Procedure, lets, stands_for}
use Rattle.bohm_types.specs.Procedure as procedures
use Rattle.bohm_types.specs.Stmt.{Stmt}
use Rattle.bohm_types.specs.Stmt as stmts
use Rattle.bohm_types.specs.Substitution.{term_with, sum_with, stmt_with}
use Rattle.bohm_types.specs.Term.{Read}
use Rattle.bohm_types.specs.Txn.{Txn}
use Rattle.bohm_log.specs.Parts.{name_at}
use Rattle.bohm_txn.specs.Meaning.{Look, body}
use Rattle.bohm_shapes.specs.declared.shape.Term.{Term}
use Rattle.bohm_shapes.specs.declared.shape.Term.TheVariants.{Number, Slot, Local}
use Rattle.bohm_shapes.specs.declared.shape.Step.{Step}
use Rattle.bohm_shapes.specs.declared.shape.Step.TheVariants.{Let, Need, Has, Lacks, Set, SetWhen, Remove, Show, Fail}
use Rattle.bohm_shapes.specs.declared.shape.Shape.{Shape}
use Rattle.bohm_shapes.specs.Filled.{number_term, term_filled, sum_filled, stmt_filled, steps_filled, txn_filled}
use Rattle.bohm_shapes.specs.Made.{IsLike}
use Rattle.bohm_shapes.specs.Running.{IsUsable, TermIn, StepIn, StepsIn, lets_in}

-- ---- statements over other keys

module _ (f : List ℕ → List ℕ) (locals names : List (List ℕ)) where
  slot_with : (i : ℕ) → i < length names → name_at (map f names) i ≡ f (name_at names i)
  slot_with i inside = get_or-map f names i [] [] inside

  number_with : (v : ℤ) → number_term v ≡ term_with f (number_term v)
  number_with (pos n) = refl
  number_with (negsuc n) = refl

  filled_with : (n : ℕ) (t : Term) → TermIn (length names) n t → term_filled locals (map f names) t ≡ term_with f (term_filled locals names t)
  filled_with n (Number v) h = number_with v
  filled_with n (Slot minus i) h = ap (λ (k : List ℕ). (minus, Read k)) (slot_with i h)
  filled_with n (Local minus i) h = refl

  sum_is_with : (n : ℕ) (ts : List Term) → All (TermIn (length names) n) ts → sum_filled locals (map f names) ts ≡ sum_with f (sum_filled locals names ts)
  sum_is_with n [] all = refl
  sum_is_with n (t ∷ ts) all =
      let first = filled_with n t (all zero t (omega arith)) in
      let others = sum_is_with n ts (λ j d h. all (suc j) d (omega (arith, h))) in
      λ i. first i ∷ others i

  step_with : (n : ℕ) (x : Step) → StepIn locals (length names) n x → stmt_filled locals (map f names) x ≡ stmt_with f (stmt_filled locals names x)
  step_with n (Let i sum) h = ap (stmts.Bind (name_at locals i)) (sum_is_with n sum.items h.2.each)
  step_with n (Need left cmp right) h =
      let l = sum_is_with n left.items h.0.each in
      let r = sum_is_with n right.items h.1.each in
      λ j. stmts.Need (record { left = l j; cmp = cmp; right = r j })
  step_with n (Has i) h = ap stmts.Has (slot_with i h)
  step_with n (Lacks i) h = ap stmts.Lacks (slot_with i h)
  step_with n (Set i sum) h =
      let k = slot_with i h.0 in
      let s = sum_is_with n sum.items h.1.each in
      λ j. stmts.Put (k j) (s j) None
  step_with n (SetWhen i sum left cmp right) h =
      let k = slot_with i h.0 in
      let s = sum_is_with n sum.items h.1.each in
      let l = sum_is_with n left.items h.2.each in
      let r = sum_is_with n right.items h.3.each in
      λ j. stmts.Put (k j) (s j) (Some (record { left = l j; cmp = cmp; right = r j }))
  step_with n (Remove i) h = ap stmts.Remove (slot_with i h)
  step_with n (Show sum) h = ap stmts.Show (sum_is_with n sum.items h.each)
  step_with n Fail h = refl

  steps_with : (n : ℕ) (xs : List Step) → StepsIn locals (length names) n xs
      → map (stmt_filled locals (map f names)) xs ≡ map (stmt_with f) (map (stmt_filled locals names) xs)
  steps_with n [] h = refl
  steps_with n (x ∷ xs) h =
      let first = step_with n x h.0 in
      let others = steps_with (n + lets_in x) xs h.1 in
      λ i. first i ∷ others i

-- ---- the bindings of the values

first_lets : (xs : List (List ℕ)) (vs : List ℤ) → lets xs vs ≡ lets (take (length vs) xs) vs
first_lets [] [] = refl
first_lets [] (v ∷ vs) = refl
first_lets (x ∷ xs) [] = refl
first_lets (x ∷ xs) (v ∷ vs) = ap (λ (ss : List Stmt). stmts.Bind x (procedures.sum_of v) ∷ ss) (first_lets xs vs)

-- ---- what a transaction does depends on its edition and its body alone

pub same_effects : (t u : Txn) → t.edition ≡ u.edition → t.body ≡ u.body → (look : Look) → body look t ≡ body look u
same_effects t u edition same look = rw (edition, same) refl

-- the shape's transaction has the instance's body
pub call_body : (p : Procedure) (s : Shape) (ks : List (List ℕ)) (vs : List ℤ) → IsLike p s → IsUsable s → length vs ≡ length p.values
    → (txn_filled s (map (stands_for p.keys ks) s.names.items) vs).body ≡ (procedures.instance p ks vs).body
call_body p s ks vs like usable long =
    let f = stands_for p.keys ks in
    let names = s.names.items in
    let locals = s.locals.items in
    let bindings : lets locals vs ≡ lets p.values vs =
    first_lets locals vs ∙ ap (λ (n : ℕ). lets (take n locals) vs) long ∙ ap (λ (xs : List (List ℕ)). lets xs vs) like.values in
    let steps : steps_filled s (map f names) ≡ map (stmt_with f) p.body =
    steps_with f locals names s.values s.steps.items usable.within ∙ ap (map (stmt_with f)) like.steps in
    λ i. bindings i ++ steps i

pub call_effects : (p : Procedure) (s : Shape) (ks : List (List ℕ)) (vs : List ℤ) → IsLike p s → IsUsable s → length vs ≡ length p.values
    → (look : Look) → body look (txn_filled s (map (stands_for p.keys ks) s.names.items) vs) ≡ body look (procedures.instance p ks vs)
call_effects p s ks vs like usable long look = same_effects (txn_filled s (map (stands_for p.keys ks) s.names.items) vs) (procedures.instance p ks vs)
    like.same_edition (call_body p s ks vs like usable long) look
