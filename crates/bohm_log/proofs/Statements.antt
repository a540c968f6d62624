-- The statements made from the sums that were read.
use Rattle.std.proofs.Common.{◌≡◌, ℕ, ◌≤◌, Bool, List, [], ◌∷◌, Some, None, length, refl, ap, sym, subst, ◌∙◌, arith}
use Rattle.std.specs.List.{AllByRecursion}
use Rattle.bohm_types.specs.Sound.{IsName, IsSum, IsStmt}
use Rattle.bohm_types.specs.Term.{Atom}
use Rattle.bohm_types.specs.declared.cmp.Cmp.{Cmp}
use Rattle.bohm_types.specs.Stmt as stmts
use Rattle.bohm_log.specs.declared.row.Action.{Action}
use Rattle.bohm_log.specs.declared.row.Action.TheVariants as actions
use Rattle.bohm_types.specs.declared.edition.Edition.{Edition}
use Rattle.bohm_log.specs.declared.row.Pending.{Pending}
use Rattle.bohm_log.specs.declared.row.Step.{Step}
use Rattle.bohm_log.specs.declared.row.Step.TheVariants.{Whole, Left, Right}
use Rattle.bohm_types.specs.Txn.{Txn}
use Rattle.bohm_log.specs.Parts.{Parts, sum_between, stmt_made, txn_of}
use Rattle.bohm_log.specs.Drafting.{Drafted, drafted_of, done_at, from_at, first_end, second_end, with_stmt, made_of}
use Rattle.bohm_log.specs.Drafting.{opened, put_of, need_of, AddsRow, IsDrafted, IsBetween}
use Rattle.bohm_log.specs.Sizes.{stmt_terms, open_terms}
use Rattle.bohm_log.proofs.Drafts.{sum_done, added, added_within}

-- ---- the sums of a statement

taken : (x : Txn) (p : Parts) (action : Action) (name : List ℕ) (s f n t : ℕ) (step : Step) → t ≡ length p.terms
    → stmt_made action name (sum_between p s (first_end f t step)) (sum_between p (first_end f t step) (second_end n t step))
    (sum_between p (second_end n t step) t) ≡ made_of
    (record { txn = x; done = done_at p s f n step; latest = sum_between p (from_at s f n step) (length p.terms) }) action name
taken x p action name s f n t Whole end = rw (end, sum_done p (length p.terms) refl) refl
taken x p action name s f n t Left end = rw (end, sum_done p (length p.terms) refl) refl
taken x p action name s f n t Right end = rw end refl

risen : (s f n t : ℕ) (step : Step) → s ≤ f → f ≤ n → n ≤ t → (s ≤ first_end f t step) × (first_end f t step ≤ second_end n t step) × (second_end n t step ≤ t)
risen s f n t Whole a b c = (omega (arith, a, b, c), omega arith, omega arith)
risen s f n t Left a b c = (a, omega (arith, b, c), omega arith)
risen s f n t Right a b c = (a, b, c)

-- a row whose sums end at the last term adds the statement made from all sums that were read
module _ (p q : Parts) (action : Action) (name : List ℕ) (o : Pending) (a b t : ℕ) (g : AddsRow p q action name o.start a b t)
    (first : a ≡ first_end o.first t o.step) (second : b ≡ second_end o.second t o.step) (h : IsDrafted p o) (end : t ≡ length p.terms) where
  rises : (o.start ≤ a) × (a ≤ b) × (b ≤ t)
  rises = rw (first, second) (risen o.start o.first o.second t o.step h.begins h.rises (omega (arith, h.ends, end)))

  pub stmt_added : (e : Edition) → drafted_of e q (opened t) ≡ with_stmt (drafted_of e p o) (made_of (drafted_of e p o) action name)
  stmt_added e =
      added e p q action name o o.start a b t g h end rises.0 rises.1 rises.2
      ∙ ap (with_stmt (drafted_of e p o)) (
      (λ i. stmt_made action name (sum_between p o.start (first i)) (sum_between p (first i) (second i)) (sum_between p (second i) t))
      ∙ taken (txn_of e p) p action name o.start o.first o.second t o.step end)

  pub stmt_within : IsDrafted q (opened t)
  stmt_within = added_within p q action name o o.start a b t g h end rises.0 rises.1 rises.2

-- ---- the statement of each action with sums

pub bind_made : (d : Drafted) (name : List ℕ) → d.done ≡ [] → made_of d actions.Bind name ≡ stmts.Bind name d.latest
bind_made d name none = rw none refl

pub show_made : (d : Drafted) → d.done ≡ [] → made_of d actions.Show [] ≡ stmts.Show d.latest
show_made d none = rw none refl

pub put_made : (d : Drafted) (k : List ℕ) → d.done ≡ [] → made_of d actions.Put k ≡ put_of d k None
put_made d k none = rw none refl

pub need_made : (d : Drafted) (c : Cmp) → length d.done ≡ 1 → made_of d (actions.Need c) [] ≡ need_of d c
need_made d c one = go d.done one
  where
    go : (xs : List (List (Bool × Atom))) → length xs ≡ 1 → made_of (record d { done = xs }) (actions.Need c) [] ≡ need_of (record d { done = xs }) c
    go [] one = absurd (omega (arith, one))
    go (x ∷ []) one = refl
    go (x ∷ y ∷ xs) one = absurd (omega (arith, one))

pub put_when_made : (d : Drafted) (k : List ℕ) (c : Cmp) → length d.done ≡ 2 → made_of d (actions.PutWhen c) k ≡ put_of d k (Some c)
put_when_made d k c two = go d.done two
  where
    go : (xs : List (List (Bool × Atom))) → length xs ≡ 2 → made_of (record d { done = xs }) (actions.PutWhen c) k ≡ put_of (record d { done = xs }) k (Some c)
    go [] two = absurd (omega (arith, two))
    go (x ∷ []) two = absurd (omega (arith, two))
    go (x ∷ y ∷ []) two = refl
    go (x ∷ y ∷ z ∷ xs) two = absurd (omega (arith, two))

-- ---- statements made from sound sums are sound

pub bind_sound : (d : Drafted) (name : List ℕ) → d.done ≡ [] → IsName name → IsSum d.latest → IsStmt (made_of d actions.Bind name)
bind_sound d name none is sum = subst IsStmt (sym (bind_made d name none)) (is, sum)

pub show_sound : (d : Drafted) → d.done ≡ [] → IsSum d.latest → IsStmt (made_of d actions.Show [])
show_sound d none sum = subst IsStmt (sym (show_made d none)) sum

pub put_sound : (d : Drafted) (k : List ℕ) → d.done ≡ [] → IsName k → IsSum d.latest → IsStmt (made_of d actions.Put k)
put_sound d k none is sum = subst IsStmt (sym (put_made d k none)) (is, sum, tt)

pub need_sound : (d : Drafted) (c : Cmp) → length d.done ≡ 1 → AllByRecursion IsSum d.done → IsSum d.latest → IsStmt (made_of d (actions.Need c) [])
need_sound d c one done sum = go d.done one done
  where
    go : (xs : List (List (Bool × Atom))) → length xs ≡ 1 → AllByRecursion IsSum xs → IsStmt (made_of (record d { done = xs }) (actions.Need c) [])
    go [] one h = absurd (omega (arith, one))
    go (x ∷ []) one h = (h.0, sum)
    go (x ∷ y ∷ xs) one h = absurd (omega (arith, one))

pub put_when_sound : (d : Drafted) (k : List ℕ) (c : Cmp) → length d.done ≡ 2 → IsName k → AllByRecursion IsSum d.done → IsSum d.latest
    → IsStmt (made_of d (actions.PutWhen c) k)
put_when_sound d k c two is done sum = go d.done two done
  where
    go : (xs : List (List (Bool × Atom))) → length xs ≡ 2 → AllByRecursion IsSum xs → IsStmt (made_of (record d { done = xs }) (actions.PutWhen c) k)
    go [] two h = absurd (omega (arith, two))
    go (x ∷ []) two h = absurd (omega (arith, two))
    go (x ∷ y ∷ []) two h = (is, h.0, (h.1.0, sum))
    go (x ∷ y ∷ z ∷ xs) two h = absurd (omega (arith, two))

-- ---- a statement has all terms that were read

pub none_counted : (d : Drafted) → IsBetween d → 0 ≡ open_terms d
none_counted d none = rw (none.done, none.latest) refl

pub bind_counted : (d : Drafted) (name : List ℕ) → d.done ≡ [] → stmt_terms (made_of d actions.Bind name) ≡ open_terms d
bind_counted d name none = rw none (omega arith)

pub show_counted : (d : Drafted) → d.done ≡ [] → stmt_terms (made_of d actions.Show []) ≡ open_terms d
show_counted d none = rw none (omega arith)

pub put_counted : (d : Drafted) (k : List ℕ) → d.done ≡ [] → stmt_terms (made_of d actions.Put k) ≡ open_terms d
put_counted d k none = rw none (omega arith)

pub need_counted : (d : Drafted) (c : Cmp) → length d.done ≡ 1 → stmt_terms (made_of d (actions.Need c) []) ≡ open_terms d
need_counted d c one = go d.done one
  where
    go : (xs : List (List (Bool × Atom))) → length xs ≡ 1
        → stmt_terms (made_of (record d { done = xs }) (actions.Need c) []) ≡ open_terms (record d { done = xs })
    go [] one = absurd (omega (arith, one))
    go (x ∷ []) one = omega arith
    go (x ∷ y ∷ xs) one = absurd (omega (arith, one))

pub put_when_counted : (d : Drafted) (k : List ℕ) (c : Cmp) → length d.done ≡ 2 → stmt_terms (made_of d (actions.PutWhen c) k) ≡ open_terms d
put_when_counted d k c two = go d.done two
  where
    go : (xs : List (List (Bool × Atom))) → length xs ≡ 2
        → stmt_terms (made_of (record d { done = xs }) (actions.PutWhen c) k) ≡ open_terms (record d { done = xs })
    go [] two = absurd (omega (arith, two))
    go (x ∷ []) two = absurd (omega (arith, two))
    go (x ∷ y ∷ []) two = omega arith
    go (x ∷ y ∷ z ∷ xs) two = absurd (omega (arith, two))
