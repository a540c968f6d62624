-- A body depends only on the keys that it reads.
use Rattle.std.proofs.Common.{◌≡◌, ℕ, ◌+◌, Bool, List, [], ◌∷◌, Option, Some, None, Ok, Err, refl, ap}
use Rattle.std.specs.Prelude.{ℤ, pos, if◌then◌else◌}
use Rattle.std.specs.List.{AllByRecursion}
use Rattle.bohm_types.specs.declared.cell.Cell.TheVariants.{Present}
use Rattle.bohm_types.specs.Stmt.{Cond, Stmt, Bind, Need, Has, Lacks, Put, Remove, Show, Fail}
use Rattle.bohm_types.specs.Term.{Atom, Lit, Read, Local}
use Rattle.bohm_types.specs.declared.edition.Edition.{Edition}
use Rattle.bohm_types.specs.declared.edition.Edition.TheVariants.{One, Two}
use Rattle.bohm_types.specs.Parts.{guard_sums}
use Rattle.bohm_txn.specs.declared.outcome.Reason.TheVariants as reasons
use Rattle.bohm_txn.specs.Meaning.{Look, Locals, Run, number_in, atom_value, signed, ◌>>=◌, total_from, in_range, sum_value, then_try, then_do}
use Rattle.bohm_txn.specs.Meaning.{compares, cond_value, guard_value, is_present, seen, newest, bind, write, show, needs, perform, or_stop, body_from}
use Rattle.bohm_types.specs.Accesses.{AtomReads, SumReads, StmtReads}
use Rattle.std.specs.Ordering.{int_cmp}

-- the looks agree on each key of P
abbrev pub Agree : (List ℕ → Type 0) → Look → Look → Type 0
Agree P look other = (k : List ℕ) → P k → look k ≡ other k

same_atom : (P : List ℕ → Type 0) (look other : Look) → Agree P look other → (locals : Locals) (a : Atom) → AtomReads P a
    → atom_value look locals a ≡ atom_value other locals a
same_atom P look other same locals (Lit n) reads = refl
same_atom P look other same locals (Read k) reads = ap number_in (same k reads)
same_atom P look other same locals (Local x) reads = refl

same_total : (P : List ℕ → Type 0) (look other : Look) → Agree P look other → (locals : Locals) (total : ℤ) (ts : List (Bool × Atom)) → SumReads P ts
    → total_from look locals total ts ≡ total_from other locals total ts
same_total P look other same locals total [] reads = refl
same_total P look other same locals total (t ∷ ts) reads =
    rw (same_atom P look other same locals t.1 reads.0)
    (elim (atom_value other locals t.1) as (λ o.
    (o >>= λ z. total_from look locals (signed total t.0 z) ts) ≡ (o >>= λ z. total_from other locals (signed total t.0 z) ts)) [
      | None ↦ refl
      | Some z ↦ same_total P look other same locals (signed total t.0 z) ts reads.1
    ])

pub same_sum : (P : List ℕ → Type 0) (look other : Look) → Agree P look other → (locals : Locals) (ts : List (Bool × Atom)) → SumReads P ts
    → sum_value look locals ts ≡ sum_value other locals ts
same_sum P look other same locals ts reads = ap in_range (same_total P look other same locals (pos 0) ts reads)

same_cond : (P : List ℕ → Type 0) (look other : Look) → Agree P look other → (locals : Locals) (c : Cond) → SumReads P c.left → SumReads P c.right
    → cond_value look locals c ≡ cond_value other locals c
same_cond P look other same locals c left right =
    λ i. then_try (same_sum P look other same locals c.left left i)
    (λ a. then_do (same_sum P look other same locals c.right right i) (λ b. compares c.cmp (int_cmp a b)))

same_guard : (P : List ℕ → Type 0) (look other : Look) → Agree P look other → (locals : Locals) (guard : Option Cond)
    → AllByRecursion (SumReads P) (guard_sums guard) → guard_value look locals guard ≡ guard_value other locals guard
same_guard P look other same locals None reads = refl
same_guard P look other same locals (Some c) reads = same_cond P look other same locals c reads.0 reads.1.0

pub same_stmt : (P : List ℕ → Type 0) (look other : Look) → Agree P look other → (run : Run) (s : Stmt) → StmtReads P s
    → perform look run s ≡ perform other run s
same_stmt P look other same run (Bind x sum) reads = λ i. then_do (same_sum P look other same run.locals sum reads.0.0 i) (bind run x)
same_stmt P look other same run (Need c) reads = λ i. then_try (same_cond P look other same run.locals c reads.0.0 reads.0.1.0 i) (needs run)
same_stmt P look other same run (Has k) reads = ap (λ c. needs run (is_present c)) (same k reads.1)
same_stmt P look other same run (Lacks k) reads = λ i. if is_present (same k reads.1 i) then Err reasons.Need else Ok run
same_stmt P look other same run (Put k sum guard) reads =
    λ i. then_try (same_guard P look other same run.locals guard reads.0.1 i)
    (λ holds. if holds then then_do (same_sum P look other same run.locals sum reads.0.0 i) (λ z. write run k (Present z)) else Ok run)
same_stmt P look other same run (Remove k) reads = refl
same_stmt P look other same run (Show sum) reads = λ i. then_do (same_sum P look other same run.locals sum reads.0.0 i) (show run)
same_stmt P look other same run Fail reads = refl

-- looks that agree on the keys of P still agree with the writes of earlier statements
pub same_seen : (P : List ℕ → Type 0) (e : Edition) (look other : Look) (run : Run) → Agree P look other → Agree P (seen e look run) (seen e other run)
same_seen P One look other run same = same
same_seen P Two look other run same = λ k reads. ap (λ c. newest run.writes k c) (same k reads)

pub same_body : (P : List ℕ → Type 0) (e : Edition) (look other : Look) → Agree P look other → (run : Run) (n : ℕ) (ss : List Stmt)
    → AllByRecursion (StmtReads P) ss → body_from e look run n ss ≡ body_from e other run n ss
same_body P e look other same run n [] reads = refl
same_body P e look other same run n (s ∷ ss) reads =
    rw (same_stmt P (seen e look run) (seen e other run) (same_seen P e look other run same) run s reads.0)
    (elim (perform (seen e other run) run s) as (λ r. or_stop n r (λ next. body_from e look next (n + 1) ss) ≡ or_stop n r
    (λ next. body_from e other next (n + 1) ss)) [
      | Err r ↦ refl
      | Ok next ↦ same_body P e look other same next (n + 1) ss reads.1
    ])
