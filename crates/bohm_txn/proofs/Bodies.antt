-- The keys that a body writes, the number of values that it shows, and the cells after it.
use Rattle.std.proofs.Common.{◌≡◌, ℕ, suc, ◌+◌, Bool, true, false, cond, List, [], ◌∷◌, ◌++◌, length, map, Some, Ok, Err, refl, sym, ap, ◌∙◌, subst, arith}
use Rattle.std.specs.Prelude.{ℤ, Result, if◌then◌else◌}
use Rattle.std.specs.List.{AllByRecursion, slice_get}
use Rattle.std.specs.Str.{bytes_eq}
use Rattle.std.proofs.lemmas.List.{length-append}
use Rattle.std.proofs.lemmas.Map.Keys.{any_passes_from_place}
use Rattle.std.proofs.lemmas.List.Sums.{sum_by-cons}
use Rattle.bohm_types.specs.Parts.{is_show}
use Rattle.bohm_types.specs.declared.cell.Cell.{Cell}
use Rattle.bohm_types.specs.declared.cell.Cell.TheVariants.{Absent, Present}
use Rattle.bohm_types.specs.Stmt.{Stmt, Bind, Need, Has, Lacks, Put, Remove, Show, Fail}
use Rattle.bohm_types.specs.Term.{Atom}
use Rattle.bohm_types.specs.declared.edition.Edition.{Edition}
use Rattle.bohm_types.specs.Txn.{Txn}
use Rattle.bohm_types.specs.Keys.{IsAmong}
use Rattle.bohm_txn.specs.declared.outcome.Reason.{Reason}
use Rattle.bohm_txn.specs.declared.outcome.Reason.TheVariants as reasons
use Rattle.bohm_txn.specs.Meaning.{Look, Run, Ended, fresh, newest, then_try, then_do, sum_value, cond_value, guard_value}
use Rattle.bohm_txn.specs.Meaning.{is_present, bind, write, show, needs, seen, perform, or_stop, body_from, body}
use Rattle.bohm_txn.specs.Serial.{writes_of, after}
use Rattle.bohm_types.specs.Accesses.{StmtWrites}
use Rattle.bohm_txn.specs.Declares.{IsUsable, shows_in}
use Rattle.bohm_txn.specs.Tables.{Tables, all_written, cell_at, run_with, step, taken, written}
use Rattle.bohm_txn.proofs.BodyLaw.{same_body}
use Rattle.bohm_log.proofs.ForCallers.{key_itself, same_key}

-- if the body ended well, P holds for its effects
abbrev pub OnRun : (Run → Type 0) → Ended → Type 0
OnRun P (Ok run) = P run
OnRun P (Err fault) = Unit {0}

-- P holds for each written key
abbrev pub WritesOnly : (List ℕ → Type 0) → List (List ℕ × Cell) → Type 0
WritesOnly P ws = AllByRecursion (λ w. P w.0) ws

only_more : (P : List ℕ → Type 0) (ws : List (List ℕ × Cell)) (k : List ℕ) (c : Cell) → WritesOnly P ws → P k → WritesOnly P (ws ++ (k, c) ∷ [])
only_more P [] k c all p = (p, tt)
only_more P (w ∷ ws) k c all p = (all.0, only_more P ws k c all.1 p)

-- the statement writes only keys of P, and shows a value if it is a `Show`
record Adds (P : List ℕ → Type 0) (s : Stmt) (ss : List Stmt) (before run : Run) : Type 0 where
  pub only : WritesOnly P before.writes → WritesOnly P run.writes
  pub shows : length before.shows + shows_in (s ∷ ss) ≡ length run.shows + shows_in ss

OnStep : (Run → Type 0) → Result Run Reason → Type 0
OnStep Q (Ok run) = Q run
OnStep Q (Err r) = Unit {0}

on_needs : (Q : Run → Type 0) (run : Run) (holds : Bool) → Q run → OnStep Q (needs run holds)
unfolding OnStep
on_needs Q run true q = q
on_needs Q run false q = tt

on_lacks : (Q : Run → Type 0) (run : Run) (there : Bool) → Q run → OnStep Q (if there then Err reasons.Need else Ok run)
unfolding OnStep
on_lacks Q run true q = tt
on_lacks Q run false q = q

-- Q holds after a step that evaluates something or fails, if Q holds with each value
on_do : (Q : Run → Type 0) {A : Type 0} (r : Result A Reason) (f : A → Run) → ((x : A) → Q (f x)) → OnStep Q (then_do r f)
unfolding OnStep
on_do Q (Ok x) f q = q x
on_do Q (Err e) f q = tt

on_try : (Q : Run → Type 0) {A : Type 0} (r : Result A Reason) (f : A → Result Run Reason) → ((x : A) → OnStep Q (f x)) → OnStep Q (then_try r f)
unfolding OnStep
on_try Q (Ok x) f q = q x
on_try Q (Err e) f q = tt

on_guarded : (Q : Run → Type 0) (run : Run) (r : Result ℤ Reason) (f : ℤ → Run) (holds : Bool) → Q run → ((z : ℤ) → Q (f z))
    → OnStep Q (if holds then then_do r f else Ok run)
unfolding OnStep
on_guarded Q run r f true q step = on_do Q r f step
on_guarded Q run r f false q step = q

count_show : (sum : List (Bool × Atom)) (ss : List Stmt) → shows_in (Show sum ∷ ss) ≡ 1 + shows_in ss
count_show sum ss = sum_by-cons (λ s. cond (is_show s) 1 0) (Show sum) ss

show_more : (run : Run) (ss : List Stmt) (z : ℤ) {n : ℕ} → n ≡ 1 + shows_in ss → length run.shows + n ≡ length (run.shows ++ z ∷ []) + shows_in ss
show_more run ss z e = omega (arith, length-append run.shows (z ∷ []))

adds : (P : List ℕ → Type 0) (look : Look) (s : Stmt) (ss : List Stmt) (run : Run) → StmtWrites P s → OnStep (Adds P s ss run) (perform look run s)
unfolding OnStep
adds P look (Bind x sum) ss run p = on_do (Adds P (Bind x sum) ss run) (sum_value look run.locals sum) (bind run x)
    (λ z. record { only = λ all. all; shows = omega arith })
adds P look (Need c) ss run p = on_try (Adds P (Need c) ss run) (cond_value look run.locals c) (needs run)
    (λ holds. on_needs (Adds P (Need c) ss run) run holds (record { only = λ all. all; shows = omega arith }))
adds P look (Has k) ss run p = on_needs (Adds P (Has k) ss run) run (is_present (look k)) (record { only = λ all. all; shows = omega arith })
adds P look (Lacks k) ss run p = on_lacks (Adds P (Lacks k) ss run) run (is_present (look k)) (record { only = λ all. all; shows = omega arith })
adds P look (Put k sum guard) ss run p =
    on_try (Adds P (Put k sum guard) ss run) (guard_value look run.locals guard)
    (λ holds. if holds then then_do (sum_value look run.locals sum) (λ z. write run k (Present z)) else Ok run) (λ holds.
    on_guarded (Adds P (Put k sum guard) ss run) run (sum_value look run.locals sum) (λ z. write run k (Present z)) holds
    (record { only = λ all. all; shows = omega arith })
    (λ z. record { only = λ all. only_more P run.writes k (Present z) all p; shows = omega arith }))
adds P look (Remove k) ss run p = record { only = λ all. only_more P run.writes k Absent all p; shows = omega arith }
adds P look (Show sum) ss run p = on_do (Adds P (Show sum) ss run) (sum_value look run.locals sum) (show run)
    (λ z. record { only = λ all. all; shows = show_more run ss z (count_show sum ss) })
adds P look Fail ss run p = tt

any_writes : (s : Stmt) → StmtWrites (λ k. Unit {0}) s
any_writes (Bind x sum) = tt
any_writes (Need c) = tt
any_writes (Has k) = tt
any_writes (Lacks k) = tt
any_writes (Put k sum guard) = tt
any_writes (Remove k) = tt
any_writes (Show sum) = tt
any_writes Fail = tt

shows_written : (t : Txn) (w : Tables) (ps : List (List ℕ × Cell)) → (all_written t w ps).shows ≡ w.shows
shows_written t w [] = refl
shows_written t w (p ∷ ps) = shows_written t (written t w p.0 p.1) ps

-- a statement appends its shown values to the tables
pub step_shows : (t : Txn) (w next : Tables) (s : Stmt) (ss : List Stmt) → step t w s ≡ Ok next
    → length w.shows + shows_in (s ∷ ss) ≡ length next.shows + shows_in ss
unfolding OnStep
step_shows t w next s ss is =
    elim (perform (cell_at t.reads w.seen) (run_with w []) s) as (λ r. OnStep (Adds (λ k. Unit {0}) s ss (run_with w [])) r → then_do r (taken t w) ≡ Ok next
    → length w.shows + shows_in (s ∷ ss) ≡ length next.shows + shows_in ss) [
      | Err r ↦ λ h e. absurd cc
      | Ok run ↦ λ h e.
          (let same : taken t w run ≡ next = cc in
          h.shows ∙ ap (λ (zs : List ℤ). length zs + shows_in ss)
          (sym (shows_written t (record w { locals = run.locals; shows = run.shows }) run.writes) ∙ ap (λ (n : Tables). n.shows) same))
    ] (adds (λ k. Unit {0}) (cell_at t.reads w.seen) s ss (run_with w []) (any_writes s)) is

-- statements show as many values as the first statement and the others together
pub shows_first : (s : Stmt) (ss : List Stmt) → shows_in (s ∷ ss) ≡ shows_in (s ∷ []) + shows_in ss
shows_first s ss = omega (arith, sum_by-cons (λ s. cond (is_show s) 1 0) s ss, sum_by-cons (λ s. cond (is_show s) 1 0) s [])

-- the statements write only keys of P, and show a value for each `Show`
record Did (P : List ℕ → Type 0) (ss : List Stmt) (before run : Run) : Type 0 where
  pub only : WritesOnly P before.writes → WritesOnly P run.writes
  pub shows : length before.shows + shows_in ss ≡ length run.shows

on_run : (P Q : Run → Type 0) (r : Ended) → ((run : Run) → P run → Q run) → OnRun P r → OnRun Q r
on_run P Q (Ok run) f p = f run p
on_run P Q (Err fault) f p = tt

did : (P : List ℕ → Type 0) (e : Edition) (look : Look) (run : Run) (n : ℕ) (ss : List Stmt) → AllByRecursion (StmtWrites P) ss
    → OnRun (Did P ss run) (body_from e look run n ss)
unfolding OnStep
did P e look run n [] all = record { only = λ h. h; shows = omega arith }
did P e look run n (s ∷ ss) all =
    elim (perform (seen e look run) run s) as (λ r. OnStep (Adds P s ss run) r
    → OnRun (Did P (s ∷ ss) run) (or_stop n r (λ next. body_from e look next (n + 1) ss))) [
      | Err r ↦ λ h. tt
      | Ok next ↦ λ h. on_run (Did P ss next) (Did P (s ∷ ss) run) (body_from e look next (n + 1) ss)
          (λ end d. record { only = λ w. d.only (h.only w); shows = h.shows ∙ d.shows }) (did P e look next (n + 1) ss all.1)
    ] (adds P (seen e look run) s ss run all.0)

only_of : (P : List ℕ → Type 0) (ss : List Stmt) (r : Ended) → OnRun (Did P ss fresh) r → WritesOnly P (writes_of r)
only_of P ss (Ok run) d = d.only tt
only_of P ss (Err fault) d = tt

-- if each statement's target is a key of P, the body writes only keys of P
pub writes_only : (P : List ℕ → Type 0) (look : Look) (t : Txn) → AllByRecursion (StmtWrites P) t.body → WritesOnly P (writes_of (body look t))
writes_only P look t all = only_of P t.body (body look t) (did P t.edition look fresh 1 t.body all)

pub writes_declared : (look : Look) (t : Txn) → IsUsable t → WritesOnly (IsAmong t.writes) (writes_of (body look t))
writes_declared look t usable = writes_only (IsAmong t.writes) look t usable.writes

all_of : {A : Type 0} (P : A → Type 0) (xs : List A) → ((x : A) → P x) → AllByRecursion P xs
all_of P [] f = tt
all_of P (x ∷ xs) f = (f x, all_of P xs f)

-- a commit shows a value for each `Show`
pub shows_counted : (look : Look) (t : Txn) (run : Run) → body look t ≡ Ok run → length run.shows ≡ shows_in t.body
shows_counted look t run e =
    let d = did (λ k. Unit {0}) t.edition look fresh 1 t.body (all_of (StmtWrites (λ k. Unit {0})) t.body any_writes) in
    let here : OnRun (Did (λ k. Unit {0}) t.body fresh) (Ok run) = subst (λ (r : Ended). OnRun (Did (λ k. Unit {0}) t.body fresh) r) e d in
    omega (arith, here.shows)

-- ---- keys that aren't written keep their cells

pub among_at : (ks : List (List ℕ)) (j : ℕ) (k : List ℕ) → slice_get ks j ≡ Some k → IsAmong ks k
among_at ks j k e = any_passes_from_place (λ x. bytes_eq x k) ks j k e (key_itself k)

unwritten : (P : List ℕ → Type 0) (ws : List (List ℕ × Cell)) (k : List ℕ) (c : Cell) → WritesOnly P ws → ¬ P k → newest ws k c ≡ c
unwritten P [] k c all not = refl
unwritten P (w ∷ ws) k c all not =
    let Q : Bool → Type 0 = λ (t : Bool). bytes_eq w.0 k ≡ t → newest ws k (cond t w.1 c) ≡ c in
    elim (bytes_eq w.0 k) as Q [
      | true ↦ λ e. absurd (not (subst P (same_key w.0 k e) all.0))
      | false ↦ λ e. unwritten P ws k c all.1 not
    ] refl

-- if each statement's target is a key of P, every other key keeps its cell
pub kept_by : (P : List ℕ → Type 0) (look : Look) (t : Txn) (k : List ℕ) → AllByRecursion (StmtWrites P) t.body → ¬ P k → after look t k ≡ look k
kept_by P look t k all not = unwritten P (writes_of (body look t)) k (look k) (writes_only P look t all) not

-- a key that isn't declared to be written keeps its cell
pub kept : (look : Look) (t : Txn) (k : List ℕ) → IsUsable t → ¬ IsAmong t.writes k → after look t k ≡ look k
kept look t k usable not = kept_by (IsAmong t.writes) look t k usable.writes not

-- ---- bodies over two looks that agree on some keys

-- if the declared reads have the same cells, the body has the same result
pub same_reads : (look other : Look) (t : Txn) → IsUsable t → ((k : List ℕ) → IsAmong t.reads k → look k ≡ other k) → body look t ≡ body other t
same_reads look other t usable same = same_body (IsAmong t.reads) t.edition look other same fresh 1 t.body usable.reads

-- if the body has the same result over both looks, a key with equal cells before has equal cells after
pub same_after : (look other : Look) (t : Txn) (k : List ℕ) → body look t ≡ body other t → look k ≡ other k → after look t k ≡ after other t k
same_after look other t k e same = λ i. newest (writes_of (e i)) k (same i)

pub map_same : {A B : Type 0} (f g : A → B) (xs : List A) → ((j : ℕ) (x : A) → slice_get xs j ≡ Some x → f x ≡ g x) → map f xs ≡ map g xs
map_same f g [] same = refl
map_same f g (x ∷ xs) same =
    let first : f x ≡ g x = same 0 x refl in
    let rest : map f xs ≡ map g xs = map_same f g xs (λ j. same (suc j)) in
    λ i. first i ∷ rest i

-- if the body has the same result over both looks, keys with equal cells before have equal cells after
pub same_cells : (look other : Look) (t : Txn) (ks : List (List ℕ)) → body look t ≡ body other t → ((k : List ℕ) → IsAmong ks k → look k ≡ other k)
    → map (after look t) ks ≡ map (after other t) ks
same_cells look other t ks e same = map_same (after look t) (after other t) ks (λ j k at. same_after look other t k e (same k (among_at ks j k at)))
