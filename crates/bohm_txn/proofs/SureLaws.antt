-- A sure transaction commits over every store, and its declared writes always have the same cells after it.
use Rattle.std.proofs.Common.{◌≡◌, ℕ, zero, suc, ◌+◌, Bool, true, false, cond, List, [], ◌∷◌, ◌++◌, length}
use Rattle.std.proofs.Common.{map, Some, None, Ok, Err, refl, ap, sym, ◌∙◌, subst, arith, inl, inr}
use Rattle.std.specs.Prelude.{ℤ, pos, ◌⊎◌, ◌||◌, Result, is_ok}
use Rattle.std.specs.List.{AllByRecursion, list_all, slice_get}
use Rattle.std.specs.Str.{bytes_eq}
use Rattle.std.proofs.lemmas.Bool.{and_parts}
use Rattle.bohm_types.specs.declared.cell.Cell.{Cell}
use Rattle.bohm_types.specs.declared.cell.Cell.TheVariants.{Absent, Present}
use Rattle.bohm_types.specs.Stmt.{Stmt, Bind, Need, Has, Lacks, Put, Remove, Show, Fail}
use Rattle.bohm_types.specs.Term.{Atom, Lit, Read, Local}
use Rattle.bohm_types.specs.declared.edition.Edition.{Edition}
use Rattle.bohm_types.specs.Txn.{Txn}
use Rattle.bohm_txn.specs.declared.outcome.Reason.{Reason}
use Rattle.bohm_types.specs.Accesses.{AtomReads, SumReads, StmtReads}
use Rattle.bohm_txn.specs.Meaning.{Look, Locals, Run, Ended, fresh, newest, signed, total_from, in_range}
use Rattle.bohm_txn.specs.Meaning.{sum_value, then_do, write, show, seen, perform, or_stop, body_from, body}
use Rattle.bohm_txn.specs.Serial.{writes_of, after}
use Rattle.bohm_txn.specs.Sure.{is_lit, is_sure_sum, is_sure_stmt, is_target, IsSure}
use Rattle.bohm_txn.proofs.Bodies.{map_same}
use Rattle.bohm_txn.proofs.BodyLaw.{same_body}
use Rattle.bohm_txn.proofs.Tracking.{newest_more, cells_with}

pub all_true : {A : Type 0} (p : A → Bool) (xs : List A) → list_all p xs ≡ true → AllByRecursion (λ x. p x ≡ true) xs
all_true p [] e = tt
all_true p (x ∷ xs) e = ((and_parts (p x) (list_all p xs) e).0, all_true p xs (and_parts (p x) (list_all p xs) e).1)

all_map : {A : Type 0} (P Q : A → Type 0) (xs : List A) → ((x : A) → P x → Q x) → AllByRecursion P xs → AllByRecursion Q xs
all_map P Q [] f all = tt
all_map P Q (x ∷ xs) f all = (f x all.0, all_map P Q xs f all.1)

value_of : (r : Result ℤ Reason) → is_ok r ≡ true → (z : ℤ) × (r ≡ Ok z)
value_of (Ok z) e = (z, refl)
value_of (Err r) e = absurd cc

same_literals : (look other : Look) (locals others : Locals) (z : ℤ) (ts : List (Bool × Atom)) → AllByRecursion (λ t. is_lit t.1 ≡ true) ts
    → total_from look locals z ts ≡ total_from other others z ts
same_literals look other locals others z [] all = refl
same_literals look other locals others z ((minus, Lit n) ∷ ts) all = same_literals look other locals others (signed z minus (pos n)) ts all.1
same_literals look other locals others z ((minus, Read k) ∷ ts) all = absurd (let no : false ≡ true = all.0 in cc)
same_literals look other locals others z ((minus, Local x) ∷ ts) all = absurd (let no : false ≡ true = all.0 in cc)

literals : (sum : List (Bool × Atom)) → is_sure_sum sum ≡ true → AllByRecursion (λ t. is_lit t.1 ≡ true) sum
literals sum e = all_true (λ t. is_lit t.1) sum (and_parts (list_all (λ t. is_lit t.1) sum) (is_ok (sum_value (λ k. Absent) [] sum)) e).0

-- a sure sum has a value over every look
sure_sum : (look : Look) (locals : Locals) (sum : List (Bool × Atom)) → is_sure_sum sum ≡ true → (z : ℤ) × (sum_value look locals sum ≡ Ok z)
sure_sum look locals sum e =
    let (z, is) = value_of (sum_value (λ k. Absent) [] sum) (and_parts (list_all (λ t. is_lit t.1) sum) (is_ok (sum_value (λ k. Absent) [] sum)) e).1 in
    (z, ap in_range (same_literals look (λ k. Absent) locals [] (pos 0) sum (literals sum e)) ∙ is)

-- ---- the keys that a commit writes

-- the key's cell after the writes doesn't depend on the key's cell before
abbrev pub Covered : List (List ℕ × Cell) → List ℕ → Type 0
Covered ws k = (c d : Cell) → newest ws k c ≡ newest ws k d

covered_more : (ws : List (List ℕ × Cell)) (x : List ℕ) (v : Cell) (k : List ℕ) → Covered ws k → Covered (ws ++ (x, v) ∷ []) k
covered_more ws x v k h = λ c d. newest_more ws x v k c ∙ ap (λ y. cond (bytes_eq x k) v y) (h c d) ∙ sym (newest_more ws x v k d)

covered_last : (ws : List (List ℕ × Cell)) (x : List ℕ) (v : Cell) (k : List ℕ) → bytes_eq x k ≡ true → Covered (ws ++ (x, v) ∷ []) k
covered_last ws x v k e = λ c d. newest_more ws x v k c ∙ ap (λ b. cond b v (newest ws k c)) e
    ∙ sym (newest_more ws x v k d ∙ ap (λ b. cond b v (newest ws k d)) e)

pub record Commits (ss : List Stmt) (before : Run) (r : Ended) : Type 0 where
  pub run : Run
  pub is : r ≡ Ok run
  pub covers : (k : List ℕ) → Covered before.writes k ⊎ (is_target ss k ≡ true) → Covered run.writes k

none_more : (ws : List (List ℕ × Cell)) (k : List ℕ) → Covered ws k ⊎ (is_target [] k ≡ true) → Covered ws k
none_more ws k (inl h) = h
none_more ws k (inr target) = absurd cc

write_more : (ws : List (List ℕ × Cell)) (x : List ℕ) (v : Cell) (ss : List Stmt) (k : List ℕ) → Covered ws k ⊎ ((bytes_eq x k || is_target ss k) ≡ true)
    → Covered (ws ++ (x, v) ∷ []) k ⊎ (is_target ss k ≡ true)
write_more ws x v ss k (inl h) = inl (covered_more ws x v k h)
write_more ws x v ss k (inr target) =
    elim (bytes_eq x k) as (λ b. bytes_eq x k ≡ b → (b || is_target ss k) ≡ true → Covered (ws ++ (x, v) ∷ []) k ⊎ (is_target ss k ≡ true)) [
      | true ↦ λ e h. inl (covered_last ws x v k e)
      | false ↦ λ e h. inr h
    ] refl target

-- if the first statement succeeds and the others commit, all of these statements commit
then_commits : (e : Edition) (look : Look) (run next : Run) (n : ℕ) (s : Stmt) (ss : List Stmt) → perform (seen e look run) run s ≡ Ok next
    → ((k : List ℕ) → Covered run.writes k ⊎ (is_target (s ∷ ss) k ≡ true) → Covered next.writes k ⊎ (is_target ss k ≡ true))
    → Commits ss next (body_from e look next (n + 1) ss) → Commits (s ∷ ss) run (body_from e look run n (s ∷ ss))
then_commits e look run next n s ss step more r = record {
  run = r.run;
  is = ap (λ p. or_stop n p (λ next. body_from e look next (n + 1) ss)) step ∙ r.is;
  covers = λ k h. r.covers k (more k h);
}

no : {A : Type 0} → false ≡ true → A
no e = absurd (let h : false ≡ true = e in cc)

pub commits : (e : Edition) (look : Look) (run : Run) (n : ℕ) (ss : List Stmt) → AllByRecursion (λ s. is_sure_stmt s ≡ true) ss
    → Commits ss run (body_from e look run n ss)
commits e look run n [] all = record { run = run; is = refl; covers = λ k h. none_more run.writes k h }
commits e look run n (Bind x sum ∷ ss) all = no all.0
commits e look run n (Need c ∷ ss) all = no all.0
commits e look run n (Has k ∷ ss) all = no all.0
commits e look run n (Lacks k ∷ ss) all = no all.0
commits e look run n (Put x sum (Some c) ∷ ss) all = no all.0
commits e look run n (Put x sum None ∷ ss) all =
    let (z, is) = sure_sum (seen e look run) run.locals sum all.0 in
    then_commits e look run (write run x (Present z)) n (Put x sum None) ss (ap (λ r. then_do r (λ z. write run x (Present z))) is)
    (write_more run.writes x (Present z) ss) (commits e look (write run x (Present z)) (n + 1) ss all.1)
commits e look run n (Remove x ∷ ss) all = then_commits e look run (write run x Absent) n (Remove x) ss refl (write_more run.writes x Absent ss)
    (commits e look (write run x Absent) (n + 1) ss all.1)
commits e look run n (Show sum ∷ ss) all =
    let (z, is) = sure_sum (seen e look run) run.locals sum all.0 in
    then_commits e look run (show run z) n (Show sum) ss (ap (λ r. then_do r (show run)) is) (λ k h. h) (commits e look (show run z) (n + 1) ss all.1)
commits e look run n (Fail ∷ ss) all = no all.0

-- ---- the whole transaction

sure_stmts : (t : Txn) → IsSure t → AllByRecursion (λ s. is_sure_stmt s ≡ true) t.body
sure_stmts t sure = all_true is_sure_stmt t.body (and_parts (list_all is_sure_stmt t.body) (list_all (is_target t.body) t.writes) sure).0

lit_reads : (P : List ℕ → Type 0) (a : Atom) → is_lit a ≡ true → AtomReads P a
lit_reads P (Lit n) h = tt
lit_reads P (Read k) h = no h
lit_reads P (Local x) h = tt

sum_reads : (P : List ℕ → Type 0) (sum : List (Bool × Atom)) → is_sure_sum sum ≡ true → SumReads P sum
sum_reads P sum e = all_map (λ t. is_lit t.1 ≡ true) (λ t. AtomReads P t.1) sum (λ t. lit_reads P t.1) (literals sum e)

-- a sure statement reads no key
pub sure_reads : (P : List ℕ → Type 0) (s : Stmt) → is_sure_stmt s ≡ true → StmtReads P s
sure_reads P (Bind x sum) h = no h
sure_reads P (Need c) h = no h
sure_reads P (Has k) h = no h
sure_reads P (Lacks k) h = no h
sure_reads P (Put k sum (Some c)) h = no h
sure_reads P (Put k sum None) h = ((sum_reads P sum h, tt), tt)
sure_reads P (Remove k) h = (tt, tt)
sure_reads P (Show sum) h = ((sum_reads P sum h, tt), tt)
sure_reads P Fail h = no h

-- a sure transaction's body has the same result over every look
pub sure_body : (look other : Look) (t : Txn) → IsSure t → body look t ≡ body other t
sure_body look other t sure = same_body (λ k. ⊥) t.edition look other (λ k none. absurd none) fresh 1 t.body
    (all_map (λ s. is_sure_stmt s ≡ true) (StmtReads (λ k. ⊥)) t.body (sure_reads (λ k. ⊥)) (sure_stmts t sure))

-- a sure transaction commits over every look
pub sure_commits : (look : Look) (t : Txn) → IsSure t → (run : Run) × (body look t ≡ Ok run)
sure_commits look t sure = let r = commits t.edition look fresh 1 t.body (sure_stmts t sure) in (r.run, r.is)

among_passes : (p : List ℕ → Bool) (ks : List (List ℕ)) (j : ℕ) (k : List ℕ) → list_all p ks ≡ true → slice_get ks j ≡ Some k → p k ≡ true
among_passes p [] j k e at = absurd cc
among_passes p (x ∷ xs) zero k e at = let same : x ≡ k = cc in subst (λ y. p y ≡ true) same (and_parts (p x) (list_all p xs) e).0
among_passes p (x ∷ xs) (suc j) k e at = among_passes p xs j k (and_parts (p x) (list_all p xs) e).1 at

-- after a sure transaction, the cell of a declared write doesn't depend on the cell before
sure_covered : (look : Look) (t : Txn) → IsSure t → (j : ℕ) (k : List ℕ) → slice_get t.writes j ≡ Some k → Covered (writes_of (body look t)) k
sure_covered look t sure j k at =
    let r = commits t.edition look fresh 1 t.body (sure_stmts t sure) in
    let target = among_passes (is_target t.body) t.writes j k (and_parts (list_all is_sure_stmt t.body) (list_all (is_target t.body) t.writes) sure).1 at in
    subst (λ (e : Ended). Covered (writes_of e) k) (sym r.is) (r.covers k (inr target))

-- after a sure transaction, its declared writes have the same cells over every look
pub sure_after : (look other : Look) (t : Txn) → IsSure t → map (after look t) t.writes ≡ map (after other t) t.writes
sure_after look other t sure =
    map_same (after look t) (after other t) t.writes
    (λ j k at. sure_covered look t sure j k at (look k) (other k) ∙ ap (λ (e : Ended). newest (writes_of e) k (other k)) (sure_body look other t sure))

covered_cells : (look : Look) (ws : List (List ℕ × Cell)) (keys : List (List ℕ)) (before : List Cell) → length keys ≡ length before
    → ((j : ℕ) (k : List ℕ) → slice_get keys j ≡ Some k → Covered ws k) → map (λ k. newest ws k (look k)) keys ≡ cells_with ws keys before
covered_cells look ws [] [] long covered = refl
covered_cells look ws [] (c ∷ cs) long covered = refl
covered_cells look ws (k ∷ ks) [] long covered = absurd (omega arith)
covered_cells look ws (k ∷ ks) (c ∷ cs) long covered =
    let first : newest ws k (look k) ≡ newest ws k c = covered 0 k refl (look k) c in
    let rest = covered_cells look ws ks cs (omega arith) (λ j. covered (suc j)) in
    λ i. first i ∷ rest i

-- the cells after a sure transaction are those of its writes over any cells before, not only the look's
pub sure_cells : (look : Look) (t : Txn) (before : List Cell) → IsSure t → length t.writes ≡ length before
    → map (after look t) t.writes ≡ cells_with (writes_of (body look t)) t.writes before
sure_cells look t before sure long = covered_cells look (writes_of (body look t)) t.writes before long (sure_covered look t sure)
