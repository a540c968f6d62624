-- The tables of cells agree with the list of writes.
use Rattle.std.proofs.Common.{◌≡◌, ℕ, suc, ◌+◌, Bool, true, false, cond, List, [], ◌∷◌, ◌++◌, length}
use Rattle.std.proofs.Common.{map, Option, Some, None, Ok, Err, refl, ap, sym, ◌∙◌, subst, arith}
use Rattle.std.specs.Prelude.{Result, if◌then◌else◌}
use Rattle.std.specs.List.{AllByRecursion, zip}
use Rattle.std.specs.Option.{option_map}
use Rattle.std.specs.Str.{bytes_eq}
use Rattle.std.proofs.lemmas.List.{length-set}
use Rattle.bohm_types.specs.declared.cell.Cell.{Cell}
use Rattle.bohm_types.specs.declared.cell.Cell.TheVariants.{Absent, Present}
use Rattle.bohm_types.specs.Stmt.{Stmt, Bind, Need, Has, Lacks, Put, Remove, Show, Fail}
use Rattle.bohm_types.specs.declared.edition.Edition.{Edition}
use Rattle.bohm_types.specs.declared.edition.Edition.TheVariants.{One, Two}
use Rattle.bohm_types.specs.Txn.{Txn}
use Rattle.bohm_types.specs.Keys.{place, IsAmong}
use Rattle.bohm_txn.specs.declared.outcome.Reason.{Reason}
use Rattle.bohm_txn.specs.declared.outcome.Reason.TheVariants as reasons
use Rattle.bohm_txn.specs.declared.outcome.Outcome.TheVariants as outcomes_are
use Rattle.bohm_types.specs.Accesses.{StmtReads}
use Rattle.bohm_txn.specs.Meaning.{Look, Run, Ended, newest, then_try, then_do, sum_value, cond_value, guard_value}
use Rattle.bohm_txn.specs.Meaning.{is_present, bind, write, show, needs, seen, perform, or_stop, body_from, body}
use Rattle.bohm_txn.specs.Serial.{writes_of, shows_of, outcome_of}
use Rattle.bohm_txn.specs.Tables.{cell_from, cell_at, set_from, replaced, seen_after, Tables, start, written, run_with, taken, step, stop_at, tables_from}
use Rattle.bohm_txn.proofs.Apart.{among_first, among_then, among_more, AllApart}
use Rattle.bohm_txn.proofs.Places.{place-cons}
use Rattle.bohm_txn.proofs.BodyLaw.{same_stmt}
use Rattle.bohm_log.proofs.ForCallers.{other_key, same_key, key_itself}

-- ---- a key's cell and its replacement, by recursion on the keys

cell_at-cons : (x : List ℕ) (xs : List (List ℕ)) (c : Cell) (cs : List Cell) (k : List ℕ)
    → cell_at (x ∷ xs) (c ∷ cs) k ≡ cond (bytes_eq x k) c (cell_at xs cs k)
cell_at-cons x xs c cs k = ap (λ o. cell_from (c ∷ cs) o) (place-cons x xs k) ∙ cases (bytes_eq x k) (place xs k)
  where
    cases : (b : Bool) (o : Option ℕ) → cell_from (c ∷ cs) (cond b (Some 0) (option_map suc o)) ≡ cond b c (cell_from cs o)
    cases true o = refl
    cases false None = refl
    cases false (Some i) = refl

replaced-cons : (x : List ℕ) (xs : List (List ℕ)) (d : Cell) (ds : List Cell) (k : List ℕ) (c : Cell)
    → replaced (x ∷ xs) (d ∷ ds) k c ≡ cond (bytes_eq x k) (c ∷ ds) (d ∷ replaced xs ds k c)
replaced-cons x xs d ds k c = ap (λ o. set_from (d ∷ ds) o c) (place-cons x xs k) ∙ cases (bytes_eq x k) (place xs k)
  where
    cases : (b : Bool) (o : Option ℕ) → set_from (d ∷ ds) (cond b (Some 0) (option_map suc o)) c ≡ cond b (c ∷ ds) (d ∷ set_from ds o c)
    cases true o = refl
    cases false None = refl
    cases false (Some i) = refl

replaced-nil : (keys : List (List ℕ)) (k : List ℕ) (c : Cell) → replaced keys [] k c ≡ []
replaced-nil keys k c = cases (place keys k)
  where
    cases : (o : Option ℕ) → set_from [] o c ≡ []
    cases None = refl
    cases (Some i) = refl

length-replaced : (keys : List (List ℕ)) (cells : List Cell) (k : List ℕ) (c : Cell) → length (replaced keys cells k c) ≡ length cells
length-replaced keys cells k c = cases (place keys k)
  where
    cases : (o : Option ℕ) → length (set_from cells o c) ≡ length cells
    cases None = refl
    cases (Some i) = length-set cells i c

twice : (b : Bool) (c d r : Cell) → cond b c r ≡ cond b c (cond b d r)
twice true c d r = refl
twice false c d r = refl

-- after a key's cell is replaced, the key has the new cell and the other keys keep their cells
cell_at-replaced : (keys : List (List ℕ)) (cells : List Cell) (k : List ℕ) (c : Cell) (q : List ℕ) → length cells ≡ length keys → IsAmong keys q
    → cell_at keys (replaced keys cells k c) q ≡ cond (bytes_eq k q) c (cell_at keys cells q)
cell_at-replaced [] cells k c q long among = absurd cc
cell_at-replaced (x ∷ xs) [] k c q long among = absurd (omega arith)
cell_at-replaced (x ∷ xs) (d ∷ ds) k c q long among =
    ap (λ cs. cell_at (x ∷ xs) cs q) (replaced-cons x xs d ds k c)
    ∙ elim (bytes_eq x k) as (λ b. bytes_eq x k ≡ b
    → cell_at (x ∷ xs) (cond b (c ∷ ds) (d ∷ replaced xs ds k c)) q ≡ cond (bytes_eq k q) c (cell_at (x ∷ xs) (d ∷ ds) q)) [
      | true ↦ λ e.
          cell_at-cons x xs c ds q ∙ twice (bytes_eq x q) c d (cell_at xs ds q) ∙ ap (λ r. cond (bytes_eq x q) c r) (sym (cell_at-cons x xs d ds q))
          ∙ ap (λ y. cond (bytes_eq y q) c (cell_at (x ∷ xs) (d ∷ ds) q)) (same_key x k e)
      | false ↦ λ e.
          cell_at-cons x xs d (replaced xs ds k c) q
          ∙ (elim (bytes_eq x q) as (λ b. bytes_eq x q ≡ b
          → cond b d (cell_at xs (replaced xs ds k c) q) ≡ cond (bytes_eq k q) c (cond b d (cell_at xs ds q))) [
            | true ↦ λ h. ap (λ b. cond b c d) (sym (subst (λ y. bytes_eq k y ≡ false) (same_key x q h) (other_key x k e)))
            | false ↦ λ h. cell_at-replaced xs ds k c q (omega arith) (among_more x q xs h among)
          ] refl)
          ∙ ap (λ r. cond (bytes_eq k q) c r) (sym (cell_at-cons x xs d ds q))
    ] refl

-- ---- one more write

pub newest_more : (ws : List (List ℕ × Cell)) (x : List ℕ) (v : Cell) (k : List ℕ) (c : Cell)
    → newest (ws ++ (x, v) ∷ []) k c ≡ cond (bytes_eq x k) v (newest ws k c)
newest_more [] x v k c = refl
newest_more (w ∷ ws) x v k c = newest_more ws x v k (if bytes_eq w.0 k then w.1 else c)

-- the cells of the keys after the writes, from their cells before
abbrev pub cells_with : List (List ℕ × Cell) → List (List ℕ) → List Cell → List Cell
cells_with ws keys before = map (λ p. newest ws p.0 p.1) (zip keys before)

untouched : (ws : List (List ℕ × Cell)) (k : List ℕ) (c : Cell) (keys : List (List ℕ)) (before : List Cell) → ¬ IsAmong keys k
    → cells_with (ws ++ (k, c) ∷ []) keys before ≡ cells_with ws keys before
untouched ws k c [] before not = refl
untouched ws k c (x ∷ xs) [] not = refl
untouched ws k c (x ∷ xs) (e ∷ es) not =
    let apart : bytes_eq x k ≡ false = elim (bytes_eq x k) as (λ b. bytes_eq x k ≡ b → b ≡ false) [
      | true ↦ λ h. absurd (not (among_first x k xs h))
      | false ↦ λ h. refl
    ] refl in
    let first : newest (ws ++ (k, c) ∷ []) x e ≡ newest ws x e = newest_more ws k c x e ∙ ap (λ b. cond b c (newest ws x e)) (other_key x k apart) in
    let rest = untouched ws k c xs es (λ among. not (among_then x k xs among)) in
    λ i. first i ∷ rest i

-- a write to a key replaces its cell
cells-write : (ws : List (List ℕ × Cell)) (k : List ℕ) (c : Cell) (keys : List (List ℕ)) (before : List Cell) → AllApart keys
    → cells_with (ws ++ (k, c) ∷ []) keys before ≡ replaced keys (cells_with ws keys before) k c
cells-write ws k c [] before apart = refl
cells-write ws k c (x ∷ xs) [] apart = sym (replaced-nil (x ∷ xs) k c)
cells-write ws k c (x ∷ xs) (e ∷ es) apart =
    (elim (bytes_eq x k) as (λ b. bytes_eq x k ≡ b
    → cells_with (ws ++ (k, c) ∷ []) (x ∷ xs) (e ∷ es) ≡ cond b (c ∷ cells_with ws xs es) (newest ws x e ∷ replaced xs (cells_with ws xs es) k c)) [
      | true ↦ λ h.
          let itself : bytes_eq k x ≡ true = subst (λ y. bytes_eq y x ≡ true) (same_key x k h) (key_itself x) in
          let first : newest (ws ++ (k, c) ∷ []) x e ≡ c = newest_more ws k c x e ∙ ap (λ b. cond b c (newest ws x e)) itself in
          let rest = untouched ws k c xs es (subst (λ y. ¬ IsAmong xs y) (same_key x k h) apart.0) in
          λ i. first i ∷ rest i
      | false ↦ λ h.
          let first : newest (ws ++ (k, c) ∷ []) x e ≡ newest ws x e = newest_more ws k c x e ∙ ap (λ b. cond b c (newest ws x e)) (other_key x k h) in
          let rest = cells-write ws k c xs es apart.1 in
          λ i. first i ∷ rest i
    ] refl) ∙ sym (replaced-cons x xs (newest ws x e) (cells_with ws xs es) k c)

-- ---- tables that agree with the writes

-- a statement's look: in edition 2 it includes the writes of earlier statements
abbrev pub sees : Edition → Look → List (List ℕ × Cell) → Look
sees One look ws = look
sees Two look ws = λ k. newest ws k (look k)

seen-sees : (e : Edition) (look : Look) (run : Run) → seen e look run ≡ sees e look run.writes
seen-sees One look run = refl
seen-sees Two look run = refl

pub record Tracks (t : Txn) (look : Look) (earlier : List Cell) (ws : List (List ℕ × Cell)) (w : Tables) : Type 0 where
  pub long : length w.seen ≡ length t.reads
  pub seen_cells : (k : List ℕ) → IsAmong t.reads k → cell_at t.reads w.seen k ≡ sees t.edition look ws k
  pub cells : cells_with ws t.writes earlier ≡ w.cells

pub record Alike (t : Txn) (look : Look) (earlier : List Cell) (run : Run) (w : Tables) : Type 0 where
  pub writes : List (List ℕ × Cell)
  pub is : run ≡ run_with w writes
  pub tracks : Tracks t look earlier writes w

abbrev pub StepAlike : Txn → Look → List Cell → Result Run Reason → Result Tables Reason → Type 0
StepAlike t look earlier (Ok run) (Ok w) = Alike t look earlier run w
StepAlike t look earlier (Ok run) (Err r) = ⊥
StepAlike t look earlier (Err r) (Ok w) = ⊥
StepAlike t look earlier (Err r) (Err q) = r ≡ q

seen_long : (e : Edition) (keys : List (List ℕ)) (cells : List Cell) (k : List ℕ) (c : Cell) → length cells ≡ length keys
    → length (seen_after e keys cells k c) ≡ length keys
seen_long One keys cells k c long = long
seen_long Two keys cells k c long = length-replaced keys cells k c ∙ long

seen_more : (e : Edition) (look : Look) (ws : List (List ℕ × Cell)) (keys : List (List ℕ)) (cells : List Cell) (k : List ℕ) (c : Cell)
    → length cells ≡ length keys → ((q : List ℕ) → IsAmong keys q → cell_at keys cells q ≡ sees e look ws q) → (q : List ℕ) → IsAmong keys q
    → cell_at keys (seen_after e keys cells k c) q ≡ sees e look (ws ++ (k, c) ∷ []) q
seen_more One look ws keys cells k c long same q among = same q among
seen_more Two look ws keys cells k c long same q among =
    cell_at-replaced keys cells k c q long among ∙ ap (λ x. cond (bytes_eq k q) c x) (same q among) ∙ sym (newest_more ws k c q (look q))

tracks_more : (t : Txn) (look : Look) (earlier : List Cell) (ws : List (List ℕ × Cell)) (w : Tables) (k : List ℕ) (c : Cell) → AllApart t.writes
    → Tracks t look earlier ws w → Tracks t look earlier (ws ++ (k, c) ∷ []) (written t w k c)
tracks_more t look earlier ws w k c apart tracks = record {
  long = seen_long t.edition t.reads w.seen k c tracks.long;
  seen_cells = seen_more t.edition look ws t.reads w.seen k c tracks.long tracks.seen_cells;
  cells = cells-write ws k c t.writes earlier apart ∙ ap (λ cs. replaced t.writes cs k c) tracks.cells;
}

-- tables with the same cells, but perhaps other locals and shows, still agree with the writes
tracks_still : (t : Txn) (look : Look) (earlier : List Cell) (ws : List (List ℕ × Cell)) (w v : Tables) → w.seen ≡ v.seen → w.cells ≡ v.cells
    → Tracks t look earlier ws w → Tracks t look earlier ws v
tracks_still t look earlier ws w v seen_is cells_is tracks = record {
  long = ap length (sym seen_is) ∙ tracks.long;
  seen_cells = λ k among. ap (λ cs. cell_at t.reads cs k) (sym seen_is) ∙ tracks.seen_cells k among;
  cells = tracks.cells ∙ cells_is;
}

-- ---- statement by statement

step_alike : (t : Txn) (look : Look) (earlier : List Cell) (ws : List (List ℕ × Cell)) (w : Tables) → AllApart t.writes → Tracks t look earlier ws w
    → (s : Stmt) → StepAlike t look earlier (perform (cell_at t.reads w.seen) (run_with w ws) s) (step t w s)
step_alike t look earlier ws w apart tracks (Bind x sum) =
    elim (sum_value (cell_at t.reads w.seen) w.locals
    sum) as (λ r. StepAlike t look earlier (then_do r (bind (run_with w ws) x)) (then_do (then_do r (bind (run_with w []) x)) (taken t w))) [
      | Ok z ↦ record { writes = ws; is = refl; tracks = tracks_still t look earlier ws w (taken t w (bind (run_with w []) x z)) refl refl tracks }
      | Err r ↦ refl
    ]
step_alike t look earlier ws w apart tracks (Need c) =
    elim (cond_value (cell_at t.reads w.seen) w.locals
    c) as (λ r. StepAlike t look earlier (then_try r (needs (run_with w ws))) (then_do (then_try r (needs (run_with w []))) (taken t w))) [
      | Ok holds ↦ elim holds as (λ b. StepAlike t look earlier (needs (run_with w ws) b) (then_do (needs (run_with w []) b) (taken t w))) [
        | true ↦ record { writes = ws; is = refl; tracks = tracks }
        | false ↦ refl
      ]
      | Err r ↦ refl
    ]
step_alike t look earlier ws w apart tracks (Has k) =
    elim (is_present (cell_at t.reads w.seen k)) as (λ b. StepAlike t look earlier (needs (run_with w ws) b) (then_do (needs (run_with w []) b) (taken t w))) [
      | true ↦ record { writes = ws; is = refl; tracks = tracks }
      | false ↦ refl
    ]
step_alike t look earlier ws w apart tracks (Lacks k) =
    elim (is_present (cell_at t.reads w.seen k)) as (λ b. StepAlike t look earlier (if b then Err reasons.Need else Ok (run_with w ws))
    (then_do (if b then Err reasons.Need else Ok (run_with w [])) (taken t w))) [
      | true ↦ refl
      | false ↦ record { writes = ws; is = refl; tracks = tracks }
    ]
step_alike t look earlier ws w apart tracks (Put k sum guard) =
    elim (guard_value (cell_at t.reads w.seen) w.locals
    guard) as (λ r. StepAlike t look earlier
    (then_try r (λ holds. if holds then then_do (sum_value (cell_at t.reads w.seen) w.locals sum) (λ z. write (run_with w ws) k (Present z)) else Ok
    (run_with w ws)))
    (then_do (then_try r
    (λ holds. if holds then then_do (sum_value (cell_at t.reads w.seen) w.locals sum) (λ z. write (run_with w []) k (Present z)) else Ok (run_with w [])))
    (taken t w))) [
      | Err r ↦ refl
      | Ok holds ↦
          elim holds as (λ b. StepAlike t look earlier
          (if b then then_do (sum_value (cell_at t.reads w.seen) w.locals sum) (λ z. write (run_with w ws) k (Present z)) else Ok (run_with w ws))
          (then_do (if b then then_do (sum_value (cell_at t.reads w.seen) w.locals sum) (λ z. write (run_with w []) k (Present z)) else Ok (run_with w []))
          (taken t w))) [
            | false ↦ record { writes = ws; is = refl; tracks = tracks }
            | true ↦ elim (sum_value (cell_at t.reads w.seen) w.locals sum) as (λ r. StepAlike t look earlier
                (then_do r (λ z. write (run_with w ws) k (Present z))) (then_do (then_do r (λ z. write (run_with w []) k (Present z))) (taken t w))) [
                  | Ok z ↦ record { writes = ws ++ (k, Present z) ∷ []; is = refl; tracks = tracks_more t look earlier ws w k (Present z) apart tracks }
                  | Err r ↦ refl
                ]
          ]
    ]
step_alike t look earlier ws w apart tracks (Remove k) =
    record { writes = ws ++ (k, Absent) ∷ []; is = refl; tracks = tracks_more t look earlier ws w k Absent apart tracks }
step_alike t look earlier ws w apart tracks (Show sum) =
    elim (sum_value (cell_at t.reads w.seen) w.locals
    sum) as (λ r. StepAlike t look earlier (then_do r (show (run_with w ws))) (then_do (then_do r (show (run_with w []))) (taken t w))) [
      | Ok z ↦ record { writes = ws; is = refl; tracks = tracks_still t look earlier ws w (taken t w (show (run_with w []) z)) refl refl tracks }
      | Err r ↦ refl
    ]
step_alike t look earlier ws w apart tracks Fail = refl

step_tracks : (t : Txn) (look : Look) (earlier : List Cell) (ws : List (List ℕ × Cell)) (w : Tables) → AllApart t.writes → Tracks t look earlier ws w
    → (s : Stmt) → StmtReads (IsAmong t.reads) s → StepAlike t look earlier (perform (seen t.edition look (run_with w ws)) (run_with w ws) s) (step t w s)
step_tracks t look earlier ws w apart tracks s reads =
    let same = same_stmt (IsAmong t.reads) (seen t.edition look (run_with w ws)) (cell_at t.reads w.seen)
    (λ k among. ap (λ (f : Look). f k) (seen-sees t.edition look (run_with w ws)) ∙ sym (tracks.seen_cells k among)) (run_with w ws) s reads in
    subst (λ (r : Result Run Reason). StepAlike t look earlier r (step t w s)) (sym same) (step_alike t look earlier ws w apart tracks s)

-- ---- bodies

abbrev pub EndAlike : Txn → Look → List Cell → Ended → Result Tables (Reason × ℕ) → Type 0
EndAlike t look earlier (Ok run) (Ok w) = Alike t look earlier run w
EndAlike t look earlier (Ok run) (Err f) = ⊥
EndAlike t look earlier (Err f) (Ok w) = ⊥
EndAlike t look earlier (Err f) (Err g) = f ≡ g

go_on : (t : Txn) (look : Look) (earlier : List Cell) (n : ℕ) (f : Run → Ended) (g : Tables → Result Tables (Reason × ℕ))
    → ((run : Run) (w : Tables) → Alike t look earlier run w → EndAlike t look earlier (f run) (g w)) → (r : Result Run Reason) (q : Result Tables Reason)
    → StepAlike t look earlier r q → EndAlike t look earlier (or_stop n r f) (stop_at n q g)
go_on t look earlier n f g rest (Ok run) (Ok w) a = rest run w a
go_on t look earlier n f g rest (Ok run) (Err r) a = absurd a
go_on t look earlier n f g rest (Err r) (Ok w) a = absurd a
go_on t look earlier n f g rest (Err r) (Err q) e = ap (λ x. (x, n)) e

body_tracks : (t : Txn) (look : Look) (earlier : List Cell) (ws : List (List ℕ × Cell)) (w : Tables) (n : ℕ) (ss : List Stmt) → AllApart t.writes
    → Tracks t look earlier ws w → AllByRecursion (StmtReads (IsAmong t.reads)) ss
    → EndAlike t look earlier (body_from t.edition look (run_with w ws) n ss) (tables_from t w n ss)
body_tracks t look earlier ws w n [] apart tracks reads = record { writes = ws; is = refl; tracks = tracks }
body_tracks t look earlier ws w n (s ∷ ss) apart tracks reads =
    go_on t look earlier n (λ next. body_from t.edition look next (n + 1) ss) (λ next. tables_from t next (n + 1) ss)
    (λ run v a. subst (λ (x : Run). EndAlike t look earlier (body_from t.edition look x (n + 1) ss) (tables_from t v (n + 1) ss)) (sym a.is)
    (body_tracks t look earlier a.writes v (n + 1) ss apart a.tracks reads.1))
    (perform (seen t.edition look (run_with w ws)) (run_with w ws) s) (step t w s) (step_tracks t look earlier ws w apart tracks s reads.0)

handed : (look : Look) (keys : List (List ℕ)) (k : List ℕ) → IsAmong keys k → cell_at keys (map look keys) k ≡ look k
handed look [] k among = absurd cc
handed look (x ∷ xs) k among =
    cell_at-cons x xs (look x) (map look xs) k ∙ (elim (bytes_eq x k) as (λ b. bytes_eq x k ≡ b → cond b (look x) (cell_at xs (map look xs) k) ≡ look k) [
      | true ↦ λ e. ap look (same_key x k e)
      | false ↦ λ e. handed look xs k (among_more x k xs e among)
    ] refl)

none_written : (keys : List (List ℕ)) (before : List Cell) → length keys ≡ length before → cells_with [] keys before ≡ before
none_written [] [] long = refl
none_written [] (c ∷ cs) long = absurd (omega arith)
none_written (k ∷ ks) [] long = absurd (omega arith)
none_written (k ∷ ks) (c ∷ cs) long = ap (λ rest. c ∷ rest) (none_written ks cs (omega arith))

sees-none : (e : Edition) (look : Look) (k : List ℕ) → sees e look [] k ≡ look k
sees-none One look k = refl
sees-none Two look k = refl

-- a run over the tables ends as the body does, with the same effects or the same failure
pub ends_alike : (t : Txn) (look : Look) (reads earlier : List Cell) → AllApart t.writes → AllByRecursion (StmtReads (IsAmong t.reads)) t.body
    → length t.reads ≡ length reads → length t.writes ≡ length earlier → map look t.reads ≡ reads
    → EndAlike t look earlier (body look t) (tables_from t (start reads earlier) 1 t.body)
ends_alike t look reads earlier apart declared long_reads long_writes same =
    body_tracks t look earlier [] (start reads earlier) 1 t.body apart (record {
      long = sym long_reads;
      seen_cells = λ k among. subst (λ (cs : List Cell). cell_at t.reads cs k ≡ look k) same (handed look t.reads k among) ∙ sym (sees-none t.edition look k);
      cells = none_written t.writes earlier long_writes;
    }) declared

-- ---- the results of a commit and of an abort

pub record IsCommit (t : Txn) (earlier : List Cell) (r : Ended) (w : Tables) : Type 0 where
  pub outcome : outcome_of r ≡ outcomes_are.Commit
  pub shows : shows_of r ≡ w.shows
  pub cells : cells_with (writes_of r) t.writes earlier ≡ w.cells

pub committed : (t : Txn) (look : Look) (earlier : List Cell) (r : Ended) (w : Tables) → EndAlike t look earlier r (Ok w) → IsCommit t earlier r w
committed t look earlier (Err f) w a = absurd a
committed t look earlier (Ok run) w a = record {
  outcome = refl;
  shows = ap (λ (x : Run). x.shows) a.is;
  cells = ap (λ (x : Run). cells_with x.writes t.writes earlier) a.is ∙ a.tracks.cells;
}

pub aborted : (t : Txn) (look : Look) (earlier : List Cell) (r : Ended) (f : Reason × ℕ) → EndAlike t look earlier r (Err f) → r ≡ Err f
aborted t look earlier (Ok run) f a = absurd a
aborted t look earlier (Err g) f e = ap (λ x. Err x) e

-- the keys' cells after writes over a look are those after the writes over the look's cells
pub cells_over : (look : Look) (ws : List (List ℕ × Cell)) (keys : List (List ℕ)) → map (λ k. newest ws k (look k)) keys ≡ cells_with ws keys (map look keys)
cells_over look ws [] = refl
cells_over look ws (k ∷ ks) = ap (λ rest. newest ws k (look k) ∷ rest) (cells_over look ws ks)
