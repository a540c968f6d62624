-- The results of `eval`, from the tables at the end of the body.
use Rattle.std.proofs.Common.{◌≡◌, ℕ, zero, suc, List, [], ◌∷◌, length, map, Ok, Err, ap, sym, ◌∙◌, subst, arith}
use Rattle.std.specs.Prelude.{Result, All}
use Rattle.std.specs.List.{AllByRecursion}
use Rattle.bohm_types.specs.declared.cell.Cell.{Cell}
use Rattle.bohm_types.specs.declared.edition.Edition.{Edition}
use Rattle.bohm_types.specs.Txn.{Txn}
use Rattle.bohm_log.specs.Parts.{Parts, txn_of}
use Rattle.bohm_txn.specs.declared.outcome.Reason.{Reason}
use Rattle.bohm_txn.specs.Faulty.{IsWellFormedTxn}
use Rattle.bohm_txn.specs.Meaning.{Look, Ended, newest, body}
use Rattle.bohm_txn.specs.Serial.{writes_of, after}
use Rattle.bohm_txn.specs.Sure.{IsSure}
use Rattle.bohm_txn.specs.Tables.{Tables, start, tables_from}
use Rattle.bohm_txn.proofs.Apart.{rising_apart}
use Rattle.bohm_txn.proofs.SureLaws.{sure_cells, sure_commits}
use Rattle.bohm_txn.proofs.Tracking.{EndAlike, ends_alike, IsCommit, committed, aborted, cells_with, cells_over}
use Rattle.bohm_txn.proofs.UseLaws.{usable, rising_writes}

pub all_at : {A : Type 0} (P : A → Type 0) (xs : List A) → AllByRecursion P xs → All P xs
all_at P [] all k d within = absurd (omega arith)
all_at P (x ∷ xs) all zero d within = all.0
all_at P (x ∷ xs) all (suc k) d within = all_at P xs all.1 k d (omega arith)

-- the transaction is well formed, with a cell for each declared key
pub record IsCall (t : Txn) (reads earlier : List Cell) : Type 0 where
  pub well : IsWellFormedTxn t
  pub paired : length t.reads ≡ length reads
  pub written : length t.writes ≡ length earlier

ends : (t : Txn) (look : Look) (reads earlier : List Cell) → IsCall t reads earlier → map look t.reads ≡ reads
    → EndAlike t look earlier (body look t) (tables_from t (start reads earlier) 1 t.body)
ends t look reads earlier call same = ends_alike t look reads earlier (rising_apart t.writes (rising_writes t call.well))
    (usable t call.well).reads call.paired call.written same

commit : (t : Txn) (look : Look) (reads earlier : List Cell) (w : Tables) → IsCall t reads earlier → map look t.reads ≡ reads
    → tables_from t (start reads earlier) 1 t.body ≡ Ok w → IsCommit t earlier (body look t) w
commit t look reads earlier w call same e =
    committed t look earlier (body look t) w (subst (λ (r : Result Tables (Reason × ℕ)). EndAlike t look earlier (body look t) r) e
    (ends t look reads earlier call same))

pub commit_cells : (t : Txn) (look : Look) (earlier : List Cell) (w : Tables) → map look t.writes ≡ earlier → IsCommit t earlier (body look t) w
    → map (after look t) t.writes ≡ w.cells
commit_cells t look earlier w same is = cells_over look (writes_of (body look t)) t.writes ∙ ap (λ cs. cells_with (writes_of (body look t)) t.writes cs) same
    ∙ is.cells

pub commit_sure : (t : Txn) (look : Look) (earlier : List Cell) (w : Tables) → IsSure t → length t.writes ≡ length earlier
    → IsCommit t earlier (body look t) w → map (after look t) t.writes ≡ w.cells
commit_sure t look earlier w sure long is = sure_cells look t earlier sure long ∙ is.cells

abort : (t : Txn) (look : Look) (reads earlier : List Cell) (f : Reason × ℕ) → IsCall t reads earlier → map look t.reads ≡ reads
    → tables_from t (start reads earlier) 1 t.body ≡ Err f → body look t ≡ Err f
abort t look reads earlier f call same e =
    aborted t look earlier (body look t) f (subst (λ (r : Result Tables (Reason × ℕ)). EndAlike t look earlier (body look t) r) e
    (ends t look reads earlier call same))

-- an aborted transaction leaves the cells of its declared writes unchanged
pub abort_cells : (t : Txn) (look : Look) (earlier : List Cell) (f : Reason × ℕ) → map look t.writes ≡ earlier → body look t ≡ Err f
    → map (after look t) t.writes ≡ earlier
abort_cells t look earlier f same e = ap (λ (r : Ended). map (λ k. newest (writes_of r) k (look k)) t.writes) e ∙ same

pub never_aborts : {A : Type 0} (t : Txn) (look : Look) (f : Reason × ℕ) → IsSure t → body look t ≡ Err f → A
never_aborts t look f sure e = let (run, is) = sure_commits look t sure in absurd (let both = sym is ∙ e in cc)

-- a run of the transaction that the parts represent is a run of t
placed_run : (e : Edition) (p : Parts) (t : Txn) (reads earlier : List Cell) (r : Result Tables (Reason × ℕ)) → e ≡ t.edition → txn_of t.edition p ≡ t
    → tables_from (txn_of e p) (start reads earlier) 1 (txn_of e p).body ≡ r
    → tables_from t (start reads earlier) 1 t.body ≡ r
placed_run e p t reads earlier r same placed ran =
    subst (λ (x : Txn). tables_from x (start reads earlier) 1 x.body ≡ r) (ap (λ (x : Edition). txn_of x p) same ∙ placed) ran

-- if the run over the tables ends well, the body commits over every look with these cells of the reads
pub placed_commit : (e : Edition) (p : Parts) (t : Txn) (reads earlier : List Cell) (w : Tables) → IsCall t reads earlier → e ≡ t.edition
    → txn_of t.edition p ≡ t → tables_from (txn_of e p) (start reads earlier) 1 (txn_of e p).body ≡ Ok w → (look : Look) → map look t.reads ≡ reads
    → IsCommit t earlier (body look t) w
placed_commit e p t reads earlier w call edition placed ran look same =
    commit t look reads earlier w call same (placed_run e p t reads earlier (Ok w) edition placed ran)

pub placed_abort : (e : Edition) (p : Parts) (t : Txn) (reads earlier : List Cell) (f : Reason × ℕ) → IsCall t reads earlier → e ≡ t.edition
    → txn_of t.edition p ≡ t → tables_from (txn_of e p) (start reads earlier) 1 (txn_of e p).body ≡ Err f → (look : Look) → map look t.reads ≡ reads
    → body look t ≡ Err f
placed_abort e p t reads earlier f call edition placed ran look same =
    abort t look reads earlier f call same (placed_run e p t reads earlier (Err f) edition placed ran)
