-- Reading the lines of a document gives back the document.
use Rattle.std.proofs.Common.{◌≡◌, ℕ, Bool, true, false, List, [], ◌∷◌, ◌++◌, map, Some, refl, ap, sym, ◌∙◌, arith, append_assoc}
use Rattle.std.specs.Prelude.{ℤ, codes}
use Rattle.std.specs.List.{flat_map, AllByRecursion}
use Rattle.std.specs.Str.{bytes_eq}
use Rattle.std.proofs.lemmas.List.{map-append, append-nil}
use Rattle.bohm_types.specs.Document.{Document}
use Rattle.bohm_types.specs.Stmt.{Stmt, Bind, Need, Has, Lacks, Put, Remove, Show, Fail}
use Rattle.bohm_types.specs.Txn.{Txn}
use Rattle.bohm_types.specs.declared.edition.Edition.{Edition}
use Rattle.bohm_types.specs.declared.edition.Edition.TheVariants.{One, Two}
use Rattle.bohm_txn.proofs.ForCallers.{same_key}
use Rattle.bohm_text.specs.Print.{Words, line_text, stmt_words, store_words, txn_lines, head_words}
use Rattle.bohm_text.specs.Cut.{split}
use Rattle.bohm_text.specs.Reading.{keys_of, after}
use Rattle.bohm_types.specs.Sound.{IsName, IsStmt, IsEntry, IsTxn, IsDocument}
use Rattle.bohm_text.specs.Step.{Progress, Nothing, Between, Opened, Reading, Body, begun, head_of, with_txn, after_between, after_body, step, steps}
use Rattle.bohm_text.specs.Front.{text_lines}
use Rattle.bohm_text.specs.Windows.{with_log}
use Rattle.bohm_text.proofs.Again.{keys_again, entry_again, stmt_again}
use Rattle.bohm_text.proofs.Cutting.{split_again}
use Rattle.bohm_text.proofs.WordLaws.{IsWord, words_lack, stmt_are_words, entry_are_words, names_are_words}

pub cut : (w : List ℕ) (ws : Words) → AllByRecursion IsWord (w ∷ ws) → split 32 (line_text (w ∷ ws)) ≡ w ∷ ws
cut w ws words = let lack = words_lack 32 (w ∷ ws) (omega arith) words in split_again w ws lack.0 lack.1

-- a line whose words differ from the keyword's words isn't the keyword
pub other_line : (line keyword : List ℕ) → (split 32 line ≡ split 32 keyword → ⊥) → bytes_eq line keyword ≡ false
other_line line keyword apart =
    let P : Bool → Type 0 = λ (t : Bool). bytes_eq line keyword ≡ t → t ≡ false in
    elim (bytes_eq line keyword) as P [
      | true ↦ λ e. absurd (apart (ap (split 32) (same_key line keyword e)))
      | false ↦ λ e. refl
    ] refl

pub set_again : (word : List ℕ) (keys : List (List ℕ)) → IsWord word → AllByRecursion IsName keys → bytes_eq word word ≡ true
    → after word keys_of (split 32 (line_text (word ∷ keys))) ≡ Some keys
set_again word keys is_word names same = rw (cut word keys (is_word, names_are_words keys names), same) (keys_again keys names)

entry_step : (edition : Edition) (store : List (List ℕ × ℤ)) (entry : List ℕ × ℤ) → IsEntry entry
    → step (Between (record { edition = edition; store = store; log = [] })) (line_text (store_words entry)) ≡ Some
    (Between (record { edition = edition; store = store ++ entry ∷ []; log = [] }))
unfolding step after_between split
entry_step edition store entry sound =
    let words : split 32 (line_text (store_words entry)) ≡ store_words entry = cut entry.0 _ (entry_are_words entry sound) in
    let apart : bytes_eq (line_text (store_words entry)) (codes "txn") ≡ false =
    other_line (line_text (store_words entry)) (codes "txn") (λ e. two entry (sym words ∙ e)) in
    rw (apart, words, entry_again entry sound) refl
  where
    two : (entry : List ℕ × ℤ) → store_words entry ≡ codes "txn" ∷ [] → ⊥
    two entry e = cc

-- a statement's line splits into the statement's words, and isn't `end`
pub stmt_line : (s : Stmt) → IsStmt s → (split 32 (line_text (stmt_words s)) ≡ stmt_words s) × (bytes_eq (line_text (stmt_words s)) (codes "end") ≡ false)
unfolding split
stmt_line s sound = let words = stmt_cut s sound in (words, other_line (line_text (stmt_words s)) (codes "end") (λ e. not_end s (sym words ∙ e)))
  where
    stmt_cut : (s : Stmt) → IsStmt s → split 32 (line_text (stmt_words s)) ≡ stmt_words s
    stmt_cut (Bind x sum) sound = cut _ _ (stmt_are_words (Bind x sum) sound)
    stmt_cut (Need c) sound = cut _ _ (stmt_are_words (Need c) sound)
    stmt_cut (Has k) sound = cut _ _ (stmt_are_words (Has k) sound)
    stmt_cut (Lacks k) sound = cut _ _ (stmt_are_words (Lacks k) sound)
    stmt_cut (Put k sum guard) sound = cut _ _ (stmt_are_words (Put k sum guard) sound)
    stmt_cut (Remove k) sound = cut _ _ (stmt_are_words (Remove k) sound)
    stmt_cut (Show sum) sound = cut _ _ (stmt_are_words (Show sum) sound)
    stmt_cut Fail sound = cut _ _ (stmt_are_words Fail sound)

    not_end : (s : Stmt) → stmt_words s ≡ codes "end" ∷ [] → ⊥
    not_end (Bind x sum) e = cc
    not_end (Need c) e = cc
    not_end (Has k) e = cc
    not_end (Lacks k) e = cc
    not_end (Put k sum guard) e = cc
    not_end (Remove k) e = cc
    not_end (Show sum) e = cc
    not_end Fail e = cc

stmt_step : (d : Document) (reads writes : List (List ℕ)) (body : List Stmt) (s : Stmt) → IsStmt s
    → step (Body d reads writes body) (line_text (stmt_words s)) ≡ Some (Body d reads writes (body ++ s ∷ []))
unfolding step after_body
stmt_step d reads writes body s sound =
    let (words, apart) = stmt_line s sound in
    rw (apart, words, stmt_again s sound) refl

to : (p q : Progress) (line : List ℕ) (lines : List (List ℕ)) → step p line ≡ Some q → steps p (line ∷ lines) ≡ steps q lines
to p q line lines e = rw e refl

entries_steps : (edition : Edition) (store entries : List (List ℕ × ℤ)) (rest : List (List ℕ)) → AllByRecursion IsEntry entries
    → steps (Between (record { edition = edition; store = store; log = [] })) (map line_text (map store_words entries) ++ rest) ≡ steps
    (Between (record { edition = edition; store = store ++ entries; log = [] })) rest
entries_steps edition store [] rest sound = rw (append-nil store) refl
entries_steps edition store (entry ∷ entries) rest sound =
    to _ _ (line_text (store_words entry)) _ (entry_step edition store entry sound.0)
    ∙ (entries_steps edition (store ++ entry ∷ []) entries rest sound.1
    ∙ ap (λ (s : List (List ℕ × ℤ)). steps (Between (record { edition = edition; store = s; log = [] })) rest) (append_assoc store (entry ∷ []) entries))

stmts_steps : (d : Document) (reads writes : List (List ℕ)) (before body : List Stmt) (rest : List (List ℕ)) → AllByRecursion IsStmt body
    → steps (Body d reads writes before) (map line_text (map stmt_words body) ++ rest) ≡ steps (Body d reads writes (before ++ body)) rest
stmts_steps d reads writes before [] rest sound = rw (append-nil before) refl
stmts_steps d reads writes before (s ∷ ss) rest sound =
    to _ _ (line_text (stmt_words s)) _ (stmt_step d reads writes before s sound.0)
    ∙ (stmts_steps d reads writes (before ++ s ∷ []) ss rest sound.1
    ∙ ap (λ (b : List Stmt). steps (Body d reads writes b) rest) (append_assoc before (s ∷ []) ss))

pub open_step : (d : Document) → step (Between d) (codes "txn") ≡ Some (Opened d)
unfolding step after_between
open_step d = refl

reads_step : (d : Document) (reads : List (List ℕ)) → AllByRecursion IsName reads → step (Opened d) (line_text (codes "reads" ∷ reads)) ≡ Some (Reading d reads)
unfolding step
reads_step d reads names = rw (set_again (codes "reads") reads refl names refl) refl

writes_step : (d : Document) (reads writes : List (List ℕ)) → AllByRecursion IsName writes
    → step (Reading d reads) (line_text (codes "writes" ∷ writes)) ≡ Some (Body d reads writes [])
unfolding step
writes_step d reads writes names = rw (set_again (codes "writes") writes refl names refl) refl

end_step : (d : Document) (reads writes : List (List ℕ)) (body : List Stmt)
    → step (Body d reads writes body) (codes "end") ≡ Some (Between (with_txn d reads writes body))
unfolding step after_body
end_step d reads writes body = refl

pub txn_steps : (d : Document) (t : Txn) (rest : List (List ℕ)) → IsTxn d.edition t
    → steps (Between d) (map line_text (txn_lines t) ++ rest) ≡ steps (Between (with_log d (t ∷ []))) rest
txn_steps d t rest sound =
    let tail : map line_text (map stmt_words t.body ++ (codes "end" ∷ []) ∷ []) ++ rest ≡ map line_text (map stmt_words t.body) ++ (codes "end" ∷ rest) =
    ap (λ (r : List (List ℕ)). r ++ rest) (map-append line_text (map stmt_words t.body) ((codes "end" ∷ []) ∷ []))
    ∙ append_assoc (map line_text (map stmt_words t.body)) (codes "end" ∷ []) rest in
    let made : with_txn d t.reads t.writes t.body ≡ with_log d (t ∷ []) =
    ap (λ (e : Edition). record d { log = d.log ++ (record t { edition = e }) ∷ [] }) (sym sound.same) in
    let statements : List (List ℕ) = map line_text (map stmt_words t.body ++ (codes "end" ∷ []) ∷ []) ++ rest in
    to _ _ (codes "txn") (line_text (codes "reads" ∷ t.reads) ∷ line_text (codes "writes" ∷ t.writes) ∷ statements) (open_step d) ∙ (
    to _ _ (line_text (codes "reads" ∷ t.reads)) (line_text (codes "writes" ∷ t.writes) ∷ statements) (reads_step d t.reads sound.reads) ∙ (
    to _ _ (line_text (codes "writes" ∷ t.writes)) _ (writes_step d t.reads t.writes sound.writes) ∙ (
    ap (steps (Body d t.reads t.writes [])) tail ∙ (
    stmts_steps d t.reads t.writes [] t.body (codes "end" ∷ rest) sound.body ∙ (
    to _ _ (codes "end") rest (end_step d t.reads t.writes t.body) ∙ ap (λ (x : Document). steps (Between x) rest) made)))))

log_steps : (d : Document) (log : List Txn) → AllByRecursion (IsTxn d.edition) log
    → steps (Between d) (map line_text (flat_map txn_lines log)) ≡ Some (Between (with_log d log))
log_steps d [] sound = rw (append-nil d.log) refl
log_steps d (t ∷ ts) sound =
    ap (steps (Between d)) (map-append line_text (txn_lines t) (flat_map txn_lines ts))
    ∙ (txn_steps d t (map line_text (flat_map txn_lines ts)) sound.0
    ∙ (log_steps (with_log d (t ∷ [])) ts sound.1 ∙ ap (λ (l : List Txn). Some (Between (record d { log = l }))) (append_assoc d.log (t ∷ []) ts)))

head_step : (edition : Edition) → step Nothing (line_text (head_words edition)) ≡ Some (begun edition)
unfolding step head_of
head_step One = refl
head_step Two = refl

pub document_steps : (d : Document) → IsDocument d → steps Nothing (text_lines d) ≡ Some (Between d)
document_steps d sound =
    to _ _ (line_text (head_words d.edition)) _ (head_step d.edition) ∙ (
    ap (steps (begun d.edition)) (map-append line_text (map store_words d.store) (flat_map txn_lines d.log)) ∙ (
    entries_steps d.edition [] d.store (map line_text (flat_map txn_lines d.log)) sound.store ∙
    log_steps (record { edition = d.edition; store = d.store; log = [] }) d.log sound.log))
