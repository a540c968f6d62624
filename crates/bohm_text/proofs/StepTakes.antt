-- Lines that are read are the lines of the progress that they lead to.
use Rattle.std.proofs.Common.{◌≡◌, ℕ, ◌<◌, Bool, true, false, cond, List, [], ◌∷◌, ◌++◌, length, map}
use Rattle.std.proofs.Common.{Some, None, refl, ap, sym, subst, ◌∙◌, arith, inl, inr, append_assoc}
use Rattle.std.specs.Prelude.{ℤ, ◌==◌, codes}
use Rattle.std.specs.List.{flat_map}
use Rattle.std.specs.Str.{bytes_eq}
use Rattle.std.proofs.lemmas.Bool.{eqb-true}
use Rattle.std.proofs.lemmas.List.{map_push, append-nil, map-append}
use Rattle.std.proofs.lemmas.Option.{same_Some}
use Rattle.bohm_types.specs.Stmt.{Stmt}
use Rattle.bohm_types.specs.Txn.{Txn}
use Rattle.bohm_types.specs.declared.edition.Edition.{Edition}
use Rattle.bohm_types.specs.declared.edition.Edition.TheVariants.{One, Two}
use Rattle.bohm_types.specs.Document.{Document}
use Rattle.bohm_txn.proofs.ForCallers.{same_key}
use Rattle.bohm_text.specs.Print.{Words, line_text, spaced, stmt_words, store_words, txn_lines, head_words}
use Rattle.bohm_text.specs.Cut.{onto_first, split}
use Rattle.bohm_text.specs.Reading.{◌>>=◌, keys_of, after, stmt_of, entry_of}
use Rattle.bohm_text.specs.Step.{Progress, Nothing, Between, Opened, Reading, Body, begun, head_of}
use Rattle.bohm_text.specs.Step.{with_entry, with_txn, next_entry, after_between, after_body, step, steps}
use Rattle.bohm_text.specs.Front.{text_lines}
use Rattle.bohm_text.proofs.Cutting.{split-some}
use Rattle.bohm_text.proofs.WordTakes.{bind_some, chosen, if_some}
use Rattle.bohm_text.proofs.Takes.{keys_take, after_takes, stmt_takes, entry_takes}

spaced-some : (parts : List (List ℕ)) → 0 < length parts → spaced parts ≡ 32 ∷ line_text parts
spaced-some [] some = absurd (omega arith)
spaced-some (p ∷ ps) some = refl

line_text-onto : (b : ℕ) (parts : List (List ℕ)) → 0 < length parts → line_text (onto_first b parts) ≡ b ∷ line_text parts
line_text-onto b [] some = absurd (omega arith)
line_text-onto b (p ∷ ps) some = refl

pub split_takes : (bs : List ℕ) → line_text (split 32 bs) ≡ bs
unfolding split
split_takes [] = refl
split_takes (b ∷ bs) =
    let P : Bool → Type 0 = λ (t : Bool). b == 32 ≡ t → line_text (cond t ([] ∷ split 32 bs) (onto_first b (split 32 bs))) ≡ b ∷ bs in
    elim (b == 32) as P [
      | true ↦ λ e. spaced-some (split 32 bs) (split-some 32 bs) ∙ (λ i. sym (eqb-true b 32 e) i ∷ split_takes bs i)
      | false ↦ λ e. line_text-onto b (split 32 bs) (split-some 32 bs) ∙ ap (λ (xs : List ℕ). b ∷ xs) (split_takes bs)
    ] refl

flat_map_push : {A B : Type 0} (f : A → List B) (xs : List A) (x : A) → flat_map f (xs ++ x ∷ []) ≡ flat_map f xs ++ f x
flat_map_push f [] x = append-nil (f x)
flat_map_push f (y ∷ ys) x = ap (λ r. f y ++ r) (flat_map_push f ys x) ∙ sym (append_assoc (f y) (flat_map f ys) (f x))

-- the lines that lead to this progress
abbrev pub progress_lines : Progress → List (List ℕ)
progress_lines Nothing = []
progress_lines (Between d) = text_lines d
progress_lines (Opened d) = text_lines d ++ codes "txn" ∷ []
progress_lines (Reading d reads) = text_lines d ++ codes "txn" ∷ line_text (codes "reads" ∷ reads) ∷ []
progress_lines (Body d reads writes body) = text_lines d ++ codes "txn" ∷ line_text (codes "reads" ∷ reads) ∷ line_text (codes "writes" ∷ writes) ∷ map
    (λ s. line_text (stmt_words s)) body

-- ---- one more line

entry_adds : (d : Document) (entry : List ℕ × ℤ) → d.log ≡ [] → text_lines (with_entry d entry) ≡ text_lines d ++ line_text (store_words entry) ∷ []
entry_adds d entry none =
    let stores : map store_words (d.store ++ entry ∷ []) ≡ map store_words d.store ++ store_words entry ∷ [] = map_push store_words d.store entry in
    rw (none, append-nil (map store_words (d.store ++ entry ∷ [])), append-nil (map store_words d.store), stores)
    (ap (λ (r : List (List ℕ)). line_text (head_words d.edition) ∷ r) (map_push line_text (map store_words d.store) (store_words entry)))

pub stmts_text : (body : List Stmt) → map line_text (map stmt_words body) ≡ map (λ s. line_text (stmt_words s)) body
stmts_text [] = refl
stmts_text (s ∷ ss) = ap (λ r. line_text (stmt_words s) ∷ r) (stmts_text ss)

pub txn_adds : (d : Document) (reads writes : List (List ℕ)) (body : List Stmt)
    → text_lines (with_txn d reads writes body) ≡ progress_lines (Body d reads writes body) ++ codes "end" ∷ []
txn_adds d reads writes body =
    let t : Txn = record { edition = d.edition; reads = reads; writes = writes; body = body } in
    let stores : List Words = map store_words d.store in
    let before : List Words = flat_map txn_lines d.log in
    let opened : List (List ℕ) → List (List ℕ) =
    λ (r : List (List ℕ)). codes "txn" ∷ line_text (codes "reads" ∷ reads) ∷ line_text (codes "writes" ∷ writes) ∷ r in
    let statements : List (List ℕ) = map (λ (s : Stmt). line_text (stmt_words s)) body in
    let tail : map line_text (txn_lines t) ≡ opened (statements ++ codes "end" ∷ []) =
    ap opened (map_push line_text (map stmt_words body) (codes "end" ∷ []) ∙ ap (λ (r : List (List ℕ)). r ++ codes "end" ∷ []) (stmts_text body)) in
    let lines : map line_text (stores ++ flat_map txn_lines (d.log ++ t ∷ [])) ≡ map line_text (stores ++ before) ++ opened (statements ++ codes "end" ∷ []) =
    ap (λ (r : List Words). map line_text (stores ++ r)) (flat_map_push txn_lines d.log t)
    ∙ (ap (λ (r : List Words). map line_text r) (sym (append_assoc stores before (txn_lines t)))
    ∙ (map-append line_text (stores ++ before) (txn_lines t) ∙ ap (λ (r : List (List ℕ)). map line_text (stores ++ before) ++ r) tail)) in
    ap (λ (r : List (List ℕ)). line_text (head_words d.edition) ∷ r)
    (lines ∙ sym (append_assoc (map line_text (stores ++ before)) (opened statements) (codes "end" ∷ [])))

Adds : Progress → Progress → List ℕ → Type 0
Adds p q line = progress_lines q ≡ progress_lines p ++ line ∷ []

pub head_takes : (line : List ℕ) (edition : Edition) → head_of line ≡ Some edition → line ≡ line_text (head_words edition)
unfolding head_of
head_takes line edition e =
    elim (chosen (bytes_eq line (codes "log 1")) (Some One) (cond (bytes_eq line (codes "log 2")) (Some Two) None) (Some edition) e) [
      | inl p ↦ rw (← same_Some One edition p.1) (same_key line (codes "log 1") p.0)
      | inr p ↦ let r = if_some (bytes_eq line (codes "log 2")) (Some Two) edition p.1 in rw (← same_Some Two edition r.1) (same_key line (codes "log 2") r.0)
    ]

head_adds : (q : Progress) (line : List ℕ) → (head_of line >>= λ edition. Some (begun edition)) ≡ Some q → progress_lines q ≡ line ∷ []
head_adds q line e =
    let b = bind_some (head_of line) (λ edition. Some (begun edition)) q e in
    subst (λ (r : Progress). progress_lines r ≡ line ∷ []) (same_Some (begun b.0) q b.2) (ap (λ (l : List ℕ). l ∷ []) (sym (head_takes line b.0 b.1)))

pub words_line : (line : List ℕ) (ws : Words) → split 32 line ≡ ws → line_text ws ≡ line
words_line line ws e = rw (← e) (split_takes line)

next_adds : (d : Document) (log : List Txn) (q : Progress) (line : List ℕ) → d.log ≡ log → next_entry d log (split 32 line) ≡ Some q
    → progress_lines q ≡ text_lines d ++ line ∷ []
next_adds d [] q line none e =
    let b = bind_some (entry_of (split 32 line)) (λ entry. Some (Between (with_entry d entry))) q e in
    let same : line_text (store_words b.0) ≡ line = words_line line (store_words b.0) (entry_takes (split 32 line) b.0 b.1) in
    subst (λ (r : Progress). progress_lines r ≡ text_lines d ++ line ∷ []) (same_Some (Between (with_entry d b.0)) q b.2) (rw same at (entry_adds d b.0 none))
next_adds d (t ∷ ts) q line none e = absurd cc

between_adds : (d : Document) (q : Progress) (line : List ℕ) → after_between d line ≡ Some q → progress_lines q ≡ text_lines d ++ line ∷ []
unfolding after_between
between_adds d q line e =
    elim (chosen (bytes_eq line (codes "txn")) (Some (Opened d)) (next_entry d d.log (split 32 line)) (Some q) e) [
      | inl p ↦ rw (← same_Some (Opened d) q p.1) (ap (λ (l : List ℕ). text_lines d ++ l ∷ []) (sym (same_key line (codes "txn") p.0)))
      | inr p ↦ next_adds d d.log q line refl p.1
    ]

pub set_takes : (word line : List ℕ) (keys : List (List ℕ)) → after word keys_of (split 32 line) ≡ Some keys → line_text (word ∷ keys) ≡ line
set_takes word line keys e =
    let a = after_takes word keys_of (split 32 line) keys e in
    words_line line (word ∷ keys) (a.1 ∙ ap (λ (r : Words). word ∷ r) (keys_take a.0 keys a.2))

body_adds : (d : Document) (reads writes : List (List ℕ)) (body : List Stmt) (q : Progress) (line : List ℕ) → after_body d reads writes body line ≡ Some q
    → Adds (Body d reads writes body) q line
unfolding after_body Adds
body_adds d reads writes body q line e =
    elim (chosen (bytes_eq line (codes "end")) (Some (Between (with_txn d reads writes body)))
    (stmt_of (split 32 line) >>= λ s. Some (Body d reads writes (body ++ s ∷ []))) (Some q) e) [
      | inl p ↦ rw (← same_Some (Between (with_txn d reads writes body)) q p.1)
          (txn_adds d reads writes body ∙ ap (λ (l : List ℕ). progress_lines (Body d reads writes body) ++ l ∷ []) (sym (same_key line (codes "end") p.0)))
      | inr p ↦
          let b = bind_some (stmt_of (split 32 line)) (λ s. Some (Body d reads writes (body ++ s ∷ []))) q p.1 in
          let same : line_text (stmt_words b.0) ≡ line = words_line line (stmt_words b.0) (stmt_takes (split 32 line) b.0 b.1) in
          let opened : List (List ℕ) → List (List ℕ) =
          λ (r : List (List ℕ)). codes "txn" ∷ line_text (codes "reads" ∷ reads) ∷ line_text (codes "writes" ∷ writes) ∷ r in
          let whole : progress_lines (Body d reads writes (body ++ b.0 ∷ [])) ≡ progress_lines (Body d reads writes body) ++ line ∷ [] =
          ap (λ (r : List (List ℕ)). text_lines d ++ opened r) (map_push (λ (s : Stmt). line_text (stmt_words s)) body b.0)
          ∙ (sym (append_assoc (text_lines d) (opened (map (λ (s : Stmt). line_text (stmt_words s)) body)) (line_text (stmt_words b.0) ∷ []))
          ∙ ap (λ (l : List ℕ). progress_lines (Body d reads writes body) ++ l ∷ []) same) in
          subst (λ (r : Progress). progress_lines r ≡ progress_lines (Body d reads writes body) ++ line ∷ [])
          (same_Some (Body d reads writes (body ++ b.0 ∷ [])) q b.2) whole
    ]

step_adds : (p q : Progress) (line : List ℕ) → step p line ≡ Some q → Adds p q line
unfolding step Adds
step_adds Nothing q line e = head_adds q line e
step_adds (Between d) q line e = between_adds d q line e
step_adds (Opened d) q line e =
    let b = bind_some (after (codes "reads") keys_of (split 32 line)) (λ reads. Some (Reading d reads)) q e in
    let whole : progress_lines (Reading d b.0) ≡ progress_lines (Opened d) ++ line ∷ [] = ap (λ (l : List ℕ). text_lines d ++ codes "txn" ∷ l ∷ [])
    (set_takes (codes "reads") line b.0 b.1) ∙ sym (append_assoc (text_lines d) (codes "txn" ∷ []) (line ∷ [])) in
    subst (λ (r : Progress). progress_lines r ≡ progress_lines (Opened d) ++ line ∷ []) (same_Some (Reading d b.0) q b.2) whole
step_adds (Reading d reads) q line e =
    let b = bind_some (after (codes "writes") keys_of (split 32 line)) (λ writes. Some (Body d reads writes [])) q e in
    let opened : List (List ℕ) = codes "txn" ∷ line_text (codes "reads" ∷ reads) ∷ [] in
    let whole : progress_lines (Body d reads b.0 []) ≡ progress_lines (Reading d reads) ++ line ∷ [] = ap (λ (l : List ℕ). text_lines d ++ (opened ++ l ∷ []))
    (set_takes (codes "writes") line b.0 b.1) ∙ sym (append_assoc (text_lines d) opened (line ∷ [])) in
    subst (λ (r : Progress). progress_lines r ≡ progress_lines (Reading d reads) ++ line ∷ []) (same_Some (Body d reads b.0 []) q b.2) whole
step_adds (Body d reads writes body) q line e = body_adds d reads writes body q line e

pub steps_add : (p q : Progress) (lines : List (List ℕ)) → steps p lines ≡ Some q → progress_lines q ≡ progress_lines p ++ lines
unfolding Adds
steps_add p q [] e = rw (same_Some p q e) (sym (append-nil (progress_lines q)))
steps_add p q (line ∷ lines) e =
    let b = bind_some (step p line) (λ next. steps next lines) q e in
    steps_add b.0 q lines b.2 ∙ (ap (λ (r : List (List ℕ)). r ++ lines) (step_adds p b.0 line b.1) ∙ append_assoc (progress_lines p) (line ∷ []) lines)
