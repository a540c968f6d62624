-- Reading a procedure's lines gives back the procedure, so two procedures never have the same text.
use Rattle.std.proofs.Common.{◌≡◌, ℕ, true, false, List, [], ◌∷◌, ◌++◌, map, Some, refl, ap, sym, ◌∙◌, append_assoc}
use Rattle.std.specs.Prelude.{codes, not}
use Rattle.std.specs.List.{AllByRecursion}
use Rattle.std.proofs.lemmas.Bool.{and_parts, not-true}
use Rattle.std.proofs.lemmas.List.{map-append, append-nil}
use Rattle.std.proofs.lemmas.Option.{same_Some}
use Rattle.bohm_types.specs.Keys.{is_among}
use Rattle.bohm_types.specs.Sound.{IsName, IsStmt}
use Rattle.bohm_types.specs.Stmt.{Stmt}
use Rattle.bohm_types.specs.declared.edition.Edition.{Edition}
use Rattle.bohm_types.specs.declared.edition.Edition.TheVariants.{One, Two}
use Rattle.bohm_types.specs.Procedure.{Procedure}
use Rattle.bohm_text.specs.Print.{Words, line_text, stmt_words}
use Rattle.bohm_text.specs.Cut.{whole_lines}
use Rattle.bohm_text.specs.ProcedureText.{procedure_words, key_words, value_words, tail_lines, procedure_lines}
use Rattle.bohm_text.specs.ProcedureText.{print_procedure, all_new, are_declared, IsProcedure, Stage, Nothing, Keys}
use Rattle.bohm_text.specs.ProcedureText.{Values, Reading, Body, Done, edition_of, stage_after, stages}
use Rattle.bohm_text.proofs.Again.{key_again, keys_again, stmt_again}
use Rattle.bohm_text.proofs.Cutting.{lines_again, IsWithout}
use Rattle.bohm_text.proofs.StepAgain.{cut, set_again, stmt_line}
use Rattle.bohm_text.proofs.TextLaws.{line_lacks}
use Rattle.bohm_text.proofs.WordLaws.{IsWord, name_word, stmt_are_words, names_are_words}
use Rattle.bohm_log.proofs.ForCallers.{each_append, each_map}

to : (p q : Stage) (line : List ℕ) (lines : List (List ℕ)) → stage_after p line ≡ Some q → stages p (line ∷ lines) ≡ stages q lines
to p q line lines e = rw e refl

-- ---- parameters

pub new_first : (before : Words) (k : List ℕ) (ks : Words) → all_new before (k ∷ ks) ≡ true → (is_among before k ≡ false)
    × (all_new (before ++ k ∷ []) ks ≡ true)
new_first before k ks e =
    let p = and_parts (not (is_among before k)) (all_new (before ++ k ∷ []) ks) e in
    (not-true (is_among before k) p.0, p.1)

key_step : (e : Edition) (ks : Words) (k : List ℕ) → IsName k → is_among ks k ≡ false → stage_after (Keys e ks) (line_text (key_words k))
    ≡ Some (Keys e (ks ++ k ∷ []))
unfolding stage_after
key_step e ks k name new = rw (cut (codes "key") (k ∷ []) (refl, (name_word k name, tt)), key_again k name, new) refl

value_first : (e : Edition) (ks : Words) (x : List ℕ) → IsName x → is_among (ks ++ []) x ≡ false
    → stage_after (Keys e ks) (line_text (value_words x)) ≡ Some (Values e ks (x ∷ []))
unfolding stage_after
value_first e ks x name new = rw (cut (codes "value") (x ∷ []) (refl, (name_word x name, tt)), key_again x name, new) refl

value_step : (e : Edition) (ks vs : Words) (x : List ℕ) → IsName x → is_among (ks ++ vs) x ≡ false
    → stage_after (Values e ks vs) (line_text (value_words x)) ≡ Some (Values e ks (vs ++ x ∷ []))
unfolding stage_after
value_step e ks vs x name new = rw (cut (codes "value") (x ∷ []) (refl, (name_word x name, tt)), key_again x name, new) refl

keys_stages : (e : Edition) (before ks : Words) (rest : List (List ℕ)) → AllByRecursion IsName ks → all_new before ks ≡ true
    → stages (Keys e before) (map line_text (map key_words ks) ++ rest) ≡ stages (Keys e (before ++ ks)) rest
keys_stages e before [] rest names new = rw (append-nil before) refl
keys_stages e before (k ∷ ks) rest names new =
    let n = new_first before k ks new in
    to _ _ (line_text (key_words k)) _ (key_step e before k names.0 n.0)
    ∙ (keys_stages e (before ++ k ∷ []) ks rest names.1 n.1 ∙ ap (λ (xs : Words). stages (Keys e xs) rest) (append_assoc before (k ∷ []) ks))

values_stages : (e : Edition) (ks before vs : Words) (rest : List (List ℕ)) → AllByRecursion IsName vs → all_new (ks ++ before) vs ≡ true
    → stages (Values e ks before) (map line_text (map value_words vs) ++ rest) ≡ stages (Values e ks (before ++ vs)) rest
values_stages e ks before [] rest names new = rw (append-nil before) refl
values_stages e ks before (x ∷ vs) rest names new =
    let n = new_first (ks ++ before) x vs new in
    let on : all_new (ks ++ (before ++ x ∷ [])) vs ≡ true = ap (λ (xs : Words). all_new xs vs) (sym (append_assoc ks before (x ∷ []))) ∙ n.1 in
    to _ _ (line_text (value_words x)) _ (value_step e ks before x names.0 n.0)
    ∙ (values_stages e ks (before ++ x ∷ []) vs rest names.1 on
    ∙ ap (λ (xs : Words). stages (Values e ks xs) rest) (append_assoc before (x ∷ []) vs))

-- ---- sets and statements

reads_first : (e : Edition) (ks reads : Words) → AllByRecursion IsName reads → stage_after (Keys e ks) (line_text (codes "reads" ∷ reads))
    ≡ Some (Reading e ks [] reads)
unfolding stage_after
reads_first e ks reads names = rw (cut (codes "reads") reads (refl, names_are_words reads names), keys_again reads names) refl

reads_step : (e : Edition) (ks vs reads : Words) → AllByRecursion IsName reads → stage_after (Values e ks vs) (line_text (codes "reads" ∷ reads))
    ≡ Some (Reading e ks vs reads)
unfolding stage_after
reads_step e ks vs reads names = rw (cut (codes "reads") reads (refl, names_are_words reads names), keys_again reads names) refl

writes_step : (e : Edition) (ks vs reads writes : Words) → AllByRecursion IsName writes → are_declared ks reads writes ≡ true
    → stage_after (Reading e ks vs reads) (line_text (codes "writes" ∷ writes)) ≡ Some (Body e ks vs reads writes [])
unfolding stage_after
writes_step e ks vs reads writes names declared = rw (set_again (codes "writes") writes refl names refl, declared) refl

stmt_step : (e : Edition) (ks vs reads writes : Words) (body : List Stmt) (s : Stmt) → IsStmt s
    → stage_after (Body e ks vs reads writes body) (line_text (stmt_words s)) ≡ Some (Body e ks vs reads writes (body ++ s ∷ []))
unfolding stage_after
stmt_step e ks vs reads writes body s sound =
    let (words, apart) = stmt_line s sound in
    rw (apart, words, stmt_again s sound) refl

stmts_stages : (e : Edition) (ks vs reads writes : Words) (before body : List Stmt) (rest : List (List ℕ)) → AllByRecursion IsStmt body
    → stages (Body e ks vs reads writes before) (map line_text (map stmt_words body) ++ rest)
    ≡ stages (Body e ks vs reads writes (before ++ body)) rest
stmts_stages e ks vs reads writes before [] rest sound = rw (append-nil before) refl
stmts_stages e ks vs reads writes before (s ∷ ss) rest sound =
    to _ _ (line_text (stmt_words s)) _ (stmt_step e ks vs reads writes before s sound.0)
    ∙ (stmts_stages e ks vs reads writes (before ++ s ∷ []) ss rest sound.1
    ∙ ap (λ (b : List Stmt). stages (Body e ks vs reads writes b) rest) (append_assoc before (s ∷ []) ss))

end_step : (e : Edition) (ks vs reads writes : Words) (body : List Stmt) → stage_after (Body e ks vs reads writes body) (codes "end")
    ≡ Some (Done (record { edition = e; keys = ks; values = vs; reads = reads; writes = writes; body = body }))
unfolding stage_after
end_step e ks vs reads writes body = refl

head_step : (e : Edition) → stage_after Nothing (line_text (procedure_words e)) ≡ Some (Keys e [])
unfolding stage_after edition_of
head_step One = refl
head_step Two = refl

-- the lines after the reads complete the procedure
body_stages : (e : Edition) (ks vs reads writes : Words) (body : List Stmt) → AllByRecursion IsName writes → AllByRecursion IsStmt body
    → are_declared ks reads writes ≡ true
    → stages (Reading e ks vs reads) (line_text (codes "writes" ∷ writes) ∷ map line_text (map stmt_words body ++ (codes "end" ∷ []) ∷ []))
    ≡ Some (Done (record { edition = e; keys = ks; values = vs; reads = reads; writes = writes; body = body }))
body_stages e ks vs reads writes body names stmts declared =
    to _ _ (line_text (codes "writes" ∷ writes)) _ (writes_step e ks vs reads writes names declared) ∙ (
    ap (stages (Body e ks vs reads writes [])) (map-append line_text (map stmt_words body) ((codes "end" ∷ []) ∷ [])) ∙ (
    stmts_stages e ks vs reads writes [] body (codes "end" ∷ []) stmts ∙
    to _ _ (codes "end") [] (end_step e ks vs reads writes body)))

params_stages : (e : Edition) (ks vs reads writes : Words) (body : List Stmt) → AllByRecursion IsName vs → all_new ks vs ≡ true
    → AllByRecursion IsName reads → AllByRecursion IsName writes → AllByRecursion IsStmt body → are_declared ks reads writes ≡ true
    → stages (Keys e ks) (map line_text (map value_words vs) ++ map line_text (tail_lines reads writes body))
    ≡ Some (Done (record { edition = e; keys = ks; values = vs; reads = reads; writes = writes; body = body }))
params_stages e ks [] reads writes body names new names_r names_w stmts declared =
    to _ _ (line_text (codes "reads" ∷ reads))
    (line_text (codes "writes" ∷ writes) ∷ map line_text (map stmt_words body ++ (codes "end" ∷ []) ∷ [])) (reads_first e ks reads names_r)
    ∙ body_stages e ks [] reads writes body names_w stmts declared
params_stages e ks (x ∷ vs) reads writes body names new names_r names_w stmts declared =
    let n = new_first ks x vs new in
    let here : is_among (ks ++ []) x ≡ false = ap (λ (xs : Words). is_among xs x) (append-nil ks) ∙ n.0 in
    to _ _ (line_text (value_words x)) _ (value_first e ks x names.0 here) ∙ (
    values_stages e ks (x ∷ []) vs (map line_text (tail_lines reads writes body)) names.1 n.1 ∙ (
    to _ _ (line_text (codes "reads" ∷ reads))
    (line_text (codes "writes" ∷ writes) ∷ map line_text (map stmt_words body ++ (codes "end" ∷ []) ∷ []))
    (reads_step e ks (x ∷ vs) reads names_r) ∙ body_stages e ks (x ∷ vs) reads writes body names_w stmts declared))

pub procedure_stages : (p : Procedure) → IsProcedure p → stages Nothing (map line_text (procedure_lines p)) ≡ Some (Done p)
procedure_stages p sound =
    let tail : List Words = map value_words p.values ++ tail_lines p.reads p.writes p.body in
    to _ _ (line_text (procedure_words p.edition)) _ (head_step p.edition) ∙ (
    ap (stages (Keys p.edition [])) (map-append line_text (map key_words p.keys) tail) ∙ (
    keys_stages p.edition [] p.keys (map line_text tail) sound.keys sound.apart_keys ∙ (
    ap (stages (Keys p.edition p.keys)) (map-append line_text (map value_words p.values) (tail_lines p.reads p.writes p.body)) ∙
    params_stages p.edition p.keys p.values p.reads p.writes p.body sound.values sound.apart_values sound.reads sound.writes sound.body sound.declared)))

-- ---- no two procedures have the same text

abbrev pub AreWords : Words → Type 0
AreWords ws = AllByRecursion IsWord ws

head_are_words : (e : Edition) → AreWords (procedure_words e)
head_are_words One = (refl, (refl, tt))
head_are_words Two = (refl, (refl, tt))

pub lines_are_words : (p : Procedure) → IsProcedure p → AllByRecursion AreWords (procedure_lines p)
lines_are_words p sound = (
  head_are_words p.edition,
  each_append AreWords (map key_words p.keys) _ (each_map IsName AreWords key_words (λ k name. (refl, (name_word k name, tt))) p.keys sound.keys)
      (each_append AreWords (map value_words p.values) _
      (each_map IsName AreWords value_words (λ x name. (refl, (name_word x name, tt))) p.values sound.values) (
        (refl, names_are_words p.reads sound.reads),
        (
          (refl, names_are_words p.writes sound.writes),
          each_append AreWords (map stmt_words p.body) ((codes "end" ∷ []) ∷ [])
              (each_map IsStmt AreWords stmt_words (λ s stmt. stmt_are_words s stmt) p.body sound.body) ((refl, tt), tt),
        ),
      )),
)

pub lines_of_procedure : (p : Procedure) → IsProcedure p → whole_lines (print_procedure p) ≡ map line_text (procedure_lines p)
lines_of_procedure p sound =
    let lack : AllByRecursion (IsWithout 10) (map line_text (procedure_lines p)) = each_map AreWords (IsWithout 10) line_text
    (λ ws words. line_lacks ws words) (procedure_lines p) (lines_are_words p sound) in
    lines_again (map line_text (procedure_lines p)) lack

pub text_stages : (p : Procedure) → IsProcedure p → stages Nothing (whole_lines (print_procedure p)) ≡ Some (Done p)
text_stages p sound = ap (stages Nothing) (lines_of_procedure p sound) ∙ procedure_stages p sound

same_procedure : (p q : Procedure) → Done p ≡ Done q → p ≡ q
same_procedure p q h = cc

pub one_procedure : (p q : Procedure) → IsProcedure p → IsProcedure q → print_procedure p ≡ print_procedure q → p ≡ q
one_procedure p q sound_p sound_q same =
    same_procedure p q (same_Some (Done p) (Done q)
    (sym (text_stages p sound_p) ∙ (ap (λ (t : List ℕ). stages Nothing (whole_lines t)) same ∙ text_stages q sound_q)))
