-- The first line that the reader refuses is the first bad line of a procedure's text.
use Rattle.std.proofs.Common.{◌≡◌, ℕ, ◌-◌, List, [], ◌∷◌, ◌++◌, map, take, true, Some, None, refl, ap, sym, subst, ◌∙◌, append_assoc}
use Rattle.std.specs.Prelude.{Option, codes, IsSome, Result, Ok, Err, IfOk, drop, length}
use Rattle.std.specs.List.{AllByRecursion, list_all}
use Rattle.std.specs.Str.{bytes_eq}
use Rattle.std.proofs.lemmas.Bool.{and_from, or_right}
use Rattle.bohm_types.specs.Keys.{is_among}
use Rattle.bohm_txn.proofs.ForCallers.{key_itself}
use Rattle.std.proofs.lemmas.List.{map-append, append-nil}
use Rattle.std.proofs.lemmas.Option.{same_Some}
use Rattle.bohm_types.specs.Sound.{IsName, IsStmt}
use Rattle.bohm_types.specs.Stmt.{Stmt}
use Rattle.bohm_types.specs.declared.edition.Edition.{Edition}
use Rattle.bohm_types.specs.declared.edition.Edition.TheVariants.{One}
use Rattle.bohm_types.specs.Procedure.{Procedure, procedure_with}
use Rattle.bohm_text.specs.Print.{Words, line_text, text_of, stmt_words}
use Rattle.bohm_text.specs.Cut.{whole_lines}
use Rattle.bohm_text.specs.ProcedureText.{procedure_words, key_words, value_words, tail_lines, procedure_lines}
use Rattle.bohm_text.specs.ProcedureText.{print_procedure, is_declared, are_declared, IsProcedure, Stage, Nothing, Keys}
use Rattle.bohm_text.specs.ProcedureText.{Values, Reading, Body, Done, stage_after, stages}
use Rattle.bohm_text.specs.ProcedureParse.{IsFirstFault, IsUnfinished, IsRead, Reads}
use Rattle.bohm_text.specs.ProcedureRead.{IsProcedureOf}
use Rattle.bohm_text.specs.ProcedureReading.{stage_at, IsReadyAt, HasLets}
use Rattle.bohm_text.specs.declared.procedures.ParamPlace.{ParamPlace}
use Rattle.bohm_text.specs.declared.procedures.ParamPlace.TheVariants as places
use Rattle.bohm_text.specs.declared.procedures.ProcedureReader.{ProcedureReader}
use Rattle.bohm_text.specs.declared.fault.TextFault.{TextFault}
use Rattle.bohm_log.specs.Drafting.{Drafted, IsBetween}
use Rattle.bohm_log.proofs.ForCallers.{each_map}
use Rattle.bohm_text.specs.ProcedureFaults.{Front, IsFirstBadLine, IsShort}
use Rattle.bohm_text.proofs.ProcedureAgain.{procedure_stages, text_stages, lines_are_words, AreWords}
use Rattle.bohm_text.proofs.ProcedureTakes.{stage_words, AreParams, IsSound, params, stages_add, procedure_found}
use Rattle.bohm_text.proofs.Stepping.{none_after}
use Rattle.bohm_text.proofs.Cutting.{lines_again, IsWithout}
use Rattle.bohm_text.proofs.TextLaws.{line_lacks}

not_front : (ls : List (List ℕ)) → stages Nothing ls ≡ None → Front ls → ⊥
not_front ls none front = none_after stage_after Nothing ls front.more (Done front.procedure) none
    (ap (stages Nothing) (sym front.begins) ∙ procedure_stages front.procedure front.sound)

among_in : (before : Words) (k : List ℕ) (ks : Words) → is_among (before ++ k ∷ ks) k ≡ true
among_in [] k ks = rw (key_itself k) refl
among_in (x ∷ before) k ks = or_right (bytes_eq x k) (is_among (before ++ k ∷ ks) k) (among_in before k ks)

declared_behind : (reads before ks : Words) → list_all (is_declared reads (before ++ ks)) ks ≡ true
declared_behind reads before [] = refl
declared_behind reads before (k ∷ ks) =
    let here : is_declared reads (before ++ k ∷ ks) k ≡ true = or_right (is_among reads k) (is_among (before ++ k ∷ ks) k) (among_in before k ks) in
    let more : list_all (is_declared reads (before ++ k ∷ ks)) ks ≡ true =
    ap (λ (ws : Words). list_all (is_declared reads ws) ks) (sym (append_assoc before (k ∷ []) ks)) ∙ declared_behind reads (before ++ k ∷ []) ks in
    and_from (is_declared reads (before ++ k ∷ ks) k) (list_all (is_declared reads (before ++ k ∷ ks)) ks) here more

-- keys are all declared if the writes are these keys
all_written : (ks reads : Words) → are_declared ks reads ks ≡ true
all_written ks reads = declared_behind reads [] ks

made : (e : Edition) (ks vs reads writes : Words) (body : List Stmt) → AreParams ks vs → AllByRecursion IsName reads
    → AllByRecursion IsName writes → AllByRecursion IsStmt body → are_declared ks reads writes ≡ true
    → IsProcedure (record { edition = e; keys = ks; values = vs; reads = reads; writes = writes; body = body })
made e ks vs reads writes body p r w b d = record
    { keys = p.keys; values = p.values; apart_keys = p.apart_keys; apart_values = p.apart_values; reads = r; writes = w; body = b; declared = d }

-- any number of a procedure's first lines begin a procedure's text
from_words : (p : Procedure) (before after : List Words) → IsProcedure p → procedure_lines p ≡ before ++ after → Front (map line_text before)
from_words p before after sound e = record
    { procedure = p; sound = sound; more = map line_text after; begins = ap (map line_text) e ∙ map-append line_text before after }

shape : (e : Edition) (ks vs reads writes : Words) (body : List Stmt)
    → procedure_lines (record { edition = e; keys = ks; values = vs; reads = reads; writes = writes; body = body })
    ≡ params e ks vs ++ tail_lines reads writes body
shape e ks vs reads writes body = ap (λ (r : List Words). procedure_words e ∷ r)
    (sym (append_assoc (map key_words ks) (map value_words vs) (tail_lines reads writes body)))

closed : (s : Stage) → IsSound s → Front (map line_text (stage_words s))
closed Nothing sound =
    let p : Procedure = record { edition = One; keys = []; values = []; reads = []; writes = []; body = [] } in
    from_words p [] (procedure_lines p) (made One [] [] [] [] [] (record { keys = tt; values = tt; apart_keys = refl; apart_values = refl }) tt tt tt refl) refl
closed (Keys e ks) sound =
    from_words (record { edition = e; keys = ks; values = []; reads = []; writes = ks; body = [] }) (stage_words (Keys e ks)) (tail_lines [] ks [])
    (made e ks [] [] ks [] sound tt sound.keys tt (all_written ks [])) refl
closed (Values e ks vs) sound =
    from_words (record { edition = e; keys = ks; values = vs; reads = []; writes = ks; body = [] }) (stage_words (Values e ks vs)) (tail_lines [] ks [])
    (made e ks vs [] ks [] sound tt sound.keys tt (all_written ks [])) (shape e ks vs [] ks [])
closed (Reading e ks vs reads) sound =
    from_words (record { edition = e; keys = ks; values = vs; reads = reads; writes = ks; body = [] }) (stage_words (Reading e ks vs reads))
    ((codes "writes" ∷ ks) ∷ (codes "end" ∷ []) ∷ [])
    (made e ks vs reads ks [] sound.0 sound.1 sound.0.keys tt (all_written ks reads))
    (shape e ks vs reads ks [] ∙ sym (append_assoc (params e ks vs) ((codes "reads" ∷ reads) ∷ []) ((codes "writes" ∷ ks) ∷ (codes "end" ∷ []) ∷ [])))
closed (Body e ks vs reads writes body) sound =
    from_words (record { edition = e; keys = ks; values = vs; reads = reads; writes = writes; body = body })
    (stage_words (Body e ks vs reads writes body)) ((codes "end" ∷ []) ∷ [])
    (made e ks vs reads writes body sound.0 sound.1 sound.2 sound.3 sound.4)
    (shape e ks vs reads writes body
    ∙ sym (append_assoc (params e ks vs) ((codes "reads" ∷ reads) ∷ (codes "writes" ∷ writes) ∷ map stmt_words body) ((codes "end" ∷ []) ∷ [])))
closed (Done p) sound = from_words p (stage_words (Done p)) [] sound
    (shape p.edition p.keys p.values p.reads p.writes p.body ∙ sym (append-nil (stage_words (Done p))))

front : (ls : List (List ℕ)) (s : Stage) → stages Nothing ls ≡ Some s → Front ls
front ls s e = let a = stages_add Nothing s ls e in subst Front a.0 (closed s (a.1 tt))

front_some : (ls : List (List ℕ)) → IsSome (stages Nothing ls) → Front ls
front_some ls some = from (stages Nothing ls) refl some
  where
    from : (o : Option Stage) → stages Nothing ls ≡ o → IsSome o → Front ls
    from None e h = absurd cc
    from (Some s) e h = front ls s e

pub bad_procedure_line : (lines : List (List ℕ)) (n : ℕ) → IsFirstFault lines n → IsFirstBadLine lines n
bad_procedure_line lines n h = record
    { counted = h.counted; within = h.within; before = front_some (take (n - 1) lines) h.before; bad = not_front (take n lines) h.at }

pub short_procedure : (text : List ℕ) → IsUnfinished text → IsShort text
short_procedure text h = record { begins = front (whole_lines text) h.state h.read; none = none }
  where
    none : (p : Procedure) → IsProcedure p → print_procedure p ≡ text → ⊥
    none p sound same =
        let lack : AllByRecursion (IsWithout 10) (map line_text (procedure_lines p)) = each_map AreWords (IsWithout 10) line_text
        (λ ws words. line_lacks ws words) (procedure_lines p) (lines_are_words p sound) in
        let read : stages Nothing (whole_lines text) ≡ Some (Done p) = ap (λ (t : List ℕ). stages Nothing (whole_lines t)) (sym same) ∙ text_stages p sound in
        let stage : h.state ≡ Done p = same_Some h.state (Done p) (sym h.read ∙ read) in
        h.unfinished p stage (ap text_of (ap whole_lines (sym same) ∙ lines_again (map line_text (procedure_lines p)) lack) ∙ same)

of_done : (text : List ℕ) (place : ParamPlace) (e : Edition) (ks vs : Words) (d : Drafted) → place ≡ places.Done
    → stages Nothing (whole_lines text) ≡ Some (stage_at place e ks vs d) → text_of (whole_lines text) ≡ text → IsReadyAt place e vs d
    → IsProcedure (procedure_with d.txn ks vs) × (print_procedure (procedure_with d.txn ks vs) ≡ text) × (d.txn.edition ≡ e) × HasLets vs d × IsBetween d
of_done text places.Keys e ks vs d at read whole ready = absurd cc
of_done text places.Values e ks vs d at read whole ready = absurd cc
of_done text places.Reading e ks vs d at read whole ready = absurd cc
of_done text places.Body e ks vs d at read whole ready = absurd cc
of_done text places.Done e ks vs d at read whole ready =
    let same : Done (record
    { edition = e; keys = ks; values = vs; reads = d.txn.reads; writes = d.txn.writes; body = drop (length vs) d.txn.body })
    ≡ Done (procedure_with d.txn ks vs) =
    λ i. Done (record { edition = sym ready.1 i; keys = ks; values = vs; reads = d.txn.reads; writes = d.txn.writes; body = drop (length vs) d.txn.body }) in
    let p = procedure_found text (procedure_with d.txn ks vs) (read ∙ ap Some same) whole in
    (p.0, p.1, ready.1, ready.2, ready.0)

procedure_read : (text : List ℕ) (r : ProcedureReader) → IsRead text r → IsProcedureOf text r
procedure_read text r h =
    let p = of_done text r.place r.edition r.keys.items r.values.items r.draft h.done h.read h.whole h.ready in
    record { sound = p.0; text_is = p.1; edition = p.2; lets = p.3; whole = p.4 }

pub result_read : (text : List ℕ) (r : Result ProcedureReader TextFault) → Reads text r → IfOk r (IsProcedureOf text)
result_read text (Ok r) h = procedure_read text r h
result_read text (Err e) h = tt
