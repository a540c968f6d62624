-- Lines that are read are the lines of the stage that they lead to, and this stage is sound.
use Rattle.std.proofs.Common.{◌≡◌, ℕ, true, false, cond, List, [], ◌∷◌, ◌++◌, map, Some, None, refl, ap, sym, subst, ◌∙◌, inl, inr, append_assoc}
use Rattle.std.specs.Prelude.{codes}
use Rattle.std.specs.List.{AllByRecursion}
use Rattle.std.specs.Str.{bytes_eq}
use Rattle.std.proofs.lemmas.List.{map_push, append-nil}
use Rattle.std.proofs.lemmas.Option.{same_Some}
use Rattle.bohm_types.specs.Name.{key_of, is_name}
use Rattle.bohm_types.specs.Keys.{is_among}
use Rattle.bohm_types.specs.Sound.{IsName, IsStmt}
use Rattle.bohm_types.specs.declared.edition.Edition.{Edition}
use Rattle.bohm_types.specs.declared.edition.Edition.TheVariants.{One, Two}
use Rattle.bohm_types.specs.Procedure.{Procedure}
use Rattle.bohm_txn.proofs.ForCallers.{same_key}
use Rattle.bohm_text.specs.Print.{Words, line_text, text_of, stmt_words}
use Rattle.bohm_text.specs.Cut.{split, whole_lines}
use Rattle.bohm_text.specs.Reading.{◌>>=◌, keys_of, after, stmt_of}
use Rattle.bohm_text.specs.ProcedureText.{procedure_words, key_words, value_words, tail_lines, procedure_lines}
use Rattle.bohm_text.specs.ProcedureText.{print_procedure, all_new, are_declared, begin_body, IsProcedure, Stage}
use Rattle.bohm_text.specs.ProcedureText.{Nothing, Keys, Values, Reading, Body, Done, edition_of, one_name, one_more}
use Rattle.bohm_text.specs.ProcedureText.{reads_line, value_line, key_line, after_values, after_keys, stage_after}
use Rattle.bohm_text.specs.ProcedureText.{stages}
use Rattle.bohm_text.proofs.WordTakes.{bind_some, chosen, if_some}
use Rattle.bohm_text.proofs.Takes.{stmt_takes}
use Rattle.bohm_text.proofs.Sounds.{stmt_sound, set_sound}
use Rattle.bohm_text.proofs.StepTakes.{words_line, set_takes}
use Rattle.bohm_text.proofs.ProcedureAgain.{new_first}
use Rattle.bohm_log.proofs.ForCallers.{each_push}

-- the lines that lead to this stage, as words
abbrev pub stage_words : Stage → List Words
stage_words Nothing = []
stage_words (Keys e ks) = procedure_words e ∷ map key_words ks
stage_words (Values e ks vs) = procedure_words e ∷ (map key_words ks ++ map value_words vs)
stage_words (Reading e ks vs reads) = (procedure_words e ∷ (map key_words ks ++ map value_words vs)) ++ (codes "reads" ∷ reads) ∷ []
stage_words (Body e ks vs reads writes body) = (procedure_words e ∷ (map key_words ks ++ map value_words vs))
    ++ ((codes "reads" ∷ reads) ∷ (codes "writes" ∷ writes) ∷ map stmt_words body)
stage_words (Done p) = (procedure_words p.edition ∷ (map key_words p.keys ++ map value_words p.values)) ++ tail_lines p.reads p.writes p.body

-- the parameters are distinct names
pub record AreParams (ks vs : Words) : Type 0 where
  pub keys : AllByRecursion IsName ks
  pub values : AllByRecursion IsName vs
  pub apart_keys : all_new [] ks ≡ true
  pub apart_values : all_new ks vs ≡ true

abbrev pub IsSound : Stage → Type 0
IsSound Nothing = Unit {0}
IsSound (Keys e ks) = AreParams ks []
IsSound (Values e ks vs) = AreParams ks vs
IsSound (Reading e ks vs reads) = AreParams ks vs × AllByRecursion IsName reads
IsSound (Body e ks vs reads writes body) = AreParams ks vs × AllByRecursion IsName reads × AllByRecursion IsName writes
    × AllByRecursion IsStmt body × (are_declared ks reads writes ≡ true)
IsSound (Done p) = IsProcedure p

-- the line leads from stage p to stage q: q has one more line than p, and is sound if p is
record Adds (p q : Stage) (line : List ℕ) : Type 0 where
  words : Words
  text : line_text words ≡ line
  same : stage_words q ≡ stage_words p ++ words ∷ []
  kept : IsSound p → IsSound q

new_push : (before ks : Words) (k : List ℕ) → all_new before ks ≡ true → is_among (before ++ ks) k ≡ false → all_new before (ks ++ k ∷ []) ≡ true
new_push before [] k new fresh =
    let here : is_among before k ≡ false = ap (λ (xs : Words). is_among xs k) (sym (append-nil before)) ∙ fresh in
    rw here refl
new_push before (x ∷ ks) k new fresh =
    let n = new_first before x ks new in
    let on : is_among ((before ++ x ∷ []) ++ ks) k ≡ false = ap (λ (xs : Words). is_among xs k) (append_assoc before (x ∷ []) ks) ∙ fresh in
    rw (n.0, new_push (before ++ x ∷ []) ks k n.1 on) refl

name_given : (w k : List ℕ) → key_of w ≡ Some k → (w ≡ k) × IsName k
name_given w k e = let p = if_some (is_name w) (Some w) k e in let same : w ≡ k = same_Some w k p.1 in (same, subst (λ (x : List ℕ). is_name x ≡ true) same p.0)

one_given : (ws : Words) (k : List ℕ) → one_name ws ≡ Some k → (ws ≡ k ∷ []) × IsName k
one_given [] k e = absurd cc
one_given (w ∷ []) k e = let g = name_given w k e in (ap (λ x. x ∷ []) g.0, g.1)
one_given (w ∷ v ∷ ws) k e = absurd cc

was_new : (before : Words) (next q : Stage) (k : List ℕ) → one_more before next k ≡ Some q → (is_among before k ≡ false) × (next ≡ q)
was_new before next q k e =
    elim (chosen (is_among before k) None (Some next) (Some q) e) [
      | inl p ↦ absurd (let bad : None ≡ Some q = p.1 in cc)
      | inr p ↦ (p.0, same_Some next q p.1)
    ]

abbrev pub params : Edition → Words → Words → List Words
params e ks vs = procedure_words e ∷ (map key_words ks ++ map value_words vs)

key_adds : (e : Edition) (ks : Words) (q : Stage) (line : List ℕ) (w : List ℕ) (ws : Words) → split 32 line ≡ w ∷ ws → w ≡ codes "key"
    → key_line e ks ws ≡ Some q → Adds (Keys e ks) q line
key_adds e ks q line w ws at is h =
    let b = bind_some (one_name ws) (λ k. one_more ks (Keys e (ks ++ k ∷ [])) k) q h in
    let g = one_given ws b.0 b.1 in
    let n = was_new ks (Keys e (ks ++ b.0 ∷ [])) q b.0 b.2 in
    subst (λ (r : Stage). Adds (Keys e ks) r line) n.1 (record {
      words = key_words b.0;
      text = words_line line (key_words b.0) (at ∙ (λ i. is i ∷ g.0 i));
      same = ap (λ (r : List Words). procedure_words e ∷ r) (map_push key_words ks b.0);
      kept = λ s. record { keys = each_push IsName ks b.0 s.keys g.1; values = tt; apart_keys = new_push [] ks b.0 s.apart_keys n.0; apart_values = refl };
    })

value_adds : (e : Edition) (ks vs : Words) (q : Stage) (line : List ℕ) (w : List ℕ) (ws : Words) → split 32 line ≡ w ∷ ws → w ≡ codes "value"
    → value_line e ks vs ws ≡ Some q → Adds (Values e ks vs) q line
value_adds e ks vs q line w ws at is h =
    let b = bind_some (one_name ws) (λ x. one_more (ks ++ vs) (Values e ks (vs ++ x ∷ [])) x) q h in
    let g = one_given ws b.0 b.1 in
    let n = was_new (ks ++ vs) (Values e ks (vs ++ b.0 ∷ [])) q b.0 b.2 in
    let more : map key_words ks ++ map value_words (vs ++ b.0 ∷ []) ≡ (map key_words ks ++ map value_words vs) ++ value_words b.0 ∷ [] =
    ap (λ (r : List Words). map key_words ks ++ r) (map_push value_words vs b.0)
    ∙ sym (append_assoc (map key_words ks) (map value_words vs) (value_words b.0 ∷ [])) in
    subst (λ (r : Stage). Adds (Values e ks vs) r line) n.1 (record {
      words = value_words b.0;
      text = words_line line (value_words b.0) (at ∙ (λ i. is i ∷ g.0 i));
      same = ap (λ (r : List Words). procedure_words e ∷ r) more;
      kept = λ s. record {
        keys = s.keys;
        values = each_push IsName vs b.0 s.values g.1;
        apart_keys = s.apart_keys;
        apart_values = new_push ks vs
            b.0 s.apart_values n.0;
      };
    })

reads_adds : (e : Edition) (ks vs : Words) (q : Stage) (line : List ℕ) → reads_line e ks vs (split 32 line) ≡ Some q → Adds (Values e ks vs) q line
reads_adds e ks vs q line h =
    let b = bind_some (after (codes "reads") keys_of (split 32 line)) (λ reads. Some (Reading e ks vs reads)) q h in
    subst (λ (r : Stage). Adds (Values e ks vs) r line) (same_Some (Reading e ks vs b.0) q b.2) (record {
      words = codes "reads" ∷ b.0;
      text = set_takes (codes "reads") line b.0 b.1;
      same = refl;
      kept = λ s. (s, set_sound (codes "reads") (split 32 line) b.0 b.1);
    })

after_values_adds : (e : Edition) (ks vs : Words) (q : Stage) (line : List ℕ) (ws : Words) → split 32 line ≡ ws → after_values e ks vs ws ≡ Some q
    → Adds (Values e ks vs) q line
after_values_adds e ks vs q line [] at h = absurd cc
after_values_adds e ks vs q line (w ∷ ws) at h =
    elim (chosen (bytes_eq w (codes "value")) (value_line e ks vs ws) (reads_line e ks vs (w ∷ ws)) (Some q) h) [
      | inl p ↦ value_adds e ks vs q line w ws at (same_key w (codes "value") p.0) p.1
      | inr p ↦ reads_adds e ks vs q line (ap (reads_line e ks vs) at ∙ p.1)
    ]

-- a line that leads from `Values` without values to a stage leads there from `Keys`
from_keys : (e : Edition) (ks : Words) (q : Stage) (line : List ℕ) → Adds (Values e ks []) q line → Adds (Keys e ks) q line
from_keys e ks q line a = record {
  words = a.words;
  text = a.text;
  same = a.same ∙ ap (λ (r : List Words). (procedure_words e ∷ r) ++ a.words ∷ []) (append-nil (map key_words ks));
  kept = a.kept;
}

after_keys_adds : (e : Edition) (ks : Words) (q : Stage) (line : List ℕ) (ws : Words) → split 32 line ≡ ws → after_keys e ks ws ≡ Some q
    → Adds (Keys e ks) q line
after_keys_adds e ks q line [] at h = absurd cc
after_keys_adds e ks q line (w ∷ ws) at h =
    elim (chosen (bytes_eq w (codes "key")) (key_line e ks ws) (after_values e ks [] (w ∷ ws)) (Some q) h) [
      | inl p ↦ key_adds e ks q line w ws at (same_key w (codes "key") p.0) p.1
      | inr p ↦ from_keys e ks q line (after_values_adds e ks [] q line (w ∷ ws) at p.1)
    ]

edition_takes : (line : List ℕ) (e : Edition) → edition_of line ≡ Some e → line ≡ line_text (procedure_words e)
unfolding edition_of
edition_takes line e h =
    elim (chosen (bytes_eq line (codes "procedure 1")) (Some One) (cond (bytes_eq line (codes "procedure 2")) (Some Two) None) (Some e) h) [
      | inl p ↦ rw (← same_Some One e p.1) (same_key line (codes "procedure 1") p.0)
      | inr p ↦ let r = if_some (bytes_eq line (codes "procedure 2")) (Some Two) e p.1 in rw (← same_Some Two e r.1) (same_key line (codes "procedure 2") r.0)
    ]

stage_adds : (p q : Stage) (line : List ℕ) → stage_after p line ≡ Some q → Adds p q line
unfolding stage_after
stage_adds Nothing q line h =
    let b = bind_some (edition_of line) (λ e. Some (Keys e [])) q h in
    subst (λ (r : Stage). Adds Nothing r line) (same_Some (Keys b.0 []) q b.2)
    (record {
      words = procedure_words b.0;
      text = sym (edition_takes line b.0 b.1);
      same = refl;
      kept = λ s. record
          { keys = tt; values = tt; apart_keys = refl; apart_values = refl };
    })
stage_adds (Keys e ks) q line h = after_keys_adds e ks q line (split 32 line) refl h
stage_adds (Values e ks vs) q line h = after_values_adds e ks vs q line (split 32 line) refl h
stage_adds (Reading e ks vs reads) q line h =
    let b = bind_some (after (codes "writes") keys_of (split 32 line)) (λ writes. begin_body e ks vs reads writes) q h in
    let d = if_some (are_declared ks reads b.0) (Some (Body e ks vs reads b.0 [])) q b.2 in
    subst (λ (r : Stage). Adds (Reading e ks vs reads) r line) (same_Some (Body e ks vs reads b.0 []) q d.1) (record {
      words = codes "writes" ∷ b.0;
      text = set_takes (codes "writes") line b.0 b.1;
      same = sym (append_assoc (params e ks vs) ((codes "reads" ∷ reads) ∷ []) ((codes "writes" ∷ b.0) ∷ []));
      kept = λ s. (s.0, s.1, set_sound (codes "writes") (split 32 line) b.0 b.1, tt, d.0);
    })
stage_adds (Body e ks vs reads writes body) q line h =
    let done : Stage = Done (record { edition = e; keys = ks; values = vs; reads = reads; writes = writes; body = body }) in
    elim (chosen (bytes_eq line (codes "end")) (Some done) (stmt_of (split 32 line) >>= λ s. Some (Body e ks vs reads writes (body ++ s ∷ []))) (Some q) h) [
      | inl p ↦ subst (λ (r : Stage). Adds (Body e ks vs reads writes body) r line) (same_Some done q p.1) (record {
        words = codes "end" ∷ [];
        text = sym (same_key line (codes "end") p.0);
        same = sym (append_assoc (params e ks vs) ((codes "reads" ∷ reads) ∷ (codes "writes" ∷ writes) ∷ map stmt_words body) ((codes "end" ∷ []) ∷ []));
        kept = λ s. record {
          keys = s.0.keys;
          values = s.0.values;
          apart_keys = s.0.apart_keys;
          apart_values = s.0.apart_values;
          reads = s.1;
          writes = s.2;
          body = s.3;
          declared = s.4;
        };
      })
      | inr p ↦
          let b = bind_some (stmt_of (split 32 line)) (λ s. Some (Body e ks vs reads writes (body ++ s ∷ []))) q p.1 in
          subst (λ (r : Stage). Adds (Body e ks vs reads writes body) r line) (same_Some (Body e ks vs reads writes (body ++ b.0 ∷ [])) q b.2) (record {
            words = stmt_words b.0;
            text = words_line line (stmt_words b.0) (stmt_takes (split 32 line) b.0 b.1);
            same = ap (λ (r : List Words). params e ks vs ++ ((codes "reads" ∷ reads) ∷ (codes "writes" ∷ writes) ∷ r))
                (map_push stmt_words body b.0)
                ∙ sym (append_assoc (params e ks vs) ((codes "reads" ∷ reads) ∷ (codes "writes" ∷ writes) ∷ map stmt_words body)
                (stmt_words b.0 ∷ []));
            kept = λ s. (s.0, s.1, s.2, each_push IsStmt body b.0 s.3 (stmt_sound (split 32 line) b.0 b.1), s.4);
          })
    ]
stage_adds (Done p) q line h = absurd cc

pub stages_add : (p q : Stage) (lines : List (List ℕ)) → stages p lines ≡ Some q
    → (map line_text (stage_words q) ≡ map line_text (stage_words p) ++ lines) × (IsSound p → IsSound q)
stages_add p q [] h =
    let same : p ≡ q = same_Some p q h in (
      ap (λ (r : Stage). map line_text (stage_words r)) (sym same)
          ∙ sym (append-nil (map line_text (stage_words p))),
      λ s. subst (λ (r : Stage). IsSound r) same s,
    )
stages_add p q (line ∷ lines) h =
    let b = bind_some (stage_after p line) (λ next. stages next lines) q h in
    let a : Adds p b.0 line = stage_adds p b.0 line b.1 in
    let rest = stages_add b.0 q lines b.2 in
    let here : map line_text (stage_words b.0) ≡ map line_text (stage_words p) ++ line ∷ [] = ap (map line_text) a.same
    ∙ map_push line_text (stage_words p) a.words ∙ ap (λ (l : List ℕ). map line_text (stage_words p) ++ l ∷ []) a.text in
    (rest.0 ∙ ap (λ (r : List (List ℕ)). r ++ lines) here ∙ append_assoc (map line_text (stage_words p)) (line ∷ []) lines, λ s. rest.1 (a.kept s))

-- a text whose lines are read as a procedure is the text of this procedure, which is valid
pub procedure_found : (text : List ℕ) (p : Procedure) → stages Nothing (whole_lines text) ≡ Some (Done p) → text_of (whole_lines text) ≡ text
    → IsProcedure p × (print_procedure p ≡ text)
procedure_found text p h whole =
    let a = stages_add Nothing (Done p) (whole_lines text) h in
    let words : procedure_lines p ≡ stage_words (Done p) = ap (λ (r : List Words). procedure_words p.edition ∷ r)
    (sym (append_assoc (map key_words p.keys) (map value_words p.values) (tail_lines p.reads p.writes p.body))) in
    (a.1 tt, ap text_of (ap (map line_text) words ∙ a.0) ∙ whole)
