-- No two documents have the same text, and the first line that the reader refuses is a text's first bad line.
use Rattle.std.proofs.Common.{◌≡◌, ℕ, ◌-◌, true, false, List, [], ◌∷◌, take, Some, None, refl, ap, sym, subst, ◌∙◌, arith, append_assoc}
use Rattle.std.specs.Prelude.{Option, codes, IsSome, ◌==◌}
use Rattle.std.specs.List.{list_all, AllByRecursion}
use Rattle.std.proofs.lemmas.List.{append-nil}
use Rattle.std.proofs.lemmas.Option.{same_Some}
use Rattle.bohm_types.specs.Document.{Document, in_edition, document_of}
use Rattle.bohm_types.specs.Stmt.{Stmt}
use Rattle.bohm_types.specs.Txn.{Txn}
use Rattle.bohm_types.specs.declared.edition.Edition.{Edition}
use Rattle.bohm_types.specs.declared.edition.Edition.TheVariants.{One}
use Rattle.bohm_text.specs.Print.{Words, line_text, spaced, text_of, doc_lines, print_doc}
use Rattle.bohm_text.specs.Cut.{whole_lines}
use Rattle.bohm_types.specs.Sound.{IsName, IsStmt, IsTxn, IsDocument}
use Rattle.bohm_text.specs.Step.{Progress, Nothing, Between, Opened, Reading, Body, with_txn, step, steps}
use Rattle.bohm_text.specs.Front.{text_lines, Front}
use Rattle.bohm_text.specs.Faults.{IsFirstBadLine, IsShort}
use Rattle.bohm_text.specs.Parse.{IsFirstFault, IsUnfinished}
use Rattle.bohm_text.proofs.Cutting.{IsWithout, lines_again}
use Rattle.bohm_text.proofs.WordLaws.{IsLine, doc_are_lines, IsWord, word_lacks}
use Rattle.bohm_text.proofs.Stepping.{none_after}
use Rattle.bohm_text.proofs.StepTakes.{progress_lines, steps_add, txn_adds}
use Rattle.bohm_text.proofs.StepAgain.{document_steps}
use Rattle.bohm_text.proofs.Sounds.{IsSound, steps_sound}
use Rattle.bohm_log.proofs.ForCallers.{each_map, each_append, same_self}

-- ---- no line has a newline

pub spaced_lacks : (ws : Words) → AllByRecursion IsWord ws → IsWithout 10 (spaced ws)
spaced_lacks [] words = tt
spaced_lacks (w ∷ ws) words = (refl, each_append (λ b. b == 10 ≡ false) w (spaced ws) (word_lacks 10 w (omega arith) words.0) (spaced_lacks ws words.1))

pub line_lacks : (ws : Words) → AllByRecursion IsWord ws → IsWithout 10 (line_text ws)
line_lacks [] words = tt
line_lacks (w ∷ ws) words = each_append (λ b. b == 10 ≡ false) w (spaced ws) (word_lacks 10 w (omega arith) words.0) (spaced_lacks ws words.1)

pub lines_lack : (d : Document) → IsDocument d → AllByRecursion (IsWithout 10) (text_lines d)
lines_lack d sound = each_map IsLine (IsWithout 10) line_text (λ ws line. line_lacks ws line.1) (doc_lines d) (doc_are_lines d sound)

pub lines_of_text : (d : Document) → IsDocument d → whole_lines (print_doc d) ≡ text_lines d
lines_of_text d sound = lines_again (text_lines d) (lines_lack d sound)

-- ---- no two documents have the same text

pub text_steps : (d : Document) → IsDocument d → steps Nothing (whole_lines (print_doc d)) ≡ Some (Between d)
text_steps d sound = ap (steps Nothing) (lines_of_text d sound) ∙ document_steps d sound

pub same_document : (d e : Document) → Between d ≡ Between e → d ≡ e
same_document d e h = cc

pub one_text : (d e : Document) → IsDocument d → IsDocument e → print_doc d ≡ print_doc e → d ≡ e
one_text d e sound_d sound_e same =
    let read : Between d ≡ Between e = same_Some (Between d) (Between e)
    (sym (text_steps d sound_d) ∙ (ap (λ (t : List ℕ). steps Nothing (whole_lines t)) same ∙ text_steps e sound_e)) in
    same_document d e read

-- ---- lines that begin a document

pub not_front : (ls : List (List ℕ)) → steps Nothing ls ≡ None → Front ls → ⊥
not_front ls none front = none_after step Nothing ls front.more (Between front.document) none
    (ap (steps Nothing) (sym front.begins) ∙ document_steps front.document front.sound)

open_txn : (d : Document) (reads writes : List (List ℕ)) (body : List Stmt) → IsDocument d → AllByRecursion IsName reads → AllByRecursion IsName writes
    → AllByRecursion IsStmt body → IsDocument (with_txn d reads writes body)
open_txn d reads writes body sound names_r names_w stmts =
    record {
      store = sound.store;
      log = each_append (IsTxn d.edition) d.log
          ((record { edition = d.edition; reads = reads; writes = writes; body = body }) ∷ []) sound.log
          (record { same = refl; reads = names_r; writes = names_w; body = stmts }, tt);
    }

closed : (p : Progress) → IsSound p → Front (progress_lines p)
closed Nothing sound = record {
  document = record { edition = One; store = []; log = [] };
  sound = record { store = tt; log = tt };
  more = text_lines (record { edition = One; store = []; log = [] });
  begins = refl;
}
closed (Between d) sound = record { document = d; sound = sound; more = []; begins = sym (append-nil (text_lines d)) }
closed (Opened d) sound = record {
  document = (with_txn d [] [] []);
  sound = open_txn d [] [] [] sound tt tt tt;
  more = line_text (codes "reads" ∷ []) ∷ line_text (codes "writes" ∷ []) ∷ codes "end" ∷ [];
  begins = txn_adds d [] [] [] ∙ (append_assoc (text_lines d) (codes "txn" ∷ line_text (codes "reads" ∷ []) ∷ line_text (codes "writes" ∷ []) ∷ [])
      (codes "end" ∷ []) ∙ sym (append_assoc (text_lines d) (codes "txn" ∷ [])
      (line_text (codes "reads" ∷ []) ∷ line_text (codes "writes" ∷ []) ∷ codes "end" ∷ [])));
}
closed (Reading d reads) sound = record {
  document = (with_txn d reads [] []);
  sound = open_txn d reads [] [] sound.0 sound.1 tt tt;
  more = line_text (codes "writes" ∷ []) ∷ codes "end" ∷ [];
  begins = txn_adds d reads [] [] ∙ (append_assoc (text_lines d) (codes "txn" ∷ line_text (codes "reads" ∷ reads) ∷ line_text (codes "writes" ∷ []) ∷ [])
      (codes "end" ∷ []) ∙ sym (append_assoc (text_lines d) (codes "txn" ∷ line_text (codes "reads" ∷ reads) ∷ [])
      (line_text (codes "writes" ∷ []) ∷ codes "end" ∷ [])));
}
closed (Body d reads writes body) sound = record {
  document = (with_txn d reads writes body);
  sound = open_txn d reads writes body sound.0 sound.1 sound.2 sound.3;
  more = codes "end" ∷ [];
  begins = txn_adds d reads writes body;
}

pub front : (ls : List (List ℕ)) (p : Progress) → steps Nothing ls ≡ Some p → Front ls
front ls p e = subst Front (steps_add Nothing p ls e) (closed p (steps_sound Nothing p ls tt e))

pub front_some : (ls : List (List ℕ)) → IsSome (steps Nothing ls) → Front ls
front_some ls some = from (steps Nothing ls) refl some
  where
    from : (o : Option Progress) → steps Nothing ls ≡ o → IsSome o → Front ls
    from None e h = absurd cc
    from (Some p) e h = front ls p e

-- ---- whole texts

pub found : (text : List ℕ) (d : Document) → steps Nothing (whole_lines text) ≡ Some (Between d) → text_of (whole_lines text) ≡ text
    → IsDocument d × (print_doc d ≡ text)
found text d e whole = (steps_sound Nothing (Between d) (whole_lines text) tt e, ap text_of (steps_add Nothing (Between d) (whole_lines text) e) ∙ whole)

pub unfinished : (text : List ℕ) → IsUnfinished text → (d : Document) → IsDocument d → print_doc d ≡ text → ⊥
unfinished text h d sound same =
    let read : steps Nothing (whole_lines text) ≡ Some (Between d) = ap (λ (t : List ℕ). steps Nothing (whole_lines t)) (sym same) ∙ text_steps d sound in
    let progress : h.state ≡ Between d = same_Some h.state (Between d) (sym h.read ∙ read) in
    h.unfinished d progress (ap text_of (ap whole_lines (sym same) ∙ lines_again (text_lines d) (lines_lack d sound)) ∙ same)

pub in_one_edition : (e : Edition) (log : List Txn) → AllByRecursion (IsTxn e) log → list_all (in_edition e) log ≡ true
in_one_edition e [] sound = refl
in_one_edition e (t ∷ ts) sound = rw (sound.0.same, same_self e) (in_one_edition e ts sound.1)

pub is_document : (d : Document) → IsDocument d → document_of d.edition d.store d.log ≡ Some d
is_document d sound = rw (in_one_edition d.edition d.log sound.log) refl

pub bad_line : (lines : List (List ℕ)) (n : ℕ) → IsFirstFault lines n → IsFirstBadLine lines n
bad_line lines n h = record { counted = h.counted; within = h.within; before = front_some (take (n - 1) lines) h.before; bad = not_front (take n lines) h.at }

pub short : (text : List ℕ) → IsUnfinished text → IsShort text
short text h = record { begins = front (whole_lines text) h.state h.read; none = unfinished text h }
