-- A text that is refused is no entry, and a text has one first line at most.
use Rattle.std.proofs.Common.{◌≡◌, ◌≢◌, ◌⊎◌, inl, inr, ℕ, ◌+◌, List, [], ◌∷◌, ◌++◌, Some, None, length, drop, take, refl, IsSome, ap, sym, subst, ◌∙◌, arith}
use Rattle.std.proofs.lemmas.List.{take-append-drop}
use Rattle.std.proofs.lemmas.Option.{same_Some}
use Rattle.std.specs.Prelude.{Option, codes, map}
use Rattle.bohm_types.specs.Document.{Document}
use Rattle.bohm_types.specs.declared.edition.Edition.{Edition}
use Rattle.bohm_types.specs.Procedure.{Procedure}
use Rattle.bohm_types.specs.Sound.{IsDocument}
use Rattle.bohm_txn.specs.Faulty.{IsFirstFault, WellFormed}
use Rattle.bohm_text.specs.Cut.{split, whole_lines}
use Rattle.bohm_text.specs.Faults.{IsFirstBadLine}
use Rattle.bohm_text.specs.Print.{Words, line_text, print_doc}
use Rattle.bohm_text.specs.ProcedureFaults as procedures
use Rattle.bohm_text.specs.ProcedureText.{IsProcedure, procedure_lines, print_procedure}
use Rattle.bohm_text.proofs.ForCallers.{document_not_bad, lines_of_procedure, one_text}
use Rattle.bohm_procedures.specs.Accepting.{IsAccepted, own}
use Rattle.bohm_entries.specs.declared.first_line.Kind.{Kind}
use Rattle.bohm_entries.specs.declared.first_line.Kind.TheVariants as kinds
use Rattle.bohm_entries.specs.declared.refusal.Refusal.{Refusal}
use Rattle.bohm_entries.specs.declared.refusal.Refusal.TheVariants as refusal_is
use Rattle.bohm_entries.specs.Batches.{Defined, behind_id, behind_kind, behind_opening, id_ahead}
use Rattle.bohm_entries.specs.FirstLines.{IsRest, line_words, word_of}
use Rattle.bohm_entries.specs.Meaning.{Definitions, defined}
use Rattle.bohm_entries.specs.Refusals.{Calls, IsCalled, IsDefinition, IsEntry, IsHead, IsHeadless, IsMiscalled, IsOfAnother, IsLarge, IsRefusedBehind, IsTransaction, Refuses, RefusesArguments, RefusesCall, RefusesDefinition, RefusesKind, RefusesTransaction, Says}
use Rattle.bohm_entries.proofs.ByKind.{id_read, words_behind}
use Rattle.bohm_entries.proofs.Reading.{procedure_read}

-- ---- one first line

kind_size : Kind → ℕ
kind_size k = length (word_of k)

same_kind : (k j : Kind) → word_of k ≡ word_of j → k ≡ j
same_kind kinds.Define kinds.Define h = refl
same_kind kinds.Define kinds.Call h = absurd (omega (arith, ap length h))
same_kind kinds.Define kinds.Transaction h = absurd (omega (arith, ap length h))
same_kind kinds.Call kinds.Define h = absurd (omega (arith, ap length h))
same_kind kinds.Call kinds.Call h = refl
same_kind kinds.Call kinds.Transaction h = absurd (omega (arith, ap length h))
same_kind kinds.Transaction kinds.Define h = absurd (omega (arith, ap length h))
same_kind kinds.Transaction kinds.Call h = absurd (omega (arith, ap length h))
same_kind kinds.Transaction kinds.Transaction h = refl

first_word : Words → List ℕ
first_word [] = []
first_word (w ∷ ws) = w

kind_first : (k : Kind) (i : Option (List ℕ)) (rest : Words) → first_word (line_words k i rest) ≡ word_of k
unfolding first_word
kind_first k None rest = refl
kind_first k (Some id) rest = refl

rest_read : (k : Kind) (i : Option (List ℕ)) (rest : Words) → IsRest i rest → behind_id (behind_kind (line_words k i rest)) ≡ rest
rest_read k None rest h = words_behind rest h
rest_read k (Some id) rest h = refl

-- what the first line of a text says
pub record IsSame (k j : Kind) (i h : Option (List ℕ)) (one other : Words) (ls others : List ℕ) : Type 0 where
  pub kind : k ≡ j
  pub id : i ≡ h
  pub rest : one ≡ other
  pub lines : ls ≡ others

lines_behind : (line other lines others : List ℕ) → line ≡ other → line ++ 10 ∷ lines ≡ other ++ 10 ∷ others → lines ≡ others
lines_behind line other lines others same h = cancelled line lines others (h ∙ ap (λ (l : List ℕ). l ++ 10 ∷ others) (sym same))
  where
    cancelled : (front one two : List ℕ) → front ++ 10 ∷ one ≡ front ++ 10 ∷ two → one ≡ two
    cancelled [] one two h = cc
    cancelled (b ∷ front) one two h = cancelled front one two cc

-- the first line of an entry, and the words that were read of it
pub read_alike : (text line others : List ℕ) (k j : Kind) (i h : Option (List ℕ)) (rest words : Words) (lines : List ℕ) → IsHead text k i rest lines
    → text ≡ line ++ 10 ∷ others → whole_lines text ≡ line ∷ whole_lines others → split 32 line ≡ line_words j h words → IsRest h words
    → IsSame k j i h rest words lines others
read_alike text line others k j i h rest words lines head begins first read marked =
    let firsts : head.line ∷ whole_lines lines ≡ line ∷ whole_lines others = sym head.first ∙ first in
    let is : head.line ≡ line = cc in
    let same : line_words k i rest ≡ line_words j h words = sym head.words ∙ (ap (split 32) is ∙ read) in
    record {
      kind = same_kind k j (sym (kind_first k i rest) ∙ (ap first_word same ∙ kind_first j h words));
      id = sym (id_read k i rest head.marked) ∙ (ap (λ ws. id_ahead (behind_kind ws)) same ∙ id_read j h words marked);
      rest = sym (rest_read k i rest head.marked) ∙ (ap (λ ws. behind_id (behind_kind ws)) same ∙ rest_read j h words marked);
      lines = lines_behind head.line line lines others is (sym head.begins ∙ begins);
    }

pub one_head : (text : List ℕ) (k j : Kind) (i h : Option (List ℕ)) (rest words : Words) (lines others : List ℕ) → IsHead text k i rest lines
    → IsHead text j h words others → IsSame k j i h rest words lines others
one_head text k j i h rest words lines others one two = read_alike text two.line others k j i h rest words lines one two.begins two.first two.words two.marked

-- a text without a line has no first one
pub no_line : (text : List ℕ) → whole_lines text ≡ [] → IsHeadless text
no_line text none kind id rest lines head = let h : [] ≡ head.line ∷ whole_lines lines = sym none ∙ head.first in absurd cc

-- a first line that wasn't read
pub no_first_line : (text line : List ℕ) (others : List (List ℕ)) → whole_lines text ≡ line ∷ others
    → ((k : Kind) (i : Option (List ℕ)) (words : Words) → IsRest i words → ¬ (split 32 line ≡ line_words k i words)) → IsHeadless text
no_first_line text line others first unread kind id rest lines head =
    let firsts : head.line ∷ whole_lines lines ≡ line ∷ others = sym head.first ∙ first in
    let is : head.line ≡ line = cc in
    unread kind id rest head.marked (ap (split 32) (sym is) ∙ head.words)

-- ---- what is refused isn't said

procedure_not_bad : (p : Procedure) (text : List ℕ) (n : ℕ) → IsProcedure p → print_procedure p ≡ text → procedures.IsFirstBadLine (whole_lines text) n → ⊥
procedure_not_bad p text n sound print bad =
    let lines : whole_lines text ≡ map line_text (procedure_lines p) = ap whole_lines (sym print) ∙ lines_of_procedure p sound in
    bad.bad (record {
      procedure = p;
      sound = sound;
      more = drop n (whole_lines text);
      begins = sym lines ∙ sym (take-append-drop n (whole_lines text));
    })

one_procedure : (p q : Procedure) (text : List ℕ) → IsProcedure p → IsProcedure q → print_procedure p ≡ text → print_procedure q ≡ text → p ≡ q
one_procedure p q text sound_p sound_q print_p print_q = same_Some p q (sym (procedure_read text p sound_p print_p) ∙ procedure_read text q sound_q print_q)

definition_not_refused : (e : Edition) (text : List ℕ) (r : Refusal) → IsDefinition e text → RefusesDefinition e text r → ⊥
definition_not_refused e text (refusal_is.Line n) is (inl bad) = procedure_not_bad is.procedure text n is.sound is.print bad
definition_not_refused e text (refusal_is.Line n) is (inr another) =
    let other = another.1 in
    other.other (ap (λ (p : Procedure). p.edition) (one_procedure other.procedure is.procedure text other.sound is.sound other.print is.print) ∙ is.same)
definition_not_refused e text refusal_is.Short is short = short.none is.procedure is.sound is.print
definition_not_refused e text (refusal_is.Check f) is faulty =
    let same = one_procedure is.procedure faulty.procedure text is.sound faulty.sound is.print faulty.text_is in
    (subst IsAccepted same is.accepted).own f.txn f.stmt f.kind faulty.fault.faulty_there
definition_not_refused e text refusal_is.Shape is why = why
definition_not_refused e text refusal_is.Procedure is why = why
definition_not_refused e text refusal_is.Arguments is why = why
definition_not_refused e text refusal_is.Value is why = why
definition_not_refused e text refusal_is.Key is why = why
definition_not_refused e text refusal_is.Id is why = why
definition_not_refused e text refusal_is.Large is why = why

one_document : (d c : Document) (text : List ℕ) → IsDocument d → IsDocument c → print_doc d ≡ text → print_doc c ≡ text → d ≡ c
one_document d c text sound_d sound_c print_d print_c = one_text d c sound_d sound_c (print_d ∙ sym print_c)

transaction_not_refused : (e : Edition) (lines : List ℕ) (r : Refusal) → IsTransaction e lines → RefusesTransaction e lines r → ⊥
transaction_not_refused e lines refusal_is.Shape is several =
    let same = one_document is.document several.document (behind_opening e lines) is.sound several.sound is.print several.print in
    several.several (ap (λ (d : Document). length d.log) (sym same) ∙ is.one)
transaction_not_refused e lines (refusal_is.Line n) is bad =
    document_not_bad is.document (n + 1) is.sound (subst (λ (t : List ℕ). IsFirstBadLine (whole_lines t) (n + 1)) (sym is.print) bad)
transaction_not_refused e lines refusal_is.Short is short = short.none is.document is.sound is.print
transaction_not_refused e lines (refusal_is.Check f) is faulty =
    let same = one_document is.document faulty.document (behind_opening e lines) is.sound faulty.sound is.print faulty.print in
    (subst WellFormed same is.well_formed) f.txn f.stmt f.kind faulty.first.faulty_there
transaction_not_refused e lines refusal_is.Procedure is why = why
transaction_not_refused e lines refusal_is.Arguments is why = why
transaction_not_refused e lines refusal_is.Value is why = why
transaction_not_refused e lines refusal_is.Key is why = why
transaction_not_refused e lines refusal_is.Id is why = why
transaction_not_refused e lines refusal_is.Large is why = why

none_some : {A : Type 0} (o : Option A) → IsSome o → o ≡ None → ⊥
none_some None some h = absurd cc
none_some (Some x) some h = absurd cc

-- arguments for one procedure
miscalled : (ds : Definitions) (name : List ℕ) (words : Words) (r : Refusal) → IsCalled ds name words → IsMiscalled ds name words r → ⊥
miscalled ds name words r is mis =
    let same : mis.procedure ≡ is.procedure = same_Some mis.procedure is.procedure (sym mis.known ∙ is.known) in
    arguments_taken r (subst (λ (p : Procedure). RefusesArguments words (length p.keys) (length p.values) r) same mis.why)
  where
    arguments_taken : (r : Refusal) → RefusesArguments words (length is.procedure.keys) (length is.procedure.values) r → ⊥
    arguments_taken refusal_is.Arguments why = why is.count
    arguments_taken refusal_is.Value why = none_some _ is.values why.1
    arguments_taken refusal_is.Key why = none_some _ is.keys why.2
    arguments_taken refusal_is.Shape why = why
    arguments_taken (refusal_is.Line n) why = why
    arguments_taken refusal_is.Short why = why
    arguments_taken (refusal_is.Check f) why = why
    arguments_taken refusal_is.Procedure why = why
    arguments_taken refusal_is.Id why = why
    arguments_taken refusal_is.Large why = why

unknown : (ds : Definitions) (name : List ℕ) (words : Words) → IsCalled ds name words → defined ds name ≡ None → ⊥
unknown ds name words is none = absurd (let h : Some is.procedure ≡ None = sym is.known ∙ none in cc)

call_not_refused : (ds : Definitions) (words : Words) (r : Refusal) → Calls ds words → RefusesCall ds words r → ⊥
call_not_refused ds [] r is why = is
call_not_refused ds (name ∷ words) refusal_is.Procedure is none = unknown ds name words is none
call_not_refused ds (name ∷ words) refusal_is.Arguments is why = miscalled ds name words refusal_is.Arguments is why
call_not_refused ds (name ∷ words) refusal_is.Value is why = miscalled ds name words refusal_is.Value is why
call_not_refused ds (name ∷ words) refusal_is.Key is why = miscalled ds name words refusal_is.Key is why
call_not_refused ds (name ∷ words) refusal_is.Shape is why = miscalled ds name words refusal_is.Shape is why
call_not_refused ds (name ∷ words) (refusal_is.Line n) is why = miscalled ds name words (refusal_is.Line n) is why
call_not_refused ds (name ∷ words) refusal_is.Short is why = miscalled ds name words refusal_is.Short is why
call_not_refused ds (name ∷ words) (refusal_is.Check f) is why = miscalled ds name words (refusal_is.Check f) is why
call_not_refused ds (name ∷ words) refusal_is.Id is why = miscalled ds name words refusal_is.Id is why
call_not_refused ds (name ∷ words) refusal_is.Large is why = miscalled ds name words refusal_is.Large is why

pub not_refused : (d : Defined) (kind : Kind) (rest : Words) (lines : List ℕ) (r : Refusal) → Says d kind rest lines → RefusesKind d kind rest lines r → ⊥
not_refused d kinds.Define rest lines r is why = definition_not_refused d.edition lines r is why
not_refused d kinds.Call rest lines r is why = call_not_refused d.procedures rest r is why
not_refused d kinds.Transaction rest lines r is why = transaction_not_refused d.edition lines r is why

pub said_alike : (d : Defined) (k j : Kind) (rest words : Words) (lines others : List ℕ) → k ≡ j → rest ≡ words → lines ≡ others → Says d j words others → Says d k rest lines
said_alike d k j rest words lines others kind same behind says =
    subst (λ (t : Kind). Says d t rest lines) (sym kind)
    (subst (λ (ws : Words). Says d j ws lines) (sym same) (subst (λ (ls : List ℕ). Says d j words ls) (sym behind) says))

behind_not_entry : (d : Defined) (text : List ℕ) (r : Refusal) → IsRefusedBehind d text r → IsEntry d text → ⊥
behind_not_entry d text r b is =
    let same = one_head text b.kind is.kind b.id is.id b.rest is.rest b.lines is.lines b.head is.head in
    not_refused d b.kind b.rest b.lines r (said_alike d b.kind is.kind b.rest is.rest b.lines is.lines same.kind same.rest same.lines is.says) b.why

-- nothing that is an entry is refused
pub entry_not_refused : (d : Defined) (text : List ℕ) (r : Refusal) → Refuses d text r → ¬ IsEntry d text
entry_not_refused d text refusal_is.Shape (inl headless) is = headless is.kind is.id is.rest is.lines is.head
entry_not_refused d text refusal_is.Shape (inr (inl several)) is = several is.one
entry_not_refused d text refusal_is.Shape (inr (inr behind)) is = behind_not_entry d text refusal_is.Shape behind is
entry_not_refused d text refusal_is.Large large is =
    let same = one_head text large.kind is.kind large.id is.id large.rest is.rest large.lines is.lines large.head is.head in
    is.small (subst (IsLarge text) same.id large.large)
entry_not_refused d text refusal_is.Id why is = why
entry_not_refused d text (refusal_is.Line n) behind is = behind_not_entry d text (refusal_is.Line n) behind is
entry_not_refused d text refusal_is.Short behind is = behind_not_entry d text refusal_is.Short behind is
entry_not_refused d text (refusal_is.Check f) behind is = behind_not_entry d text (refusal_is.Check f) behind is
entry_not_refused d text refusal_is.Procedure behind is = behind_not_entry d text refusal_is.Procedure behind is
entry_not_refused d text refusal_is.Arguments behind is = behind_not_entry d text refusal_is.Arguments behind is
entry_not_refused d text refusal_is.Value behind is = behind_not_entry d text refusal_is.Value behind is
entry_not_refused d text refusal_is.Key behind is = behind_not_entry d text refusal_is.Key behind is
