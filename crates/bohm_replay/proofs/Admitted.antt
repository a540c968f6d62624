-- What is one entry, and what a batch of entries is after its first.
use Rattle.std.proofs.Common.{◌≡◌, ◌⊎◌, inl, inr, Some, None, IsSome, true, false, ℕ, zero, suc, ◌^◌, ◌≤◌, List, [], ◌∷◌, ◌++◌, length, length-append, refl, ap, sym, subst, ◌∙◌, arith}
use Rattle.std.proofs.lemmas.List.{append-nil, append_cancel_left, nil_from_length}
use Rattle.std.specs.Prelude.{Option}
use Rattle.std.specs.List.{list_all}
use Rattle.bohm_types.specs.declared.edition.Edition.{Edition}
use Rattle.bohm_types.specs.Procedure.{Procedure}
use Rattle.bohm_text.specs.Cut.{split, whole_lines}
use Rattle.bohm_text.specs.Print.{Words, text_of}
use Rattle.bohm_text.specs.Windowing.{IsWhole}
use Rattle.bohm_entries.specs.declared.first_line.Kind.{Kind}
use Rattle.bohm_entries.specs.declared.first_line.Kind.TheVariants as kinds
use Rattle.bohm_entries.specs.declared.refusal.Refusal.{Refusal}
use Rattle.bohm_entries.specs.declared.refusal.Refusal.TheVariants as refusal_is
use Rattle.bohm_entries.specs.Batches.{Defined, defined_after, entries_of, named}
use Rattle.bohm_entries.specs.FirstLines.{IsRest, line_words}
use Rattle.bohm_entries.specs.Meaning.{Definitions, defined}
use Rattle.bohm_entries.specs.Refusals.{Calls, HasForm, IsDefinition, IsEntry, IsHeadless, IsOne, IsRefusedBehind, Refuses, RefusesArguments, RefusesCall, RefusesDefinition, RefusesKind, Says, is_word}
use Rattle.bohm_entries.proofs.ForCallers.{not_refused, read_alike, said_alike}
use Rattle.bohm_replay.specs.Entries.{AreEntries, IsBatch, entries_text, room_after}
use Rattle.bohm_replay.proofs.Stepping.{alone}

-- a text that is cut behind its only entry
pub one_cut : (text entry rest : List ℕ) → text ≡ entry ++ rest → rest ≡ [] → IsWhole entry → entries_of text ≡ whole_lines entry ∷ entries_of rest → IsOne text
one_cut text entry rest bytes none whole entries =
    let same : text ≡ entry = bytes ∙ (ap (λ (r : List ℕ). entry ++ r) none ∙ append-nil entry) in
    record { whole = subst IsWhole (sym same) whole; entry = alone text entry rest bytes none entries }

pub nothing_behind : (text entry rest : List ℕ) → text ≡ entry ++ rest → IsWhole entry → entries_of text ≡ whole_lines entry ∷ entries_of rest → IsOne text → rest ≡ []
nothing_behind text entry rest bytes whole entries one =
    let firsts : whole_lines entry ∷ entries_of rest ≡ whole_lines text ∷ [] = sym entries ∙ one.entry in
    let lines : whole_lines entry ≡ whole_lines text = cc in
    let same : entry ≡ text = sym whole ∙ (ap text_of lines ∙ one.whole) in
    nil_from_length rest (omega (arith, ap length same, ap length bytes, length-append entry rest))

pub none_cut : (text : List ℕ) → entries_of text ≡ [] → IsOne text → ⊥
none_cut text none one = let h : [] ≡ whole_lines text ∷ [] = sym none ∙ one.entry in absurd cc

module _ (d : Defined) (text entry rest : List ℕ) (bytes : text ≡ entry ++ rest) (whole : IsWhole entry)
    (entries : entries_of text ≡ whole_lines entry ∷ entries_of rest) (batch : IsBatch d text) where
  each : AreEntries d (whole_lines entry ∷ entries_of rest)
  each = subst (AreEntries d) entries batch.each

  -- the first entry of a batch may be run
  pub first_entry : IsEntry d entry
  first_entry = subst (IsEntry d) whole each.0

  -- and the others are a batch after it
  pub other_entries : IsBatch (defined_after d (whole_lines entry)) rest
  other_entries =
      let all : text_of (whole_lines entry) ++ entries_text (entries_of rest) ≡ entry ++ rest =
      ap entries_text (sym entries) ∙ (batch.whole ∙ bytes) in
      let front : entry ++ entries_text (entries_of rest) ≡ entry ++ rest =
      ap (λ (t : List ℕ). t ++ entries_text (entries_of rest)) (sym whole) ∙ all in
      record { each = each.1; whole = append_cancel_left entry (entries_text (entries_of rest)) rest front }

-- a batch of no entry is empty
pub no_batch : (d : Defined) (text : List ℕ) → entries_of text ≡ [] → IsBatch d text → text ≡ []
no_batch d text none batch = sym batch.whole ∙ ap entries_text none

-- the same definitions by other names
pub batch_alike : (e f : Edition) (ds es : Definitions) (text : List ℕ) → f ≡ e → es ≡ ds → IsBatch (record { edition = e; procedures = ds }) text
    → IsBatch (record { edition = f; procedures = es }) text
batch_alike e f ds es text same_edition same_definitions batch =
    let same : record { edition = f; procedures = es } ≡ record { edition = e; procedures = ds } =
    λ i. record { edition = same_edition i; procedures = same_definitions i } in
    subst (λ (d : Defined). IsBatch d text) (sym same) batch

-- ---- what was read of an entry

-- the first line has its form, and what follows makes an entry
pub entry_said : (d : Defined) (text line others : List ℕ) (k : Kind) (i : Option (List ℕ)) (rest : Words) → IsEntry d text → text ≡ line ++ 10 ∷ others
    → whole_lines text ≡ line ∷ whole_lines others → split 32 line ≡ line_words k i rest → IsRest i rest → HasForm k rest others × Says d k rest others
entry_said d text line others k i rest is begins first read marked =
    let same = read_alike text line others is.kind k is.id i is.rest rest is.lines is.head begins first read marked in (
      subst (λ (j : Kind). HasForm j rest others) same.kind
          (subst (λ (ws : Words). HasForm is.kind ws others) same.rest (subst (λ (ls : List ℕ). HasForm is.kind is.rest ls) same.lines is.head.form)),
      said_alike d k is.kind rest is.rest others is.lines (sym same.kind) (sym same.rest) (sym same.lines) is.says,
    )

-- a first line with a word that is none
pub unplain : (text line : List ℕ) (others : List (List ℕ)) → whole_lines text ≡ line ∷ others → list_all is_word (split 32 line) ≡ false → IsHeadless text
unplain text line others first bad kind id rest lines head =
    let firsts : head.line ∷ whole_lines lines ≡ line ∷ others = sym head.first ∙ first in
    let is : head.line ≡ line = cc in
    let plain : list_all is_word (split 32 line) ≡ true = subst (λ (l : List ℕ). list_all is_word (split 32 l) ≡ true) is head.plain in
    absurd cc

-- a first line whose words behind the kind and the id aren't as the kind wants them
pub unformed : (text line others : List ℕ) (k : Kind) (i : Option (List ℕ)) (rest : Words) → text ≡ line ++ 10 ∷ others
    → whole_lines text ≡ line ∷ whole_lines others → split 32 line ≡ line_words k i rest → IsRest i rest → (HasForm k rest others → ⊥) → IsHeadless text
unformed text line others k i rest begins first read marked bad kind id words lines head =
    let same = read_alike text line others kind k id i words rest lines head begins first read marked in
    bad (subst (λ (j : Kind). HasForm j rest others) same.kind
    (subst (λ (ws : Words). HasForm kind ws others) same.rest (subst (λ (ls : List ℕ). HasForm kind words ls) same.lines head.form)))

pub said_definition : (d : Defined) (k : Kind) (rest : Words) (lines : List ℕ) → k ≡ kinds.Define → HasForm k rest lines → Says d k rest lines
    → IsSome (named rest) × IsDefinition d.edition lines
said_definition d k rest lines is form says = (
  subst (λ (j : Kind). HasForm j rest lines) is form,
  subst (λ (j : Kind). Says d j rest lines) is says,
)

none_some : {A : Type 0} (o : Option A) → IsSome o → o ≡ None → ⊥
none_some None some h = absurd cc
none_some (Some x) some h = absurd cc

pub define_refused : (e : Edition) (ds : Definitions) (words : Words) (lines : List ℕ) (r : Refusal) → IsSome (named words) → IsDefinition e lines
    → (named words ≡ None) ⊎ RefusesDefinition e lines r → ⊥
define_refused e ds words lines r some is (inl none) = none_some (named words) some none
define_refused e ds words lines r some is (inr why) = not_refused (record { edition = e; procedures = ds }) kinds.Define words lines r is why

pub call_refused : (e : Edition) (ds : Definitions) (words : Words) (r : Refusal) → Calls ds words → (words ≡ []) ⊎ RefusesCall ds words r → ⊥
call_refused e ds words r calls (inl none) = subst (Calls ds) none calls
call_refused e ds words r calls (inr why) = not_refused (record { edition = e; procedures = ds }) kinds.Call words [] r calls why

-- what follows the first line is refused neither for its size nor for its id
no_size : (d : Defined) (k : Kind) (rest : Words) (lines : List ℕ) → RefusesKind d k rest lines refusal_is.Large → ⊥
no_size d kinds.Define rest lines why = why
no_size d kinds.Call [] lines why = why
no_size d kinds.Call (name ∷ rest) lines why = why.why
no_size d kinds.Transaction rest lines why = why

no_id : (d : Defined) (k : Kind) (rest : Words) (lines : List ℕ) → RefusesKind d k rest lines refusal_is.Id → ⊥
no_id d kinds.Define rest lines why = why
no_id d kinds.Call [] lines why = why
no_id d kinds.Call (name ∷ rest) lines why = why.why
no_id d kinds.Transaction rest lines why = why

pub refused_behind : (d : Defined) (text : List ℕ) (r : Refusal) → IsRefusedBehind d text r → Refuses d text r
refused_behind d text refusal_is.Shape b = inr (inr b)
refused_behind d text refusal_is.Large b = absurd (no_size d b.kind b.rest b.lines b.why)
refused_behind d text refusal_is.Id b = absurd (no_id d b.kind b.rest b.lines b.why)
refused_behind d text (refusal_is.Line n) b = b
refused_behind d text refusal_is.Short b = b
refused_behind d text (refusal_is.Check f) b = b
refused_behind d text refusal_is.Procedure b = b
refused_behind d text refusal_is.Arguments b = b
refused_behind d text refusal_is.Value b = b
refused_behind d text refusal_is.Key b = b

-- a procedure that is called with other arguments than it takes
pub miscalled : (ds : Definitions) (words rest : Words) (name : List ℕ) (p : Procedure) (r : Refusal) → words ≡ name ∷ rest → defined ds name ≡ Some p
    → RefusesArguments rest (length p.keys) (length p.values) r → RefusesCall ds words r
miscalled ds words rest name p r is known why = subst (λ (ws : Words). RefusesCall ds ws r) (sym is) (by r why)
  where
    by : (r : Refusal) → RefusesArguments rest (length p.keys) (length p.values) r → RefusesCall ds (name ∷ rest) r
    by refusal_is.Procedure why = absurd why
    by refusal_is.Arguments why = record { procedure = p; known = known; why = why }
    by refusal_is.Value why = record { procedure = p; known = known; why = why }
    by refusal_is.Key why = record { procedure = p; known = known; why = why }
    by refusal_is.Shape why = absurd why
    by (refusal_is.Line n) why = absurd why
    by refusal_is.Short why = absurd why
    by (refusal_is.Check f) why = absurd why
    by refusal_is.Id why = absurd why
    by refusal_is.Large why = absurd why

-- ---- room

pub room_renewed : (since room now : ℕ) → room ≤ now → (since ≡ 0 → 2 ^ 31 ≤ now) → room_after since room ≤ now
room_renewed zero room now more fresh = let enough = fresh refl in omega arith
room_renewed (suc n) room now more fresh = more

pub room_kept : (since room : ℕ) → room ≤ room_after since room
room_kept zero room = omega arith
room_kept (suc n) room = omega arith

pub room_fresh : (since room : ℕ) → since ≡ 0 → 2 ^ 31 ≤ room_after since room
room_fresh zero room h = omega arith
room_fresh (suc n) room h = absurd (omega arith)
