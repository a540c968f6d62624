-- The text of a document and the window after it: the document, the first bad line, or that the text is short.
use Rattle.std.proofs.Common.{◌≡◌, ℕ, zero, suc, ◌+◌, ◌-◌, ◌≤◌, true, false, List, [], ◌∷◌, ◌++◌, length, map}
use Rattle.std.proofs.Common.{take, Some, None, refl, ap, sym, subst, ◌∙◌, arith, append_assoc, length-append}
use Rattle.std.specs.Prelude.{Option, Bool, codes, cond, IsSome, ◌==◌}
use Rattle.std.specs.Option.{option_map}
use Rattle.std.specs.List.{AllByRecursion, flat_map}
use Rattle.std.proofs.Math.Seq.{take-append-add}
use Rattle.std.proofs.lemmas.Grind.{flat_map-append}
use Rattle.std.proofs.lemmas.List.{append-nil, append_cancel_left, map-append, take-append-le}
use Rattle.bohm_types.specs.Document.{Document}
use Rattle.bohm_types.specs.Txn.{Txn}
use Rattle.bohm_types.specs.declared.edition.Edition.{Edition}
use Rattle.bohm_types.specs.declared.edition.Edition.TheVariants.{One, Two}
use Rattle.bohm_types.specs.Sound.{IsTxn, IsDocument}
use Rattle.bohm_text.specs.Print.{line_text, txn_lines, text_of, print_doc}
use Rattle.bohm_text.specs.Cut.{onto_first, whole_lines}
use Rattle.bohm_text.specs.Step.{Progress, Nothing, Between, Opened, Reading, Body, steps}
use Rattle.bohm_text.specs.Front.{text_lines, Front}
use Rattle.bohm_text.specs.Faults.{IsFirstBadLine, IsShort}
use Rattle.bohm_text.specs.Windows.{segment, with_log, head_line, headed, IsWindow}
use Rattle.bohm_text.proofs.Cutting.{IsWithout, line_again}
use Rattle.bohm_text.proofs.TextLaws.{lines_lack, text_steps, front_some, not_front, found, lines_of_text}
use Rattle.bohm_text.proofs.Behind.{IsInside, behind, inside_steps, read_alone, read_behind}
use Rattle.bohm_log.proofs.ForCallers.{each_append}

-- ---- lines of joined texts

onto_first-append : (b : ℕ) (parts more : List (List ℕ)) → (r : List (List ℕ)) × (onto_first b (parts ++ more) ≡ onto_first b parts ++ r)
onto_first-append b [] more = (onto_first b more, refl)
onto_first-append b (part ∷ parts) more = (more, refl)

-- the complete lines of a text are the first lines of any text that continues this text
pub lines_begin : (text rest : List ℕ) → (more : List (List ℕ)) × (whole_lines (text ++ rest) ≡ whole_lines text ++ more)
unfolding whole_lines
lines_begin [] rest = (whole_lines rest, refl)
lines_begin (b ∷ bs) rest =
    let next = lines_begin bs rest in
    let joined = onto_first-append b (whole_lines bs) next.0 in
    elim (b == 10) as (λ (t : Bool). (more : List (List ℕ)) × (cond t ([] ∷ whole_lines (bs ++ rest)) (onto_first b (whole_lines (bs ++ rest))) ≡ cond t
    ([] ∷ whole_lines bs) (onto_first b (whole_lines bs)) ++ more)) [
      | true ↦ (next.0, ap (λ (ls : List (List ℕ)). [] ∷ ls) next.1)
      | false ↦ (joined.0, ap (onto_first b) next.1 ∙ joined.1)
    ]

pub text_lines_on : (lines : List (List ℕ)) (text : List ℕ) → AllByRecursion (IsWithout 10) lines
    → whole_lines (text_of lines ++ text) ≡ lines ++ whole_lines text
text_lines_on [] text lacks = refl
text_lines_on (l ∷ ls) text lacks =
    ap whole_lines (append_assoc (l ++ 10 ∷ []) (text_of ls) text ∙ append_assoc l (10 ∷ []) (text_of ls ++ text))
    ∙ (line_again l (text_of ls ++ text) lacks.0 ∙ ap (λ (r : List (List ℕ)). l ∷ r) (text_lines_on ls text lacks.1))

pub lines_on : (d : Document) → IsDocument d → (text : List ℕ) → whole_lines (print_doc d ++ text) ≡ text_lines d ++ whole_lines text
lines_on d sound text = text_lines_on (text_lines d) text (lines_lack d sound)

pub headed_lines : (e : Edition) (text : List ℕ) → whole_lines (headed e text) ≡ head_line e ∷ whole_lines text
headed_lines One text = lines_on (segment One []) (record { store = tt; log = tt }) text
headed_lines Two text = lines_on (segment Two []) (record { store = tt; log = tt }) text

pub window_lines : (text : List ℕ) (w : IsWindow text) → whole_lines text ≡ codes "txn" ∷ whole_lines w.behind
window_lines text w = ap whole_lines w.begins ∙ line_again (codes "txn") w.behind (refl, (refl, (refl, tt)))

-- ---- lines that begin a document

pub front_read : (lines : List (List ℕ)) → Front lines → IsSome (steps Nothing lines)
front_read lines begins = from (steps Nothing lines) refl
  where
    from : (o : Option Progress) → steps Nothing lines ≡ o → IsSome o
    from None e = absurd (not_front lines e begins)
    from (Some p) e = refl

some_behind : (d : Document) (o : Option Progress) → IsSome o → IsSome (option_map (behind d) o)
some_behind d None some = absurd cc
some_behind d (Some p) some = refl

some_alone : (d : Document) (o : Option Progress) → IsSome (option_map (behind d) o) → IsSome o
some_alone d None some = absurd cc
some_alone d (Some p) some = refl

module _ (d : Document) (sound : IsDocument d) (lines : List (List ℕ)) where
  pub front_behind : Front (head_line d.edition ∷ codes "txn" ∷ lines) → Front (text_lines d ++ codes "txn" ∷ lines)
  front_behind begins = front_some (text_lines d ++ codes "txn" ∷ lines) (rw (read_behind d sound lines)
      (some_behind d (steps Nothing (head_line d.edition ∷ codes "txn" ∷ lines)) (front_read (head_line d.edition ∷ codes "txn" ∷ lines) begins)))

  pub front_alone : Front (text_lines d ++ codes "txn" ∷ lines) → Front (head_line d.edition ∷ codes "txn" ∷ lines)
  front_alone begins =
      let some : IsSome (option_map (behind d) (steps Nothing (head_line d.edition ∷ codes "txn" ∷ lines))) =
      subst IsSome (read_behind d sound lines) (front_read (text_lines d ++ codes "txn" ∷ lines) begins) in
      front_some (head_line d.edition ∷ codes "txn" ∷ lines) (some_alone d (steps Nothing (head_line d.edition ∷ codes "txn" ∷ lines)) some)

whole_front : (d : Document) → IsDocument d → Front (text_lines d ++ [])
whole_front d sound = record { document = d; sound = sound; more = []; begins = sym (append-nil (text_lines d ++ []) ∙ append-nil (text_lines d)) }

bare_front : (e : Edition) → Front (head_line e ∷ [])
bare_front e = record { document = segment e []; sound = record { store = tt; log = tt }; more = []; begins = refl }

take_behind : (d : Document) → IsDocument d → (lines : List (List ℕ)) (k : ℕ) → Front (head_line d.edition ∷ take k (codes "txn" ∷ lines))
    → Front (text_lines d ++ take k (codes "txn" ∷ lines))
take_behind d sound lines zero begins = whole_front d sound
take_behind d sound lines (suc k) begins = front_behind d sound (take k lines) begins

take_alone : (d : Document) → IsDocument d → (lines : List (List ℕ)) (k : ℕ) → Front (text_lines d ++ take k (codes "txn" ∷ lines))
    → Front (head_line d.edition ∷ take k (codes "txn" ∷ lines))
take_alone d sound lines zero begins = bare_front d.edition
take_alone d sound lines (suc k) begins = front_alone d sound (take k lines) begins

-- ---- the first bad line

take_on : (lines window more : List (List ℕ)) (k : ℕ) → k ≤ length window → take (length lines + k) (lines ++ (window ++ more)) ≡ lines ++ take k window
take_on lines window more k short = take-append-add lines (window ++ more) k ∙ ap (λ (ls : List (List ℕ)). lines ++ ls) (take-append-le k window more short)

bad_first : (e : Edition) (lines : List (List ℕ)) → IsFirstBadLine (head_line e ∷ lines) 1 → ⊥
bad_first e lines h = h.bad (bare_front e)

line_behind : (d : Document) → IsDocument d → (lines more : List (List ℕ)) (k : ℕ) → IsFirstBadLine (head_line d.edition ∷ codes "txn" ∷ lines) (suc (suc k))
    → IsFirstBadLine (text_lines d ++ (codes "txn" ∷ lines ++ more)) (length (text_lines d) + suc k)
line_behind d sound lines more k h =
    let window : List (List ℕ) = codes "txn" ∷ lines in
    let short : suc k ≤ length window = omega (arith, h.within) in
    let earlier : length (text_lines d) + suc k - 1 ≡ length (text_lines d) + k = omega arith in
    let one : suc (suc k) - 1 ≡ suc k = omega arith in
    let before : Front (text_lines d ++ take k window) =
    take_behind d sound lines k (subst (λ (n : ℕ). Front (take n (head_line d.edition ∷ window))) one h.before) in
    record {
      counted = omega arith;
      within = omega (arith, short, length-append (text_lines d) (window ++ more), length-append window more);
      before = rw (earlier, take_on (text_lines d) window more k (omega (arith, short))) before;
      bad = λ (begins : Front (take (length (text_lines d) + suc k) (text_lines d ++ (window ++ more)))). h.bad
          (take_alone d sound lines (suc k) (subst Front (take_on (text_lines d) window more (suc k) short) begins));
    }

pub window_line : (d : Document) → IsDocument d → (text rest : List ℕ) → IsWindow text → (n : ℕ) → IsFirstBadLine (whole_lines (headed d.edition text))
    (n + 1) → IsFirstBadLine (whole_lines (print_doc d ++ (text ++ rest))) (length (whole_lines (print_doc d)) + n)
window_line d sound text rest window zero h = absurd
    (bad_first d.edition (whole_lines text) (subst (λ (ls : List (List ℕ)). IsFirstBadLine ls 1) (headed_lines d.edition text) h))
window_line d sound text rest window (suc k) h =
    let next = lines_begin text rest in
    let lines : List (List ℕ) = whole_lines window.behind in
    let are : whole_lines text ≡ codes "txn" ∷ lines = window_lines text window in
    let two : suc k + 1 ≡ suc (suc k) = omega arith in
    let alone : IsFirstBadLine (head_line d.edition ∷ codes "txn" ∷ lines) (suc (suc k)) =
    subst (λ (ls : List (List ℕ)). IsFirstBadLine (head_line d.edition ∷ ls) (suc (suc k))) are
    (subst (λ (m : ℕ). IsFirstBadLine (head_line d.edition ∷ whole_lines text) m) two
    (subst (λ (ls : List (List ℕ)). IsFirstBadLine ls (suc k + 1)) (headed_lines d.edition text) h)) in
    let all : whole_lines (print_doc d ++ (text ++ rest)) ≡ text_lines d ++ (codes "txn" ∷ lines ++ next.0) =
    lines_on d sound (text ++ rest) ∙ ap (λ (ls : List (List ℕ)). text_lines d ++ ls) (next.1 ∙ ap (λ (ls : List (List ℕ)). ls ++ next.0) are) in
    rw (all, lines_of_text d sound) (line_behind d sound lines next.0 k alone)

-- ---- short texts

whole_window : (d c : Document) → IsDocument d → IsDocument c → (text : List ℕ) → print_doc c ≡ print_doc d ++ text → text_of (whole_lines text) ≡ text
whole_window d c sound_d sound_c text same =
    let again : text_of (whole_lines (print_doc d ++ text)) ≡ print_doc d ++ text = ap text_of (ap whole_lines (sym same) ∙ lines_of_text c sound_c) ∙ same in
    append_cancel_left (print_doc d) (text_of (whole_lines text)) text
    (sym (flat_map-append (λ line. line ++ 10 ∷ []) (text_lines d) (whole_lines text)) ∙ (ap text_of (sym (lines_on d sound_d text)) ∙ again))

-- if the progress after the document d is between transactions, the progress without d is, too
alone_between : (d c : Document) (o : Option Progress) → option_map (behind d) o ≡ Some (Between c) → (b : Document) × (o ≡ Some (Between b))
alone_between d c None e = absurd cc
alone_between d c (Some Nothing) e = absurd cc
alone_between d c (Some (Between b)) e = (b, refl)
alone_between d c (Some (Opened b)) e = absurd cc
alone_between d c (Some (Reading b reads)) e = absurd cc
alone_between d c (Some (Body b reads writes body)) e = absurd cc

pub window_short : (d : Document) → IsDocument d → (text : List ℕ) → IsWindow text → IsShort (headed d.edition text) → IsShort (print_doc d ++ text)
window_short d sound text window h =
    let lines : List (List ℕ) = whole_lines window.behind in
    let alone : whole_lines (headed d.edition text) ≡ head_line d.edition ∷ codes "txn" ∷ lines =
    headed_lines d.edition text ∙ ap (λ (ls : List (List ℕ)). head_line d.edition ∷ ls) (window_lines text window) in
    let all : whole_lines (print_doc d ++ text) ≡ text_lines d ++ codes "txn" ∷ lines =
    lines_on d sound text ∙ ap (λ (ls : List (List ℕ)). text_lines d ++ ls) (window_lines text window) in
    record {
      begins = rw all (front_behind d sound lines (subst Front alone h.begins));
      none = λ c sound_c same.
          let read : option_map (behind d) (steps Nothing (head_line d.edition ∷ codes "txn" ∷ lines)) ≡ Some (Between c) =
          sym (read_behind d sound lines) ∙ (ap (steps Nothing) (sym all ∙ ap whole_lines (sym same)) ∙ text_steps c sound_c) in
          let b = alone_between d c (steps Nothing (head_line d.edition ∷ codes "txn" ∷ lines)) read in
          let whole : text_of (whole_lines (headed d.edition text)) ≡ headed d.edition text = ap text_of (headed_lines d.edition text)
          ∙ ap (λ (t : List ℕ). (head_line d.edition ++ 10 ∷ []) ++ t) (whole_window d c sound sound_c text same) in
          let is = found (headed d.edition text) b.0 (ap (steps Nothing) alone ∙ b.1) whole in
          h.none b.0 is.0 is.1;
    }

-- ---- the document with a window's transactions

pub window_found : (d : Document) → IsDocument d → (log : List Txn) (text : List ℕ) → IsDocument (segment d.edition log)
    → print_doc (segment d.edition log) ≡ headed d.edition text → IsDocument (with_log d log) × (print_doc (with_log d log) ≡ print_doc d ++ text)
window_found d sound log text log_sound same =
    let lines : List (List ℕ) = map line_text (flat_map txn_lines log) in
    let rest : text_of lines ≡ text = append_cancel_left (head_line d.edition ++ 10 ∷ []) (text_of lines) text same in
    let joined : text_lines (with_log d log) ≡ text_lines d ++ lines = simp (map-append, flat_map-append, append_assoc) in (
      record { store = sound.store; log = each_append (IsTxn d.edition) d.log log sound.log log_sound.log },
      ap text_of joined ∙ (flat_map-append (λ line. line ++ 10 ∷ []) (text_lines d) lines ∙ ap (λ (t : List ℕ). print_doc d ++ t) rest),
    )

-- ---- a window that was read

same_segment : (e : Edition) (d : Document) → d.edition ≡ e → d.store ≡ [] → d ≡ segment e d.log
same_segment e d edition store = λ i. record { edition = edition i; store = store i; log = d.log }

pub window_read : (e : Edition) (text : List ℕ) → IsWindow text → (d : Document) → steps Nothing (whole_lines (headed e text)) ≡ Some (Between d)
    → text_of (whole_lines (headed e text)) ≡ headed e text → IsDocument (segment e d.log) × (print_doc (segment e d.log) ≡ headed e text)
window_read e text window d read whole =
    let lines : List (List ℕ) = whole_lines window.behind in
    let alone : whole_lines (headed e text) ≡ head_line e ∷ codes "txn" ∷ lines =
    headed_lines e text ∙ ap (λ (ls : List (List ℕ)). head_line e ∷ ls) (window_lines text window) in
    let inside : IsInside e (Between d) = inside_steps e (Opened (segment e [])) (Between d) lines (record { edition = refl; store = refl })
    (sym (read_alone e lines) ∙ (ap (steps Nothing) (sym alone) ∙ read)) in
    let same : d ≡ segment e d.log = same_segment e d inside.0.edition inside.0.store in
    subst (λ (r : Document). IsDocument r × (print_doc r ≡ headed e text)) same (found (headed e text) d read whole)
