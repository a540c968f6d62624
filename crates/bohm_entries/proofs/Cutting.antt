-- How the lines of a text make entries.
use Rattle.std.proofs.Common.{◌≡◌, ℕ, ◌-◌, true, false, List, [], ◌∷◌, ◌++◌, length, take, refl, ap, sym, subst, ◌∙◌, append_assoc, length-append, arith}
use Rattle.std.proofs.Math.Seq.{take-append_seam}
use Rattle.std.specs.List.{AllByRecursion}
use Rattle.std.proofs.lemmas.List.{append_cancel_right, append-nil}
use Rattle.bohm_log.proofs.ForCallers.{each_append}
use Rattle.bohm_text.specs.Cut.{whole_lines}
use Rattle.bohm_text.specs.Windowing.{IsWhole}
use Rattle.bohm_text.proofs.ForCallers.{lines_behind_whole, whole_ended}
use Rattle.bohm_entries.specs.Batches.{ends, entries_in}

abbrev pub IsOpen : List ℕ → Type 0
IsOpen line = ends line ≡ false

-- what was passed of a text is whole lines, of which none ends an entry
pub record Passed (text rest : List ℕ) : Type 0 where
  pub front : List ℕ
  pub bytes : text ≡ front ++ rest
  pub whole : IsWhole front
  pub each : AllByRecursion IsOpen (whole_lines front)

-- lines of which the last ends an entry are one
pub first_entry : (lines : List (List ℕ)) (line : List ℕ) (more : List (List ℕ)) → AllByRecursion IsOpen lines → ends line ≡ true
    → entries_in (lines ++ line ∷ more) ≡ (lines ++ line ∷ []) ∷ entries_in more
first_entry [] line more each end = rw end refl
first_entry (l ∷ lines) line more each end = rw (each.0, first_entry lines line more each.1 end) refl

-- lines of which none ends an entry make none
pub no_entry : (lines : List (List ℕ)) → AllByRecursion IsOpen lines → entries_in lines ≡ []
no_entry [] each = refl
no_entry (l ∷ lines) each = rw (each.0, no_entry lines each.1) refl

line_alone : (line others : List ℕ) → whole_lines (line ++ 10 ∷ others) ≡ line ∷ whole_lines others → whole_lines (line ++ 10 ∷ []) ≡ line ∷ []
line_alone line others h = append_cancel_right (whole_lines (line ++ 10 ∷ [])) (line ∷ []) (whole_lines others)
    (sym (lines_behind_whole (line ++ 10 ∷ []) others (whole_ended line)) ∙ (ap whole_lines (append_assoc line (10 ∷ []) others) ∙ h))

pub front_lines : (front line others : List ℕ) → IsWhole front → whole_lines (line ++ 10 ∷ others) ≡ line ∷ whole_lines others
    → whole_lines (front ++ (line ++ 10 ∷ [])) ≡ whole_lines front ++ line ∷ []
front_lines front line others whole h = lines_behind_whole front (line ++ 10 ∷ []) whole
    ∙ ap (λ (ls : List (List ℕ)). whole_lines front ++ ls) (line_alone line others h)

regrouped : (front line others : List ℕ) → front ++ (line ++ 10 ∷ others) ≡ (front ++ (line ++ 10 ∷ [])) ++ others
regrouped front line others = sym (append_assoc front (line ++ 10 ∷ []) others ∙ ap (λ (t : List ℕ). front ++ t) (append_assoc line (10 ∷ []) others))

pub one_passed : (text rest line others : List ℕ) → Passed text rest → rest ≡ line ++ 10 ∷ others → whole_lines rest ≡ line ∷ whole_lines others
    → ends line ≡ false → Passed text others
one_passed text rest line others p bytes lines on =
    let h : whole_lines (line ++ 10 ∷ others) ≡ line ∷ whole_lines others = ap whole_lines (sym bytes) ∙ lines in
    record {
      front = p.front ++ (line ++ 10 ∷ []);
      bytes = p.bytes ∙ (ap (λ (t : List ℕ). p.front ++ t) bytes ∙ regrouped p.front line others);
      whole = subst IsWhole (append_assoc p.front line (10 ∷ [])) (whole_ended (p.front ++ line));
      each = subst (AllByRecursion IsOpen) (sym (front_lines p.front line others p.whole h))
          (each_append IsOpen (whole_lines p.front) (line ∷ []) p.each (on, tt));
    }

pub nothing_passed : (text : List ℕ) → Passed text text
unfolding whole_lines
nothing_passed text = record { front = []; bytes = refl; whole = refl; each = tt }

-- a text's first entry, at its last line
pub record IsCut (text entry others : List ℕ) : Type 0 where
  pub bytes : text ≡ entry ++ others
  pub entries : entries_in (whole_lines text) ≡ whole_lines entry ∷ entries_in (whole_lines others)
  pub whole : IsWhole entry

pub cut_here : (text rest line others : List ℕ) → Passed text rest → rest ≡ line ++ 10 ∷ others → whole_lines rest ≡ line ∷ whole_lines others
    → ends line ≡ true → (entry : List ℕ) × IsCut text entry others
cut_here text rest line others p bytes lines end =
    let h : whole_lines (line ++ 10 ∷ others) ≡ line ∷ whole_lines others = ap whole_lines (sym bytes) ∙ lines in
    let text_lines : whole_lines text ≡ whole_lines p.front ++ line ∷ whole_lines others =
    ap whole_lines p.bytes ∙ (lines_behind_whole p.front rest p.whole ∙ ap (λ (ls : List (List ℕ)). whole_lines p.front ++ ls) lines) in (
      p.front ++ (line ++ 10 ∷ []),
      record {
        bytes = p.bytes ∙ (ap (λ (t : List ℕ). p.front ++ t) bytes ∙ regrouped p.front line others);
        entries = ap entries_in text_lines ∙ (first_entry (whole_lines p.front) line (whole_lines others) p.each end
            ∙ ap (λ (e : List (List ℕ)). e ∷ entries_in (whole_lines others)) (sym (front_lines p.front line others p.whole h)));
        whole = subst IsWhole (append_assoc p.front line (10 ∷ [])) (whole_ended (p.front ++ line));
      },
    )

taken : (text entry others : List ℕ) (n : ℕ) → text ≡ entry ++ others → n ≡ length text - length others → take n text ≡ entry
taken text entry others n is all =
    let size : n ≡ length entry = omega (arith, all, ap length is, length-append entry others) in
    (λ i. take (size i) (is i)) ∙ take-append_seam entry others

-- the same, by the entry's length
pub cut_after : (text rest line others : List ℕ) (n : ℕ) → Passed text rest → rest ≡ line ++ 10 ∷ others → whole_lines rest ≡ line ∷ whole_lines others
    → ends line ≡ true → n ≡ length text - length others → IsCut text (take n text) others
cut_after text rest line others n p bytes lines end all =
    let here = cut_here text rest line others p bytes lines end in
    subst (λ (e : List ℕ). IsCut text e others) (sym (taken text here.0 others n here.1.bytes all)) here.1

pub none_left : (text rest : List ℕ) → Passed text rest → whole_lines rest ≡ [] → entries_in (whole_lines text) ≡ []
none_left text rest p none =
    ap entries_in (ap whole_lines p.bytes ∙ lines_behind_whole p.front rest p.whole) ∙ (rw none (rw (append-nil (whole_lines p.front)) (no_entry (whole_lines p.front) p.each)))
