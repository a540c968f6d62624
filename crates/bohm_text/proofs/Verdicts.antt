-- A text is a document's, or has one first bad line, or is short, and only one of these.
use Rattle.std.proofs.Common.{◌≡◌, ℕ, ◌-◌, ◌<◌, ◌≤◌, List, [], ◌++◌, drop, take, refl, sym, ap, subst, ◌∙◌, arith, append_assoc, append-nil, ⊎_elim}
use Rattle.std.proofs.lemmas.Bool.{cases_lt}
use Rattle.std.proofs.lemmas.List.{length-take-le, take-append-drop, take-append-le}
use Rattle.bohm_types.specs.Document.{Document}
use Rattle.bohm_types.specs.Sound.{IsDocument}
use Rattle.bohm_text.specs.Cut.{whole_lines}
use Rattle.bohm_text.specs.Faults.{IsFirstBadLine, IsShort}
use Rattle.bohm_text.specs.Front.{Front, text_lines}
use Rattle.bohm_text.specs.Print.{print_doc}
use Rattle.bohm_text.proofs.TextLaws.{lines_of_text}

-- the first lines of lines that begin a document's text begin one too
fewer : (ls more : List (List ℕ)) → Front (ls ++ more) → Front ls
fewer ls more front = record {
  document = front.document;
  sound = front.sound;
  more = more ++ front.more;
  begins = front.begins ∙ append_assoc ls more front.more;
}

front_taken : (n : ℕ) (ls : List (List ℕ)) → Front ls → Front (take n ls)
front_taken n ls front = fewer (take n ls) (drop n ls) (subst Front (sym (take-append-drop n ls)) front)

-- no line after a first bad one is another
none_later : (ls : List (List ℕ)) (n m : ℕ) → IsFirstBadLine ls n → IsFirstBadLine ls m → n < m → ⊥
none_later ls n m bad later lt =
    let fits : n ≤ m - 1 = omega arith in
    let whole : take n ls ≡ take n (take (m - 1) ls) =
    ap (take n) (sym (take-append-drop (m - 1) ls)) ∙ take-append-le n (take (m - 1) ls) (drop (m - 1) ls)
    (omega (arith, length-take-le (m - 1) ls (omega (arith, later.within)), fits)) in
    bad.bad (subst Front (sym whole) (front_taken n (take (m - 1) ls) later.before))

pub one_line : (text : List ℕ) (n m : ℕ) → IsFirstBadLine (whole_lines text) n → IsFirstBadLine (whole_lines text) m → n ≡ m
one_line text n m one other =
    let up : m ≤ n = ⊎_elim (λ (h : n < m). absurd (none_later (whole_lines text) n m one other h)) (λ h. h) (cases_lt n m) in
    let down : n ≤ m = ⊎_elim (λ (h : m < n). absurd (none_later (whole_lines text) m n other one h)) (λ h. h) (cases_lt m n) in
    omega arith

pub bad_not_short : (text : List ℕ) (n : ℕ) → IsFirstBadLine (whole_lines text) n → IsShort text → ⊥
bad_not_short text n bad short = bad.bad (front_taken n (whole_lines text) short.begins)

pub document_not_bad : (d : Document) (n : ℕ) → IsDocument d → IsFirstBadLine (whole_lines (print_doc d)) n → ⊥
document_not_bad d n sound bad =
    let begins : text_lines d ≡ whole_lines (print_doc d) ++ [] = sym (lines_of_text d sound) ∙ sym (append-nil (whole_lines (print_doc d))) in
    bad.bad (front_taken n (whole_lines (print_doc d)) (record { document = d; sound = sound; more = []; begins = begins }))
