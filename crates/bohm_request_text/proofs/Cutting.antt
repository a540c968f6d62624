-- How the lines of a text make requests.
use Rattle.std.proofs.Common.{◌≡◌, ℕ, ◌-◌, Bool, true, false, List, [], ◌∷◌, ◌++◌, length, take, refl, ap, sym, subst, ◌∙◌, append_assoc, length-append, arith}
use Rattle.std.specs.Bool.{⊤}
use Rattle.std.proofs.Math.Seq.{take-append_seam}
use Rattle.std.proofs.lemmas.List.{append_cancel_right, append-nil}
use Rattle.bohm_text.specs.Cut.{whole_lines}
use Rattle.bohm_text.proofs.ForCallers.{lines_behind_whole, whole_ended}
use Rattle.bohm_request_text.specs.Requests.{goes_on, requests_in}

-- a request goes on behind each of these lines
abbrev pub AllGoOn : Bool → List (List ℕ) → Type 0
AllGoOn is_open [] = ⊤
AllGoOn is_open (line ∷ lines) = (goes_on is_open line ≡ true) × AllGoOn true lines

-- whether one has begun behind these lines
abbrev pub open_after : Bool → List (List ℕ) → Bool
open_after is_open [] = is_open
open_after is_open (line ∷ lines) = open_after true lines

-- what was passed of a text is whole lines of one request, which goes on
pub record Passed (text rest : List ℕ) (is_open : Bool) : Type 0 where
  pub front : List ℕ
  pub lines : List (List ℕ)
  pub bytes : text ≡ front ++ rest
  pub of : whole_lines text ≡ lines ++ whole_lines rest
  pub each : AllGoOn false lines
  pub flag : is_open ≡ open_after false lines

first_request : (is_open : Bool) (lines : List (List ℕ)) (line : List ℕ) (more : List (List ℕ)) → AllGoOn is_open lines
    → goes_on (open_after is_open lines) line ≡ false
    → requests_in is_open (lines ++ line ∷ more) ≡ (lines ++ line ∷ []) ∷ requests_in false more
first_request is_open [] line more each end = rw end refl
first_request is_open (l ∷ lines) line more each end = rw (each.0, first_request true lines line more each.1 end) refl

no_request : (is_open : Bool) (lines : List (List ℕ)) → AllGoOn is_open lines → requests_in is_open lines ≡ []
no_request is_open [] each = refl
no_request is_open (l ∷ lines) each = rw (each.0, no_request true lines each.1) refl

one_more : (is_open : Bool) (lines : List (List ℕ)) (line : List ℕ) → AllGoOn is_open lines → goes_on (open_after is_open lines) line ≡ true
    → AllGoOn is_open (lines ++ line ∷ [])
one_more is_open [] line each on = (on, tt)
one_more is_open (l ∷ lines) line each on = (each.0, one_more true lines line each.1 on)

now_open : (is_open : Bool) (lines : List (List ℕ)) (line : List ℕ) → true ≡ open_after is_open (lines ++ line ∷ [])
now_open is_open [] line = refl
now_open is_open (l ∷ lines) line = now_open true lines line

regrouped : (front line others : List ℕ) → front ++ (line ++ 10 ∷ others) ≡ ((front ++ line) ++ 10 ∷ []) ++ others
regrouped front line others = sym (append_assoc (front ++ line) (10 ∷ []) others ∙ append_assoc front line (10 ∷ others))

pub nothing_passed : (text : List ℕ) → Passed text text false
nothing_passed text = record { front = []; lines = []; bytes = refl; of = refl; each = tt; flag = refl }

pub one_passed : (text rest line others : List ℕ) (is_open : Bool) → Passed text rest is_open → rest ≡ line ++ 10 ∷ others
    → whole_lines rest ≡ line ∷ whole_lines others → goes_on is_open line ≡ true → Passed text others true
one_passed text rest line others is_open p bytes lines on = record {
  front = (p.front ++ line) ++ 10 ∷ [];
  lines = p.lines ++ line ∷ [];
  bytes = p.bytes ∙ (ap (λ (t : List ℕ). p.front ++ t) bytes ∙ regrouped p.front line others);
  of = p.of ∙ (ap (λ (ls : List (List ℕ)). p.lines ++ ls) lines ∙ sym (append_assoc p.lines (line ∷ []) (whole_lines others)));
  each = one_more false p.lines line p.each (ap (λ b. goes_on b line) (sym p.flag) ∙ on);
  flag = now_open false p.lines line;
}

-- a text's first request, at its last line
pub record IsCut (text request others : List ℕ) : Type 0 where
  pub bytes : text ≡ request ++ others
  pub requests : requests_in false (whole_lines text) ≡ whole_lines request ∷ requests_in false (whole_lines others)

cut_here : (text rest line others : List ℕ) (is_open : Bool) (p : Passed text rest is_open) → rest ≡ line ++ 10 ∷ others
    → whole_lines rest ≡ line ∷ whole_lines others → goes_on is_open line ≡ false → IsCut text ((p.front ++ line) ++ 10 ∷ []) others
cut_here text rest line others is_open p bytes lines end =
    let request : List ℕ = (p.front ++ line) ++ 10 ∷ [] in
    let all : text ≡ request ++ others = p.bytes ∙ (ap (λ (t : List ℕ). p.front ++ t) bytes ∙ regrouped p.front line others) in
    let text_lines : whole_lines text ≡ p.lines ++ line ∷ whole_lines others = p.of ∙ ap (λ (ls : List (List ℕ)). p.lines ++ ls) lines in
    let its_lines : whole_lines request ≡ p.lines ++ line ∷ [] = append_cancel_right (whole_lines request) (p.lines ++ line ∷ []) (whole_lines others)
    (sym (lines_behind_whole request others (whole_ended (p.front ++ line))) ∙ (ap whole_lines (sym all) ∙ (text_lines
    ∙ sym (append_assoc p.lines (line ∷ []) (whole_lines others))))) in
    record {
      bytes = all;
      requests = ap (requests_in false) text_lines ∙ (first_request false p.lines line (whole_lines others) p.each
          (ap (λ b. goes_on b line) (sym p.flag) ∙ end) ∙ ap (λ r. r ∷ requests_in false (whole_lines others)) (sym its_lines));
    }

taken : (text request others : List ℕ) (n : ℕ) → text ≡ request ++ others → n ≡ length text - length others → take n text ≡ request
taken text request others n is all =
    let size : n ≡ length request = omega (arith, all, ap length is, length-append request others) in
    (λ i. take (size i) (is i)) ∙ take-append_seam request others

-- the same, by the request's length
pub cut_after : (text rest line others : List ℕ) (is_open : Bool) (n : ℕ) → Passed text rest is_open → rest ≡ line ++ 10 ∷ others
    → whole_lines rest ≡ line ∷ whole_lines others → goes_on is_open line ≡ false → n ≡ length text - length others → IsCut text (take n text) others
cut_after text rest line others is_open n p bytes lines end all =
    let here = cut_here text rest line others is_open p bytes lines end in
    subst (λ (r : List ℕ). IsCut text r others) (sym (taken text _ others n here.bytes all)) here

pub none_left : (text rest : List ℕ) (is_open : Bool) → Passed text rest is_open → whole_lines rest ≡ [] → requests_in false (whole_lines text) ≡ []
none_left text rest is_open p none =
    ap (requests_in false) (p.of ∙ (ap (λ (ls : List (List ℕ)). p.lines ++ ls) none ∙ append-nil p.lines)) ∙ no_request false p.lines p.each
