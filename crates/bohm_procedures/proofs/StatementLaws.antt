-- The lines of a procedure's text that its statements are.
use Rattle.std.proofs.Common.{◌≡◌, ℕ, zero, suc, ◌+◌, ◌-◌, ◌<◌, ◌≤◌, true, false, List, [], ◌∷◌, ◌++◌, length, map, drop, Some, None, refl, ap, sym, subst, ◌∙◌, ⊎_elim, add-one, arith}
use Rattle.std.specs.Prelude.{codes, nat_le}
use Rattle.std.specs.List.{slice_get}
use Rattle.std.specs.Option.{option_map}
use Rattle.std.proofs.lemmas.Bool.{cases_lt}
use Rattle.std.proofs.lemmas.Bool.Decides.{nat_tests}
use Rattle.std.proofs.lemmas.List.{length-append, length-map}
use Rattle.std.proofs.lemmas.Option.{slice_get-map, slice_get_past, slice_get_within}
use Rattle.bohm_types.specs.Procedure.{Procedure}
use Rattle.bohm_text.specs.Cut.{whole_lines}
use Rattle.bohm_text.specs.Print.{Words, line_text, stmt_words, text_of}
use Rattle.bohm_text.specs.ProcedureText.{key_words, value_words, tail_lines, procedure_lines, print_procedure, IsProcedure}
use Rattle.bohm_text.proofs.ForCallers.{lines_of_procedure}
use Rattle.bohm_procedures.specs.Statements.{IsStatement, statement_lines, statement_line, statement_text}

-- ---- the element at an index

within : {A : Type 0} (xs ys : List A) (i : ℕ) → i < length xs → slice_get (xs ++ ys) i ≡ slice_get xs i
within [] ys i low = absurd (omega (arith, low))
within (x ∷ xs) ys zero low = refl
within (x ∷ xs) ys (suc i) low = within xs ys i (omega (arith, low))

behind : {A : Type 0} (xs ys : List A) (i m : ℕ) → i ≡ length xs + m → slice_get (xs ++ ys) i ≡ slice_get ys m
behind [] ys i m e = let same : i ≡ m = omega arith in rw same refl
behind (x ∷ xs) ys zero m e = absurd (omega arith)
behind (x ∷ xs) ys (suc i) m e = behind xs ys i m (omega arith)

-- ---- walking through lines

pub line_at : {A : Type 0} (xs : List A) (i : ℕ) (x : A) (rest : List A) → drop i xs ≡ x ∷ rest → slice_get xs i ≡ Some x
line_at [] zero x rest e = absurd cc
line_at [] (suc i) x rest e = absurd cc
line_at (y ∷ ys) zero x rest e = cc
line_at (y ∷ ys) (suc i) x rest e = line_at ys i x rest e

next_after : {A : Type 0} (xs : List A) (i : ℕ) (x : A) (rest : List A) → drop i xs ≡ x ∷ rest → drop (suc i) xs ≡ rest
next_after [] zero x rest e = absurd cc
next_after [] (suc i) x rest e = absurd cc
next_after (y ∷ ys) zero x rest e = cc
next_after (y ∷ ys) (suc i) x rest e = next_after ys i x rest e

pub lines_after : {A : Type 0} (xs : List A) (i : ℕ) (x : A) (rest : List A) → drop i xs ≡ x ∷ rest → drop (i + 1) xs ≡ rest
lines_after xs i x rest e = rw add-one (next_after xs i x rest e)

pub some_left : {A : Type 0} (xs : List A) (i : ℕ) (x : A) (rest : List A) → drop i xs ≡ x ∷ rest → i < length xs
some_left xs i x rest e = slice_get_within xs i x (line_at xs i x rest e)

pub none_left : {A : Type 0} (xs : List A) (i : ℕ) → drop i xs ≡ [] → length xs ≤ i
none_left [] i e = omega arith
none_left (x ∷ xs) zero e = absurd cc
none_left (x ∷ xs) (suc i) e = let few : length xs ≤ i = none_left xs i e in omega (arith, few)

-- ---- the lines of a procedure

abbrev lines : Procedure → List (List ℕ)
lines p = map line_text (procedure_lines p)

abbrev bound : Procedure → List Words
bound p = map value_words p.values

abbrev stated : Procedure → List Words
stated p = map stmt_words p.body

abbrev tail : Procedure → List Words
tail p = tail_lines p.reads p.writes p.body

abbrev ended : List Words
ended = (codes "end" ∷ []) ∷ []

line_count : (p : Procedure) → length (procedure_lines p) ≡ length p.keys + length p.values + length p.body + 4
line_count p = omega (
  arith,
  length-append (map key_words p.keys) (bound p ++ tail p),
  length-append (bound p) (tail p),
  length-append (stated p) ended,
  length-map p.keys key_words,
  length-map p.values value_words,
  length-map p.body stmt_words,
)

low_line : (p : Procedure) (i : ℕ) → i < length p.values
    → slice_get (procedure_lines p) (length p.keys + suc i) ≡ slice_get (bound p ++ stated p) i
low_line p i low =
    let start : length p.keys + suc i ≡ suc (length p.keys + i) = omega arith in
    let keys : length p.keys + i ≡ length (map key_words p.keys) + i = omega (arith, length-map p.keys key_words) in
    let inside : i < length (bound p) = omega (arith, low, length-map p.values value_words) in
    ap (slice_get (procedure_lines p)) start
    ∙ (behind (map key_words p.keys) (bound p ++ tail p) (length p.keys + i) i keys
    ∙ (within (bound p) (tail p) i inside ∙ sym (within (bound p) (stated p) i inside)))

high_line : (p : Procedure) (m : ℕ) → m < length p.body
    → slice_get (procedure_lines p) (length p.keys + (length p.values + m) + 3) ≡ slice_get (bound p ++ stated p) (length p.values + m)
high_line p m low =
    let start : length p.keys + (length p.values + m) + 3 ≡ suc (length p.keys + (length p.values + suc (suc m))) = omega arith in
    let keys : length p.keys + (length p.values + suc (suc m)) ≡ length (map key_words p.keys) + (length p.values + suc (suc m)) =
    omega (arith, length-map p.keys key_words) in
    let values : length p.values + suc (suc m) ≡ length (bound p) + suc (suc m) = omega (arith, length-map p.values value_words) in
    let same : length p.values + m ≡ length (bound p) + m = omega (arith, length-map p.values value_words) in
    let inside : m < length (stated p) = omega (arith, low, length-map p.body stmt_words) in
    ap (slice_get (procedure_lines p)) start
    ∙ (behind (map key_words p.keys) (bound p ++ tail p) (length p.keys + (length p.values + suc (suc m))) (length p.values + suc (suc m)) keys
    ∙ (behind (bound p) (tail p) (length p.values + suc (suc m)) (suc (suc m)) values
    ∙ (within (stated p) ended m inside ∙ sym (behind (bound p) (stated p) (length p.values + m) m same))))

line_low : (p : Procedure) (n : ℕ) → n ≤ length p.values → statement_line p n ≡ length p.keys + n + 1
line_low p n low = let e : nat_le n (length p.values) ≡ true = grind (arith, nat_tests) in rw e refl

line_high : (p : Procedure) (n : ℕ) → length p.values < n → statement_line p n ≡ length p.keys + n + 3
line_high p n high = let e : nat_le n (length p.values) ≡ false = grind (arith, nat_tests) in rw e refl

-- a line of the text that is a statement's
text_same : (p : Procedure) (before i : ℕ) → slice_get (procedure_lines p) before ≡ slice_get (bound p ++ stated p) i
    → slice_get (lines p) before ≡ slice_get (statement_lines p) i
text_same p before i e =
    slice_get-map line_text (procedure_lines p) before ∙ (ap (option_map line_text) e ∙ sym (slice_get-map line_text (bound p ++ stated p) i))

-- the line before which there are these is the statement's
text_is : (p : Procedure) (i before : ℕ) → before + 1 ≡ statement_line p (suc i) → before + 1 < length (lines p)
    → slice_get (lines p) before ≡ slice_get (statement_lines p) i
text_is p i before numbered inner = ⊎_elim
    (λ low.
    let at : before ≡ length p.keys + suc i = omega (arith, numbered, line_low p (suc i) (omega (arith, low))) in
    text_same p before i (ap (slice_get (procedure_lines p)) at ∙ low_line p i low))
    (λ high.
    let number : statement_line p (suc i) ≡ length p.keys + suc i + 3 = line_high p (suc i) (omega (arith, high)) in
    let split : i ≡ length p.values + (i - length p.values) = omega (arith, high) in
    let at : before ≡ length p.keys + (length p.values + (i - length p.values)) + 3 = omega (arith, numbered, number, split) in
    let few : i - length p.values < length p.body =
    omega (arith, numbered, number, split, inner, line_count p, length-map (procedure_lines p) line_text) in
    text_same p before i (ap (slice_get (procedure_lines p)) at
    ∙ (high_line p (i - length p.values) few ∙ ap (slice_get (bound p ++ stated p)) (sym split))))
    (cases_lt i (length p.values))

found : (p : Procedure) (number before : ℕ) (text : List ℕ) → 0 < number → before + 1 ≡ statement_line p number
    → slice_get (lines p) before ≡ Some text → before + 1 < length (lines p) → IsStatement p number (before + 1) text
found p zero before text some numbered at inner = absurd (omega (arith, some))
found p (suc i) before text some numbered at inner =
    let back : before + 1 - 1 ≡ before = omega arith in
    record {
      statement = sym (text_is p i before numbered inner) ∙ at;
      numbered = numbered;
      there = ap (slice_get (lines p)) back ∙ at;
    }

absent : (p : Procedure) (number before : ℕ) → 0 < number → before + 1 ≡ statement_line p number
    → length (lines p) ≤ before + 1 → statement_text p number ≡ None
absent p zero before some numbered outer = absurd (omega (arith, some))
absent p (suc i) before some numbered outer =
    let count : length (lines p) ≡ length (procedure_lines p) = length-map (procedure_lines p) line_text in
    ⊎_elim
    (λ low. absurd (omega (arith, numbered, outer, low, line_low p (suc i) (omega (arith, low)), line_count p, count)))
    (λ high.
    let number : statement_line p (suc i) ≡ length p.keys + suc i + 3 = line_high p (suc i) (omega (arith, high)) in
    let stated_count : length (statement_lines p) ≡ length p.values + length p.body =
    length-map (bound p ++ stated p) line_text ∙ omega (
      arith,
      length-append (bound p) (stated p),
      length-map p.values value_words,
      length-map p.body stmt_words,
    ) in
    slice_get_past (statement_lines p) i (omega (arith, numbered, outer, number, line_count p, count, stated_count)))
    (cases_lt i (length p.values))

-- ---- in the procedure's text

text_lines : (p : Procedure) (text : List ℕ) → IsProcedure p → text ≡ print_procedure p → whole_lines text ≡ lines p
text_lines p text sound is = ap whole_lines is ∙ lines_of_procedure p sound

pub found_in : (p : Procedure) (text : List ℕ) (number before : ℕ) (line : List ℕ) → IsProcedure p → text ≡ print_procedure p → 0 < number
    → before + 1 ≡ statement_line p number → slice_get (whole_lines text) before ≡ Some line → before + 1 < length (whole_lines text)
    → IsStatement p number (before + 1) line
found_in p text number before line sound is some numbered at inner =
    let same : whole_lines text ≡ lines p = text_lines p text sound is in
    found p number before line some numbered (ap (λ (ls : List (List ℕ)). slice_get ls before) (sym same) ∙ at)
    (subst (λ (ls : List (List ℕ)). before + 1 < length ls) same inner)

pub absent_in : (p : Procedure) (text : List ℕ) (number before : ℕ) → IsProcedure p → text ≡ print_procedure p → 0 < number
    → before + 1 ≡ statement_line p number → length (whole_lines text) ≤ before + 1 → statement_text p number ≡ None
absent_in p text number before sound is some numbered outer =
    absent p number before some numbered (subst (λ (ls : List (List ℕ)). length ls ≤ before + 1) (text_lines p text sound is) outer)

-- ---- a text has no more lines than bytes

pub few_lines : (texts : List (List ℕ)) → length texts ≤ length (text_of texts)
few_lines [] = omega arith
few_lines (text ∷ texts) = omega (
  arith,
  few_lines texts,
  length-append (text ++ 10 ∷ []) (text_of texts),
  length-append text (10 ∷ []),
)

pub few_keys : (p : Procedure) → length p.keys + 3 ≤ length (print_procedure p)
few_keys p = omega (arith, few_lines (lines p), line_count p, length-map (procedure_lines p) line_text)
