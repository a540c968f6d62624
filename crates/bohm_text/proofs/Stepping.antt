-- Reading a text line by line, with one step for each line.
use Rattle.std.proofs.Common.{◌≡◌, ℕ, zero, suc, false, ◌+◌, ◌-◌, ◌<◌, ◌≤◌, List, [], ◌∷◌, ◌++◌, length}
use Rattle.std.proofs.Common.{take, Some, None, refl, ap, sym, ◌∙◌, arith, append_assoc, length-append}
use Rattle.std.specs.Prelude.{Option, ◌==◌}
use Rattle.std.proofs.lemmas.Grind.{flat_map-append}
use Rattle.std.proofs.lemmas.List.{take_at, append-nil, nil_from_length}
use Rattle.bohm_text.specs.Print.{text_of}
use Rattle.bohm_text.specs.Cut.{whole_lines}
use Rattle.bohm_text.specs.Reading.{◌>>=◌}
use Rattle.bohm_text.specs.Stepping.{after_lines, IsFirstRefused, IsLeftOpen}

-- `count` lines of the text were read, up to the bytes `rest`, and led to this state
pub record IsReadTo {S : Type 0} (step : S → List ℕ → Option S) (start : S) (text : List ℕ) (count : ℕ) (rest : List ℕ) (state : S) : Type 0 where
  pub done : List (List ℕ)
  pub counted : length done ≡ count
  pub lines : whole_lines text ≡ done ++ whole_lines rest
  pub bytes : text_of done ++ rest ≡ text
  pub read : after_lines step start done ≡ Some state
  pub short : count ≤ length text

pub lines-append : {S : Type 0} (step : S → List ℕ → Option S) (p : S) (xs ys : List (List ℕ))
    → after_lines step p (xs ++ ys) ≡ (after_lines step p xs >>= λ q. after_lines step q ys)
lines-append step p [] ys = refl
lines-append step p (x ∷ xs) ys =
    elim (step p x) as (λ o. (o >>= λ q. after_lines step q (xs ++ ys)) ≡ ((o >>= λ q. after_lines step q xs) >>= λ q. after_lines step q ys))
    [ None ↦ refl | Some q ↦ lines-append step q xs ys ]

pub lines-push : {S : Type 0} (step : S → List ℕ → Option S) (p q : S) (done : List (List ℕ)) (line : List ℕ) (next : Option S)
    → after_lines step p done ≡ Some q → step q line ≡ next → after_lines step p (done ++ line ∷ []) ≡ next
lines-push {S} step p q done line next before now = lines-append step p done (line ∷ []) ∙ rw before (last (step q line) next now)
  where
    last : (o next : Option S) → o ≡ next → (o >>= λ r. Some r) ≡ next
    last None next e = e
    last (Some r) next e = e

-- lines that are refused stay refused when more lines follow
pub none_after : {S : Type 0} (step : S → List ℕ → Option S) (p : S) (lines more : List (List ℕ)) (q : S) → after_lines step p lines ≡ None
    → after_lines step p (lines ++ more) ≡ Some q → ⊥
none_after {S} step p lines more q none e = let stopped : after_lines step p (lines ++ more) ≡ None = lines-append step p lines more ∙ rw none refl in cc

pub length-le-text_of : (lines : List (List ℕ)) → length lines ≤ length (text_of lines)
length-le-text_of [] = omega arith
length-le-text_of (l ∷ ls) = omega (arith, length-le-text_of ls, length-append (l ++ 10 ∷ []) (text_of ls), length-append l (10 ∷ []))

text_of-push : (done : List (List ℕ)) (line : List ℕ) (others : List ℕ) → text_of (done ++ line ∷ []) ++ others ≡ text_of done ++ (line ++ 10 ∷ others)
text_of-push [] line others = simp append_assoc
text_of-push (l ∷ ls) line others = append_assoc (l ++ 10 ∷ []) (text_of (ls ++ line ∷ [])) others
    ∙ (ap (λ (xs : List ℕ). (l ++ 10 ∷ []) ++ xs) (text_of-push ls line others) ∙ sym (append_assoc (l ++ 10 ∷ []) (text_of ls) (line ++ 10 ∷ others)))

pub some_left : (n : ℕ) → false ≡ (n == 0) → 0 < n
some_left zero e = absurd cc
some_left (suc n) e = omega arith

-- before any line is read, the state is the starting state
pub read_none : {S : Type 0} (step : S → List ℕ → Option S) (start : S) (text : List ℕ) → IsReadTo step start text 0 text start
read_none step start text = record { done = []; counted = refl; lines = refl; bytes = refl; read = refl; short = omega arith }

module _ {S : Type 0} {step : S → List ℕ → Option S} {start : S} {text : List ℕ} {count : ℕ} {rest : List ℕ} {p : S}
    (so_far : IsReadTo step start text count rest p) where
  module _ (line others : List ℕ) (lines : whole_lines rest ≡ line ∷ whole_lines others) where
    one_more : whole_lines text ≡ (so_far.done ++ line ∷ []) ++ whole_lines others
    one_more = so_far.lines ∙ (ap (λ (ls : List (List ℕ)). so_far.done ++ ls) lines ∙ sym (append_assoc so_far.done (line ∷ []) (whole_lines others)))

    pub line_fault : step p line ≡ None → IsFirstRefused step start (whole_lines text) (count + 1)
    line_fault bad =
        let counted : length (so_far.done ++ line ∷ []) ≡ count + 1 = omega (arith, length-append so_far.done (line ∷ []), so_far.counted) in
        let before : take (count + 1 - 1) (whole_lines text) ≡ so_far.done =
        rw so_far.lines (take_at so_far.done (whole_lines rest) (count + 1 - 1) (omega (arith, so_far.counted))) in
        let at : take (count + 1) (whole_lines text) ≡ so_far.done ++ line ∷ [] =
        rw one_more (take_at (so_far.done ++ line ∷ []) (whole_lines others) (count + 1) counted) in
        record {
          counted = omega arith;
          within = rw one_more (omega (arith, length-append (so_far.done ++ line ∷ []) (whole_lines others), counted));
          before = rw (before, so_far.read) refl;
          at = rw at (lines-push step start p so_far.done line None so_far.read bad);
        }

    pub read_more : rest ≡ line ++ 10 ∷ others → (q : S) → step p line ≡ Some q → IsReadTo step start text (count + 1) others q
    read_more bytes q now =
        let counted : length (so_far.done ++ line ∷ []) ≡ count + 1 = omega (arith, length-append so_far.done (line ∷ []), so_far.counted) in
        let whole : text_of (so_far.done ++ line ∷ []) ++ others ≡ text =
        text_of-push so_far.done line others ∙ (ap (λ (xs : List ℕ). text_of so_far.done ++ xs) (sym bytes) ∙ so_far.bytes) in
        record {
          done = so_far.done ++ line ∷ [];
          counted = counted;
          lines = one_more;
          bytes = whole;
          read = lines-push step start p so_far.done line (Some q) so_far.read now;
          short = omega (
            arith,
            counted,
            length-le-text_of (so_far.done ++ line ∷ []),
            length-append (text_of (so_far.done ++ line ∷ [])) others,
            ap length whole,
          );
        }

  -- several lines at once
  pub read_lines : (piece : List (List ℕ)) (others : List ℕ) → whole_lines rest ≡ piece ++ whole_lines others → rest ≡ text_of piece ++ others → (q : S)
      → after_lines step p piece ≡ Some q → IsReadTo step start text (count + length piece) others q
  read_lines piece others lines bytes q now =
      let counted : length (so_far.done ++ piece) ≡ count + length piece = omega (arith, length-append so_far.done piece, so_far.counted) in
      let whole : text_of (so_far.done ++ piece) ++ others ≡ text =
      ap (λ (xs : List ℕ). xs ++ others) (flat_map-append (λ (line : List ℕ). line ++ 10 ∷ []) so_far.done piece)
      ∙ (append_assoc (text_of so_far.done) (text_of piece) others ∙ (ap (λ (xs : List ℕ). text_of so_far.done ++ xs) (sym bytes) ∙ so_far.bytes)) in
      record {
        done = so_far.done ++ piece;
        counted = counted;
        lines = so_far.lines ∙ (ap (λ (ls : List (List ℕ)). so_far.done ++ ls) lines ∙ sym (append_assoc so_far.done piece (whole_lines others)));
        bytes = whole;
        read = lines-append step start so_far.done piece ∙ rw so_far.read now;
        short = omega (
          arith,
          counted,
          length-le-text_of (so_far.done ++ piece),
          length-append (text_of (so_far.done ++ piece)) others,
          ap length whole,
        );
      }

  module _ (last : whole_lines rest ≡ []) where
    all_done : whole_lines text ≡ so_far.done
    all_done = so_far.lines ∙ (ap (λ (ls : List (List ℕ)). so_far.done ++ ls) last ∙ append-nil so_far.done)

    pub all_read : after_lines step start (whole_lines text) ≡ Some p
    all_read = ap (after_lines step start) all_done ∙ so_far.read

    pub left_open : {X : Type 0} (whole : X → S) → ((x : X) → p ≡ whole x → ⊥) → IsLeftOpen step start whole text
    left_open whole elsewhere = record { state = p; read = all_read; unfinished = λ x e _. elsewhere x e }

    pub rest_left : {X : Type 0} (whole : X → S) → 0 < length rest → IsLeftOpen step start whole text
    rest_left whole some = record {
      state = p;
      read = all_read;
      unfinished = λ x _ same.
          let done : text_of so_far.done ≡ text = ap text_of (sym all_done) ∙ same in
          absurd (omega (arith, ap length done, ap length so_far.bytes, length-append (text_of so_far.done) rest));
    }

    pub whole_text : length rest ≡ 0 → text_of (whole_lines text) ≡ text
    whole_text empty = ap text_of all_done
        ∙ (sym (append-nil (text_of so_far.done)) ∙ (ap (λ (xs : List ℕ). text_of so_far.done ++ xs) (sym (nil_from_length rest empty)) ∙ so_far.bytes))

    pub count_all : length (whole_lines text) ≡ count
    count_all = ap length all_done ∙ so_far.counted
