-- The literals, terms and statements that a call adds for its values: those so far and those still to add.
use Rattle.std.proofs.Common.{◌≡◌, ℕ, zero, suc, ◌+◌, ◌<◌, ◌≤◌, true, false, List, [], ◌∷◌, ◌++◌, length, get_or, take, drop}
use Rattle.std.proofs.Common.{refl, ap, sym, ◌∙◌, arith, append_assoc, append-nil, replicate}
use Rattle.std.specs.List.{AllByRecursion}
use Rattle.std.specs.Prelude.{ℤ, pos, nat_lt, ◌^◌, ◌-◌, if◌then◌else◌}
use Rattle.std.proofs.Common.{map}
use Rattle.std.proofs.lemmas.Slice.{between_to_end}
use Rattle.std.proofs.lemmas.List.{drop_all, length-append, length-map, length-drop}
use Rattle.std.specs.Int.RustNames.{unsigned_abs}
use Rattle.bohm_log.specs.declared.row.TermRow.{TermRow}
use Rattle.bohm_log.specs.declared.row.StmtRow.{StmtRow}
use Rattle.bohm_types.specs.Procedure.{is_minus}
use Rattle.bohm_log.specs.Calling.{literal_term, value_terms, value_large, let_large, let_terms, let_row, let_rows}
use Rattle.bohm_log.proofs.Lists.{front}

pub same_many : (many other : ℕ) (v : ℤ) → length (value_terms many v) ≡ length (value_terms other v)
same_many many other v =
    elim (nat_lt (unsigned_abs v) (2 ^ 63)) as
    (λ b. length (if b then literal_term many (is_minus v) (unsigned_abs v) ∷ [] else
    (literal_term many (is_minus v) (2 ^ 63 - 1) ∷ literal_term many (is_minus v) 1 ∷ []))
    ≡ length (if b then literal_term other (is_minus v) (unsigned_abs v) ∷ [] else
    (literal_term other (is_minus v) (2 ^ 63 - 1) ∷ literal_term other (is_minus v) 1 ∷ []))) [
      | true ↦ refl
      | false ↦ refl
    ]

-- ---- adding the next value

pub large_next : (old now next : List ℕ) (vs : List ℤ) (i : ℕ) (v : ℤ) → i < length vs → v ≡ get_or vs i v
    → now ++ let_large (drop i vs) ≡ old ++ let_large vs → next ≡ now ++ value_large v → next ++ let_large (drop (i + 1) vs) ≡ old ++ let_large vs
large_next old now next vs i v inside is h e =
    ap (λ xs. xs ++ let_large (drop (i + 1) vs)) e ∙ append_assoc now (value_large v) (let_large (drop (i + 1) vs))
    ∙ ap (λ (ws : List ℤ). now ++ let_large ws) (sym (front vs i v inside is)) ∙ h

pub terms_next : (old now next : List TermRow) (large many more : ℕ) (vs : List ℤ) (i : ℕ) (v : ℤ) → i < length vs → v ≡ get_or vs i v
    → now ++ let_terms many (drop i vs) ≡ old ++ let_terms large vs → next ≡ now ++ value_terms many v → more ≡ many + length (value_large v)
    → next ++ let_terms more (drop (i + 1) vs) ≡ old ++ let_terms large vs
terms_next old now next large many more vs i v inside is h e m =
    (λ j. e j ++ let_terms (m j) (drop (i + 1) vs))
    ∙ append_assoc now (value_terms many v) (let_terms (many + length (value_large v)) (drop (i + 1) vs))
    ∙ ap (λ (ws : List ℤ). now ++ let_terms many ws) (sym (front vs i v inside is)) ∙ h

pub rows_next : (old now next : List StmtRow) (first start end : ℕ) (places : List ℕ) (vs : List ℤ) (i place : ℕ) (v : ℤ)
    → i < length vs → v ≡ get_or vs i v → i < length places → place ≡ get_or places i place
    → now ++ let_rows start (drop i places) (drop i vs) ≡ old ++ let_rows first places vs
    → next ≡ now ++ let_row place start end ∷ [] → end ≡ start + length (value_terms 0 v)
    → next ++ let_rows end (drop (i + 1) places) (drop (i + 1) vs) ≡ old ++ let_rows first places vs
rows_next old now next first start end places vs i place v inside is in_places place_is h r longer =
    ap (λ xs. xs ++ let_rows end (drop (i + 1) places) (drop (i + 1) vs)) r
    ∙ append_assoc now (let_row place start end ∷ []) (let_rows end (drop (i + 1) places) (drop (i + 1) vs))
    ∙ (λ j. now ++ let_row place start (longer j) ∷ let_rows (longer j) (drop (i + 1) places) (drop (i + 1) vs))
    ∙ (λ j. now ++ let_rows start (sym (front places i place in_places place_is) j) (sym (front vs i v inside is) j))
    ∙ h

-- ---- how many terms and statements there are

pub terms_many : (many other : ℕ) (vs : List ℤ) → length (let_terms many vs) ≡ length (let_terms other vs)
terms_many many other [] = refl
terms_many many other (v ∷ vs) = omega (
  arith,
  length-append (value_terms many v) (let_terms (many + length (value_large v)) vs),
  length-append (value_terms other v) (let_terms (other + length (value_large v)) vs),
  same_many many other v,
  terms_many (many + length (value_large v)) (other + length (value_large v)) vs,
)

pub rows_many : (start : ℕ) (places : List ℕ) (vs : List ℤ) → length vs ≡ length places → length (let_rows start places vs) ≡ length places
rows_many start [] vs h = refl
rows_many start (i ∷ is) [] h = absurd (omega (arith, h))
rows_many start (i ∷ is) (v ∷ vs) h = omega (arith, h, rows_many (start + length (value_terms 0 v)) is vs (omega (arith, h)))

-- a call appends as many statements as the body has: those of the values replace the first ones
pub rows_longer : (old now next : List StmtRow) (g : StmtRow → StmtRow) (rows : List StmtRow) (start : ℕ) (places : List ℕ) (vs : List ℤ)
    → length vs ≡ length places → length places ≤ length rows → now ≡ old ++ let_rows start places vs → next ≡ now ++ map g (drop (length places) rows)
    → length next ≡ length old + length rows
rows_longer old now next g rows start places vs same few a b = omega (
  arith,
  same,
  few,
  ap length a,
  length-append old (let_rows start places vs),
  rows_many start places vs same,
  ap length b,
  length-append now (map g (drop (length places) rows)),
  length-map (drop (length places) rows) g,
  length-drop (length places) rows,
)

-- the entries of a slice after the first n are the rows after the first n
pub behind : {A B : Type 0} (g : A → B) (old : List B) (s rows : List A) (n : ℕ) → s ≡ rows
    → old ++ map g (take (length s - n) (drop n s)) ≡ old ++ map g (drop n rows)
behind g old s rows n e = ap (λ xs. old ++ map g xs) (between_to_end s n (length s) (omega arith) ∙ ap (drop n) e)

-- a call has as many statements as the body
pub rows_whole : (g : StmtRow → StmtRow) (rows : List StmtRow) (start : ℕ) (places : List ℕ) (vs : List ℤ) → length vs ≡ length places
    → length places ≤ length rows → length (let_rows start places vs ++ map g (drop (length places) rows)) ≡ length rows
rows_whole g rows start places vs same few = omega (
  arith,
  rows_longer [] (let_rows start places vs) (let_rows start places vs ++ map g (drop (length places) rows)) g rows start places vs same few refl refl,
)

pub many_next : (large many more : ℕ) (vs : List ℤ) (i : ℕ) (v : ℤ) → i < length vs → v ≡ get_or vs i v
    → many + length (let_large (drop i vs)) ≡ large + length (let_large vs) → more ≡ many + length (value_large v)
    → more + length (let_large (drop (i + 1) vs)) ≡ large + length (let_large vs)
many_next large many more vs i v inside is h m = omega (
  arith,
  h,
  m,
  ap (λ (ws : List ℤ). length (let_large ws)) (front vs i v inside is),
  length-append (value_large v) (let_large (drop (i + 1) vs)),
)

pub start_next : (first start end : ℕ) (vs : List ℤ) (i : ℕ) (v : ℤ) → i < length vs → v ≡ get_or vs i v
    → start + length (let_terms 0 (drop i vs)) ≡ first + length (let_terms 0 vs) → end ≡ start + length (value_terms 0 v)
    → end + length (let_terms 0 (drop (i + 1) vs)) ≡ first + length (let_terms 0 vs)
start_next first start end vs i v inside is h m = omega (
  arith,
  h,
  m,
  ap (λ (ws : List ℤ). length (let_terms 0 ws)) (front vs i v inside is),
  length-append (value_terms 0 v) (let_terms (0 + length (value_large v)) (drop (i + 1) vs)),
  terms_many (0 + length (value_large v)) 0 (drop (i + 1) vs),
)

-- n zeros have n terms
pub zero_terms : (many n : ℕ) → length (let_terms many (replicate n (pos 0))) ≡ n
zero_terms many zero = refl
zero_terms many (suc n) = ap suc (zero_terms (many + 0) n)

-- values of one term each have the same statements as zeros
pub short_rows : (start : ℕ) (places : List ℕ) (vs : List ℤ) → AllByRecursion (λ (v : ℤ). length (value_terms 0 v) ≡ 1) vs → length vs ≡ length places
    → let_rows start places (replicate (length places) (pos 0)) ≡ let_rows start places vs
short_rows start [] [] short same = refl
short_rows start [] (v ∷ vs) short same = absurd (omega (arith, same))
short_rows start (i ∷ is) [] short same = absurd (omega (arith, same))
short_rows start (i ∷ is) (v ∷ vs) short same =
    ap (λ (n : ℕ). let_row i start (start + n) ∷ let_rows (start + n) is (replicate (length is) (pos 0))) (sym short.0)
    ∙ ap (λ (rs : List StmtRow). let_row i start (start + length (value_terms 0 v)) ∷ rs)
    (short_rows (start + length (value_terms 0 v)) is vs short.1 (omega (arith, same)))

-- ---- after the last value

pub large_all : (old now : List ℕ) (vs : List ℤ) (i : ℕ) → length vs ≤ i → now ++ let_large (drop i vs) ≡ old ++ let_large vs → now ≡ old ++ let_large vs
large_all old now vs i past h = sym (append-nil now) ∙ ap (λ (ws : List ℤ). now ++ let_large ws) (sym (drop_all i vs past)) ∙ h

pub terms_all : (old now : List TermRow) (large many : ℕ) (vs : List ℤ) (i : ℕ) → length vs ≤ i
    → now ++ let_terms many (drop i vs) ≡ old ++ let_terms large vs → now ≡ old ++ let_terms large vs
terms_all old now large many vs i past h = sym (append-nil now) ∙ ap (λ (ws : List ℤ). now ++ let_terms many ws) (sym (drop_all i vs past)) ∙ h

pub rows_all : (old now : List StmtRow) (first start : ℕ) (places : List ℕ) (vs : List ℤ) (i : ℕ) → length places ≡ length vs → length vs ≤ i
    → now ++ let_rows start (drop i places) (drop i vs) ≡ old ++ let_rows first places vs → now ≡ old ++ let_rows first places vs
rows_all old now first start places vs i same past h =
    let none : drop i places ≡ [] = drop_all i places (omega (arith, same, past)) in
    sym (append-nil now) ∙ ap (λ (ps : List ℕ). now ++ let_rows start ps (drop i vs)) (sym none) ∙ h
