-- The cells of keys and the values of locals, by index.
use Rattle.std.proofs.Common.{◌≡◌, ℕ, zero, suc, ◌<◌, ◌≤◌, Bool, true, false, List, [], ◌∷◌, ◌++◌, length, Some, refl, ap, sym, ◌∙◌, arith, slice_set}
use Rattle.std.specs.Prelude.{ℤ, pos, negsuc, ◌+ℤ◌, not, if◌then◌else◌}
use Rattle.std.specs.List.{slice_index_or}
use Rattle.std.specs.Option.{option_map}
use Rattle.std.specs.Str.{bytes_eq}
use Rattle.std.proofs.lemmas.Bool.{and_parts, false_from_ne_true, true≢false}
use Rattle.std.proofs.lemmas.List.{get_or_default}
use Rattle.std.proofs.lemmas.Option.{slice_get-get_or}
use Rattle.bohm_types.specs.declared.cell.Cell.{Cell}
use Rattle.bohm_types.specs.declared.cell.Cell.TheVariants.{Absent}
use Rattle.bohm_types.specs.declared.edition.Edition.TheVariants.{One, Two}
use Rattle.bohm_types.specs.Keys.{is_among, place}
use Rattle.bohm_types.specs.Txn.{Txn}
use Rattle.bohm_log.specs.Parts.{name_at}
use Rattle.bohm_txn.specs.Meaning.{Look, Locals, atom_value, newest, signed}
use Rattle.bohm_txn.specs.Tables.{Tables, cell_at, cell_from, written}
use Rattle.bohm_txn.proofs.ForCallers.{AllApart, among_first, among_then, key_itself, only_place}
use Rattle.bohm_shapes.specs.Filled.{number_term}
use Rattle.bohm_shapes.specs.Apart.{all_apart}
use Rattle.bohm_shapes.specs.Running.{bound_to}

-- the test tells that no name occurs twice
pub apart : (xs : List (List ℕ)) → all_apart xs ≡ true → AllApart xs
apart [] h = tt
apart (x ∷ xs) h =
    let (first, others) = and_parts (not (is_among xs x)) (all_apart xs) h in (λ among. true≢false (sym among ∙ not_true (is_among xs x) first), apart xs others)
  where
    not_true : (b : Bool) → not b ≡ true → b ≡ false
    not_true true e = absurd cc
    not_true false e = refl

own_place : (keys : List (List ℕ)) (i : ℕ) → AllApart keys → i < length keys → place keys (name_at keys i) ≡ Some i
own_place keys i up inside = only_place keys (name_at keys i) (Some i) up (slice_get-get_or keys i [] inside)

pub slot_cell : (keys : List (List ℕ)) (cells : List Cell) (i : ℕ) (c : Cell) → all_apart keys ≡ true → length keys ≡ length cells → i < length keys
    → slice_index_or cells i c ≡ cell_at keys cells (name_at keys i)
slot_cell keys cells i c up long inside =
    get_or_default cells i c Absent (omega (arith, long, inside)) ∙ sym (ap (cell_from cells) (own_place keys i (apart keys up) inside))

-- a literal is added with its sign
pub number_value : (look : Look) (locals : Locals) (total v : ℤ)
    → option_map (λ z. signed total (number_term v).0 z) (atom_value look locals (number_term v).1) ≡ Some (total +ℤ v)
number_value look locals total (pos n) = refl
number_value look locals total (negsuc n) = refl

-- ---- locals

not_there : (xs : List (List ℕ)) (vs : List ℤ) (x : List ℕ) (v : ℤ) → (is_among xs x ≡ true → ⊥) → newest (bound_to xs vs) x v ≡ v
not_there [] vs x v none = refl
not_there (y ∷ ys) [] x v none = refl
not_there (y ∷ ys) (w ∷ ws) x v none =
    let other : bytes_eq y x ≡ false = false_from_ne_true (bytes_eq y x) (λ e. none (among_first y x ys e)) in
    ap (λ (t : Bool). newest (bound_to ys ws) x (if t then w else v)) other ∙ not_there ys ws x v (λ h. none (among_then y x ys h))

bound_number : (xs : List (List ℕ)) (vs : List ℤ) (i : ℕ) (b d : ℤ) → AllApart xs → i < length vs → length vs ≤ length xs
    → slice_index_or vs i d ≡ newest (bound_to xs vs) (name_at xs i) b
bound_number [] vs i b d up inside few = absurd (omega (arith, inside, few))
bound_number (x ∷ xs) [] i b d up inside few = absurd (omega (arith, inside))
bound_number (x ∷ xs) (v ∷ vs) zero b d up inside few =
    sym (ap (λ (t : Bool). newest (bound_to xs vs) x (if t then v else b)) (key_itself x) ∙ not_there xs vs x v up.0)
bound_number (x ∷ xs) (v ∷ vs) (suc i) b d up inside few = bound_number xs vs i _ d up.1 (omega (arith, inside)) (omega (arith, few))

pub local_number : (xs : List (List ℕ)) (vs : List ℤ) (i : ℕ) (b d : ℤ) → all_apart xs ≡ true → i < length vs → length vs ≤ length xs
    → slice_index_or vs i d ≡ newest (bound_to xs vs) (name_at xs i) b
local_number xs vs i b d up inside few = bound_number xs vs i b d (apart xs up) inside few

pub bound_none : (xs : List (List ℕ)) → bound_to xs [] ≡ []
bound_none [] = refl
bound_none (x ∷ xs) = refl

pub one_more_bound : (xs : List (List ℕ)) (vs : List ℤ) (v : ℤ) → length vs < length xs
    → bound_to xs (vs ++ v ∷ []) ≡ bound_to xs vs ++ (name_at xs (length vs), v) ∷ []
one_more_bound [] vs v few = absurd (omega (arith, few))
one_more_bound (x ∷ xs) [] v few = ap (λ (r : Locals). (x, v) ∷ r) (bound_none xs)
one_more_bound (x ∷ xs) (w ∷ ws) v few = ap (λ (r : Locals). (x, w) ∷ r) (one_more_bound xs ws v (omega (arith, few)))

-- ---- a cell that is written

module _ (t : Txn) (w : Tables) (i : ℕ) (c : Cell) (up : all_apart t.writes ≡ true) (inside_writes : i < length t.writes) where
  pub written_blind : t.edition ≡ One → written t w (name_at t.writes i) c ≡ record w { cells = slice_set w.cells i c }
  written_blind is = rw (is, own_place t.writes i (apart t.writes up) inside_writes) refl

  -- the keys that it reads are those that it writes
  pub written_seen : t.edition ≡ Two → t.reads ≡ t.writes
      → written t w (name_at t.writes i) c ≡ record w { seen = slice_set w.seen i c; cells = slice_set w.cells i c }
  written_seen is same = rw (is, same, own_place t.writes i (apart t.writes up) inside_writes) refl
