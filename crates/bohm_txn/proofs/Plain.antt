-- A plain row has no fault if its terms are literals, declared reads or bound locals, and the name it binds is new.
use Rattle.std.proofs.Common.{◌≡◌, ℕ, suc, ◌-◌, ◌≤◌, Bool, true, false, List, [], ◌∷◌, length, drop, map, All, None, refl, ap, sym, ◌∙◌, arith}
use Rattle.std.specs.Prelude.{not, ◌&&◌, nat_le}
use Rattle.std.specs.List.{IsDistinct, between, list_all}
use Rattle.std.specs.Str.{bytes_eq}
use Rattle.std.proofs.lemmas.Bool.{ltb-true, and_parts}
use Rattle.std.proofs.lemmas.List.{length-map, length-take-le, length-drop}
use Rattle.std.proofs.lemmas.List.Folds.{list_all-append}
use Rattle.bohm_types.specs.declared.edition.Edition.{Edition}
use Rattle.bohm_types.specs.Keys.{some_passes}
use Rattle.bohm_types.specs.Parts.{sums, bound}
use Rattle.bohm_types.specs.Stmt.{Stmt}
use Rattle.bohm_types.specs.Term.{Atom}
use Rattle.bohm_log.specs.declared.row.Action.{Action}
use Rattle.bohm_log.specs.declared.row.Action.TheVariants.{Bind, Need, Has, Lacks, Put, PutWhen, Remove, Show, Fail}
use Rattle.bohm_log.specs.declared.row.AtomKind.{AtomKind}
use Rattle.bohm_log.specs.declared.row.AtomKind.TheVariants as kinds
use Rattle.bohm_log.specs.declared.row.StmtRow.{StmtRow}
use Rattle.bohm_log.specs.declared.row.TermRow.{TermRow}
use Rattle.bohm_log.specs.Parts.{Parts, PlaceIn, RowIn, TermIn, atom_at, stmt_made, stmt_of, sum_between, term_of, txn_of}
use Rattle.bohm_txn.specs.declared.fault.CheckKind.{CheckKind}
use Rattle.bohm_txn.specs.declared.fault.CheckKind.TheVariants.{Order, Unread, Unwritten, Local, Limit}
use Rattle.bohm_txn.specs.Faulty.{reads_among, locals_bound, is_bound, is_unread, is_misnamed, is_long, stmt_faulty}
use Rattle.bohm_txn.specs.FirstFault.{least}
use Rattle.bohm_txn.specs.Rows.{AreNoted, has_short_sums, is_at_hand, is_declared, is_placed, is_plain_row, tests_key, writes_key}
use Rattle.bohm_txn.proofs.Placing.{bound_at, two_sums, terms_declared, test_declared, unwritten_row}

-- ---- all sums of a statement

all_sums : (f : List (Bool × Atom) → Bool) (a : Action) (n : List ℕ) (x y z : List (Bool × Atom)) → f x ≡ true → f y ≡ true → f z ≡ true
    → list_all f (sums (stmt_made a n x y z)) ≡ true
all_sums f Bind n x y z a b c = rw a refl
all_sums f (Need cmp) n x y z a b c = rw (a, b) refl
all_sums f Has n x y z a b c = refl
all_sums f Lacks n x y z a b c = refl
all_sums f Put n x y z a b c = rw a refl
all_sums f (PutWhen cmp) n x y z a b c = rw (a, b, c) refl
all_sums f Remove n x y z a b c = refl
all_sums f Show n x y z a b c = rw a refl
all_sums f Fail n x y z a b c = refl

-- ---- terms that are literals, declared reads or locals with a note

module _ (noted : List Bool) where
  declared_kind : (k : AtomKind) (i : ℕ) → is_at_hand noted k i ≡ true → is_declared k ≡ true
  declared_kind kinds.Small i h = refl
  declared_kind kinds.Large i h = refl
  declared_kind kinds.Read i h = refl
  declared_kind kinds.Unread i h = absurd cc
  declared_kind kinds.Local i h = refl

  are_declared : (ts : List TermRow) → list_all (λ t. is_at_hand noted t.kind t.place) ts ≡ true → list_all (λ t. is_declared t.kind) ts ≡ true
  are_declared [] h = refl
  are_declared (t ∷ ts) h =
      let (here, later) = and_parts _ _ h in
      rw (declared_kind t.kind t.place here, are_declared ts later) refl

  module _ (p : Parts) (before : List StmtRow) (apart : IsDistinct bytes_eq p.others) (rows : All (RowIn p) before) (are : AreNoted noted before) where
    abbrev bodies : List Stmt
    bodies = map (stmt_of p) before

    local_bound : (k : AtomKind) (i : ℕ) → PlaceIn p k i → is_at_hand noted k i ≡ true → locals_bound bodies (atom_at p k i) ≡ true
    local_bound kinds.Small i inside h = refl
    local_bound kinds.Large i inside h = refl
    local_bound kinds.Read i inside h = refl
    local_bound kinds.Unread i inside h = absurd cc
    local_bound kinds.Local i inside h =
        let (few, note) = and_parts _ _ h in
        bound_at p before i apart inside rows ∙ (sym (are i (ltb-true i 64 few)) ∙ note)

    locals_are_bound : (ts : List TermRow) → All (TermIn p) ts → list_all (λ t. is_at_hand noted t.kind t.place) ts ≡ true
        → list_all (λ term. locals_bound bodies term.1) (map (term_of p) ts) ≡ true
    locals_are_bound [] within h = refl
    locals_are_bound (t ∷ ts) within h =
        let (here, later) = and_parts _ _ h in
        rw (local_bound t.kind t.place (within 0 t (omega arith)) here, locals_are_bound ts (λ i d l. within (suc i) d (omega arith)) later) refl

-- ---- statements whose key is declared, if they have one

tests_declared : (a : Action) (b : Bool) → is_placed a b ≡ true → (tests_key a && not b) ≡ false
tests_declared Bind b h = refl
tests_declared (Need cmp) b h = refl
tests_declared Has b h = rw h refl
tests_declared Lacks b h = rw h refl
tests_declared Put b h = refl
tests_declared (PutWhen cmp) b h = refl
tests_declared Remove b h = refl
tests_declared Show b h = refl
tests_declared Fail b h = refl

writes_declared : (a : Action) (b : Bool) → is_placed a b ≡ true → (writes_key a && not b) ≡ false
writes_declared Bind b h = refl
writes_declared (Need cmp) b h = refl
writes_declared Has b h = refl
writes_declared Lacks b h = refl
writes_declared Put b h = rw h refl
writes_declared (PutWhen cmp) b h = rw h refl
writes_declared Remove b h = rw h refl
writes_declared Show b h = refl
writes_declared Fail b h = refl

-- ---- a property of all terms of a row, for its three sums

module _ (p : Parts) (f : Bool × Atom → Bool) where
  parts : (i j k l : ℕ) → i ≤ j → j ≤ k → k ≤ l → list_all f (sum_between p i l) ≡ true
      → (list_all f (sum_between p i j) ≡ true) × ((list_all f (sum_between p j k) ≡ true) × (list_all f (sum_between p k l) ≡ true))
  parts i j k l a b c h =
      let rest : j ≤ l = omega (arith, b, c) in
      let (first, others) = and_parts _ _ (sym (list_all-append f (sum_between p i j) (sum_between p j l)) ∙ ap (list_all f) (two_sums p i j l a rest) ∙ h) in
      let (second, third) = and_parts _ _ (sym (list_all-append f (sum_between p j k) (sum_between p k l)) ∙ ap (list_all f) (two_sums p j k l b c) ∙ others) in
      (first, (second, third))

-- ---- the statement of a plain row has no fault

no_least : (f : CheckKind → Bool) → f Order ≡ false → f Unread ≡ false → f Unwritten ≡ false → f Local ≡ false → f Limit ≡ false → least f ≡ None
no_least f a b c d e = rw (a, b, c, d, e) refl

module _ (p : Parts) (i j : ℕ) (rises : i ≤ j) (within : j ≤ length p.terms) where
  sum_length : length (sum_between p i j) ≡ j - i
  sum_length = length-map (between i j p.terms) (term_of p) ∙ length-take-le (j - i) (drop i p.terms) (omega (arith, length-drop i p.terms, rises, within))

  is_short : nat_le (j - i) 16 ≡ true → nat_le (length (sum_between p i j)) 16 ≡ true
  is_short h = rw sum_length h

module _ (p : Parts) (r : StmtRow) (few_reads : length p.reads ≤ 16) (few_writes : length p.writes ≤ 16) (row : RowIn p r) (e : Edition)
    (noted : List Bool) (rows : List StmtRow) (apart : IsDistinct bytes_eq p.others) (before_in : All (RowIn p) rows) (are : AreNoted noted rows) where
  abbrev before : List Stmt
  before = map (stmt_of p) rows

  abbrev first_sum : List (Bool × Atom)
  first_sum = sum_between p r.start r.first

  abbrev second_sum : List (Bool × Atom)
  second_sum = sum_between p r.first r.second

  abbrev third_sum : List (Bool × Atom)
  third_sum = sum_between p r.second r.third

  -- a property of the row's three sums holds for all sums of its statement
  of_sums : (f : List (Bool × Atom) → Bool) → f first_sum ≡ true → f second_sum ≡ true → f third_sum ≡ true → list_all f (sums (stmt_of p r)) ≡ true
  of_sums f a b c = all_sums f r.action _ first_sum second_sum third_sum a b c

  short_sums : has_short_sums r ≡ true → is_long (stmt_of p r) ≡ false
  short_sums h =
      let (first, others) = and_parts _ _ h in
      let (second, third) = and_parts _ _ others in
      ap not (of_sums (λ sum. nat_le (length sum) 16)
      (is_short p r.start r.first row.first (omega (arith, row.second, row.third, row.end)) first)
      (is_short p r.first r.second row.second (omega (arith, row.third, row.end)) second)
      (is_short p r.second r.third row.third row.end third))

  -- a property of each term of the row holds for all terms of its statement's sums
  plain_terms : (f : Bool × Atom → Bool) → list_all f (sum_between p r.start r.third) ≡ true → list_all (list_all f) (sums (stmt_of p r)) ≡ true
  plain_terms f h =
      let (first, (second, third)) = parts p f r.start r.first r.second r.third row.first row.second row.third h in
      of_sums (list_all f) first second third

  abbrev terms : List TermRow
  terms = between r.start r.third p.terms

  module _ (plain : is_plain_row r ≡ true) (at_hand : list_all (λ t. is_at_hand noted t.kind t.place) terms ≡ true) (within : All (TermIn p) terms) where
    placed : is_placed r.action r.declared ≡ true
    placed = (and_parts _ _ plain).0

    all_read : list_all (list_all (λ term. reads_among p.reads term.1)) (sums (stmt_of p r)) ≡ true
    all_read = plain_terms (λ term. reads_among p.reads term.1) (terms_declared p terms few_reads within ∙ are_declared noted terms at_hand)

    all_bound : list_all (list_all (λ term. locals_bound before term.1)) (sums (stmt_of p r)) ≡ true
    all_bound = plain_terms (λ term. locals_bound before term.1) (locals_are_bound noted p rows apart before_in are terms within at_hand)

    unread : is_unread p.reads (stmt_of p r) ≡ false
    unread = rw (
      all_read,
      test_declared p r.action r.declared r.name first_sum second_sum third_sum few_reads row.name,
      tests_declared r.action r.declared placed,
    ) refl

    misnamed : some_passes (is_bound before) (bound (stmt_of p r)) ≡ false → is_misnamed before (stmt_of p r) ≡ false
    misnamed once = rw (all_bound, once) refl

    pub is_faultless : some_passes (is_bound before) (bound (stmt_of p r)) ≡ false → least (stmt_faulty (txn_of e p) before (stmt_of p r)) ≡ None
    is_faultless once = no_least (stmt_faulty (txn_of e p) before (stmt_of p r)) refl unread
        (unwritten_row p r few_writes row ∙ writes_declared r.action r.declared placed) (misnamed once) (short_sums (and_parts _ _ plain).1)
