-- Keys, terms and statements, from the indices that denote them.
use Rattle.std.proofs.Common.{◌≡◌, ℕ, suc, ◌-◌, ◌+◌, ◌<◌, ◌≤◌, Bool, true, false, List, [], ◌∷◌, ◌++◌, length}
use Rattle.std.proofs.Common.{take, drop, map, All, Some, None, refl, ap, sym, subst, ⊎_elim, ◌∙◌, arith}
use Rattle.std.specs.Prelude.{not, ◌&&◌, ◌||◌, ◌==◌}
use Rattle.std.specs.List.{IsDistinct, between, flat_map, list_all, list_any, slice_index_or}
use Rattle.std.specs.Str.{bytes_eq}
use Rattle.std.proofs.lemmas.Bool.{cases_lt}
use Rattle.std.proofs.lemmas.Bool.Decides.{eqb_tells}
use Rattle.std.proofs.lemmas.Map.Keys.{apart_from_distinct}
use Rattle.std.proofs.Math.Seq.{take-add}
use Rattle.std.proofs.lemmas.List.{append-nil, drop-drop, map-append}
use Rattle.std.proofs.lemmas.List.Edits.{between_none}
use Rattle.std.proofs.lemmas.List.Folds.{list_all-append}
use Rattle.std.proofs.lemmas.Option.{slice_get-get_or}
use Rattle.bohm_types.specs.declared.cell.Cell.{Cell}
use Rattle.bohm_types.specs.declared.cell.Cell.TheVariants.{Absent}
use Rattle.bohm_types.specs.Term.{Atom}
use Rattle.bohm_types.specs.Parts.{sums, tested}
use Rattle.bohm_types.specs.Keys.{is_among, rising, some_passes}
use Rattle.bohm_log.specs.declared.row.Action.{Action}
use Rattle.bohm_log.specs.declared.row.Action.TheVariants.{Bind, Need, Has, Lacks, Put, PutWhen, Remove, Show, Fail}
use Rattle.bohm_log.specs.declared.row.AtomKind.{AtomKind}
use Rattle.bohm_log.specs.declared.row.AtomKind.TheVariants as kinds
use Rattle.bohm_log.specs.declared.row.StmtRow.{StmtRow}
use Rattle.bohm_log.specs.declared.row.TermRow.{TermRow}
use Rattle.bohm_log.specs.Parts.{Parts, PlaceIn, KeyIn, NameIn, RowIn, TermIn, IsApart, atom_at}
use Rattle.bohm_log.specs.Parts.{name_at, key_at, named_by, stmt_made, stmt_of, sum_between, term_of}
use Rattle.bohm_log.proofs.ForCallers.{key_itself, other_key}
use Rattle.bohm_txn.specs.Faulty.{reads_among, binds, is_bound, is_unread, is_unwritten}
use Rattle.bohm_txn.specs.Rows.{end_by, end_of, is_declared, tests_key, writes_key, binds_by, binds_at}
use Rattle.bohm_txn.specs.Tables.{cell_at}
use Rattle.bohm_txn.proofs.Bodies.{among_at}
use Rattle.bohm_txn.proofs.Places.{cell_at_place}

-- ---- the cell of a key at an index, and of an undeclared key

pub placed_read : (keys : List (List ℕ)) (cells : List Cell) (i : ℕ) → rising keys ≡ true → i < length keys
    → cell_at keys cells (name_at keys i) ≡ slice_index_or cells i Absent
placed_read keys cells i up inside = cell_at_place keys cells (name_at keys i) (Some i) up (slice_get-get_or keys i [] inside)

pub unread_absent : (keys : List (List ℕ)) (cells : List Cell) (k : List ℕ) → rising keys ≡ true → length keys ≤ 16 → IsApart keys k
    → cell_at keys cells k ≡ Absent
unread_absent keys cells k up few apart = cell_at_place keys cells k None up (apart few)

-- ---- the terms of a statement's sums

joined_between : {A : Type 0} (xs : List A) (i j k : ℕ) → i ≤ j → j ≤ k → between i j xs ++ between j k xs ≡ between i k xs
joined_between xs i j k a b =
    let there : i + (j - i) ≡ j = omega arith in
    let rest : drop j xs ≡ drop (j - i) (drop i xs) = sym (drop-drop (j - i) i xs ∙ ap (λ n. drop n xs) there) in
    let long : k - i ≡ (j - i) + (k - j) = omega arith in
    rw rest (sym (ap (λ n. take n (drop i xs)) long ∙ take-add (j - i) (k - j) (drop i xs)))

module _ (p : Parts) where
  pub two_sums : (i j k : ℕ) → i ≤ j → j ≤ k → sum_between p i j ++ sum_between p j k ≡ sum_between p i k
  two_sums i j k a b = sym (map-append (term_of p) (between i j p.terms) (between j k p.terms)) ∙ ap (map (term_of p)) (joined_between p.terms i j k a b)

  one_sum : (i j : ℕ) → sum_between p i j ++ [] ≡ sum_between p i j
  one_sum i j = append-nil (sum_between p i j)

  no_sum : (i : ℕ) → [] ≡ sum_between p i i
  no_sum i = ap (map (term_of p)) (sym (between_none p.terms i))

  by_action : (a : Action) (x : List ℕ) (start first second third : ℕ) → start ≤ first → first ≤ second → second ≤ third
      → flat_map (λ sum. sum) (sums (stmt_made a x (sum_between p start first) (sum_between p first second) (sum_between p second third)))
      ≡ sum_between p start (end_by a start first second third)
  by_action Bind x start first second third a b c = one_sum start first
  by_action (Need cmp) x start first second third a b c = rw (one_sum first second) (two_sums start first second a b)
  by_action Has x start first second third a b c = no_sum start
  by_action Lacks x start first second third a b c = no_sum start
  by_action Put x start first second third a b c = one_sum start first
  by_action (PutWhen cmp) x start first second third a b c =
      rw (one_sum second third, two_sums first second third b c) (two_sums start first third a (omega (arith, b, c)))
  by_action Remove x start first second third a b c = no_sum start
  by_action Show x start first second third a b c = one_sum start first
  by_action Fail x start first second third a b c = no_sum start

pub all_terms : (p : Parts) (r : StmtRow) → RowIn p r → flat_map (λ sum. sum) (sums (stmt_of p r)) ≡ sum_between p r.start (end_of r)
all_terms p r h = by_action p r.action _ r.start r.first r.second r.third h.first h.second h.third

pub all_flat : (f : Bool × Atom → Bool) (xs : List (List (Bool × Atom))) → list_all (list_all f) xs ≡ list_all f (flat_map (λ sum. sum) xs)
all_flat f [] = refl
all_flat f (x ∷ xs) = rw (list_all-append f x (flat_map (λ sum. sum) xs), all_flat f xs) refl

-- ---- keys that aren't declared

atom_declared : (p : Parts) (k : AtomKind) (i : ℕ) → length p.reads ≤ 16 → PlaceIn p k i → reads_among p.reads (atom_at p k i) ≡ is_declared k
atom_declared p kinds.Small i few h = refl
atom_declared p kinds.Large i few h = refl
atom_declared p kinds.Read i few h = among_at p.reads i (name_at p.reads i) (slice_get-get_or p.reads i [] h)
atom_declared p kinds.Unread i few h = h.apart few
atom_declared p kinds.Local i few h = refl

pub terms_declared : (p : Parts) (ts : List TermRow) → length p.reads ≤ 16 → All (TermIn p) ts
    → list_all (λ term. reads_among p.reads term.1) (map (term_of p) ts) ≡ list_all (λ t. is_declared t.kind) ts
terms_declared p [] few h = refl
terms_declared p (t ∷ ts) few h = rw (atom_declared p t.kind t.place few (h 0 t (omega arith)), terms_declared p ts few (λ i d l. h (suc i) d (omega arith)))
    refl

declared_key : (keys others : List (List ℕ)) (declared : Bool) (i : ℕ) → length keys ≤ 16 → KeyIn keys others declared i
    → is_among keys (key_at keys others declared i) ≡ declared
declared_key keys others true i few h = among_at keys i (name_at keys i) (slice_get-get_or keys i [] h)
declared_key keys others false i few h = h.apart few

pub test_declared : (p : Parts) (a : Action) (declared : Bool) (i : ℕ) (x y z : List (Bool × Atom)) → length p.reads ≤ 16 → NameIn p a declared i
    → some_passes (λ k. not (is_among p.reads k)) (tested (stmt_made a (named_by p a declared i) x y z)) ≡ (tests_key a && not declared)
test_declared p Bind b i x y z few h = refl
test_declared p (Need c) b i x y z few h = refl
test_declared p Has b i x y z few h = ap not (declared_key p.reads p.others b i few h)
test_declared p Lacks b i x y z few h = ap not (declared_key p.reads p.others b i few h)
test_declared p Put b i x y z few h = refl
test_declared p (PutWhen c) b i x y z few h = refl
test_declared p Remove b i x y z few h = refl
test_declared p Show b i x y z few h = refl
test_declared p Fail b i x y z few h = refl

write_declared : (p : Parts) (a : Action) (declared : Bool) (i : ℕ) (x y z : List (Bool × Atom)) → length p.writes ≤ 16 → NameIn p a declared i
    → is_unwritten p.writes (stmt_made a (named_by p a declared i) x y z) ≡ (writes_key a && not declared)
write_declared p Bind b i x y z few h = refl
write_declared p (Need c) b i x y z few h = refl
write_declared p Has b i x y z few h = refl
write_declared p Lacks b i x y z few h = refl
write_declared p Put b i x y z few h = ap not (declared_key p.writes p.others b i few h)
write_declared p (PutWhen c) b i x y z few h = ap not (declared_key p.writes p.others b i few h)
write_declared p Remove b i x y z few h = ap not (declared_key p.writes p.others b i few h)
write_declared p Show b i x y z few h = refl
write_declared p Fail b i x y z few h = refl

pub unwritten_row : (p : Parts) (r : StmtRow) → length p.writes ≤ 16 → RowIn p r → is_unwritten p.writes (stmt_of p r) ≡ (writes_key r.action && not r.declared)
unwritten_row p r few h = write_declared p r.action r.declared r.name _ _ _ few h.name

pub unread_row : (p : Parts) (r : StmtRow) (ts : List TermRow) → length p.reads ≤ 16 → RowIn p r → All (TermIn p) ts
    → map (term_of p) ts ≡ flat_map (λ sum. sum) (sums (stmt_of p r))
    → is_unread p.reads (stmt_of p r) ≡ (not (list_all (λ t. is_declared t.kind) ts) || (tests_key r.action && not r.declared))
unread_row p r ts few h all same =
    let flat : list_all (list_all (λ term. reads_among p.reads term.1)) (sums (stmt_of p r)) ≡ list_all (λ t. is_declared t.kind) ts =
    all_flat (λ term. reads_among p.reads term.1) (sums (stmt_of p r)) ∙ ap (list_all (λ term. reads_among p.reads term.1)) (sym same)
    ∙ terms_declared p ts few all in
    rw (
      flat,
      test_declared p r.action r.declared r.name (sum_between p r.start r.first) (sum_between p r.first r.second)
          (sum_between p r.second r.third) few h.name,
    ) refl

-- ---- where a statement's terms end

end_by_rises : (a : Action) (start first second third : ℕ) → start ≤ first → first ≤ second → second ≤ third
    → (start ≤ end_by a start first second third) × (end_by a start first second third ≤ third)
end_by_rises Bind start first second third a b c = (a, omega (arith, b, c))
end_by_rises (Need cmp) start first second third a b c = (omega (arith, a, b), c)
end_by_rises Has start first second third a b c = (omega arith, omega (arith, a, b, c))
end_by_rises Lacks start first second third a b c = (omega arith, omega (arith, a, b, c))
end_by_rises Put start first second third a b c = (a, omega (arith, b, c))
end_by_rises (PutWhen cmp) start first second third a b c = (omega (arith, a, b, c), omega arith)
end_by_rises Remove start first second third a b c = (omega arith, omega (arith, a, b, c))
end_by_rises Show start first second third a b c = (a, omega (arith, b, c))
end_by_rises Fail start first second third a b c = (omega arith, omega (arith, a, b, c))

pub end_within : (p : Parts) (r : StmtRow) → RowIn p r → (r.start ≤ end_of r) × (end_of r ≤ length p.terms)
end_within p r h =
    let (rises, below) = end_by_rises r.action r.start r.first r.second r.third h.first h.second h.third in
    (rises, omega (arith, below, h.end))

-- ---- whether a statement binds the name at an index

pub same_place : (names : List (List ℕ)) (i j : ℕ) → IsDistinct bytes_eq names → i < length names → j < length names
    → bytes_eq (name_at names i) (name_at names j) ≡ (i == j)
same_place names i j apart hi hj = ⊎_elim
    (λ yes. let there : bytes_eq (name_at names i) (name_at names j) ≡ true =
    subst (λ n. bytes_eq (name_at names i) (name_at names n) ≡ true) yes.1 (key_itself (name_at names i)) in there ∙ sym yes.0)
    (λ no. ⊎_elim
    (λ early. apart_from_distinct bytes_eq names i j [] apart early hj ∙ sym no.0)
    (λ late.
    let strict : j < i = lt_from j i late (λ e. no.1 (sym e)) in
    other_key (name_at names j) (name_at names i) (apart_from_distinct bytes_eq names j i [] apart strict hi) ∙ sym no.0)
    (cases_lt i j))
    (eqb_tells i j)
  where
    lt_from : (a b : ℕ) → a ≤ b → ¬ (a ≡ b) → a < b
    lt_from a b h ne = grind (arith, h, ne)

bound_row : (p : Parts) (a : Action) (declared : Bool) (i j : ℕ) (x y z : List (Bool × Atom)) → IsDistinct bytes_eq p.others → j < length p.others
    → NameIn p a declared i
    → binds (name_at p.others j) (stmt_made a (named_by p a declared i) x y z) ≡ binds_by a i j
bound_row p Bind b i j x y z apart hj h = same_place p.others i j apart h hj
bound_row p (Need c) b i j x y z apart hj h = refl
bound_row p Has b i j x y z apart hj h = refl
bound_row p Lacks b i j x y z apart hj h = refl
bound_row p Put b i j x y z apart hj h = refl
bound_row p (PutWhen c) b i j x y z apart hj h = refl
bound_row p Remove b i j x y z apart hj h = refl
bound_row p Show b i j x y z apart hj h = refl
bound_row p Fail b i j x y z apart hj h = refl

pub bound_at : (p : Parts) (rs : List StmtRow) (j : ℕ) → IsDistinct bytes_eq p.others → j < length p.others → All (RowIn p) rs
    → is_bound (map (stmt_of p) rs) (name_at p.others j) ≡ list_any (binds_at j) rs
bound_at p [] j apart hj all = refl
bound_at p (r ∷ rs) j apart hj all =
    let here : RowIn p r = all 0 r (omega arith) in
    rw (
      bound_row p r.action r.declared r.name j (sum_between p r.start r.first) (sum_between p r.first r.second)
          (sum_between p r.second r.third) apart hj here.name,
      bound_at p rs j apart hj (λ i d l. all (suc i) d (omega arith)),
    ) refl
