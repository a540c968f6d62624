-- The parts that a call builds from a procedure's columns represent the instance.
use Rattle.std.proofs.Common.{◌≡◌, ℕ, zero, suc, ◌+◌, ◌-◌, ◌<◌, ◌≤◌, Bool, true, false, List, [], ◌∷◌, ◌++◌, length}
use Rattle.std.proofs.Common.{get_or, take, drop, map, Some, None, refl, ap, sym, ◌∙◌, subst, arith}
use Rattle.std.proofs.Common.{append_assoc, length-append}
use Rattle.std.specs.Prelude.{ℤ, nat_lt, ◌^◌, if◌then◌else◌, slice_get, slice_index_or}
use Rattle.std.specs.List.{All, AllByRecursion, between}
use Rattle.std.specs.Int.RustNames.{unsigned_abs}
use Rattle.std.proofs.lemmas.List.{length-map, map-append, get_or_append_left}
use Rattle.std.proofs.lemmas.List.{get_or-map, get_or-append_right, drop_at, take-append-le, take_all}
use Rattle.std.proofs.lemmas.List.Elements.{All-from_recursion, recursion_from_All, All-append, All-map, All-weaker, All-take, All-drop, All-same}
use Rattle.std.proofs.lemmas.Option.{get_or_from_slice_get, slice_get_within}
use Rattle.bohm_types.specs.declared.edition.Edition.{Edition}
use Rattle.bohm_types.specs.Keys.{IsAmong, is_among}
use Rattle.bohm_types.specs.Term.{Atom}
use Rattle.bohm_types.specs.Term as atoms
use Rattle.bohm_types.specs.Stmt as stmts
use Rattle.bohm_log.specs.declared.row.AtomKind.{AtomKind}
use Rattle.bohm_log.specs.declared.row.AtomKind.TheVariants.{Small, Large, Read, Unread, Local}
use Rattle.bohm_log.specs.declared.row.TermRow.{TermRow}
use Rattle.bohm_log.specs.declared.row.Action.{Action}
use Rattle.bohm_log.specs.declared.row.Action.TheVariants.{Bind, Need, Has, Lacks, Put, PutWhen, Remove, Show, Fail}
use Rattle.bohm_log.specs.declared.row.StmtRow.{StmtRow}
use Rattle.bohm_log.specs.Parts.{Parts, name_at, names_at, atom_at, term_of, sum_between, named_by, stmt_made}
use Rattle.bohm_log.specs.Parts.{stmt_of, txn_of, OtherIn, PlaceIn, TermIn, NameIn, RowIn, IsWithin}
use Rattle.bohm_types.specs.Accesses.{AtomReads, SumReads, StmtReads, StmtWrites}
use Rattle.bohm_types.specs.Substitution.{atom_with, sum_with, stmt_with}
use Rattle.bohm_types.specs.Procedure.{stands_for, is_minus, sum_of, lets, instance}
use Rattle.bohm_log.specs.Calling.{procedure_of, IsOwn, ArePlaces, term_by, term_to, name_by, row_to, literal_term}
use Rattle.bohm_log.specs.Calling.{literal_large, value_terms, value_large, let_large, let_terms}
use Rattle.bohm_log.specs.Calling.{let_rows, IsCalled}
use Rattle.bohm_log.proofs.Growth.{between-front}
use Rattle.bohm_log.proofs.Lets.{same_many}
use Rattle.bohm_log.proofs.Lists.{each_append}
use Rattle.bohm_log.proofs.Dividing.{divided}

-- ---- lists

between-middle : {A : Type 0} (xs ys zs : List A) (i j : ℕ) → i ≡ length xs → j ≡ length xs + length ys → between i j (xs ++ (ys ++ zs)) ≡ ys
between-middle xs ys zs i j from to =
    let rest : drop i (xs ++ (ys ++ zs)) ≡ ys ++ zs = drop_at xs (ys ++ zs) i (sym from) in
    let size : j - i ≡ length ys = omega (arith, from, to) in
    (λ k. take (size k) (rest k)) ∙ take-append-le (length ys) ys zs (omega arith) ∙ take_all (length ys) ys (omega arith)

-- ---- terms over other keys

key_moved : (f : List ℕ → List ℕ) (names keys : List (List ℕ)) (to : List ℕ) → ArePlaces (map f names) keys to → (i : ℕ) → i < length names
    → slice_get keys (slice_index_or to i 0) ≡ Some (f (name_at names i))
key_moved f names keys to h i l =
    h.each i (omega (arith, l, length-map names f)) ∙ ap Some (get_or-map f names i [] [] l)

name_moved : (f : List ℕ → List ℕ) (names keys : List (List ℕ)) (to : List ℕ) → ArePlaces (map f names) keys to → (i : ℕ) → i < length names
    → name_at keys (slice_index_or to i 0) ≡ f (name_at names i)
name_moved f names keys to h i l =
    get_or_from_slice_get keys (slice_index_or to i 0) (f (name_at names i)) [] (key_moved f names keys to h i l)

place_moved : (f : List ℕ → List ℕ) (names keys : List (List ℕ)) (to : List ℕ) → ArePlaces (map f names) keys to → (i : ℕ) → i < length names
    → slice_index_or to i 0 < length keys
place_moved f names keys to h i l =
    slice_get_within keys (slice_index_or to i 0) (f (name_at names i)) (key_moved f names keys to h i l)

-- q has p's names, and p's literals and terms with more after them, over the keys that f gives for p's keys
record IsMoved (f : List ℕ → List ℕ) (p q : Parts) (r w : List ℕ) : Type 0 where
  few_reads : length p.reads ≤ 16
  few_writes : length p.writes ≤ 16
  others : q.others ≡ p.others
  reads_at : ArePlaces (map f p.reads) q.reads r
  writes_at : ArePlaces (map f p.writes) q.writes w
  more_large : List ℕ
  large : q.large ≡ p.large ++ more_large
  more_terms : List TermRow
  terms : q.terms ≡ map (term_to r) p.terms ++ more_terms

undeclared : (keys others : List (List ℕ)) (i : ℕ) → length keys ≤ 16 → OtherIn keys others i → ¬ (IsAmong keys (name_at others i))
undeclared keys others i few h among =
    let none : is_among keys (name_at others i) ≡ false = h.apart few in
    let bad : true ≡ false = sym among ∙ none in
    cc

term_in : (f : List ℕ → List ℕ) (p q : Parts) (r w : List ℕ) → IsMoved f p q r w → (k : AtomKind) (minus : Bool) (i : ℕ) → PlaceIn p k i
    → TermIn q (term_by r k minus i)
term_in f p q r w h Small minus i l = tt
term_in f p q r w h Large minus i l = omega (arith, l, ap length h.large, length-append p.large h.more_large)
term_in f p q r w h Read minus i l = place_moved f p.reads q.reads r h.reads_at i l
term_in f p q r w h Unread minus i l = tt
term_in f p q r w h Local minus i l = omega (arith, l, ap length h.others)

term_moved : (f : List ℕ → List ℕ) (p q : Parts) (r w : List ℕ) → IsMoved f p q r w → (k : AtomKind) (minus : Bool) (i : ℕ) → PlaceIn p k i
    → AtomReads (IsAmong p.reads) (atom_at p k i) → term_of q (term_by r k minus i) ≡ (minus, atom_with f (atom_at p k i))
term_moved f p q r w h Small minus i l reads = refl
term_moved f p q r w h Large minus i l reads =
    let same : slice_index_or q.large i 0 ≡ slice_index_or p.large i 0 = ap (λ xs. slice_index_or xs i 0) h.large
    ∙ get_or_append_left p.large h.more_large 0 i l in
    ap (λ n. (minus, atoms.Lit n)) same
term_moved f p q r w h Read minus i l reads = ap (λ k. (minus, atoms.Read k)) (name_moved f p.reads q.reads r h.reads_at i l)
term_moved f p q r w h Unread minus i l reads = absurd (undeclared p.reads p.others i h.few_reads l reads)
term_moved f p q r w h Local minus i l reads = ap (λ xs. (minus, atoms.Local (name_at xs i))) h.others

terms_moved : (f : List ℕ → List ℕ) (p q : Parts) (r w : List ℕ) → IsMoved f p q r w → (ts : List TermRow) → AllByRecursion (TermIn p) ts
    → SumReads (IsAmong p.reads) (map (term_of p) ts) → map (term_of q) (map (term_to r) ts) ≡ sum_with f (map (term_of p) ts)
terms_moved f p q r w h [] within reads = refl
terms_moved f p q r w h (t ∷ ts) within reads = λ j. term_moved f p q r w h t.kind t.minus t.place within.0 reads.0 j ∷ terms_moved f p q r w h ts
    within.1 reads.1 j

sum_moved : (f : List ℕ → List ℕ) (p q : Parts) (r w : List ℕ) → IsMoved f p q r w → All (TermIn p) p.terms → (i j : ℕ) → i ≤ j
    → j ≤ length p.terms → SumReads (IsAmong p.reads) (sum_between p i j) → sum_between q i j ≡ sum_with f (sum_between p i j)
sum_moved f p q r w h within i j rises end reads =
    let short : j ≤ length (map (term_to r) p.terms) = omega (arith, end, length-map p.terms (term_to r)) in
    ap (λ ts. map (term_of q) (between i j ts)) h.terms
    ∙ ap (map (term_of q)) (between-front (map (term_to r) p.terms) h.more_terms i j short rises ∙ sym (divided (term_to r) i j p.terms))
    ∙ terms_moved f p q r w h (between i j p.terms)
    (recursion_from_All (TermIn p) (between i j p.terms)
    (All-take (TermIn p) (j - i) (drop i p.terms) (All-drop (TermIn p) i p.terms within))) reads

-- ---- statements over other keys

-- x is the sum a with its keys replaced by f, if a reads only keys that satisfy P
record SumsMoved (f : List ℕ → List ℕ) (P : List ℕ → Type 0) (a x : List (Bool × Atom)) : Type 0 where
  same : SumReads P a → x ≡ sum_with f a

name_in : (f : List ℕ → List ℕ) (p q : Parts) (r w : List ℕ) → IsMoved f p q r w → (a : Action) (d : Bool) (i : ℕ) (x y z : List (Bool × Atom)) → NameIn p a d i
    → StmtReads (IsAmong p.reads) (stmt_made a (named_by p a d i) x y z) → StmtWrites (IsAmong p.writes) (stmt_made a (named_by p a d i) x y z)
    → NameIn q a d (name_by r w a i)
name_in f p q r w h Bind d i x y z l reads writes = omega (arith, l, ap length h.others)
name_in f p q r w h (Need c) d i x y z l reads writes = tt
name_in f p q r w h Has true i x y z l reads writes = place_moved f p.reads q.reads r h.reads_at i l
name_in f p q r w h Has false i x y z l reads writes = absurd (undeclared p.reads p.others i h.few_reads l reads.1)
name_in f p q r w h Lacks true i x y z l reads writes = place_moved f p.reads q.reads r h.reads_at i l
name_in f p q r w h Lacks false i x y z l reads writes = absurd (undeclared p.reads p.others i h.few_reads l reads.1)
name_in f p q r w h Put true i x y z l reads writes = place_moved f p.writes q.writes w h.writes_at i l
name_in f p q r w h Put false i x y z l reads writes = absurd (undeclared p.writes p.others i h.few_writes l writes)
name_in f p q r w h (PutWhen c) true i x y z l reads writes = place_moved f p.writes q.writes w h.writes_at i l
name_in f p q r w h (PutWhen c) false i x y z l reads writes = absurd (undeclared p.writes p.others i h.few_writes l writes)
name_in f p q r w h Remove true i x y z l reads writes = place_moved f p.writes q.writes w h.writes_at i l
name_in f p q r w h Remove false i x y z l reads writes = absurd (undeclared p.writes p.others i h.few_writes l writes)
name_in f p q r w h Show d i x y z l reads writes = tt
name_in f p q r w h Fail d i x y z l reads writes = tt

made_moved : (f : List ℕ → List ℕ) (p q : Parts) (r w : List ℕ) → IsMoved f p q r w
    → (a : Action) (d : Bool) (i : ℕ) (x y z u v t : List (Bool × Atom)) → NameIn p a d i
    → SumsMoved f (IsAmong p.reads) x u → SumsMoved f (IsAmong p.reads) y v → SumsMoved f (IsAmong p.reads) z t
    → StmtReads (IsAmong p.reads) (stmt_made a (named_by p a d i) x y z) → StmtWrites (IsAmong p.writes) (stmt_made a (named_by p a d i) x y z)
    → stmt_made a (named_by q a d (name_by r w a i)) u v t ≡ stmt_with f (stmt_made a (named_by p a d i) x y z)
made_moved f p q r w h Bind d i x y z u v t l a b c reads writes = λ j. stmts.Bind (name_at (h.others j) i) (a.same reads.0.0 j)
made_moved f p q r w h (Need cmp) d i x y z u v t l a b c reads writes = λ j. stmts.Need
    (record { left = a.same reads.0.0 j; cmp = cmp; right = b.same reads.0.1.0 j })
made_moved f p q r w h Has true i x y z u v t l a b c reads writes = ap stmts.Has (name_moved f p.reads q.reads r h.reads_at i l)
made_moved f p q r w h Has false i x y z u v t l a b c reads writes = absurd (undeclared p.reads p.others i h.few_reads l reads.1)
made_moved f p q r w h Lacks true i x y z u v t l a b c reads writes = ap stmts.Lacks (name_moved f p.reads q.reads r h.reads_at i l)
made_moved f p q r w h Lacks false i x y z u v t l a b c reads writes = absurd (undeclared p.reads p.others i h.few_reads l reads.1)
made_moved f p q r w h Put true i x y z u v t l a b c reads writes = λ j. stmts.Put (name_moved f p.writes q.writes w h.writes_at i l j)
    (a.same reads.0.0 j) None
made_moved f p q r w h Put false i x y z u v t l a b c reads writes = absurd (undeclared p.writes p.others i h.few_writes l writes)
made_moved f p q r w h (PutWhen cmp) true i x y z u v t l a b c reads writes = λ j. stmts.Put (name_moved f p.writes q.writes w h.writes_at i l j)
    (a.same reads.0.0 j) (Some (record { left = b.same reads.0.1.0 j; cmp = cmp; right = c.same reads.0.1.1.0 j }))
made_moved f p q r w h (PutWhen cmp) false i x y z u v t l a b c reads writes = absurd (undeclared p.writes p.others i h.few_writes l writes)
made_moved f p q r w h Remove true i x y z u v t l a b c reads writes = ap stmts.Remove (name_moved f p.writes q.writes w h.writes_at i l)
made_moved f p q r w h Remove false i x y z u v t l a b c reads writes = absurd (undeclared p.writes p.others i h.few_writes l writes)
made_moved f p q r w h Show d i x y z u v t l a b c reads writes = ap stmts.Show (a.same reads.0.0)
made_moved f p q r w h Fail d i x y z u v t l a b c reads writes = refl

row_moved : (f : List ℕ → List ℕ) (p q : Parts) (r w : List ℕ) → IsMoved f p q r w → All (TermIn p) p.terms → (s : StmtRow) → RowIn p s
    → StmtReads (IsAmong p.reads) (stmt_of p s) → StmtWrites (IsAmong p.writes) (stmt_of p s) → stmt_of q (row_to r w s) ≡ stmt_with f (stmt_of p s)
row_moved f p q r w h within s l reads writes =
    made_moved f p q r w h s.action s.declared s.name _ _ _ _ _ _ l.name
    (record { same = sum_moved f p q r w h within s.start s.first l.first (omega (arith, l.second, l.third, l.end)) })
    (record { same = sum_moved f p q r w h within s.first s.second l.second (omega (arith, l.third, l.end)) })
    (record { same = sum_moved f p q r w h within s.second s.third l.third l.end })
    reads writes

row_in : (f : List ℕ → List ℕ) (p q : Parts) (r w : List ℕ) → IsMoved f p q r w → (s : StmtRow) → RowIn p s
    → StmtReads (IsAmong p.reads) (stmt_of p s) → StmtWrites (IsAmong p.writes) (stmt_of p s) → RowIn q (row_to r w s)
row_in f p q r w h s l reads writes = record {
  first = l.first;
  second = l.second;
  third = l.third;
  end = omega (arith, l.end, ap length h.terms, length-append (map (term_to r) p.terms) h.more_terms, length-map p.terms (term_to r));
  name = name_in f p q r w h s.action s.declared s.name _ _ _ l.name reads writes;
}

rows_moved : (f : List ℕ → List ℕ) (p q : Parts) (r w : List ℕ) → IsMoved f p q r w → All (TermIn p) p.terms → (ss : List StmtRow)
    → AllByRecursion (RowIn p) ss → AllByRecursion (StmtReads (IsAmong p.reads)) (map (stmt_of p) ss)
    → AllByRecursion (StmtWrites (IsAmong p.writes)) (map (stmt_of p) ss)
    → map (stmt_of q) (map (row_to r w) ss) ≡ map (stmt_with f) (map (stmt_of p) ss)
rows_moved f p q r w h within [] l reads writes = refl
rows_moved f p q r w h within (s ∷ ss) l reads writes = λ j. row_moved f p q r w h within s l.0 reads.0 writes.0 j ∷ rows_moved f p q r w h within
    ss l.1 reads.1 writes.1 j

rows_in : (f : List ℕ → List ℕ) (p q : Parts) (r w : List ℕ) → IsMoved f p q r w → (ss : List StmtRow) → AllByRecursion (RowIn p) ss
    → AllByRecursion (StmtReads (IsAmong p.reads)) (map (stmt_of p) ss) → AllByRecursion (StmtWrites (IsAmong p.writes)) (map (stmt_of p) ss)
    → AllByRecursion (RowIn q) (map (row_to r w) ss)
rows_in f p q r w h [] l reads writes = tt
rows_in f p q r w h (s ∷ ss) l reads writes = (row_in f p q r w h s l.0 reads.0 writes.0, rows_in f p q r w h ss l.1 reads.1 writes.1)

-- ---- the values' statements

literal_is : (q : Parts) (pre more : List ℕ) (many : ℕ) (minus : Bool) (n : ℕ) → q.large ≡ pre ++ (literal_large n ++ more) → many ≡ length pre
    → term_of q (literal_term many minus n) ≡ (minus, atoms.Lit n)
literal_is q pre more many minus n e m =
    elim (nat_lt n (2 ^ 32)) as
    (λ b. q.large ≡ pre ++ ((if b then [] else n ∷ []) ++ more)
    → term_of q (if b then (record { kind = Small; minus = minus; place = n }) else (record { kind = Large; minus = minus; place = many }))
    ≡ (minus, atoms.Lit n)) [
      | true ↦ λ large. refl
      | false ↦ λ large.
          let none : many - many ≡ 0 = omega arith in
          let there : slice_index_or q.large many 0 ≡ n = ap (λ xs. slice_index_or xs many 0) large
          ∙ get_or-append_right pre (n ∷ more) many many 0 (sym m) (omega arith) ∙ ap (λ i. get_or (n ∷ more) i 0) none in
          ap (λ i. (minus, atoms.Lit i)) there
    ] e

literal_in : (q : Parts) (pre more : List ℕ) (many : ℕ) (minus : Bool) (n : ℕ) → q.large ≡ pre ++ (literal_large n ++ more) → many ≡ length pre
    → TermIn q (literal_term many minus n)
literal_in q pre more many minus n e m =
    elim (nat_lt n (2 ^ 32)) as
    (λ b. q.large ≡ pre ++ ((if b then [] else n ∷ []) ++ more)
    → TermIn q (if b then (record { kind = Small; minus = minus; place = n }) else (record { kind = Large; minus = minus; place = many }))) [
      | true ↦ λ large. tt
      | false ↦ λ large. omega (arith, m, ap length large, length-append pre (n ∷ more))
    ] e

value_is : (q : Parts) (pre more : List ℕ) (many : ℕ) (v : ℤ) → q.large ≡ pre ++ (value_large v ++ more) → many ≡ length pre
    → map (term_of q) (value_terms many v) ≡ sum_of v
value_is q pre more many v e m =
    elim (nat_lt (unsigned_abs v) (2 ^ 63)) as (λ b. q.large ≡ pre ++ ((if b then literal_large (unsigned_abs v) else literal_large (2 ^ 63 - 1)) ++ more)
    → map (term_of q) (if b then literal_term many (is_minus v) (unsigned_abs v) ∷ [] else
    (literal_term many (is_minus v) (2 ^ 63 - 1) ∷ literal_term many (is_minus v) 1 ∷ []))
    ≡ (if b then (is_minus v, atoms.Lit (unsigned_abs v)) ∷ [] else (is_minus v, atoms.Lit (2 ^ 63 - 1)) ∷ (is_minus v, atoms.Lit 1) ∷ [])) [
      | true ↦ λ large. ap (λ t. t ∷ []) (literal_is q pre more many (is_minus v) (unsigned_abs v) large m)
      | false ↦ λ large. ap (λ t. t ∷ (is_minus v, atoms.Lit 1) ∷ []) (literal_is q pre more many (is_minus v) (2 ^ 63 - 1) large m)
    ] e

value_in : (q : Parts) (pre more : List ℕ) (many : ℕ) (v : ℤ) → q.large ≡ pre ++ (value_large v ++ more) → many ≡ length pre
    → AllByRecursion (TermIn q) (value_terms many v)
value_in q pre more many v e m =
    elim (nat_lt (unsigned_abs v) (2 ^ 63)) as (λ b. q.large ≡ pre ++ ((if b then literal_large (unsigned_abs v) else literal_large (2 ^ 63 - 1)) ++ more)
    → AllByRecursion (TermIn q)
    (if b then literal_term many (is_minus v) (unsigned_abs v) ∷ [] else
    (literal_term many (is_minus v) (2 ^ 63 - 1) ∷ literal_term many (is_minus v) 1 ∷ []))) [
      | true ↦ λ large. (literal_in q pre more many (is_minus v) (unsigned_abs v) large m, tt)
      | false ↦ λ large. (literal_in q pre more many (is_minus v) (2 ^ 63 - 1) large m, (tt, tt))
    ] e

values_in : (q : Parts) (pre : List ℕ) (many : ℕ) (vs : List ℤ) → q.large ≡ pre ++ let_large vs → many ≡ length pre
    → AllByRecursion (TermIn q) (let_terms many vs)
values_in q pre many [] e m = tt
values_in q pre many (v ∷ vs) e m =
    let more : many + length (value_large v) ≡ length (pre ++ value_large v) = omega (arith, m, length-append pre (value_large v)) in
    each_append (TermIn q) (value_terms many v) (let_terms (many + length (value_large v)) vs)
    (value_in q pre (let_large vs) many v e m)
    (values_in q (pre ++ value_large v) (many + length (value_large v)) vs (e ∙ sym (append_assoc pre (value_large v) (let_large vs))) more)

lets_made : (q : Parts) (pre : List ℕ) (many : ℕ) (before : List TermRow) (start : ℕ) (places : List ℕ) (vs : List ℤ)
    → q.large ≡ pre ++ let_large vs → many ≡ length pre → q.terms ≡ before ++ let_terms many vs → start ≡ length before
    → map (stmt_of q) (let_rows start places vs) ≡ lets (names_at q.others places) vs
lets_made q pre many before start [] vs e m t s = refl
lets_made q pre many before start (i ∷ is) [] e m t s = refl
lets_made q pre many before start (i ∷ is) (v ∷ vs) e m t s =
    let size : length (value_terms 0 v) ≡ length (value_terms many v) = same_many 0 many v in
    let found : between start (start + length (value_terms 0 v)) q.terms ≡ value_terms many v =
    ap (between start (start + length (value_terms 0 v))) t
    ∙ between-middle before (value_terms many v) (let_terms (many + length (value_large v)) vs) start (start + length (value_terms 0 v)) s
    (omega (arith, s, size)) in
    let more : many + length (value_large v) ≡ length (pre ++ value_large v) = omega (arith, m, length-append pre (value_large v)) in
    let further : start + length (value_terms 0 v)
    ≡ length (before ++ value_terms many v) = omega (arith, s, size, length-append before (value_terms many v)) in
    let sum : sum_between q start (start + length (value_terms 0 v)) ≡ sum_of v = ap (map (term_of q)) found ∙ value_is q pre (let_large vs) many v e m in
    let rest : map (stmt_of q) (let_rows (start + length (value_terms 0 v)) is vs) ≡ lets (names_at q.others is) vs =
    lets_made q (pre ++ value_large v) (many + length (value_large v)) (before ++ value_terms many v) (start + length (value_terms 0 v)) is vs
    (e ∙ sym (append_assoc pre (value_large v) (let_large vs))) more
    (t ∙ sym (append_assoc before (value_terms many v) (let_terms (many + length (value_large v)) vs))) further in
    λ j. stmts.Bind (name_at q.others i) (sum j) ∷ rest j

lets_in : (q : Parts) (many : ℕ) (before : List TermRow) (start : ℕ) (places : List ℕ) (vs : List ℤ) → q.terms ≡ before ++ let_terms many vs
    → start ≡ length before → AllByRecursion (λ i. i < length q.others) places → AllByRecursion (RowIn q) (let_rows start places vs)
lets_in q many before start [] vs t s named = tt
lets_in q many before start (i ∷ is) [] t s named = tt
lets_in q many before start (i ∷ is) (v ∷ vs) t s named =
    let size : length (value_terms 0 v) ≡ length (value_terms many v) = same_many 0 many v in
    let further : start + length (value_terms 0 v)
    ≡ length (before ++ value_terms many v) = omega (arith, s, size, length-append before (value_terms many v)) in
    let on : q.terms ≡ (before ++ value_terms many v) ++ let_terms (many + length (value_large v)) vs = t
    ∙ sym (append_assoc before (value_terms many v) (let_terms (many + length (value_large v)) vs)) in (
      record {
        first = omega arith;
        second = omega arith;
        third = omega arith;
        end = omega (arith, further, ap length on, length-append (before ++ value_terms many v) (let_terms (many + length (value_large v)) vs));
        name = named.0;
      },
      lets_in q (many + length (value_large v)) (before ++ value_terms many v) (start + length (value_terms 0 v)) is vs on further named.1,
    )

-- ---- a call

mapped_rest : {A B : Type 0} (P : B → Type 0) (g : A → B) (n : ℕ) (xs : List A) → AllByRecursion P (map g xs) → AllByRecursion P (map g (drop n xs))
mapped_rest P g zero xs h = h
mapped_rest P g (suc n) [] h = h
mapped_rest P g (suc n) (x ∷ xs) h = mapped_rest P g n xs h.1

rows_rest : (p : Parts) (values : List ℕ) → IsOwn p values → AllByRecursion (RowIn p) (drop (length values) p.rows)
rows_rest p values t = recursion_from_All (RowIn p) (drop (length values) p.rows) (All-drop (RowIn p) (length values) p.rows t.within.rows)

moved : (f : List ℕ → List ℕ) (p : Parts) (values : List ℕ) (vs : List ℤ) (q : Parts) → IsOwn p values
    → (h : IsCalled (map f p.reads) (map f p.writes) p values vs q)
    → IsMoved f p q h.read_places h.write_places
moved f p values vs q t h = record {
  few_reads = t.few_reads;
  few_writes = t.few_writes;
  others = h.others;
  reads_at = h.reads_at;
  writes_at = h.writes_at;
  more_large = let_large vs;
  large = h.large;
  more_terms = let_terms (length p.large) vs;
  terms = h.terms;
}

pub called_txn : (e : Edition) (keys : List (List ℕ)) (p : Parts) (values : List ℕ) (ks : List (List ℕ)) (vs : List ℤ) (q : Parts)
    → IsOwn p values → IsCalled (map (stands_for keys ks) p.reads) (map (stands_for keys ks) p.writes) p values vs q
    → txn_of e q ≡ instance (procedure_of e keys values p) ks vs
called_txn e keys p values ks vs q t h =
    let f : List ℕ → List ℕ = stands_for keys ks in
    let m : IsMoved f p q h.read_places h.write_places = moved f p values vs q t h in
    let firsts : map (stmt_of q) (let_rows (length p.terms) values vs) ≡ lets (names_at p.others values) vs =
    lets_made q p.large (length p.large) (map (term_to h.read_places) p.terms) (length p.terms) values vs h.large refl h.terms
    (sym (length-map p.terms (term_to h.read_places)))
    ∙ ap (λ (xs : List (List ℕ)). lets (names_at xs values) vs) h.others in
    let rest : map (stmt_of q) (map (row_to h.read_places h.write_places) (drop (length values) p.rows))
    ≡ map (stmt_with f) (map (stmt_of p) (drop (length values) p.rows)) =
    rows_moved f p q h.read_places h.write_places m t.within.terms (drop (length values) p.rows) (rows_rest p values t)
    (mapped_rest (StmtReads (IsAmong p.reads)) (stmt_of p) (length values) p.rows t.reads)
    (mapped_rest (StmtWrites (IsAmong p.writes)) (stmt_of p) (length values) p.rows t.writes) in
    let body : map (stmt_of q) q.rows ≡ lets (names_at p.others values) vs ++ map (stmt_with f) (map (stmt_of p) (drop (length values) p.rows)) =
    ap (map (stmt_of q)) h.rows
    ∙ map-append (stmt_of q) (let_rows (length p.terms) values vs) (map (row_to h.read_places h.write_places) (drop (length values) p.rows))
    ∙ (λ j. firsts j ++ rest j) in
    λ j. record { edition = e; reads = h.same_reads j; writes = h.same_writes j; body = body j }

pub called_within : (p : Parts) (values : List ℕ) (f : List ℕ → List ℕ) (vs : List ℤ) (q : Parts) → IsOwn p values
    → IsCalled (map f p.reads) (map f p.writes) p values vs q → IsWithin q
called_within p values f vs q t h =
    let m : IsMoved f p q h.read_places h.write_places = moved f p values vs q t h in
    let named : AllByRecursion (λ i. i < length q.others) values = subst (λ (xs : List (List ℕ)). AllByRecursion (λ i. i < length xs) values)
    (sym h.others) (recursion_from_All (λ i. i < length p.others) values t.values) in
    record {
      terms = All-same (TermIn q) q.terms _ h.terms (All-append (TermIn q) (map (term_to h.read_places) p.terms) (let_terms (length p.large) vs)
          (All-map (TermIn q) (term_to h.read_places) p.terms
          (All-weaker (TermIn p) (λ x. TermIn q (term_to h.read_places x))
          (λ x l. term_in f p q h.read_places h.write_places m x.kind x.minus x.place l) p.terms t.within.terms))
          (All-from_recursion (TermIn q) (let_terms (length p.large) vs) (values_in q p.large (length p.large) vs h.large refl)));
      rows = All-same (RowIn q) q.rows _ h.rows
          (All-append (RowIn q) (let_rows (length p.terms) values vs) (map (row_to h.read_places h.write_places) (drop (length values) p.rows))
          (All-from_recursion (RowIn q) (let_rows (length p.terms) values vs)
          (lets_in q (length p.large) (map (term_to h.read_places) p.terms) (length p.terms) values vs h.terms
          (sym (length-map p.terms (term_to h.read_places))) named))
          (All-from_recursion (RowIn q) (map (row_to h.read_places h.write_places) (drop (length values) p.rows))
          (rows_in f p q h.read_places h.write_places m (drop (length values) p.rows) (rows_rest p values t)
          (mapped_rest (StmtReads (IsAmong p.reads)) (stmt_of p) (length values) p.rows t.reads)
          (mapped_rest (StmtWrites (IsAmong p.writes)) (stmt_of p) (length values) p.rows t.writes))));
    }
