-- Bounds on the lengths of a log's columns.
use Rattle.std.proofs.Common.{◌≡◌, ℕ, ◌+◌, ◌*◌, ◌≤◌, List, [], ◌∷◌, ◌++◌, length, map, take, drop, arith, refl, ap, sym, subst, ◌∙◌, Bool, true, false}
use Rattle.std.proofs.Common.{Some, None, Ok, Err}
use Rattle.std.specs.Prelude.{ℤ, ◌^◌, ◌-◌, nat_lt, max, if◌then◌else◌, Option, Result, IsOkAnd, IfOk, OnOk, OnErr}
use Rattle.std.specs.Int.RustNames.{unsigned_abs}
use Rattle.std.specs.List.{sum_by, IsDistinct}
use Rattle.std.specs.Str.{bytes_eq}
use Rattle.std.proofs.lemmas.List.{length-append, length-map, length-drop, take-append-drop}
use Rattle.std.proofs.lemmas.List.Sums.{sum_by-append, sum_by-cons}
use Rattle.bohm_types.specs.declared.edition.Edition.{Edition}
use Rattle.bohm_types.specs.KeySets.{key_set}
use Rattle.bohm_types.specs.Procedure.{Procedure, stands_for, is_minus, sum_of, lets, instance, procedure_with}
use Rattle.bohm_types.specs.Sound.{IsTxn}
use Rattle.bohm_types.specs.Stmt.{Cond, Stmt, Bind, Need, Has, Lacks, Put, Remove, Show, Fail}
use Rattle.bohm_types.specs.Substitution.{term_with, sum_with, guard_with, stmt_with}
use Rattle.bohm_types.specs.Term.{Atom, Lit}
use Rattle.bohm_types.specs.Txn.{Txn}
use Rattle.bohm_log.specs.declared.call_places.CallPlaces.{CallPlaces}
use Rattle.bohm_log.specs.declared.fault.LogFault.{LogFault}
use Rattle.bohm_log.specs.declared.row.TermRow.{TermRow}
use Rattle.bohm_log.specs.declared.row.StmtRow.{StmtRow}
use Rattle.bohm_log.specs.declared.table.Head.{Head}
use Rattle.bohm_log.specs.declared.template.BodyColumns.{BodyColumns}
use Rattle.bohm_log.specs.CallPlaces.{parts_called, written}
use Rattle.bohm_log.specs.Calling.{let_large, let_terms, let_rows, term_to, row_to, literal_term, literal_large, value_terms, value_large}
use Rattle.bohm_log.specs.Calling.{argument_of, parts_in, procedure_of, IsTemplate}
use Rattle.bohm_log.specs.Columns.{Shared, Longer, Appends, Interns, Widens, IsLogged, most_names, entries_in, entries_of, held_with, cut_to, ends_of, txn_at}
use Rattle.bohm_log.specs.Drafting.{Drafted}
use Rattle.bohm_log.specs.Parts.{Parts, IsWithin, name_at, names_at, stmt_of, txn_of}
use Rattle.bohm_log.specs.Sizes.{guard_terms, stmt_terms, open_terms, txn_size, log_size, IsCounted, IsFilled, IsMeasured}
use Rattle.bohm_log.specs.SoundLogs.{AreTxns}
use Rattle.bohm_log.proofs.Arguments.{arguments_are}
use Rattle.bohm_log.proofs.Lets.{rows_many, terms_many}
use Rattle.bohm_log.proofs.SoundDrafts.{sound_log}
use Rattle.bohm_log.proofs.Widening.{cut_kept, log_kept, logged_kept, log_more, logged_more}

-- ---- the size of a call's instance

pub called_terms : (to : List ℕ) (terms : List TermRow) (many : ℕ) (vs : List ℤ)
    → length (map (term_to to) terms ++ let_terms many vs) ≡ length terms + length (let_terms many vs)
called_terms to terms many vs = omega (arith, length-append (map (term_to to) terms) (let_terms many vs), length-map terms (term_to to))

pub called_rows : (r w locals : List ℕ) (rows : List StmtRow) (start : ℕ) (vs : List ℤ) → length vs ≡ length locals → length locals ≤ length rows
    → length (let_rows start locals vs ++ map (row_to r w) (drop (length locals) rows)) ≡ length rows
called_rows r w locals rows start vs same few = omega (
  arith,
  few,
  length-append (let_rows start locals vs) (map (row_to r w) (drop (length locals) rows)),
  rows_many start locals vs same,
  length-map (drop (length locals) rows) (row_to r w),
  length-drop (length locals) rows,
)

abbrev one_term : Bool → ℕ → List (Bool × Atom)
one_term minus n = (minus, Lit n) ∷ []

abbrev two_terms : Bool → ℕ → List (Bool × Atom)
two_terms minus n = (minus, Lit n) ∷ (minus, Lit 1) ∷ []

value_sum : (v : ℤ) → length (sum_of v) ≡ length (value_terms 0 v)
value_sum v =
    elim (nat_lt (unsigned_abs v) (2 ^ 63)) as
    (λ b. length (if b then one_term (is_minus v) (unsigned_abs v) else two_terms (is_minus v) (2 ^ 63 - 1))
    ≡ length (if b then literal_term 0 (is_minus v) (unsigned_abs v) ∷ [] else
    (literal_term 0 (is_minus v) (2 ^ 63 - 1) ∷ literal_term 0 (is_minus v) 1 ∷ []))) [
      | true ↦ refl
      | false ↦ refl
    ]

some_terms : (many : ℕ) (v : ℤ) → 1 ≤ length (value_terms many v)
some_terms many v =
    elim (nat_lt (unsigned_abs v) (2 ^ 63)) as
    (λ b. 1 ≤ length (if b then literal_term many (is_minus v) (unsigned_abs v) ∷ [] else
    (literal_term many (is_minus v) (2 ^ 63 - 1) ∷ literal_term many (is_minus v) 1 ∷ []))) [
      | true ↦ omega arith
      | false ↦ omega arith
    ]

few_literals : (n : ℕ) → length (literal_large n) ≤ 1
few_literals n = elim (nat_lt n (2 ^ 32)) as (λ b. length (if b then [] else n ∷ []) ≤ 1) [
  | true ↦ omega arith
  | false ↦ omega arith
]

few_large : (v : ℤ) → length (value_large v) ≤ 1
few_large v =
    elim (nat_lt (unsigned_abs v) (2 ^ 63)) as
    (λ b. length (if b then literal_large (unsigned_abs v) else literal_large (2 ^ 63 - 1)) ≤ 1) [
      | true ↦ few_literals (unsigned_abs v)
      | false ↦ few_literals (2 ^ 63 - 1)
    ]

-- each value has at least one term and at most one large literal
values_few : (many : ℕ) (vs : List ℤ) → (length vs ≤ length (let_terms many vs)) × (length (let_large vs) ≤ length vs)
values_few many [] = (omega arith, omega arith)
values_few many (v ∷ vs) =
    let rest = values_few (many + length (value_large v)) vs in (
      omega (arith, length-append (value_terms many v) (let_terms (many + length (value_large v)) vs), some_terms many v, rest.0),
      omega (arith, length-append (value_large v) (let_large vs), few_large v, rest.1),
    )

lets_terms : (xs : List (List ℕ)) (vs : List ℤ) → length vs ≡ length xs
    → (sum_by stmt_terms (lets xs vs) ≡ length (let_terms 0 vs)) × (length (lets xs vs) ≡ length xs)
lets_terms [] [] same = (refl, refl)
lets_terms [] (v ∷ vs) same = absurd (omega (arith, same))
lets_terms (x ∷ xs) [] same = absurd (omega (arith, same))
lets_terms (x ∷ xs) (v ∷ vs) same =
    let rest = lets_terms xs vs (omega (arith, same)) in
    let step : sum_by stmt_terms (lets (x ∷ xs) (v ∷ vs)) ≡ length (sum_of v) + sum_by stmt_terms (lets xs vs) =
    sum_by-cons stmt_terms (Bind x (sum_of v)) (lets xs vs) in
    let more : length (let_terms 0 (v ∷ vs)) ≡ length (value_terms 0 v ++ let_terms (0 + length (value_large v)) vs) = refl in (
      omega (
        arith,
        step,
        more,
        rest.0,
        value_sum v,
        length-append (value_terms 0 v) (let_terms (0 + length (value_large v)) vs),
        terms_many (0 + length (value_large v)) 0 vs,
      ),
      omega (arith, rest.1),
    )

-- ---- replacing keys keeps the number of terms

module _ (f : List ℕ → List ℕ) where
  sum_kept : (sum : List (Bool × Atom)) → length (sum_with f sum) ≡ length sum
  sum_kept sum = length-map sum (term_with f)

  guard_kept : (guard : Option Cond) → guard_terms (guard_with f guard) ≡ guard_terms guard
  guard_kept None = refl
  guard_kept (Some c) = omega (arith, sum_kept c.left, sum_kept c.right)

  stmt_kept : (s : Stmt) → stmt_terms (stmt_with f s) ≡ stmt_terms s
  stmt_kept (Bind x sum) = sum_kept sum
  stmt_kept (Need c) = omega (arith, sum_kept c.left, sum_kept c.right)
  stmt_kept (Has k) = refl
  stmt_kept (Lacks k) = refl
  stmt_kept (Put k sum guard) = omega (arith, sum_kept sum, guard_kept guard)
  stmt_kept (Remove k) = refl
  stmt_kept (Show sum) = sum_kept sum
  stmt_kept Fail = refl

  body_kept : (ss : List Stmt) → sum_by stmt_terms (map (stmt_with f) ss) ≡ sum_by stmt_terms ss
  body_kept [] = refl
  body_kept (s ∷ ss) =
      omega (arith, sum_by-cons stmt_terms (stmt_with f s) (map (stmt_with f) ss), sum_by-cons stmt_terms s ss, stmt_kept s, body_kept ss)

-- ---- the size of a transaction's parts

-- the parts' entries, and the names that they may add, are bounded by the transaction's size
pub record Fits (p : Parts) (t : Txn) : Type 0 where
  pub names : most_names (length p.reads) (length p.writes) ≤ 32 * txn_size t
  pub entries : entries_of p ≤ 16 * txn_size t

-- the valid parts represent this sound transaction, whose size bounds the number of their entries
pub record Adds (e : Edition) (p : Parts) (t : Txn) : Type 0 where
  pub same : txn_of e p ≡ t
  pub within : IsWithin p
  pub apart : IsDistinct bytes_eq p.others
  pub sound : IsTxn t.edition t
  pub fits : Fits p t

pub adds_closed : (e : Edition) (p : Parts) (d : Drafted) → txn_of e p ≡ d.txn → IsWithin p → IsDistinct bytes_eq p.others → IsTxn d.txn.edition d.txn
    → open_terms d ≡ 0 → IsCounted p d → Adds e p d.txn
adds_closed e p d same within apart sound none h =
    let reads = ap (λ (t : Txn). length t.reads) same in
    let writes = ap (λ (t : Txn). length t.writes) same in
    record {
      same = same;
      within = within;
      apart = apart;
      sound = sound;
      fits = record {
        names = omega (arith, reads, writes);
        entries = omega (arith, reads, writes, none, h.terms, h.rows, h.compact.others, h.compact.large);
      };
    }

pub fits_called : (e : Edition) (keys : List (List ℕ)) (body : BodyColumns) (locals xs : List ℕ) (args : List (List ℕ)) (vs : List ℤ) (places : CallPlaces)
    → IsTemplate keys body locals → IsFilled (parts_in body) (procedure_of e keys locals (parts_in body)) → xs ≡ locals → length vs ≡ length locals
    → Fits (parts_called args body xs vs places) (instance (procedure_of e keys locals (parts_in body)) args vs)
fits_called e keys body locals xs args vs places t h is same =
    let p : Parts = parts_in body in
    let f : List ℕ → List ℕ = stands_for keys args in
    let rest : List Stmt = map (stmt_of p) (drop (length locals) p.rows) in
    let own : List (List ℕ) = names_at p.others locals in
    let named : length own ≡ length locals = length-map locals (name_at p.others) in
    let first = lets_terms own vs (omega (arith, same, named)) in
    let few = values_few (length body.large.items) vs in
    let reads : length (key_set (map (argument_of args) body.reads.items)) ≡ length (key_set (map f p.reads)) =
    ap (λ (ks : List (List ℕ)). length (key_set ks)) (arguments_are keys args body.reads.items t.reads) in
    let writes : length (key_set (map (argument_of args) body.writes.items)) ≡ length (key_set (map f p.writes)) =
    ap (λ (ks : List (List ℕ)). length (key_set ks)) (arguments_are keys args body.writes.items t.writes) in
    let terms : sum_by stmt_terms (lets own vs ++ map (stmt_with f) rest) ≡ length (let_terms 0 vs) + sum_by stmt_terms rest =
    omega (arith, sum_by-append stmt_terms (lets own vs) (map (stmt_with f) rest), first.0, body_kept f rest) in
    let rows : length (lets own vs ++ map (stmt_with f) rest) ≡ length p.rows =
    omega (
      arith,
      length-append (lets own vs) (map (stmt_with f) rest),
      first.1,
      named,
      length-map rest (stmt_with f),
      length-map (drop (length locals) p.rows) (stmt_of p),
      length-drop (length locals) p.rows,
      t.own.lets,
    ) in
    subst (λ (ys : List ℕ). Fits (parts_called args body ys vs places) (instance (procedure_of e keys locals p) args vs)) (sym is) (record {
      names = omega (arith, reads, writes);
      entries = omega (
        arith,
        reads,
        writes,
        terms,
        rows,
        few.0,
        few.1,
        named,
        same,
        h.terms,
        h.others,
        h.large,
        terms_many (length body.large.items) 0 vs,
        length-append body.large.items (let_large vs),
        called_terms places.reads.places.items body.terms.items (length body.large.items) vs,
        called_rows places.reads.places.items (written body places).places.items locals body.rows.items (length body.terms.items) vs same t.own.lets,
      );
    })

-- a call with a value for each of the procedure's values has one for each of the procedure's locals
pub values_many : (procedure : Procedure) (e : Edition) (keys : List (List ℕ)) (locals : List ℕ) (p : Parts) (vs : List ℤ)
    → procedure_of e keys locals p ≡ procedure → length vs ≡ length procedure.values → length vs ≡ length locals
values_many procedure e keys locals p vs is same =
    omega (arith, same, ap (λ (x : Procedure). length x.values) is, length-map locals (name_at p.others))

-- a procedure made of an own instance that was read has few names and literals compared with its terms
pub filled_made : (p q : Parts) (d : Drafted) (keys values : List (List ℕ)) (procedure : Procedure) → IsCounted p d
    → length q.terms ≡ length p.terms → length q.rows ≡ length p.rows → length q.large ≡ length p.large
    → length q.others ≤ length p.others + length values → procedure ≡ procedure_with d.txn keys values
    → sum_by stmt_terms (take (length values) d.txn.body) + open_terms d ≤ length values → IsFilled q procedure
filled_made p q d keys values procedure h terms rows large others is short =
    let split : sum_by stmt_terms d.txn.body
    ≡ sum_by stmt_terms (take (length values) d.txn.body) + sum_by stmt_terms (drop (length values) d.txn.body) =
    ap (sum_by stmt_terms) (sym (take-append-drop (length values) d.txn.body))
    ∙ sum_by-append stmt_terms (take (length values) d.txn.body) (drop (length values) d.txn.body) in
    subst (IsFilled q) (sym is) (record {
      terms = omega (arith, split, short, h.terms, terms);
      others = omega (arith, h.compact.others, terms, rows, others);
      large = omega (arith, h.compact.large, terms, large);
    })

-- ---- logs

-- a log's invariant: heads are within the columns, transactions are sound, lengths are bounded
abbrev pub Keeps : Shared → List Head → Type 0
Keeps c hs = IsLogged c hs × AreTxns (map (txn_at c) hs) × IsMeasured c (map (txn_at c) hs)

measured_more : (c d : Shared) (ts : List Txn) (p : Parts) (t : Txn) → Longer c d p → Fits p t → IsMeasured c ts → IsMeasured d (ts ++ t ∷ [])
measured_more c d ts p t longer fits h =
    let size = sum_by-append txn_size ts (t ∷ []) in
    record { names = omega (arith, size, longer.names, fits.names, h.names); entries = omega (arith, size, longer.entries, fits.entries, h.entries) }

pub met_ok : (r : Result Head LogFault) (P : Head → Type 0) (Q : Type 0) → IsOkAnd r P → OnOk r Q → Q
met_ok (Ok x) P Q is met = met
met_ok (Err f) P Q is met = absurd is

-- appending a transaction's parts keeps the invariant and adds the transaction to the log
module _ (c d : Shared) (hs new : List Head) (e : Edition) (p : Parts) (t : Txn) (one : Adds e p t) (h : Keeps c hs) where
  longer : (r : Result Head LogFault) → IsOkAnd r (λ x. new ≡ hs ++ x ∷ []) → IfOk r (λ x. Appends c d x e p)
      → Keeps d new × (map (txn_at d) new ≡ map (txn_at c) hs ++ t ∷ [])
  longer (Ok x) is a =
      let more : map (txn_at d) (hs ++ x ∷ []) ≡ map (txn_at c) hs ++ t ∷ [] =
      log_more c d hs x e p a h.0 ∙ ap (λ u. map (txn_at c) hs ++ u ∷ []) one.same in
      subst (λ (xs : List Head). Keeps d xs × (map (txn_at d) xs ≡ map (txn_at c) hs ++ t ∷ [])) (sym is) (
        (
          logged_more c d hs x e p a h.0 one.within one.apart,
          subst AreTxns (sym more) (sound_log (map (txn_at c) hs) t h.1 one.sound),
          subst (IsMeasured d) (sym more) (measured_more c d (map (txn_at c) hs) p t a.longer one.fits h.2),
        ),
        more,
      )
  longer (Err f) is a = absurd is

  pub log_longer : (r : Result Head LogFault) → IsOkAnd r (λ x. new ≡ hs ++ x ∷ []) → IfOk r (λ x. Appends c d x e p) → Keeps d new
  log_longer r is a = (longer r is a).0

  pub view_longer : (r : Result Head LogFault) → IsOkAnd r (λ x. new ≡ hs ++ x ∷ []) → IfOk r (λ x. Appends c d x e p)
      → map (txn_at d) new ≡ map (txn_at c) hs ++ t ∷ []
  view_longer r is a = (longer r is a).1

-- cutting the columns back to their earlier ends restores the log
module _ (c d now : Shared) (hs new : List Head) (e : Edition) (p : Parts) (cut : now ≡ cut_to (ends_of c) d) (same : new ≡ hs) where
  came_wider : (r : Result Head LogFault) → IfOk r (λ x. Appends c d x e p) → OnErr r (Interns c d) → Widens c d
  came_wider (Ok x) a g = a.interns.widens
  came_wider (Err f) a g = g.widens

  pub log_back : (r : Result Head LogFault) → IfOk r (λ x. Appends c d x e p) → OnErr r (Interns c d) → Keeps c hs → Keeps now new
  log_back r a g h =
      let back : now ≡ c = cut ∙ cut_kept c d (came_wider r a g) in
      subst (λ (xs : List Head). Keeps now xs) (sym same) (subst (λ (x : Shared). Keeps x hs) (sym back) h)

  pub view_back : (r : Result Head LogFault) → IfOk r (λ x. Appends c d x e p) → OnErr r (Interns c d) → map (txn_at now) new ≡ map (txn_at c) hs
  view_back r a g =
      let back : now ≡ c = cut ∙ cut_kept c d (came_wider r a g) in
      λ i. map (txn_at (back i)) (same i)

-- adding a key's name without a transaction keeps the invariant
pub named_log : (c d : Shared) (hs : List Head) → Interns c d → length d.names ≤ max (length c.names) (2 ^ 30) → entries_in d ≡ entries_in c → Keeps c hs
    → Keeps d hs
named_log c d hs g few entries h =
    let same : map (txn_at d) hs ≡ map (txn_at c) hs = log_kept c d hs g h.0 in (
      logged_kept c d hs g h.0,
      subst AreTxns (sym same) h.1,
      subst (IsMeasured d) (sym same) (record { names = omega (arith, few, h.2.names); entries = omega (arith, entries, h.2.entries) }),
    )

-- the columns are full only if the transactions, with the next one, have a size of at least 2^26
pub large_log : (c : Shared) (ts : List Txn) (p : Parts) (t : Txn) → IsMeasured c ts → Fits p t → 2 ^ 32 ≤ held_with c p → 2 ^ 26 ≤ log_size ts + txn_size t
large_log c ts p t h fits full = omega (arith, h.names, h.entries, fits.names, fits.entries, full)
