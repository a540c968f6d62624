-- Declared names with their parameters, the keys that they represent, and templates made of them.
use Rattle.std.proofs.Common.{◌≡◌, ℕ, ◌≤◌, true, List, [], ◌∷◌, ◌++◌, Some, None, Bor, map, length, drop, replicate, refl, ap, sym, subst, ⊎_elim, ◌∙◌, arith}
use Rattle.std.specs.Prelude.{ℤ, pos, Option, IfSome}
use Rattle.std.proofs.lemmas.List.{length-map}
use Rattle.bohm_types.specs.Procedure.{stands_for}
use Rattle.bohm_log.specs.declared.template.DeclaredName.{DeclaredName}
use Rattle.bohm_log.specs.declared.template.BodyColumns.{BodyColumns}
use Rattle.bohm_log.specs.Parts.{Parts}
use Rattle.bohm_log.specs.Calling.{names_in, declared_name, argument_of, parts_in, AreDeclared, IsOwn}
use Rattle.bohm_log.specs.Calling.{IsPlaced, IsReady, IsTemplate, IsCalled, term_to, row_to, let_rows}
use Rattle.bohm_log.specs.CallPlaces.{IsChosen, IsOrdered}
use Rattle.bohm_log.specs.declared.call_places.SetPlaces.{SetPlaces}
use Rattle.bohm_log.specs.declared.placed_body.PlacedBody.{PlacedBody}
use Rattle.bohm_log.specs.declared.row.TermRow.{TermRow}
use Rattle.bohm_log.specs.declared.row.StmtRow.{StmtRow}
use Rattle.std.specs.List.{range_with_len}

names_again : (params names : List (List ℕ)) → names_in (map (declared_name params) names) ≡ names
names_again params [] = refl
names_again params (n ∷ ns) = ap (λ (xs : List (List ℕ)). n ∷ xs) (names_again params ns)

arguments_again : (params args names : List (List ℕ)) → map (argument_of args) (map (declared_name params) names) ≡ map (stands_for params args) names
arguments_again params args [] = refl
arguments_again params args (n ∷ ns) = ap (λ (xs : List (List ℕ)). stands_for params args n ∷ xs) (arguments_again params args ns)

pub names_declared : (params names : List (List ℕ)) (declared : List DeclaredName) → declared ≡ map (declared_name params) names → names_in declared ≡ names
names_declared params names declared e = ap names_in e ∙ names_again params names

pub are_declared : (params names : List (List ℕ)) (declared : List DeclaredName) → declared ≡ map (declared_name params) names → AreDeclared params declared
are_declared params names declared e = e ∙ ap (map (declared_name params)) (sym (names_declared params names declared e))

-- declared names, with their parameters, represent the same keys as the names alone
pub arguments_are : (params args : List (List ℕ)) (declared : List DeclaredName) → AreDeclared params declared
    → map (argument_of args) declared ≡ map (stands_for params args) (names_in declared)
arguments_are params args declared h = ap (map (argument_of args)) h ∙ arguments_again params args (names_in declared)

-- a call's parts for the keys of declared names are its parts for the keys of the names alone
pub called_with : (params args : List (List ℕ)) (body : BodyColumns) (xs locals : List ℕ) (vs : List ℤ) (q : Parts)
    → IsTemplate params body locals → xs ≡ locals
    → IsCalled (map (argument_of args) body.reads.items) (map (argument_of args) body.writes.items) (parts_in body) xs vs q
    → IsCalled (map (stands_for params args) (names_in body.reads.items)) (map (stands_for params args) (names_in body.writes.items))
    (parts_in body) locals vs q
called_with params args body xs locals vs q t same called =
    let r : map (argument_of args) body.reads.items ≡ map (stands_for params args) (names_in body.reads.items) =
    arguments_are params args body.reads.items t.reads in
    let w : map (argument_of args) body.writes.items ≡ map (stands_for params args) (names_in body.writes.items) =
    arguments_are params args body.writes.items t.writes in
    subst (λ (ys : List ℕ). IsCalled (map (stands_for params args) (names_in body.reads.items)) (map (stands_for params args) (names_in body.writes.items))
    (parts_in body) ys vs q) same
    (subst (λ (ks : List (List ℕ)). IsCalled (map (stands_for params args) (names_in body.reads.items)) ks (parts_in body) xs vs q) w
    (subst (λ (ks : List (List ℕ)). IsCalled ks (map (argument_of args) body.writes.items) (parts_in body) xs vs q) r called))

-- a template declares at most 16 reads and 16 writes
pub few_reads : (params : List (List ℕ)) (body : BodyColumns) (locals : List ℕ) → IsTemplate params body locals → length body.reads.items ≤ 16
few_reads params body locals t = omega (arith, t.own.few_reads, length-map body.reads.items (λ (n : DeclaredName). n.name))

pub few_writes : (params : List (List ℕ)) (body : BodyColumns) (locals : List ℕ) → IsTemplate params body locals → length body.writes.items ≤ 16
few_writes params body locals t = omega (arith, t.own.few_writes, length-map body.writes.items (λ (n : DeclaredName). n.name))

-- columns that have the parts' names, each with its parameter, represent the parts
pub parts_made : (params : List (List ℕ)) (reads writes : List DeclaredName) (others : List (List ℕ)) (p : Parts) → reads ≡ map (declared_name params) p.reads
    → writes ≡ map (declared_name params) p.writes → others ≡ p.others
    → record { reads = names_in reads; writes = names_in writes; others = others; large = p.large; terms = p.terms; rows = p.rows } ≡ p
parts_made params reads writes others p r w o =
    let rs : names_in reads ≡ p.reads = names_declared params p.reads reads r in
    let ws : names_in writes ≡ p.writes = names_declared params p.writes writes w in
    λ j. record { reads = rs j; writes = ws j; others = o j; large = p.large; terms = p.terms; rows = p.rows }

-- the prepared body chosen for keys at some indices has the terms and statements for these indices
chosen_placed : (body : BodyColumns) (locals reads writes : List ℕ) (b : PlacedBody) → IsReady body locals → IsChosen body reads writes b
    → IsPlaced body.terms.items body.rows.items locals reads writes b
chosen_placed body locals reads writes b ready = ⊎_elim
    (λ h. subst (λ (x : PlacedBody). IsPlaced body.terms.items body.rows.items locals reads writes x) (sym h.0)
    (subst (λ (rs : List ℕ). IsPlaced body.terms.items body.rows.items locals rs writes body.rising) (sym h.1.0)
    (subst (λ (ws : List ℕ). IsPlaced body.terms.items body.rows.items locals (range_with_len 0 (length body.reads.items)) ws body.rising) (sym h.1.1)
    ready.rising)))
    (λ h. subst (λ (x : PlacedBody). IsPlaced body.terms.items body.rows.items locals reads writes x) (sym h.0)
    (subst (λ (rs : List ℕ). IsPlaced body.terms.items body.rows.items locals rs writes body.falling) (sym h.1.0)
    (subst (λ (ws : List ℕ). IsPlaced body.terms.items body.rows.items locals (1 ∷ 0 ∷ []) ws body.falling) (sym h.1.1)
    ready.falling)))

pub terms_chosen : (body : BodyColumns) (locals reads writes : List ℕ) (o : Option (Bor PlacedBody)) → IsReady body locals
    → IfSome o (λ b. IsChosen body reads writes b.now) → IfSome o (λ b. b.now.terms.items ≡ map (term_to reads) body.terms.items)
terms_chosen body locals reads writes None ready h = tt
terms_chosen body locals reads writes (Some b) ready h = (chosen_placed body locals reads writes b.now ready h).same_terms

pub rows_chosen : (body : BodyColumns) (locals reads writes : List ℕ) (o : Option (Bor PlacedBody)) → IsReady body locals
    → IfSome o (λ b. IsChosen body reads writes b.now)
    → IfSome o (λ b. b.now.rows.items ≡ let_rows (length body.terms.items) locals (replicate (length locals) (pos 0))
    ++ map (row_to reads writes) (drop (length locals) body.rows.items))
rows_chosen body locals reads writes None ready h = tt
rows_chosen body locals reads writes (Some b) ready h = (chosen_placed body locals reads writes b.now ready h).same_rows

-- indices ordered for the keys of names are ordered for the names, since there are as many keys as names
pub ordered_for : (args : List (List ℕ)) (names : List DeclaredName) (s : SetPlaces) → IsOrdered (length (map (argument_of args) names)) s
    → IsOrdered (length names) s
ordered_for args names s = subst (λ n. IsOrdered n s) (length-map names (argument_of args))

-- a body prepared from slices of a template's columns is prepared from the columns
placed_from : (body : BodyColumns) (terms : List TermRow) (rows : List StmtRow) (places locals reads writes : List ℕ) (b : PlacedBody)
    → terms ≡ body.terms.items → rows ≡ body.rows.items → places ≡ locals → IsPlaced terms rows places reads writes b
    → IsPlaced body.terms.items body.rows.items locals reads writes b
placed_from body terms rows places locals reads writes b t r l h =
    subst (λ (xs : List TermRow). IsPlaced xs body.rows.items locals reads writes b) t
    (subst (λ (xs : List StmtRow). IsPlaced terms xs locals reads writes b) r (subst (λ (xs : List ℕ). IsPlaced terms rows xs reads writes b) l h))

pub ready_made : (body : BodyColumns) (terms : List TermRow) (rows : List StmtRow) (places locals : List ℕ) (reads writes : ℕ)
    → terms ≡ body.terms.items → rows ≡ body.rows.items → places ≡ locals → reads ≡ length body.reads.items → writes ≡ length body.writes.items
    → IsPlaced terms rows places (range_with_len 0 reads) (range_with_len 0 writes) body.rising
    → IsPlaced terms rows places (1 ∷ 0 ∷ []) (1 ∷ 0 ∷ []) body.falling → IsReady body locals
ready_made body terms rows places locals reads writes t r l few many rising falling = record {
  rising = placed_from body terms rows places locals _ _ body.rising t r l
      (subst (λ n. IsPlaced terms rows places (range_with_len 0 (length body.reads.items)) (range_with_len 0 n) body.rising) many
      (subst (λ n. IsPlaced terms rows places (range_with_len 0 n) (range_with_len 0 writes) body.rising) few rising));
  falling = placed_from body terms rows places locals _ _ body.falling t r l falling;
}

-- the parts of a procedure's own instance, with prepared bodies, are a template
pub template_made : (params : List (List ℕ)) (body : BodyColumns) (p : Parts) (locals : List ℕ) → parts_in body ≡ p → IsOwn p locals
    → body.reads.items ≡ map (declared_name params) p.reads → body.writes.items ≡ map (declared_name params) p.writes
    → (body.same_sets ≡ true → p.reads ≡ p.writes)
    → IsReady body locals
    → IsTemplate params body locals
template_made params body p locals same own r w alike ready = record {
  own = subst (λ (x : Parts). IsOwn x locals) (sym same) own;
  reads = are_declared params p.reads body.reads.items r;
  writes = are_declared params p.writes body.writes.items w;
  alike = λ is. r ∙ ap (map (declared_name params)) (alike is) ∙ sym w;
  ready = ready;
}
