-- How many terms and statements a draft has after a step, and which names and literals a failed step leaves.
use Rattle.std.proofs.Common.{◌≡◌, ℕ, ◌+◌, ◌-◌, ◌≤◌, Bool, List, [], ◌∷◌, ◌++◌, length, take, ap, sym, ◌∙◌, subst, arith, length-append}
use Rattle.std.proofs.Math.Seq.{take-append-add}
use Rattle.std.specs.List.{between}
use Rattle.std.proofs.lemmas.List.{length-map}
use Rattle.std.proofs.lemmas.List.Edits.{length-between}
use Rattle.std.proofs.lemmas.List.Sums.{sum_by-append}
use Rattle.bohm_types.specs.Term.{Atom}
use Rattle.bohm_types.specs.Stmt.{Stmt}
use Rattle.bohm_types.specs.declared.edition.Edition.{Edition}
use Rattle.bohm_log.specs.declared.row.Action.{Action}
use Rattle.bohm_types.specs.Txn.{Txn}
use Rattle.bohm_log.specs.Parts.{Parts, Begins, sum_between, term_of}
use Rattle.bohm_log.specs.Drafting.{Drafted, NamesGrow, AddsTerm, AddsRow, with_term, with_stmt, done_at, from_at, drafted_of, IsDrafted}
use Rattle.bohm_log.specs.declared.row.Step.{Step}
use Rattle.bohm_log.specs.declared.row.Step.TheVariants.{Whole, Left, Right}
use Rattle.bohm_log.specs.declared.row.Pending.{Pending}
use Rattle.bohm_log.specs.Sizes.{stmt_terms, open_terms, terms_in, IsCompact, IsCounted}

pub counted_term : (p q : Parts) (d e : Drafted) (minus : Bool) (atom : Atom) → e ≡ with_term d minus atom → AddsTerm p q minus atom → IsCompact q
    → IsCounted p d → IsCounted q e
counted_term p q d e minus atom is came compact h = record {
  terms = omega (arith, ap length came.terms, length-append p.terms (came.term ∷ []), h.terms, ap terms_in is, length-append d.latest ((minus, atom) ∷ []));
  rows = ap length came.rows ∙ h.rows ∙ sym (ap (λ (x : Drafted). length x.txn.body) is);
  compact = compact;
}

pub counted_stmt : (p q : Parts) (d e : Drafted) (s : Stmt) (action : Action) (name : List ℕ) (start first second third : ℕ) → e ≡ with_stmt d s
    → stmt_terms s ≡ open_terms d → AddsRow p q action name start first second third → IsCompact q → IsCounted p d → IsCounted q e
counted_stmt p q d e s action name start first second third is all came compact h = record {
  terms = omega (
    arith,
    ap (λ (x : Parts). length x.terms) came.made,
    ap length came.grows.terms,
    h.terms,
    ap terms_in is,
    sum_by-append stmt_terms d.txn.body (s ∷ []),
    all,
  );
  rows = omega (
    arith,
    ap (λ (x : Parts). length x.rows) came.made,
    ap length came.grows.rows,
    length-append came.mid.rows
        (record { action = action; declared = came.declared; name = came.place; start = start; first = first; second = second; third = third } ∷ []),
    h.rows,
    ap (λ (x : Drafted). length x.txn.body) is,
    length-append d.txn.body (s ∷ []),
  );
  compact = compact;
}

-- ---- the open statement

sum_length : (p : Parts) (i j : ℕ) → j ≤ length p.terms → length (sum_between p i j) ≡ j - i
sum_length p i j h = length-map (between i j p.terms) (term_of p) ∙ length-between p.terms i j h

open_at : (x : Txn) (p : Parts) (s f n : ℕ) (step : Step) → s ≤ f → f ≤ n → n ≤ length p.terms
    → open_terms (record { txn = x; done = done_at p s f n step; latest = sum_between p (from_at s f n step) (length p.terms) }) ≡ length p.terms - s
open_at x p s f n Whole a b c = omega (arith, sum_length p s (length p.terms) (omega arith))
open_at x p s f n Left a b c = omega (arith, a, b, c, sum_length p s f (omega (arith, b, c)), sum_length p f (length p.terms) (omega arith))
open_at x p s f n Right a b c = omega (
  arith,
  a,
  b,
  c,
  sum_length p s f (omega (arith, b, c)),
  sum_length p f n c,
  sum_length p n (length p.terms) (omega arith),
)

-- the open statement's terms are all terms from its start on
pub open_counted : (e : Edition) (p : Parts) (o : Pending) → IsDrafted p o → open_terms (drafted_of e p o) ≡ length p.terms - o.start
open_counted e p o h = open_at (drafted_of e p o).txn p o.start o.first o.second o.step h.begins h.rises h.ends

-- ---- after a failed step

take_begins : {A : Type 0} (xs ys : List A) (n : ℕ) → Begins xs ys → length xs ≤ n → Begins xs (take n ys)
take_begins xs ys n b long =
    let more : n ≡ length xs + (n - length xs) = omega (arith, long) in
    (take (n - length xs) b.0, ap (take n) b.1 ∙ ap (λ k. take k (xs ++ b.0)) more ∙ take-append-add xs b.0 (n - length xs))

-- cutting names and literals to no less than their earlier lengths keeps the earlier ones
pub cut_grows : (p m : Parts) (others : List (List ℕ)) (large : List ℕ) (n k : ℕ) → others ≡ take n m.others → large ≡ take k m.large → NamesGrow p m
    → length p.others ≤ n → length p.large ≤ k
    → NamesGrow p (record { reads = m.reads; writes = m.writes; others = others; large = large; terms = m.terms; rows = m.rows })
cut_grows p m others large n k cut_others cut_large g most_others most_large = record {
  grows = record {
    reads = g.grows.reads;
    writes = g.grows.writes;
    others = subst (Begins p.others) (sym cut_others) (take_begins p.others m.others n g.grows.others most_others);
    large = subst (Begins p.large) (sym cut_large) (take_begins p.large m.large k g.grows.large most_large);
    terms = g.grows.terms;
    rows = g.grows.rows;
  };
  terms = g.terms;
  rows = g.rows;
}
