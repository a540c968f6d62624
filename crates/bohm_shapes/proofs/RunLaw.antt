-- A run over the cells of the keys ends as the body of the shape's transaction does.
use Rattle.std.proofs.Common.{◌≡◌, ℕ, zero, suc, ◌+◌, ◌-◌, ◌<◌, ◌^◌, List, [], ◌∷◌, ◌++◌, map, length, Ok, Err, Bool, true, false, sym, subst, arith}
use Rattle.std.specs.Prelude.{ℤ, pos, negsuc, All, Result, nat_lt, if◌then◌else◌}
use Rattle.std.specs.List.{AllByRecursion}
use Rattle.std.specs.Int.RustNames.{unsigned_abs}
use Rattle.std.proofs.lemmas.Option.{slice_get-get_or}
use Rattle.bohm_types.specs.declared.cell.Cell.{Cell}
use Rattle.bohm_types.specs.Keys.{IsAmong}
use Rattle.bohm_types.specs.Accesses.{AtomReads, SumReads, StmtReads}
use Rattle.bohm_types.specs.Procedure.{is_minus, lets}
use Rattle.bohm_types.specs.Term.{Lit}
use Rattle.bohm_log.specs.Parts.{name_at}
use Rattle.bohm_txn.specs.declared.outcome.Reason.{Reason}
use Rattle.bohm_txn.specs.Meaning.{Look, body}
use Rattle.bohm_txn.specs.Tables.{Tables, start, tables_from}
use Rattle.bohm_txn.proofs.ForCallers.{among_at, each_append, EndAlike, ends_alike, committed, aborted, IsCommit}
use Rattle.bohm_shapes.specs.declared.shape.Term.{Term}
use Rattle.bohm_shapes.specs.declared.shape.Term.TheVariants.{Number, Slot, Local}
use Rattle.bohm_shapes.specs.declared.shape.Step.{Step}
use Rattle.bohm_shapes.specs.declared.shape.Step.TheVariants.{Let, Need, Has, Lacks, Set, SetWhen, Remove, Show, Fail}
use Rattle.bohm_shapes.specs.declared.shape.Shape.{Shape}
use Rattle.bohm_shapes.specs.Filled.{number_term, term_filled, sum_filled, stmt_filled, steps_filled, txn_filled}
use Rattle.bohm_shapes.proofs.Terms.{apart}
use Rattle.bohm_shapes.specs.Apart.{all_apart}
use Rattle.bohm_shapes.specs.Running.{IsUsable, TermIn, StepIn, StepsIn, lets_in}

-- ---- the transaction reads none but these keys

module _ (keys : List (List ℕ)) where
  abbrev Reads : List ℕ → Type 0
  Reads = IsAmong keys

  sum_by_reads : (minus : Bool) (size : ℕ) (small : Bool)
      → SumReads Reads (if small then (minus, Lit size) ∷ [] else ((minus, Lit (2 ^ 63 - 1)) ∷ (minus, Lit 1) ∷ []))
  sum_by_reads minus size true = (tt, tt)
  sum_by_reads minus size false = (tt, (tt, tt))

  lets_read : (xs : List (List ℕ)) (vs : List ℤ) → AllByRecursion (StmtReads Reads) (lets xs vs)
  lets_read [] vs = tt
  lets_read (x ∷ xs) [] = tt
  lets_read (x ∷ xs) (v ∷ vs) = (((sum_by_reads (is_minus v) (unsigned_abs v) (nat_lt (unsigned_abs v) (2 ^ 63)), tt), tt), lets_read xs vs)

  module _ (locals : List (List ℕ)) (k : ℕ) (long : length keys ≡ k) where
    slot_among : (i : ℕ) → i < k → IsAmong keys (name_at keys i)
    slot_among i h = among_at keys i (name_at keys i) (slice_get-get_or keys i [] (omega (arith, h, long)))

    number_reads : (v : ℤ) → AtomReads Reads (number_term v).1
    number_reads (pos n) = tt
    number_reads (negsuc n) = tt

    term_reads : (n : ℕ) (t : Term) → TermIn k n t → AtomReads Reads (term_filled locals keys t).1
    term_reads n (Number v) h = number_reads v
    term_reads n (Slot minus i) h = slot_among i h
    term_reads n (Local minus i) h = tt

    terms_read : (n : ℕ) (ts : List Term) → All (TermIn k n) ts → SumReads Reads (sum_filled locals keys ts)
    terms_read n [] all = tt
    terms_read n (t ∷ ts) all = (term_reads n t (all zero t (omega arith)), terms_read n ts (λ j d h. all (suc j) d (omega (arith, h))))

    step_reads : (n : ℕ) (x : Step) → StepIn locals k n x → StmtReads Reads (stmt_filled locals keys x)
    step_reads n (Let i sum) h = ((terms_read n sum.items h.2.each, tt), tt)
    step_reads n (Need left cmp right) h = ((terms_read n left.items h.0.each, (terms_read n right.items h.1.each, tt)), tt)
    step_reads n (Has i) h = (tt, slot_among i h)
    step_reads n (Lacks i) h = (tt, slot_among i h)
    step_reads n (Set i sum) h = ((terms_read n sum.items h.1.each, tt), tt)
    step_reads n (SetWhen i sum left cmp right) h =
        ((terms_read n sum.items h.1.each, (terms_read n left.items h.2.each, (terms_read n right.items h.3.each, tt))), tt)
    step_reads n (Remove i) h = (tt, tt)
    step_reads n (Show sum) h = ((terms_read n sum.items h.each, tt), tt)
    step_reads n Fail h = (tt, tt)

    steps_read : (n : ℕ) (xs : List Step) → StepsIn locals k n xs → AllByRecursion (StmtReads Reads) (map (stmt_filled locals keys) xs)
    steps_read n [] h = tt
    steps_read n (x ∷ xs) h = (step_reads n x h.0, steps_read (n + lets_in x) xs h.1)

  pub body_reads : (s : Shape) (vs : List ℤ) → IsUsable s → length keys ≡ length s.names.items
      → AllByRecursion (StmtReads Reads) (lets s.locals.items vs ++ steps_filled s keys)
  body_reads s vs usable long = each_append (StmtReads Reads) (lets s.locals.items vs) (steps_filled s keys) (lets_read s.locals.items vs)
      (steps_read s.locals.items (length s.names.items) long s.values s.steps.items usable.within)

-- ---- how it ends

module _ (s : Shape) (keys : List (List ℕ)) (vs : List ℤ) (cells : List Cell) (look : Look) (usable : IsUsable s) (up : all_apart keys ≡ true)
    (long : length keys ≡ length s.names.items) (paired : length cells ≡ length keys) (same : map look keys ≡ cells) where
  ends : EndAlike (txn_filled s keys vs) look cells (body look (txn_filled s keys vs))
      (tables_from (txn_filled s keys vs) (start cells cells) 1 (txn_filled s keys vs).body)
  ends = ends_alike (txn_filled s keys vs) look cells cells (apart keys up) (body_reads keys s vs usable long) (sym paired) (sym paired) same

  pub run_commits : (w : Tables) → tables_from (txn_filled s keys vs) (start cells cells) 1 (txn_filled s keys vs).body ≡ Ok w
      → IsCommit (txn_filled s keys vs) cells (body look (txn_filled s keys vs)) w
  run_commits w e = committed (txn_filled s keys vs) look cells (body look (txn_filled s keys vs)) w
      (subst (λ (r : Result Tables (Reason × ℕ)). EndAlike (txn_filled s keys vs) look cells (body look (txn_filled s keys vs)) r) e ends)

  pub run_aborts : (fault : Reason × ℕ) → tables_from (txn_filled s keys vs) (start cells cells) 1 (txn_filled s keys vs).body ≡ Err fault
      → body look (txn_filled s keys vs) ≡ Err fault
  run_aborts fault e = aborted (txn_filled s keys vs) look cells (body look (txn_filled s keys vs)) fault
      (subst (λ (r : Result Tables (Reason × ℕ)). EndAlike (txn_filled s keys vs) look cells (body look (txn_filled s keys vs)) r) e ends)
