-- A log that is run chunk after chunk is run as a whole.
use Rattle.std.proofs.Common.{◌≡◌, inl, inr, ⊎_elim, ℕ, ◌+◌, ◌≤◌, ◌<◌, ◌++◌, List, [], length}
use Rattle.std.proofs.Common.{length-append, append_assoc, append-nil, refl, ap, sym, subst, ◌∙◌, arith}
use Rattle.std.specs.Prelude.{Option, Some, None, true, false, is_some}
use Rattle.std.proofs.lemmas.Bool.{cases_lt}
use Rattle.bohm_types.specs.Document.{Document}
use Rattle.bohm_types.specs.Txn.{Txn}
use Rattle.bohm_txn.specs.declared.fault.CheckFault.{CheckFault}
use Rattle.bohm_txn.specs.Chunked.{IsCheckedTo, IsCountOf}
use Rattle.bohm_txn.proofs.ForCallers.{checked_kept, length-replies}
use Rattle.bohm_store.specs.Versions.{past}
use Rattle.bohm_text.specs.Print.{print_numbered}
use Rattle.bohm_text.specs.Windows.{with_log}
use Rattle.bohm_text.proofs.ForCallers.{numbered-append}
use Rattle.bohm_apply.specs.Runs.{IsApplied}
use Rattle.bohm_apply.proofs.ForCallers.{went_on}
use Rattle.bohm_run.specs.declared.chunks.RunState.{RunState}
use Rattle.bohm_read_ahead.specs.declared.checked_chunk.CheckedChunk.{CheckedChunk}
use Rattle.bohm_read_ahead.specs.Preparing.{count_with, AreReady, IsFaultBehind}
use Rattle.bohm_run.specs.Chunks.{IsNext, IsPartRun, IsRunTo, RunsChunk, RunsNext}

-- ---- counts

-- the count is exact up to the most transactions that a log may have
pub exact : (n count : ℕ) → IsCountOf n count → n ≤ 1000000 → count ≡ n
exact n count (inl e) few = e
exact n count (inr many) few = absurd (omega (arith, many.0, few))

-- adding a chunk's length to a count gives the count of the longer log
pub count_on : (n count more : ℕ) → IsCountOf n count → IsCountOf (n + more) (count_with count more)
count_on n count more (inl e) = ⊎_elim
    (λ (few : count + more < 1000001). inl (omega (arith, few, e)))
    (λ (many : 1000001 ≤ count + more). inr (omega (arith, many, e), omega (arith, many)))
    (cases_lt (count + more) 1000001)
count_on n count more (inr both) = inr (omega (arith, both.0), omega (arith, both.1))

-- ---- one chunk

pub some_not : (o : Option CheckFault) → is_some o ≡ true → o ≡ None → ⊥
some_not None some e = cc
some_not (Some f) some e = cc

pub no_some : (o : Option CheckFault) → is_some o ≡ false → o ≡ None
no_some None e = refl
no_some (Some f) e = absurd cc

module _ (txns : List Txn) (was now : RunState) (same : now.in_store ≡ was.in_store) (keeps : now.executor.keep ≡ was.executor.keep)
    (count : now.count ≡ count_with was.count (length txns)) where
  all_counted : (d : Document) → IsCountOf (length d.log) was.count → IsCountOf (length (d.log ++ txns)) now.count
  all_counted d so_far =
      let on : IsCountOf (length d.log + length txns) now.count =
      subst (λ (m : ℕ). IsCountOf (length d.log + length txns) m) (sym count) (count_on (length d.log) was.count (length txns) so_far) in
      subst (λ (n : ℕ). IsCountOf n now.count) (sym (length-append d.log txns)) on

  -- running a chunk that has no fault continues the run of the log
  pub chunk_ran : was.fault ≡ None → now.fault ≡ None → was.count + length txns ≤ 1000000 → IsFaultBehind was.count txns None
      → was.history.top ≡ was.count
      → IsPartRun was.history now.history txns was.executor.keep (was.history.top + 1) was.text now.text
      → RunsChunk txns was now
  chunk_ran clean still few checked top part = record {
    in_store = same;
    keep = keeps;
    level = λ low none short. omega (arith, part.applied.top, top, count, few);
    runs = λ opened d ordered so_far. record {
      counted = all_counted d so_far.counted;
      checked = subst (IsCheckedTo (with_log d txns)) (sym still) (checked d so_far.counted (subst (IsCheckedTo d) clean so_far.checked));
      run = λ none short.
          let front : length d.log ≤ 1000000 = omega (arith, short, length-append d.log txns) in
          let here : was.count ≡ length d.log = exact (length d.log) was.count so_far.counted front in
          let before = so_far.run clean front in
          let long : length before.answered ≡ was.count = ap length before.applied.replies ∙ (length-replies (past opened opened.top) d.log ∙ sym here) in
          let place : 1 + length before.answered ≡ was.history.top + 1 = omega (arith, long, top) in
          let applied = went_on opened was.history now.history d.log txns was.executor.keep before.answered part.answered ordered
          before.applied part.applied in
          record {
            answered = before.answered ++ part.answered;
            applied = subst (λ (k : ℕ). IsApplied opened now.history (d.log ++ txns) k (before.answered ++ part.answered)) (sym keeps) applied;
            wrote = part.wrote ∙ (ap (λ (t : List ℕ). t ++ print_numbered (was.history.top + 1) part.answered) before.wrote
                ∙ (ap (λ (n : ℕ). print_numbered 1 before.answered ++ print_numbered n part.answered) (sym place)
                ∙ sym (numbered-append 1 before.answered part.answered)));
          };
    };
  }

  -- a chunk need not be run if there is a fault, or if there are too many transactions
  pub chunk_skipped : ((d : Document) → IsCountOf (length d.log) was.count → IsCheckedTo d was.fault → IsCheckedTo (with_log d txns) now.fault)
      → (now.fault ≡ None → 1000000 < now.count) → RunsChunk txns was now
  chunk_skipped checked over = record {
    in_store = same;
    keep = keeps;
    level = λ low none few. absurd (omega (arith, over none, few));
    runs = λ opened d ordered so_far. record {
      counted = all_counted d so_far.counted;
      checked = checked d so_far.counted so_far.checked;
      run = λ none short. absurd (omega (arith, over none, short, exact (length (d.log ++ txns)) now.count (all_counted d so_far.counted) short));
    };
  }

-- ---- no chunk, and successive chunks

pub runs_none : (s : RunState) → RunsChunk [] s s
runs_none s = record {
  in_store = refl;
  keep = refl;
  level = λ low. low;
  runs = λ opened d ordered so_far. subst (λ (log : List Txn). IsRunTo opened (record d { log = log }) s) (sym (append-nil d.log)) so_far;
}

pub runs_on : (xs ys : List Txn) (was mid now : RunState) → RunsChunk xs was mid → RunsChunk ys mid now → RunsChunk (xs ++ ys) was now
runs_on xs ys was mid now one two = record {
  in_store = two.in_store ∙ one.in_store;
  keep = two.keep ∙ one.keep;
  level = λ low. two.level (one.level low);
  runs = λ opened d ordered so_far.
      subst (λ (log : List Txn). IsRunTo opened (record d { log = log }) now) (append_assoc d.log xs ys)
      (two.runs opened (with_log d xs) ordered (one.runs opened d ordered so_far));
}

-- ---- the next chunk

module _ (was now : RunState) (chunk : CheckedChunk) (next : IsNext was chunk) (same : now.in_store ≡ was.in_store)
    (keeps : now.executor.keep ≡ was.executor.keep) (count : now.count ≡ count_with was.count (length chunk.log)) where
  -- after a fault, the next chunk's transactions aren't run
  pub next_skipped : is_some was.fault ≡ true → now.fault ≡ was.fault → RunsNext chunk was now
  next_skipped found kept = record {
    runs = chunk_skipped chunk.log was now same keeps count
        (λ d counted so_far. subst (IsCheckedTo (with_log d chunk.log)) (sym kept) (checked_kept d chunk.log was.fault found so_far))
        (λ none. absurd (some_not was.fault found (sym kept ∙ none)));
    count = count;
  }

  pub next_ran : AreReady was.count chunk.log → was.fault ≡ None → now.fault ≡ None
      → IsPartRun was.history now.history chunk.log was.executor.keep (was.history.top + 1) was.text now.text
      → RunsNext chunk was now
  next_ran ready clean still part =
      let few : was.count ≤ 1000000 = omega (arith, ready.few) in
      record {
        runs = chunk_ran chunk.log was now same keeps count clean still (omega (arith, ready.few)) ready.checked (next.level clean few) part;
        count = count;
      }
