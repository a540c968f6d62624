-- The answer of a log that ran.
use Rattle.std.proofs.Common.{◌≡◌, ℕ, ℤ, ◌-◌, ◌≤◌, ◌<◌, ◌++◌, List, length, take, ap, subst, ◌∙◌, arith}
use Rattle.std.specs.Prelude.{Option, unwrap_or}
use Rattle.std.specs.FinMap.{entries}
use Rattle.std.specs.Io.KnownBytes.{Appends}
use Rattle.bohm_txn.specs.Stores.{cell_in, store_of, store_after}
use Rattle.bohm_store.specs.Versions.{past}
use Rattle.bohm_text.specs.Print.{print_store}
use Rattle.bohm_settings.specs.Given.{Given}
use Rattle.bohm_apply.proofs.ForCallers.{store_then}
use Rattle.bohm_answer.specs.Bytes.{IsWriteFault, Sends}
use Rattle.bohm_run.specs.Headline.{answer_of, time_of, Answers, IsReadable, Refuses}
use Rattle.bohm_run.specs.Streaming.{IsLogRun}
use Rattle.bohm_run.specs.Times.{IsReadableAt, IsUnreadable}
use Rattle.bohm_run.specs.declared.chunks.RunState.{RunState}
use Rattle.bohm_answer.specs.declared.fault.RunFault.{RunFault}
use Rattle.bohm_answer.specs.declared.fault.RunFault.TheVariants.{Read, TooLong, Text, Check, Trimmed, Future, NoMemory, Write}

-- the text of the replies, followed by that of the store at a timestamp, is the document's answer
pub answer_text : (keep : ℕ) (u v : Option (List ℕ)) (s : RunState) (run : IsLogRun keep u v s) (ts : ℕ) (entered : List (List ℕ × ℤ)) (text : List ℕ)
    → s.history.floor ≤ ts → ts ≤ s.history.top
    → cell_in (store_of entered) ≡ past s.history ts → entered ≡ entries (store_of entered) → text ≡ s.text ++ print_store entered
    → text ≡ answer_of run.document ts
answer_text keep u v s run ts entered text kept there cells own wrote =
    let stored : entered ≡ entries (store_after (store_of run.document.store) (take ts run.document.log)) =
    store_then (store_of run.document.store) run.document.log ts entered (omega (arith, there, run.history.top)) (cells ∙ run.history.past ts kept there) own in
    wrote ∙ (λ i. run.replies i ++ print_store (stored i))

module _ (given : Given) (u v w w' : Option (List ℕ)) (s : RunState) (run : IsLogRun given.keep u v s) where
  pub unreadable : (fault : RunFault) → IsUnreadable given s.count fault → Refuses given u v w w' fault
  unreadable Read h = absurd h
  unreadable TooLong h = absurd h
  unreadable (Text fault) h = absurd h
  unreadable (Check fault) h = absurd h
  unreadable Trimmed h = record { document = run.document; read = run.read; is = subst (λ (n : ℕ). unwrap_or given.at n < n - given.keep) run.count h }
  unreadable Future h = record { document = run.document; read = run.read; is = subst (λ (n : ℕ). n < unwrap_or given.at n) run.count h }
  unreadable NoMemory h = absurd h
  unreadable (Write sent) h = absurd h

  module _ (ts : ℕ) (there : IsReadableAt given s.count ts) (bytes : List ℕ) (is : bytes ≡ answer_of run.document ts) where
    at : IsReadableAt given (length run.document.log) ts
    at = subst (λ (n : ℕ). IsReadableAt given n ts) run.count there

    readable : IsReadable given run.document
    readable = record {
      there = subst (λ (t : ℕ). t ≤ length run.document.log) at.time at.there;
      kept = subst (λ (t : ℕ). length run.document.log - given.keep ≤ t) at.time at.kept;
    }

    same : bytes ≡ answer_of run.document (time_of given run.document)
    same = is ∙ ap (answer_of run.document) at.time

    pub written : Appends w w' bytes → Answers given u v w w'
    written h = record { document = run.document; read = run.read; readable = readable; wrote = subst (Appends w w') same h }

    pub unwritten : (fault : RunFault) → IsWriteFault w w' bytes fault → Refuses given u v w w' fault
    unwritten Read h = absurd h
    unwritten TooLong h = absurd h
    unwritten (Text fault) h = absurd h
    unwritten (Check fault) h = absurd h
    unwritten Trimmed h = absurd h
    unwritten Future h = absurd h
    unwritten NoMemory h = absurd h
    unwritten (Write sent) h = record {
      document = run.document;
      read = run.read;
      readable = readable;
      wrote = subst (λ (b : List ℕ). Sends w w' b sent) same h;
    }
