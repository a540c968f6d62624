-- What a ledger's batches leave is what the serial run of their log leaves.
use Rattle.std.proofs.Common.{◌≡◌, ℕ, List, [], ◌∷◌, ◌++◌, length, length-append, refl, ap, sym, ◌∙◌}
use Rattle.bohm_types.specs.Txn.{Txn}
use Rattle.bohm_txn.specs.Meaning.{Look}
use Rattle.bohm_txn.specs.Serial.{after, state}
use Rattle.bohm_txn.proofs.ForCallers.{state-append}
use Rattle.bohm_entries.specs.Batches.{Defined, defined_after, defined_by, entries_of, log_of, txns_in}
use Rattle.bohm_ledger.specs.Rules.{State, run}
use Rattle.bohm_ledger.specs.Rules as ledgers
use Rattle.bohm_replay.specs.Entries.{entry_rules, log_of_batches, look_after, look_by}

-- after all transactions of a log
abbrev pub ended : Look → List Txn → Look
ended look log = state look log (length log)

after_each : (look : Look) (ts : List Txn) → look_after look ts ≡ ended look ts
after_each look [] = refl
after_each look (t ∷ ts) = after_each (after look t) ts

joined : (look : Look) (ts us : List Txn) → ended (ended look ts) us ≡ ended look (ts ++ us)
joined look ts us = sym (state-append look ts us (length (ts ++ us)) (length us) (length-append ts us))

pub entries_run : (d : Defined) (look : Look) (es : List (List (List ℕ))) → look_by d look es ≡ ended look (log_of d es)
entries_run d look [] = refl
entries_run d look (e ∷ es) = entries_run (defined_after d e) (look_after look (txns_in d e)) es
    ∙ (ap (λ (l : Look). ended l (log_of (defined_after d e) es)) (after_each look (txns_in d e))
    ∙ joined look (txns_in d e) (log_of (defined_after d e) es))

pub batches_run : (s : State Defined) (bs : List (List ℕ)) → (run entry_rules s bs).look ≡ ended s.look (log_of_batches s.defs bs)
batches_run s [] = refl
batches_run s (b ∷ bs) =
    let rest = log_of_batches (defined_by s.defs (entries_of b)) bs in
    batches_run (ledgers.after entry_rules s b) bs
    ∙ (ap (λ (l : Look). ended l rest) (entries_run s.defs s.look (entries_of b)) ∙ joined s.look (log_of s.defs (entries_of b)) rest)
