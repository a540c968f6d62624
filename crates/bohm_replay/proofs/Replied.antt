-- The replies of a ledger's transactions are those of the serial run of its log.
use Rattle.std.proofs.Common.{◌≡◌, ◌⊎◌, inl, inr, ℕ, ℤ, ◌+◌, Bool, true, false, cond, List, [], ◌∷◌, ◌++◌, Some, None, IsSome, refl, ap, sym, ◌∙◌, arith, drop, take, length}
use Rattle.std.specs.Prelude.{Option, codes}
use Rattle.bohm_types.specs.Procedure.{Procedure, instance}
use Rattle.bohm_types.specs.Txn.{Txn}
use Rattle.bohm_txn.specs.Meaning.{Look}
use Rattle.bohm_txn.specs.Serial.{replies}
use Rattle.bohm_text.specs.Cut.{split}
use Rattle.bohm_text.specs.Print.{Words}
use Rattle.bohm_text.specs.Reading.{◌>>=◌, keys_of}
use Rattle.bohm_entries.specs.Meaning.{Call, Definitions, Entry, Transaction, called, defined}
use Rattle.bohm_entries.specs.Batches.{Defined, behind_id, behind_kind, call_of, called_of, define_of, entry_in, is_definition, leads, log_of, transaction_of, txn_in, txns_in, txns_with, values_of}
use Rattle.bohm_entries.proofs.ForCallers.{only_defining}
use Rattle.bohm_ledger.specs.Rules.{State}
use Rattle.bohm_replay.specs.Entries.{AreSpelled, answer_to, answer_with, look_after, numbered, replies_by, reply_line, reply_lines, step, told_if}

module _ (number : ℕ) (look : Look) (ds : Definitions) where
  -- the entry runs one transaction, and is answered by its reply
  abbrev IsTold : Option Entry → Type 0
  IsTold entry = (t : Txn) × (txns_with ds entry ≡ t ∷ []) × (answer_with number look ds entry ≡ reply_line number look t)

  call_told : (name : List ℕ) (p : Procedure) → defined ds name ≡ Some p → (ks : Option (List (List ℕ))) (vs : Option (List ℤ))
      → IsSome (ks >>= λ keys. vs >>= λ values. Some (Call name keys values)) → IsTold (ks >>= λ keys. vs >>= λ values. Some (Call name keys values))
  call_told name p known None vs some = absurd cc
  call_told name p known (Some keys) None some = absurd cc
  call_told name p known (Some keys) (Some values) some =
      let one : called (defined ds name) keys values ≡ instance p keys values ∷ [] = ap (λ o. called o keys values) known in
      (instance p keys values, one, ap (reply_lines number look) one)

  called_told : (name : List ℕ) (words : Words) (o : Option Procedure) → defined ds name ≡ o → IsSome (o >>= λ p. call_of name p words)
      → IsTold (o >>= λ p. call_of name p words)
  called_told name words None known some = absurd cc
  called_told name words (Some p) known some = call_told name p known (keys_of (take (length p.keys) words)) (values_of (drop (length p.keys) words)) some

  words_told : (words : Words) → IsSome (called_of ds words) → IsTold (called_of ds words)
  words_told [] some = absurd cc
  words_told (name ∷ words) some = called_told name words (defined ds name) refl some

  txn_told : (o : Option Txn) → IsSome (o >>= λ t. Some (Transaction t)) → IsTold (o >>= λ t. Some (Transaction t))
  txn_told None some = absurd cc
  txn_told (Some t) some = (t, refl, refl)

  by_first : (b c x : Bool) (definition call txn : Option Entry) → (IsSome call → IsTold call) → (IsSome txn → IsTold txn)
      → IsSome (cond b definition (cond c call (cond x txn None)))
      → (b ≡ true) ⊎ ((b ≡ false) × (IsTold (cond b definition (cond c call (cond x txn None)))))
  by_first true c x definition call txn calls txns some = inl refl
  by_first false true x definition call txn calls txns some = inr (refl, calls some)
  by_first false false true definition call txn calls txns some = inr (refl, txns some)
  by_first false false false definition call txn calls txns some = absurd cc

one_kind : (number : ℕ) (look : Look) (d : Defined) (e : List (List ℕ)) → IsSome (entry_in d e)
    → (is_definition e ≡ true) ⊎ ((is_definition e ≡ false) × (IsTold number look d.procedures (entry_in d e)))
one_kind number look d [] some = absurd cc
one_kind number look d (line ∷ lines) some =
    let words = split 32 line in
    by_first number look d.procedures (leads (codes "define") words) (leads (codes "call") words) (leads (codes "txn") words)
    (define_of (behind_id (behind_kind words)) lines) (called_of d.procedures (behind_id (behind_kind words))) (transaction_of d.edition lines)
    (words_told number look d.procedures (behind_id (behind_kind words))) (txn_told number look d.procedures (txn_in d.edition lines)) some

defined_more : (b : Bool) (ts log : List Txn) (n : ℕ) (look : Look) (answer : List ℕ) (told : List (List ℕ)) → b ≡ true → ts ≡ []
    → told ≡ numbered ((n + cond b 0 1) + 1) (replies (look_after look ts) log) → told_if b answer ++ told ≡ numbered (n + 1) (replies look (ts ++ log))
defined_more b ts log n look answer told is none h =
    let same : (n + 0) + 1 ≡ n + 1 = omega arith in
    ap (λ c. told_if c answer ++ told) is
    ∙ (h ∙ ((λ i. numbered ((n + cond (is i) 0 1) + 1) (replies (look_after look (none i)) log))
    ∙ (ap (λ m. numbered m (replies look log)) same ∙ ap (λ (us : List Txn). numbered (n + 1) (replies look (us ++ log))) (sym none))))

ran_more : (b : Bool) (ts log : List Txn) (t : Txn) (n : ℕ) (look : Look) (answer : List ℕ) (told : List (List ℕ)) → b ≡ false → ts ≡ t ∷ []
    → answer ≡ reply_line (n + 1) look t
    → told ≡ numbered ((n + cond b 0 1) + 1) (replies (look_after look ts) log) → told_if b answer ++ told ≡ numbered (n + 1) (replies look (ts ++ log))
ran_more b ts log t n look answer told is one said h =
    (λ i. told_if (is i) (said i) ++ told)
    ∙ (ap (λ rest. reply_line (n + 1) look t ∷ rest) (h ∙ (λ i. numbered ((n + cond (is i) 0 1) + 1) (replies (look_after look (one i)) log)))
    ∙ ap (λ (us : List Txn). numbered (n + 1) (replies look (us ++ log))) (sym one))

pub batch_told : (s : State Defined) (es : List (List (List ℕ))) → AreSpelled s.defs es → replies_by s es ≡ numbered (s.top + 1) (replies s.look (log_of s.defs es))
batch_told s [] spelled = refl
batch_told s (e ∷ es) spelled =
    let rest = batch_told (step s e) es spelled.1 in
    let d = s.defs in
    elim (one_kind (s.top + 1) s.look d e spelled.0) [
      | inl is ↦ defined_more (is_definition e) (txns_in d e) (log_of (step s e).defs es) s.top s.look (answer_to s e) (replies_by (step s e) es)
          is (only_defining d e is) rest
      | inr ran ↦ ran_more (is_definition e) (txns_in d e) (log_of (step s e).defs es) ran.1.0 s.top s.look (answer_to s e) (replies_by (step s e) es)
          ran.0 ran.1.1 ran.1.2 rest
    ]
