-- A machine that runs one transaction keeps what it held at the last checkpoint, and the list of what changed since.
use Rattle.std.proofs.Common.{◌≡◌, ℕ, ◌-◌, Bool, true, false, zero, suc, List, [], ◌∷◌, ◌++◌, length, take, refl, ap, sym, subst, ◌∙◌, arith}
use Rattle.std.proofs.lemmas.List.{take_all}
use Rattle.std.specs.List.{All}
use Rattle.bohm_types.specs.Keys.{is_among}
use Rattle.bohm_types.specs.Txn.{Txn}
use Rattle.bohm_txn.specs.declared.outcome.Reply.{Reply}
use Rattle.bohm_txn.specs.Faulty.{IsWellFormedTxn}
use Rattle.bohm_txn.specs.Meaning.{Look, body}
use Rattle.bohm_txn.specs.Serial.{after, replies, reply_of, state}
use Rattle.bohm_txn.proofs.ForCallers.{kept, usable}
use Rattle.bohm_store.specs.Versions.{Timeline}
use Rattle.bohm_machine.specs.Machines.{GoesOn, floor_of, now_of, past_of, top_of}
use Rattle.bohm_durable.specs.Entering.{IsSince, KeepsCheckpoint}

pub keeps : (was now : Timeline) (ts : List Txn) (a : List Reply) → GoesOn was now ts a → KeepsCheckpoint was now
keeps was now ts a g = record {
  floor = g.floor;
  past = λ ordered. ap (past_of now) g.floor ∙ g.earlier (floor_of was) (omega arith) ordered;
}

-- what the machine holds now is the last state of the transactions
now_after : (was now : Timeline) (ts : List Txn) (a : List Reply) → GoesOn was now ts a → now_of now ≡ state (now_of was) ts (length ts)
now_after was now ts a g =
    let all : top_of now - top_of was ≡ length ts = omega (arith, g.top) in
    g.later (top_of now) (omega (arith, g.top)) (omega arith) ∙ ap (state (now_of was) ts) all

pub one_ran : (was now : Timeline) (t : Txn) (a : List Reply) → GoesOn was now (t ∷ []) a → now_of now ≡ after (now_of was) t
one_ran was now t a g = now_after was now (t ∷ []) a g

not_both : (b : Bool) → b ≡ false → b ≡ true → ⊥
not_both b f t = absurd cc

pub since_with : (was now : Timeline) (ts : List Txn) (a : List Reply) (changed : List (List ℕ)) → GoesOn was now ts a → IsSince was changed
    → ((k : List ℕ) → is_among changed k ≡ false → state (now_of was) ts (length ts) k ≡ now_of was k) → IsSince now changed
since_with was now ts a changed g since same = record {
  ordered = omega (arith, since.ordered, g.floor, g.top);
  others = λ k absent.
      ap (λ (l : Look). l k) ((keeps was now ts a g).past since.ordered) ∙ (since.others k absent
      ∙ (sym (same k absent) ∙ ap (λ (l : Look). l k) (sym (now_after was now ts a g))));
}

abbrev no_txns : List Txn
no_txns = []

nothing_taken : (n : ℕ) → take n no_txns ≡ no_txns
nothing_taken zero = refl
nothing_taken (suc n) = refl

all_taken : (was now : Timeline) (t : Txn) (n : ℕ) (a : List Reply) → GoesOn was now (take (suc n) (t ∷ [])) a → GoesOn was now (t ∷ []) a
all_taken was now t n a g =
    let whole : take (suc n) (t ∷ []) ≡ t ∷ [] = ap (λ (ts : List Txn). t ∷ ts) (nothing_taken n) in
    subst (λ (ts : List Txn). GoesOn was now ts a) whole g

-- the only transaction of a well-formed log
pub well_one : (xs log : List Txn) (t : Txn) → All IsWellFormedTxn xs → xs ≡ log → log ≡ t ∷ [] → IsWellFormedTxn t
well_one xs log t all same is =
    let whole : xs ≡ t ∷ [] = same ∙ is in
    let here : All IsWellFormedTxn (t ∷ []) = subst (λ (ts : List Txn). All IsWellFormedTxn ts) whole all in
    here 0 t (omega arith)

pub one_since : (was now : Timeline) (log : List Txn) (n : ℕ) (a : List Reply) (changed : List (List ℕ)) → length log ≡ 1
    → ((t : Txn) → log ≡ t ∷ [] → IsWellFormedTxn t) → GoesOn was now (take n log) a → IsSince was changed
    → ((t : Txn) → log ≡ t ∷ [] → (k : List ℕ) → is_among t.writes k ≡ true → is_among changed k ≡ true) → IsSince now changed
one_since was now [] n a changed one well g since noted = absurd (omega (arith, one))
one_since was now (t ∷ u ∷ ts) n a changed one well g since noted = absurd (omega (arith, one))
one_since was now (t ∷ []) zero a changed one well g since noted = since_with was now [] a changed g since (λ k absent. refl)
one_since was now (t ∷ []) (suc n) a changed one well g since noted = since_with was now (t ∷ []) a changed (all_taken was now t n a g) since
    (λ k absent. kept (now_of was) t k (usable t (well t refl)) (λ among. not_both (is_among changed k) absent (noted t refl k among)))

-- the only transaction of a log was run
pub batch_since : (was now : Timeline) (log : List Txn) (a : List Reply) (changed : List (List ℕ)) → length log ≡ 1
    → ((t : Txn) → log ≡ t ∷ [] → IsWellFormedTxn t) → GoesOn was now log a → IsSince was changed
    → ((t : Txn) → log ≡ t ∷ [] → (k : List ℕ) → is_among t.writes k ≡ true → is_among changed k ≡ true) → IsSince now changed
batch_since was now log a changed one well g since noted =
    let whole : take (length log) log ≡ log = take_all (length log) log (omega arith) in
    one_since was now log (length log) a changed one well (subst (λ (ts : List Txn). GoesOn was now ts a) (sym whole) g) since noted

-- nothing was run
pub still_since : (was now : Timeline) (a : List Reply) (changed : List (List ℕ)) → GoesOn was now [] a → IsSince was changed → IsSince now changed
still_since was now a changed g since = since_with was now [] a changed g since (λ k absent. refl)

-- the reply to the only transaction of a log
pub one_replied : (look : Look) (log : List Txn) (t : Txn) (before now : List Reply) → before ≡ [] → now ≡ before ++ replies look log → log ≡ t ∷ []
    → now ≡ reply_of (body look t) ∷ []
one_replied look log t before now none answered is = answered ∙ (λ i. none i ++ replies look (is i))

-- the log of one transaction was run whole
pub one_applied : (was now : Timeline) (log : List Txn) (a : List Reply) (t : Txn) → length a ≡ 1 → GoesOn was now (take (length a) log) a → log ≡ t ∷ []
    → GoesOn was now (t ∷ []) a
one_applied was now log a t size g is =
    let whole : take (length a) log ≡ t ∷ [] = ap (λ (n : ℕ). take n log) size ∙ ap (take 1) is in
    subst (λ (ts : List Txn). GoesOn was now ts a) whole g
