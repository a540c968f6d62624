-- Single calls on a machine.
use Rattle.std.specs.Prelude.{◌≡◌, ℕ, ℤ, ◌+◌, ◌<◌, ◌^◌, List, length}
use Rattle.bohm_types.specs.Procedure.{Procedure, instance}
use Rattle.bohm_txn.specs.declared.outcome.Reply.{Reply}
use Rattle.bohm_txn.specs.Meaning.{body}
use Rattle.bohm_txn.specs.Serial.{reply_of}
use Rattle.bohm_store.specs.Versions.{Timeline}
use Rattle.bohm_machine.specs.Machines.{now_of, top_of}

-- the procedure has this many parameters of each kind
pub record TakesCall (p : Procedure) (key_count value_count : ℕ) : Type 0 where
  pub keys : key_count ≡ length p.keys
  pub values : value_count ≡ length p.values

-- the machine has a timestamp for one more transaction
abbrev pub HasTime : Timeline → Type 0
HasTime m = top_of m + 1 < 2 ^ 32

-- the reply of a call that runs next on a machine
abbrev pub reply_now : Timeline → Procedure → List (List ℕ) → List ℤ → Reply
reply_now m p ks vs = reply_of (body (now_of m) (instance p ks vs))
