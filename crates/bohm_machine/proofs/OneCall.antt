-- A single call on a machine: the transaction that it runs, and its instance.
use Rattle.std.proofs.Common.{◌≡◌, ℕ, zero, suc, ◌-◌, true, false, Bool, List, [], ◌∷◌, length, map, take, refl, sym, ap, ◌∙◌, arith}
use Rattle.std.specs.Prelude.{ℤ, not}
use Rattle.std.proofs.lemmas.Bool.{and_parts}
use Rattle.bohm_types.specs.Keys.{is_among}
use Rattle.bohm_types.specs.Procedure.{Procedure, instance, stands_for}
use Rattle.bohm_txn.specs.declared.outcome.Reply.{Reply}
use Rattle.bohm_txn.specs.Meaning.{Look, body}
use Rattle.bohm_txn.specs.Serial.{reply_of, state}
use Rattle.bohm_place.specs.Shares.{AreDistinct}
use Rattle.bohm_shapes.specs.Apart.{all_apart}
use Rattle.bohm_shapes.specs.Calls.{IsCall, txn_of}
use Rattle.bohm_shapes.specs.declared.call.Call.{Call}
use Rattle.bohm_shapes.specs.Filled.{txn_filled}
use Rattle.bohm_shapes.proofs.ForCallers.{same_effects}
use Rattle.bohm_procedures.specs.Accepting.{IsAccepted}
use Rattle.bohm_procedures.specs.Compiling.{IsCompiled, run_of}
use Rattle.bohm_procedures.specs.declared.compiled.Compiled.{Compiled}
use Rattle.bohm_procedures.proofs.ForCallers.{first_apart, run_body, run_many, run_usable, run_writes}
use Rattle.bohm_store.specs.Runs.{IsRunOf}
use Rattle.bohm_store.specs.Versions.{Timeline}
use Rattle.bohm_machine.specs.Machines.{GoesOn, now_of, top_of}
use Rattle.bohm_machine.specs.Singles.{reply_now}

-- the call is one of the procedure with these arguments
pub record IsCallOf (p : Procedure) (c : Compiled) (ks : List (List ℕ)) (vs : List ℤ) (call : Call) : Type 0 where
  pub accepted : IsAccepted p
  pub compiled : IsCompiled p c
  pub many : length vs ≡ length p.values
  pub is_call : IsCall call
  pub shape : call.shape.now ≡ c.shape
  pub keys : call.keys.now ≡ map (stands_for p.keys ks) c.shape.names.items
  pub values : call.values.now ≡ vs

not_among : (b : Bool) → not b ≡ true → b ≡ false
not_among true e = absurd cc
not_among false e = refl

distinct : (xs : List (List ℕ)) → all_apart xs ≡ true → AreDistinct xs
distinct [] e = tt
distinct (x ∷ xs) e =
    let (first, rest) = and_parts (not (is_among xs x)) (all_apart xs) e in
    (not_among (is_among xs x) first, distinct xs rest)

module _ (p : Procedure) (c : Compiled) (ks : List (List ℕ)) (vs : List ℤ) (call : Call) (of : IsCallOf p c ks vs call) where
  names_apart : all_apart (map (stands_for p.keys ks) c.shape.names.items) ≡ true
  names_apart = ap all_apart (sym of.keys) ∙ of.is_call.apart

  same_body : (run_of p ks vs).body ≡ (txn_of call).body
  same_body = run_body p c.shape ks vs of.compiled.like of.compiled.usable of.many
      ∙ sym (λ j. (txn_filled (of.shape j) (of.keys j) (of.values j)).body)

  same_edition : (run_of p ks vs).edition ≡ (txn_of call).edition
  same_edition = sym (ap (λ (s : _). s.edition) of.shape ∙ of.compiled.like.same_edition)

  -- the call runs its instance, which declares its writes in the procedure's order
  pub run_is : IsRunOf call (run_of p ks vs)
  run_is = record {
    runnable = record {
      usable = run_usable p ks vs of.accepted of.many;
      apart = distinct (run_of p ks vs).writes (ap all_apart (run_writes p c.shape ks vs of.compiled.like) ∙ first_apart c.shape.writes _ names_apart);
    };
    edition = same_edition;
    body = same_body;
    writes = run_writes p c.shape ks vs of.compiled.like ∙ sym (λ j. take (of.shape j).writes (of.keys j));
  }

  -- its reply is the instance's
  pub reply_is : (m : Timeline) → reply_of (body (now_of m) (txn_of call)) ≡ reply_now m p ks vs
  reply_is m = ap reply_of (sym (same_effects (run_of p ks vs) (txn_of call) same_edition same_body (now_of m)))

  same_state : (look : Look) (i : ℕ) → state look (run_of p ks vs ∷ []) i ≡ state look (instance p ks vs ∷ []) i
  same_state look zero = refl
  same_state look (suc i) = refl

  -- the machine continues by the instance
  pub instance_on : (was now : Timeline) (a : List Reply) → GoesOn was now (run_of p ks vs ∷ []) a → GoesOn was now (instance p ks vs ∷ []) a
  instance_on was now a g = record {
    replies = g.replies;
    top = g.top;
    floor = g.floor;
    earlier = g.earlier;
    later = λ ts above below. g.later ts above below ∙ same_state (now_of was) (ts - top_of was);
    count = omega (arith, g.count, run_many p c.shape ks vs of.compiled.like names_apart);
  }
