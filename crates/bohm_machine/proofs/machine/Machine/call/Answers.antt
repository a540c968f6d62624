use Rattle.std.proofs.Common.{◌∙◌, ◌+◌, ◌<◌, ◌≤◌, ◌^◌, ◌++◌, ◌∷◌, [], ap, arith, map, sym}
use Rattle.bohm_types.specs.Procedure.{instance, stands_for}
use Rattle.bohm_log.specs.Parts.{names_at}
use Rattle.bohm_txn.specs.declared.outcome.Reply.{Reply}
use Rattle.bohm_procedures.specs.Compiling.{run_of}
use Rattle.bohm_store.specs.Versions.{Timeline}
use Rattle.bohm_machine.specs.Machines.{GoesOn, floor_of, top_of}
use Rattle.bohm_machine.specs.Singles.{reply_now}
use Rattle.bohm_machine.proofs.GoingOn.{batch_on, ran_on, still_on}
use Rattle.bohm_machine.proofs.OneCall.{IsCallOf, instance_on, reply_is, run_is}
use Rattle.bohm_machine.proofs.machine.Machine.call.Goals as goal

pub run_call-requires-clause-runs : goal.run_call-requires-clause-runs
run_call-requires-clause-runs c =
    let p = c.args.procedure.now in
    let made = c.in-Some.compiled.now in
    let ks = names_at c.args.keys.now c.args.arguments.now in
    let vs = c.args.values.now in
    let of : IsCallOf p made ks vs c.in-Some-new.call = record {
      accepted = c.compiled.ensures.accepted;
      compiled = c.in-Some.ensures.compiled;
      many = c.requires.takes.values;
      is_call = c.in-Some-new.ensures.call;
      shape = c.in-Some-new.ensures.shape;
      keys = c.in-Some-new.ensures.keys ∙ c.new-slots.ensures ∙ (λ j. names_at (c.table.ensures.names j) (c.as_slice.ensures.value j))
          ∙ c.in_ok-find_numbers.ensures.keys p.keys c.in-Some.ensures.compiled.parameters
          ∙ (λ j. map (stands_for p.keys (names_at (c.keys.view_is j) c.args.arguments.now)) made.shape.names.items);
      values = c.in-Some-new.ensures.values;
    } in
    (run_of p ks vs, run_is p made ks vs c.in-Some-new.call of)

pub returns-in_err-run_call-clause-no_memory : goal.returns-in_err-run_call-clause-no_memory
returns-in_err-run_call-clause-no_memory c e =
    let m = c.args.self.now in
    let ordered : floor_of m ≤ top_of m = omega (arith, c.top.ensures.top, c.top.ensures.ordered) in
    still_on m c.self.inside.history c.run_call.new.history (sym c.self.view_is) ordered c.in_err-run_call.ensures.same

-- the call that was run
called : (c : goal.In_ok-run_call) → IsCallOf c.args.procedure.now c.in-Some.compiled.now (names_at c.args.keys.now c.args.arguments.now) c.args.values.now
    c.in-Some-new.call
called c =
    let p = c.args.procedure.now in
    let made = c.in-Some.compiled.now in
    record {
      accepted = c.compiled.ensures.accepted;
      compiled = c.in-Some.ensures.compiled;
      many = c.requires.takes.values;
      is_call = c.in-Some-new.ensures.call;
      shape = c.in-Some-new.ensures.shape;
      keys = c.in-Some-new.ensures.keys ∙ c.new-slots.ensures ∙ (λ j. names_at (c.table.ensures.names j) (c.as_slice.ensures.value j))
          ∙ c.in_ok-find_numbers.ensures.keys p.keys c.in-Some.ensures.compiled.parameters
          ∙ (λ j. map (stands_for p.keys (names_at (c.keys.view_is j) c.args.arguments.now)) made.shape.names.items);
      values = c.in-Some-new.ensures.values;
    }

went : (c : goal.In_ok-run_call) → GoesOn c.args.self.now c.run_call.new.history
    (instance c.args.procedure.now (names_at c.args.keys.now c.args.arguments.now) c.args.values.now ∷ [])
    (reply_now c.args.self.now c.args.procedure.now (names_at c.args.keys.now c.args.arguments.now) c.args.values.now ∷ [])
went c =
    let p = c.args.procedure.now in
    let made = c.in-Some.compiled.now in
    let ks = names_at c.args.keys.now c.args.arguments.now in
    let vs = c.args.values.now in
    let m = c.args.self.now in
    let ordered : floor_of m ≤ top_of m = omega (arith, c.top.ensures.top, c.top.ensures.ordered) in
    let low : top_of m + 1 < 2 ^ 32 = omega (arith, c.top.ensures.top, c.if-top.false) in
    let applied = c.in_ok-run_call.ensures.applied (run_of p ks vs) (run_is p made ks vs c.in-Some-new.call (called c)) in
    instance_on p made ks vs c.in-Some-new.call (called c) m c.run_call.new.history (reply_now m p ks vs ∷ [])
    (batch_on m c.self.inside.history c.run_call.new.history (run_of p ks vs ∷ []) (sym c.self.view_is) ordered low applied)

pub returns-clause-goes_on : goal.returns-clause-goes_on
returns-clause-goes_on c = went c

pub returns-clause-runs_on : goal.returns-clause-runs_on
returns-clause-runs_on c = ran_on c.args.self.now c.run_call.new.history _ _ (went c)

pub returns-clause-answered : goal.returns-clause-answered
returns-clause-answered c =
    let p = c.args.procedure.now in
    let made = c.in-Some.compiled.now in
    let ks = names_at c.args.keys.now c.args.arguments.now in
    let vs = c.args.values.now in
    c.in_ok-run_call.ensures.answered
    ∙ ap (λ (r : Reply). c.args.answered.now ++ r ∷ []) (reply_is p made ks vs c.in-Some-new.call (called c) c.self.inside.history
    ∙ ap (λ (h : Timeline). reply_now h p ks vs) c.self.view_is)
