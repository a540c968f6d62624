use Rattle.std.proofs.Common.{◌≡◌, ℕ, List, ap, ◌∙◌, ◌++◌, ◌∷◌, [], length, map, arith}
use Rattle.std.specs.Prelude.{ℤ}
use Rattle.std.specs.List.{AllByRecursion}
use Rattle.bohm_types.specs.Procedure.{Procedure, stands_for, instance}
use Rattle.bohm_types.specs.Sound.{IsNumber}
use Rattle.bohm_types.specs.Txn.{Txn}
use Rattle.bohm_types.specs.declared.edition.Edition.{Edition}
use Rattle.bohm_log.specs.declared.call_places.CallPlaces.{CallPlaces}
use Rattle.bohm_log.specs.declared.columns.Ends.{Ends}
use Rattle.bohm_log.specs.declared.template.BodyColumns.{BodyColumns}
use Rattle.bohm_log.specs.CallPlaces.{parts_called, HasSets}
use Rattle.bohm_log.specs.Calling.{parts_in, IsCalled, IsTemplate, procedure_of}
use Rattle.bohm_log.specs.Columns.{shared_of, cut_to, txn_at}
use Rattle.bohm_log.specs.Handles.{keys_named}
use Rattle.bohm_log.specs.Sizes.{log_size, txn_size, IsFilled}
use Rattle.bohm_log.specs.SoundLogs.{AreNames, IsSoundProcedure}
use Rattle.bohm_log.specs.Parts.{Parts}
use Rattle.bohm_log.proofs.Arguments.{called_with}
use Rattle.bohm_log.proofs.CallLaw.{called_txn, called_within}
use Rattle.bohm_log.proofs.InstanceSound.{instance_sound}
use Rattle.bohm_log.proofs.Measuring.{Adds, fits_called, values_many, met_ok, log_longer, view_longer, log_back, view_back, large_log}
use Rattle.bohm_log.proofs.Settling.{called_by}
use Rattle.bohm_log.proofs.log.Log.push_call.Goals as goal

pub invariant_of-self-in-Err : goal.invariant_of-self-in-Err
invariant_of-self-in-Err g c =
    log_back (shared_of c.self.inside.columns) (shared_of c.append_call-head.new.self) _ _ _ _ _
    (c.cut_back.ensures ∙ ap (λ (e : Ends). cut_to e (shared_of c.append_call-head.new.self)) c.ends-ends.ensures) c.in-Err.ensures.err
    c.append_call-head.result c.append_call-head.ensures.ok c.append_call-head.ensures.err c.self.invariant

pub returns-in-Err-clause-err : goal.returns-in-Err-clause-err
returns-in-Err-clause-err g c =
    view_back (shared_of c.self.inside.columns) (shared_of c.append_call-head.new.self) _ _ _ _ _
    (c.cut_back.ensures ∙ ap (λ (e : Ends). cut_to e (shared_of c.append_call-head.new.self)) c.ends-ends.ensures) c.in-Err.ensures.err
    c.append_call-head.result c.append_call-head.ensures.ok c.append_call-head.ensures.err
    ∙ c.self.view_is

-- the parts of a template's call represent the procedure's instance, and may be appended to the log
call_adds : (e : Edition) (keys args : List (List ℕ)) (body : BodyColumns) (locals xs : List ℕ) (vs : List ℤ) (places : CallPlaces)
    → IsTemplate keys body locals × IsSoundProcedure (procedure_of e keys locals (parts_in body))
    × IsFilled (parts_in body) (procedure_of e keys locals (parts_in body))
    → AreNames args → AllByRecursion IsNumber vs → xs ≡ locals → length vs ≡ length locals → HasSets args body places
    → Adds e (parts_called args body xs vs places) (instance (procedure_of e keys locals (parts_in body)) args vs)
call_adds e keys args body locals xs vs places t names numbers is many sets =
    let p : Parts = parts_in body in
    let q : Parts = parts_called args body xs vs places in
    let called : IsCalled (map (stands_for keys args) p.reads) (map (stands_for keys args) p.writes) p locals vs q =
    called_with keys args body xs locals vs q t.0 is (called_by args body xs vs places sets) in
    record {
      same = called_txn e keys p locals args vs q t.0.own called;
      within = called_within p locals (stands_for keys args) vs q t.0.own called;
      apart = t.0.own.apart;
      sound = instance_sound (procedure_of e keys locals p) args vs t.1 names numbers;
      fits = fits_called e keys body locals xs args vs places t.0 t.2 is many;
    }

pub invariant_of-self : goal.invariant_of-self
invariant_of-self g c =
    log_longer (shared_of c.self.inside.columns) (shared_of c.append_call-head.new.self) _ _ _ _ _
    (call_adds _ _ _ _ _ _ _ _ c.template.invariant c.are_named.ensures c.are_values.ensures c.as_slice.ensures.value
    (values_many _ _ _ _ _ _ c.template.view_is c.requires.values)
    (met_ok c.append_call-head.result _ _ c.in-Ok.ensures.ok c.append_call-head.ensures.places))
    c.self.invariant c.append_call-head.result c.in-Ok.ensures.ok c.append_call-head.ensures.ok

pub returns-in-Ok-clause-ok : goal.returns-in-Ok-clause-ok
returns-in-Ok-clause-ok g c =
    view_longer (shared_of c.self.inside.columns) (shared_of c.append_call-head.new.self) _ _ _ _ _
    (call_adds _ _ _ _ _ _ _ _ c.template.invariant c.are_named.ensures c.are_values.ensures c.as_slice.ensures.value
    (values_many _ _ _ _ _ _ c.template.view_is c.requires.values)
    (met_ok c.append_call-head.result _ _ c.in-Ok.ensures.ok c.append_call-head.ensures.places))
    c.self.invariant c.append_call-head.result c.in-Ok.ensures.ok c.append_call-head.ensures.ok
    ∙ (λ i. c.self.view_is i ++ instance (c.template.view_is i) (keys_named c.args.keys.now) c.args.values.now ∷ [])

pub returns-in-Err-clause-full : goal.returns-in-Err-clause-full
returns-in-Err-clause-full g c e =
    let ts : List Txn = map (txn_at (shared_of c.self.inside.columns)) c.self.inside.heads.items in
    let large =
    large_log (shared_of c.self.inside.columns) ts _ _ c.self.invariant.2
    (fits_called _ _ _ _ _ _ _ c.args.places.now c.template.invariant.0 c.template.invariant.2 c.as_slice.ensures.value
    (values_many _ _ _ _ _ _ c.template.view_is c.requires.values))
    (c.append_call-head.ensures.full (c.in-Err.ensures.full e)) in
    omega (
      arith,
      large,
      ap log_size c.self.view_is,
      ap (λ (x : Procedure). txn_size (instance x (keys_named c.args.keys.now) c.args.values.now)) c.template.view_is,
    )
