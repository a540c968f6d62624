use Rattle.std.proofs.Common.{◌∙◌, ◌++◌, arith}
use Rattle.std.proofs.lemmas.List.{length-map}
use Rattle.bohm_log.specs.Calling.{argument_of}
use Rattle.bohm_log.specs.Columns.{Shared, shared_of}
use Rattle.bohm_log.specs.Handles.{keys_named}
use Rattle.bohm_log.proofs.Failing.{on_err}
use Rattle.bohm_log.proofs.Settling.{ids_behind, come_named, come_few, places_come, itself_comes, sorted_comes}
use Rattle.bohm_log.proofs.Widening.{cut_back}
use Rattle.bohm_log.proofs.columns.Columns.add_set.Goals as goal

pub settle-requires-clause-few : goal.settle-requires-clause-few
settle-requires-clause-few g c =
    omega (
      arith,
      c.requires,
      length-map c.args.names.now (argument_of (keys_named c.args.args.now)),
      come_few _ _ _ c.len-start.result _ (omega arith) c.in_ok-add_arguments.ensures.ok
          (ids_behind c.as_slice.result.now _ c.len-start.result c.as_slice.ensures.value),
    )

pub settle-requires-clause-named : goal.settle-requires-clause-named
settle-requires-clause-named g c =
    come_named _ _ _ _ _ _ (omega arith) c.in_ok-add_arguments.ensures.ok c.table.ensures.names
    (ids_behind c.as_slice.result.now _ c.len-start.result c.as_slice.ensures.value)

pub returns-in_err-settle-clause-err : goal.returns-in_err-settle-clause-err
returns-in_err-settle-clause-err g c = on_err _ c.in_ok-add_arguments.ensures.ok.interns

pub returns-then-is_rising-clause-ok : goal.returns-then-is_rising-clause-ok
returns-then-is_rising-clause-ok g c =
    itself_comes _ _ _ _ _ _ _ (omega arith) c.in_ok-add_arguments.ensures.ok c.table.ensures.names
    (ids_behind c.as_slice.result.now _ c.len-start.result c.as_slice.ensures.value) c.in_ok-settle.ensures.ok (c.is_rising.ensures.rising c.if-is_rising.true)

pub returns-then-is_rising-clause-places : goal.returns-then-is_rising-clause-places
returns-then-is_rising-clause-places g c =
    places_come _ _ _ _ _ _ _ (omega arith) c.in_ok-add_arguments.ensures.ok c.table.ensures.names
    (ids_behind c.as_slice.result.now _ c.len-start.result c.as_slice.ensures.value) c.in_ok-settle.ensures.ok

pub returns-in_err-extend_from_slice-clause-err : goal.returns-in_err-extend_from_slice-clause-err
returns-in_err-extend_from_slice-clause-err g c =
    let d : Shared = shared_of c.add_arguments.new.self in
    on_err _ (cut_back _ d _ _ c.len-start.result (omega arith) c.in_ok-add_arguments.ensures.ok
    (λ i. record d { ids = (c.in_err-extend_from_slice.ensures.items ∙ c.truncate.ensures.items) i }))

pub returns-clause-ok : goal.returns-clause-ok
returns-clause-ok g c =
    let d : Shared = shared_of c.add_arguments.new.self in
    let ids = c.in_ok-extend_from_slice.ensures.items ∙ (λ j. c.truncate.ensures.items j ++ c.as_slice-2.ensures.value j) in
    sorted_comes _ d _ _ _ _ _ _ (omega arith) c.in_ok-add_arguments.ensures.ok c.table.ensures.names
    (ids_behind c.as_slice.result.now _ c.len-start.result c.as_slice.ensures.value) c.in_ok-settle.ensures.ok (c.is_rising.ensures.others c.if-is_rising.false)
    (λ i. record d { ids = ids i })

pub returns-clause-places : goal.returns-clause-places
returns-clause-places g c =
    places_come _ _ _ _ _ _ _ (omega arith) c.in_ok-add_arguments.ensures.ok c.table.ensures.names
    (ids_behind c.as_slice.result.now _ c.len-start.result c.as_slice.ensures.value) c.in_ok-settle.ensures.ok
