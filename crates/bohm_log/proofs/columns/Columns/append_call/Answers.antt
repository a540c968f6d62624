use Rattle.std.proofs.Common.{◌≡◌, ◌++◌, ℕ, List, Err, refl, ap, length, map, drop, arith}
use Rattle.std.proofs.lemmas.List.{length-append}
use Rattle.std.proofs.lemmas.Result.{err_from_is_err_and}
use Rattle.bohm_log.specs.Calling.{let_large, let_terms, let_rows, term_to, row_to}
use Rattle.bohm_log.specs.CallPlaces.{written}
use Rattle.bohm_log.specs.Handles.{keys_named}
use Rattle.bohm_log.specs.declared.fault.LogFault.TheVariants.{Full}
use Rattle.bohm_log.proofs.Arguments.{terms_chosen, rows_chosen, ordered_for}
use Rattle.bohm_log.proofs.Failing.{on_err}
use Rattle.bohm_log.proofs.Lets.{terms_many}
use Rattle.bohm_log.proofs.Growth.{Begins-itself}
use Rattle.bohm_log.proofs.Measuring.{called_terms, called_rows}
use Rattle.bohm_log.proofs.Widening.{interns_wider, appended, lands_same}
use Rattle.bohm_log.proofs.columns.Columns.append_call.Goals as goal

pub moves_by-requires-clause-reads : goal.moves_by-requires-clause-reads
moves_by-requires-clause-reads g c = ordered_for (keys_named c.args.args.now) c.args.body.now.reads.items _ c.in_ok-ids.ensures.places.reads.ordered

pub moves_by-requires-clause-writes : goal.moves_by-requires-clause-writes
moves_by-requires-clause-writes g c = ordered_for (keys_named c.args.args.now) c.args.body.now.writes.items _ c.in_ok-ids.ensures.places.writes.ordered

pub add_terms-requires : goal.add_terms-requires
add_terms-requires g c =
    terms_chosen c.args.body.now c.args.locals.now c.moves_by.result.reads.now c.moves_by.result.writes.now c.moves_by.result.placed
    c.requires.ready c.moves_by.ensures.placed

pub add_rows-requires-clause-placed : goal.add_rows-requires-clause-placed
add_rows-requires-clause-placed g c =
    rows_chosen c.args.body.now c.args.locals.now c.moves_by.result.reads.now c.moves_by.result.writes.now c.moves_by.result.placed
    c.requires.ready c.moves_by.ensures.placed

pub returns-in_err-others_from-clause-err : goal.returns-in_err-others_from-clause-err
returns-in_err-others_from-clause-err g c =
    on_err _ (interns_wider _ _ c.in_err-others_from.ensures.begins (Begins-itself _) (Begins-itself _) (Begins-itself _) c.in_ok-ids.ensures.ok.interns)

pub returns-in_err-large_from-clause-err : goal.returns-in_err-large_from-clause-err
returns-in_err-large_from-clause-err g c =
    on_err _ (interns_wider _ _ c.in_ok-others_from.ensures.begins c.in_err-large_from.ensures.begins (Begins-itself _)
    (Begins-itself _) c.in_ok-ids.ensures.ok.interns)

pub returns-in_err-terms_from-clause-err : goal.returns-in_err-terms_from-clause-err
returns-in_err-terms_from-clause-err g c =
    on_err _ (interns_wider _ _ c.in_ok-others_from.ensures.begins c.in_ok-large_from.ensures.begins c.in_err-terms_from.ensures.begins
    (Begins-itself _) c.in_ok-ids.ensures.ok.interns)

pub returns-in_err-rows_from-clause-err : goal.returns-in_err-rows_from-clause-err
returns-in_err-rows_from-clause-err g c =
    on_err _ (interns_wider _ _ c.in_ok-others_from.ensures.begins c.in_ok-large_from.ensures.begins c.in_ok-terms_from.ensures.begins
    c.in_err-rows_from.ensures.begins c.in_ok-ids.ensures.ok.interns)

pub returns-in_err-terms_from-clause-full : goal.returns-in_err-terms_from-clause-full
returns-in_err-terms_from-clause-full g c e =
    let body = c.args.body.now in
    let vs = c.args.values.now in
    let p = err_from_is_err_and c.from_residual-in_err-terms_from.result c.from_residual-in_err-terms_from.ensures.1 in
    let at : c.add_terms.result ≡ Err Full = cc (c.in_err-terms_from.was, p.1, p.2, e) in
    omega (
      arith,
      c.add_terms.ensures.full at,
      c.in_ok-ids.ensures.ok.rest,
      called_terms c.args.places.now.reads.places.items body.terms.items (length body.large.items) vs,
      length-append body.large.items (let_large vs),
    )

pub returns-in_err-rows_from-clause-full : goal.returns-in_err-rows_from-clause-full
returns-in_err-rows_from-clause-full g c e =
    let body = c.args.body.now in
    let locals = c.args.locals.now in
    let vs = c.args.values.now in
    let p = err_from_is_err_and c.from_residual-in_err-rows_from.result c.from_residual-in_err-rows_from.ensures.1 in
    let at : c.add_rows.result ≡ Err Full = cc (c.in_err-rows_from.was, p.1, p.2, e) in
    omega (
      arith,
      c.add_rows.ensures.full at,
      c.in_ok-ids.ensures.ok.rest,
      terms_many (length body.large.items) 0 vs,
      called_terms c.args.places.now.reads.places.items body.terms.items (length body.large.items) vs,
      called_rows c.args.places.now.reads.places.items (written body c.args.places.now).places.items locals body.rows.items (length body.terms.items) vs
          c.requires.values c.requires.lets,
    )

pub returns-clause-ok : goal.returns-clause-ok
returns-clause-ok g c =
    let body = c.args.body.now in
    let locals = c.args.locals.now in
    let vs = c.args.values.now in
    let m = c.moves_by.ensures in
    appended _ _ c.in_ok-others_from.ensures.begins c.in_ok-large_from.ensures.begins c.in_ok-terms_from.ensures.begins c.in_ok-rows_from.ensures.begins
    _ _ _ c.in_ok-ids.ensures.ok refl
    (lands_same _ _ _ _ _ c.as_slice-others.ensures.value c.in_ok-others_from.ensures.ok)
    (lands_same _ _ _ _ _ (ap (λ (xs : List ℕ). xs ++ let_large vs) c.as_slice.ensures.value) c.in_ok-large_from.ensures.ok)
    (lands_same _ _ _ _ _ (ap (λ (ps : List ℕ). map (term_to ps) body.terms.items ++ let_terms (length body.large.items) vs) m.reads)
    c.in_ok-terms_from.ensures.ok)
    (lands_same _ _ _ _ _ (λ j. let_rows (length body.terms.items) locals vs ++ map (row_to (m.reads j) (m.writes j)) (drop (length locals) body.rows.items))
    c.in_ok-rows_from.ensures.ok)
    (omega (
      arith,
      c.in_ok-others_from.ensures.longer,
      ap length c.as_slice-others.ensures.value,
      c.in_ok-large_from.ensures.longer,
      ap (λ (xs : List ℕ). length (xs ++ let_large vs)) c.as_slice.ensures.value,
      c.in_ok-terms_from.ensures.longer,
      called_terms c.add_call_sets.new.places.reads.places.items body.terms.items (length body.large.items) vs,
      c.in_ok-rows_from.ensures.longer,
      called_rows c.add_call_sets.new.places.reads.places.items (written body c.add_call_sets.new.places).places.items
          locals body.rows.items (length body.terms.items) vs c.requires.values c.requires.lets,
    ))
