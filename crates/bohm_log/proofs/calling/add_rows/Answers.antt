use Rattle.std.proofs.Common.{◌≡◌, ◌∙◌, ◌≤◌, ◌+◌, ◌++◌, ℕ, List, Err, arith, rules, ap, append_assoc, subst, drop, length, map}
use Rattle.std.specs.Prelude.{IfOk, IfSome, OnOk, pos, replicate}
use Rattle.std.proofs.lemmas.Result.{err_from_is_err_and}
use Rattle.bohm_log.specs.Calling.{let_rows, row_to}
use Rattle.bohm_log.specs.Columns.{Lands}
use Rattle.bohm_log.specs.declared.fault.LogFault.TheVariants.{Full}
use Rattle.bohm_log.specs.declared.row.StmtRow.{StmtRow}
use Rattle.bohm_log.proofs.Lets.{behind, rows_longer, rows_whole, short_rows}
use Rattle.bohm_log.proofs.Widening.{landed}
use Rattle.bohm_log.proofs.calling.add_rows.Goals as goal

-- the prepared statements are those of the call
prepared : (c : goal.After-add_once) → c.as_slice-rows.result.now
    ≡ let_rows (length c.args.body.now.terms.items) c.args.places.now c.args.values.now
    ++ map (row_to c.args.moves.now.reads.now c.args.moves.now.writes.now) (drop (length c.args.places.now) c.args.body.now.rows.items)
prepared c =
    let to : StmtRow → StmtRow = row_to c.args.moves.now.reads.now c.args.moves.now.writes.now in
    let rest : List StmtRow = map to (drop (length c.args.places.now) c.args.body.now.rows.items) in
    c.as_slice-rows.ensures.value
    ∙ subst (λ o. IfSome o (λ b. b.now.rows.items
    ≡ let_rows (length c.args.body.now.terms.items) c.args.places.now (replicate (length c.args.places.now) (pos 0)) ++ rest)) c.in-Some.is c.requires.placed
    ∙ ap (λ (rs : List StmtRow). rs ++ rest) (short_rows _ _ _ (c.are_short.ensures c.if-are_short.true) c.requires.values)

pub returns-clause-ok : goal.returns-clause-ok
returns-clause-ok c =
    subst (λ (rs : List StmtRow). IfOk c.add_once.result (λ r. Lands c.add_once.new.column.items rs r.0 r.1)) (prepared c)
    c.add_once.ensures.ok

pub returns-clause-longer : goal.returns-clause-longer
returns-clause-longer c =
    subst (λ n. OnOk c.add_once.result (length c.add_once.new.column.items ≤ length c.args.column.now.items + n))
    (ap length (prepared c) ∙ rows_whole _ _ _ _ _ c.requires.values c.requires.lets) c.add_once.ensures.longer

pub returns-clause-full : goal.returns-clause-full
returns-clause-full c e = omega (
  arith,
  c.add_once.ensures.full e,
  ap length (prepared c),
  rows_whole (row_to c.args.moves.now.reads.now c.args.moves.now.writes.now) c.args.body.now.rows.items (length c.args.body.now.terms.items)
      c.args.places.now c.args.values.now c.requires.values c.requires.lets,
)

pub returns-in_err-to-clause-full : goal.returns-in_err-to-clause-full
returns-in_err-to-clause-full c e =
    let p = err_from_is_err_and c.from_residual-in_err-to.result c.from_residual-in_err-to.ensures.1 in
    let at : c.offset-2.result ≡ Err Full = cc (c.in_err-to.was, p.1, p.2, e) in
    omega (
      arith,
      c.offset-2.ensures.full at,
      rows_longer _ _ _ _ _ _ _ _ c.requires.values c.requires.lets c.in_ok-add_lets.ensures.ok
          (c.in_ok-relocate_rows.ensures.ok ∙ behind _ _ _ _ _ c.as_slice.ensures.value),
    )

abbrev rest_of : goal.In_ok-to → List StmtRow
rest_of c = map (row_to c.args.moves.now.reads.now c.args.moves.now.writes.now) (drop (length c.args.places.now) c.args.body.now.rows.items)

added : (c : goal.In_ok-to) → c.relocate_rows.new.column.items ≡ c.add_lets.new.column.items ++ rest_of c
added c = c.in_ok-relocate_rows.ensures.ok ∙ behind _ _ _ _ _ c.as_slice.ensures.value

pub returns-2-clause-ok : goal.returns-2-clause-ok
returns-2-clause-ok c =
    let lets : ℕ → List StmtRow = λ n. let_rows n c.args.places.now c.args.values.now in
    let old : List StmtRow = c.args.column.now.items in
    let first : c.len-2.result ≡ length c.args.body.now.terms.items = search rules in
    landed old _ _ _ _
    (added c ∙ ap (λ (rs : List StmtRow). rs ++ rest_of c) c.in_ok-add_lets.ensures.ok ∙ append_assoc old (lets c.len-2.result) (rest_of c)
    ∙ ap (λ n. old ++ (lets n ++ rest_of c)) first)
    (search rules) (search rules)

pub returns-2-clause-longer : goal.returns-2-clause-longer
returns-2-clause-longer c = omega (
  arith,
  rows_longer _ _ _ _ _ _ _ _ c.requires.values c.requires.lets c.in_ok-add_lets.ensures.ok
      (added c),
)
