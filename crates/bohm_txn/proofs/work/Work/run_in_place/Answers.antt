use Rattle.std.specs.Prelude.{ℤ, List}
use Rattle.std.proofs.Common.{rules, ◌≡◌, ℕ, ◌+◌, [], ◌∷◌, ◌<◌, ◌≤◌, Ok, ap, drop, false, get_or, length, map, arith}
use Rattle.std.proofs.lemmas.List.{length-map}
use Rattle.bohm_types.specs.Keys.{IsAmong}
use Rattle.std.proofs.lemmas.Option.{slice_get-get_or}
use Rattle.bohm_log.specs.declared.row.Action.TheVariants.{Bind}
use Rattle.bohm_log.specs.declared.row.StmtRow.{StmtRow}
use Rattle.bohm_log.specs.Parts.{Parts, stmt_of, txn_of}
use Rattle.bohm_log.proofs.ForCallers.{drop_at}
use Rattle.bohm_types.specs.Accesses.{StmtWrites}
use Rattle.bohm_txn.specs.Declares.{AllShort, shows_in}
use Rattle.bohm_txn.specs.Room.{tables_of}
use Rattle.bohm_txn.specs.Tables.{step}
use Rattle.bohm_txn.proofs.Bodies.{shows_first, step_shows}
use Rattle.bohm_txn.proofs.Evaluating.{each_at}
use Rattle.bohm_txn.proofs.UseLaws.{rising_reads, rising_writes, usable}
use Rattle.bohm_txn.proofs.work.Work.run_in_place.Goals as goal

-- a default row, for an index without a row
abbrev no_row : StmtRow
no_row = record { action = Bind; declared = false; name = 0; start = 0; first = 0; second = 0; third = 0 }

-- the statements from an index on are the statement at the index and the statements following
stmts_at : (p : Parts) (i : ℕ) → i < length p.rows
    → map (stmt_of p) (drop i p.rows) ≡ stmt_of p (get_or p.rows i no_row) ∷ map (stmt_of p) (drop (i + 1) p.rows)
stmts_at p i low = ap (map (stmt_of p)) (drop_at p.rows i (get_or p.rows i no_row) (slice_get-get_or p.rows i no_row low))

pub perform-requires-clause-can : goal.perform-requires-clause-can
perform-requires-clause-can c =
    let txn = txn_of c.args.edition c.args.txn.now in
    let keeps = usable txn c.requires.well in
    let rows = c.rows-row-items.ensures in
    let within = rw rows.rows at c.loop-i-test.true in
    record {
      rising_reads = rising_reads txn c.requires.well;
      rising_writes = rising_writes txn c.requires.well;
      few_reads = keeps.few_reads;
      few_writes = keeps.few_writes;
      row = rows.within c.loop-i.i _ c.loop-i-test.true;
      short = rw rows.rows (each_at AllShort (stmt_of c.args.txn.now) c.args.txn.now.rows c.loop-i.i _ within keeps.short);
      declared = rw rows.rows (each_at (StmtWrites (IsAmong c.args.txn.now.writes))
          (stmt_of c.args.txn.now) c.args.txn.now.rows c.loop-i.i _ within keeps.writes);
    }

pub perform-requires-clause-room : goal.perform-requires-clause-room
perform-requires-clause-room c =
    let within = rw c.rows-row-items.ensures.rows at c.loop-i-test.true in
    let stmts = rw (length-map c.args.txn.now.rows (stmt_of c.args.txn.now)) at (usable (txn_of c.args.edition c.args.txn.now) c.requires.well).few_stmts in
    let few : c.loop-i.i < 64 = omega (arith, within, stmts) in
    record {
      locals = omega (arith, few, c.loop-i.invariant.locals, c.loop-i.invariant.room.locals);
      shows =
          (let p = c.args.txn.now in
          let s = stmt_of p (get_or p.rows c.loop-i.i no_row) in
          let ss = map (stmt_of p) (drop (c.loop-i.i + 1) p.rows) in
          let left : length c.loop-i.self.shows.0 + shows_in (s ∷ ss) ≤ 16 = rw (stmts_at p c.loop-i.i within) at c.loop-i.invariant.shows in
          let one : length c.loop-i.self.shows.0 + shows_in (s ∷ []) ≤ c.loop-i.self.shows.1 =
          omega (arith, left, shows_first s ss, c.loop-i.invariant.room.shows) in
          rw c.rows-row-items.ensures.rows one);
    }

pub loop-i-init : goal.loop-i-init
loop-i-init c =
    let none : length c.clear-2.new.self.0 ≡ 0 = ap (λ (r : List ℤ × ℕ). length r.0) c.clear-2.ensures in
    record {
      room = search rules;
      sized = search rules;
      locals = search rules;
      shows = omega (arith, none, (usable (txn_of c.args.edition c.args.txn.now) c.requires.well).few_shows);
      so_far = search rules;
    }

pub loop-i-preserved : goal.loop-i-preserved
loop-i-preserved c =
    let h = c.loop-i.invariant in
    let p = c.args.txn.now in
    let txn = txn_of c.args.edition p in
    let within : c.loop-i.i < length p.rows = rw c.rows-row-items.ensures.rows at c.loop-i-test.true in
    let s = stmt_of p (get_or p.rows c.loop-i.i no_row) in
    let ss = map (stmt_of p) (drop (c.loop-i.i + 1) p.rows) in
    let stepped : step txn (tables_of c.loop-i.self) s ≡ Ok (tables_of c.perform.new.self) = rw c.rows-row-items.ensures.rows at c.in_default.ensures.outcome in
    let left : length c.loop-i.self.shows.0 + shows_in (s ∷ ss) ≤ 16 = rw (stmts_at p c.loop-i.i within) at h.shows in
    record {
      room = search rules;
      sized = search rules;
      locals = search rules;
      shows = omega (arith, left, step_shows txn (tables_of c.loop-i.self) (tables_of c.perform.new.self) s ss stepped);
      so_far = rw (stmts_at p c.loop-i.i within, stepped) at h.so_far;
    }

pub overflow_cast-result : goal.overflow_cast-result
overflow_cast-result c =
    let within = rw c.rows-row-items.ensures.rows at c.loop-i-test.true in
    let stmts = rw (length-map c.args.txn.now.rows (stmt_of c.args.txn.now)) at (usable (txn_of c.args.edition c.args.txn.now) c.requires.well).few_stmts in
    let few : c.loop-i.i < 64 = omega (arith, within, stmts) in
    record { fits = omega (arith, few) }

pub overflow_add-result : goal.overflow_add-result
overflow_add-result c =
    let within = rw c.rows-row-items.ensures.rows at c.loop-i-test.true in
    let stmts = rw (length-map c.args.txn.now.rows (stmt_of c.args.txn.now)) at (usable (txn_of c.args.edition c.args.txn.now) c.requires.well).few_stmts in
    let few : c.loop-i.i < 64 = omega (arith, within, stmts) in
    record { fits = omega (arith, few) }
