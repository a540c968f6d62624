use Rattle.std.proofs.Common.{◌≡◌, ℕ, ◌+◌, ◌-◌, ◌<◌, ◌≤◌, length, slice_get, Some, arith, ap, sym, subst, ◌∙◌}
use Rattle.std.proofs.Math.Logic.{∥∥₁_map}
use Rattle.std.proofs.lemmas.List.{length-map}
use Rattle.std.proofs.lemmas.Option.{slice_get_within}
use Rattle.bohm_place.specs.declared.declared_set.DeclaredSet.TheVariants.{Reads, Writes}
use Rattle.bohm_place.specs.Plans.{keys_in, planned_in, IsRightPlan}
use Rattle.bohm_place.proofs.ForCallers.{few_keys, next_row, row_paired, sources_same, sources_twice}
use Rattle.bohm_place.specs.Noting.{IsSetNoted}
use Rattle.bohm_board.specs.Bases.{declared_keys, keys_of}
use Rattle.bohm_board.proofs.BasePlaces.{batched_on, length-declared}
use Rattle.bohm_board.proofs.DeclaredPlaces.{before, before_inside, next_before, read_placed, write_placed}
use Rattle.bohm_board.proofs.EntrySearch.{Entry}
use Rattle.bohm_board.proofs.batch.own_places.note_in_order.Goals as goal
use Rattle.bohm_board.proofs.batch.own_places.note_in_order.Goals.{After-txn-txn, After-note_set_from-from}

pub loop-i-init : goal.loop-i-init
loop-i-init c = record {
  from = omega arith;
  sources = sources_same c.args.plan.now;
  right = c.requires.batched.right;
  noted = λ set i n x a low. absurd (omega arith);
}

at_i : (c : After-txn-txn) → slice_get c.args.txns.now c.loop-i.i ≡ Some c.txn-txn.result
at_i c = c.txn-txn.ensures

-- the row of the timestamp first + i is row i
row : (c : After-txn-txn) → ((c.first-first.result + c.loop-i.i) - c.loop-i.plan.first) ≡ c.loop-i.i
row c = omega (arith, c.first-first.ensures, c.loop-i.invariant.sources.first)

row_then : (c : After-note_set_from-from) → ((c.first-first.result + c.loop-i.i) - c.note_set_from-from.new.plan.first) ≡ c.loop-i.i
row_then c = omega (arith, c.first-first.ensures, c.loop-i.invariant.sources.first, c.note_set_from-from.ensures.noted.sources.first)

right_then : (c : After-note_set_from-from) → ∥ IsRightPlan c.args.txns.now c.note_set_from-from.new.plan ∥₁
right_then c = ∥∥₁_map c.loop-i.invariant.right (c.note_set_from-from.ensures.noted.right c.args.txns.now)

-- as many entries as declared keys
many : (c : After-txn-txn) → length c.args.entries.now ≡ length (declared_keys c.args.txns.now)
many c = sym (length-map c.args.entries.now (λ (e : Entry). e.0)) ∙ ap length c.requires.keys

few : (c : After-txn-txn) → length c.args.entries.now < 4294967296
few c = omega (arith, many c, length-declared c.args.txns.now c.requires.batched.formed, c.requires.batched.few)

within : (c : After-txn-txn) → (before c.args.txns.now c.loop-i.i + length c.txn-txn.result.reads) + length c.txn-txn.result.writes
    ≤ length c.args.entries.now
within c = omega (arith, before_inside c.args.txns.now c.loop-i.i c.txn-txn.result (at_i c), many c)

pub note_set_from-from-requires-clause-paired : goal.note_set_from-from-requires-clause-paired
note_set_from-from-requires-clause-paired c =
    let here = (goal.at.note_set_from-from-requires-clause-paired c).After-txn-txn in
    subst (λ (n : ℕ). length (keys_in Reads c.txn-txn.result) ≡ length (planned_in Reads c.loop-i.plan n)) (sym (row here))
    (row_paired c.args.txns.now c.loop-i.plan Reads c.loop-i.i c.txn-txn.result c.loop-i.invariant.right (at_i here))

pub note_set_from-from-requires-clause-few : goal.note_set_from-from-requires-clause-few
note_set_from-from-requires-clause-few c = few_keys c.args.txns.now Reads c.loop-i.i c.txn-txn.result c.requires.batched.formed
    (at_i (goal.at.note_set_from-from-requires-clause-few c).After-txn-txn)

pub note_set_from-from-requires-clause-entries : goal.note_set_from-from-requires-clause-entries
note_set_from-from-requires-clause-entries c = few (goal.at.note_set_from-from-requires-clause-entries c).After-txn-txn

pub note_set_from-from-requires-clause-there : goal.note_set_from-from-requires-clause-there
note_set_from-from-requires-clause-there c = λ n k at.
    let here = (goal.at.note_set_from-from-requires-clause-there c).After-txn-txn in
    rw (c.loop-i.invariant.from, c.requires.keys) (read_placed c.args.txns.now c.loop-i.i c.txn-txn.result (at_i here) n k at)

pub note_set_from-from-requires-clause-inside : goal.note_set_from-from-requires-clause-inside
note_set_from-from-requires-clause-inside c =
    let here = (goal.at.note_set_from-from-requires-clause-inside c).After-txn-txn in
    omega (arith, within here, c.loop-i.invariant.from)

pub note_set_from-from-requires-in-loop-i-clause-paired : goal.note_set_from-from-requires-in-loop-i-clause-paired
note_set_from-from-requires-in-loop-i-clause-paired c =
    let here = goal.at.note_set_from-from-requires-in-loop-i-clause-paired c in
    subst (λ (n : ℕ). length (keys_in Writes c.txn-txn.result) ≡ length (planned_in Writes c.note_set_from-from.new.plan n))
    (sym (row_then here.After-note_set_from-from))
    (row_paired c.args.txns.now c.note_set_from-from.new.plan Writes c.loop-i.i c.txn-txn.result (right_then here.After-note_set_from-from)
    (at_i here.After-txn-txn))

pub note_set_from-from-requires-in-loop-i-clause-few : goal.note_set_from-from-requires-in-loop-i-clause-few
note_set_from-from-requires-in-loop-i-clause-few c = few_keys c.args.txns.now Writes c.loop-i.i c.txn-txn.result c.requires.batched.formed
    (at_i (goal.at.note_set_from-from-requires-in-loop-i-clause-few c).After-txn-txn)

pub note_set_from-from-requires-in-loop-i-clause-entries : goal.note_set_from-from-requires-in-loop-i-clause-entries
note_set_from-from-requires-in-loop-i-clause-entries c = few (goal.at.note_set_from-from-requires-in-loop-i-clause-entries c).After-txn-txn

pub note_set_from-from-requires-in-loop-i-clause-there : goal.note_set_from-from-requires-in-loop-i-clause-there
note_set_from-from-requires-in-loop-i-clause-there c = λ n k at.
    let here = (goal.at.note_set_from-from-requires-in-loop-i-clause-there c).After-txn-txn in
    rw (c.note_set_from-from.ensures.end, c.loop-i.invariant.from, c.requires.keys)
    (write_placed c.args.txns.now c.loop-i.i c.txn-txn.result (at_i here) n k at)

pub note_set_from-from-requires-in-loop-i-clause-inside : goal.note_set_from-from-requires-in-loop-i-clause-inside
note_set_from-from-requires-in-loop-i-clause-inside c =
    let here = (goal.at.note_set_from-from-requires-in-loop-i-clause-inside c).After-txn-txn in
    omega (arith, within here, c.loop-i.invariant.from, c.note_set_from-from.ensures.end)

pub loop-i-preserved : goal.loop-i-preserved
loop-i-preserved c =
    let here = goal.at.loop-i-preserved c in
    let x = c.txn-txn.result in
    let base = keys_of c.args.entries.now in
    let p = c.loop-i.plan in
    let q = c.note_set_from-from.new.plan in
    let r = c.note_set_from-from-in-loop-i.new.plan in
    let reads = subst (λ (n : ℕ). IsSetNoted p q Reads n x.reads base (length x.reads)) (row here.After-txn-txn) c.note_set_from-from.ensures.noted in
    let writes = subst (λ (n : ℕ). IsSetNoted q r Writes n x.writes base (length x.writes)) (row_then here.After-note_set_from-from)
    c.note_set_from-from-in-loop-i.ensures.noted in
    record {
      from = omega (
        arith,
        c.note_set_from-from-in-loop-i.ensures.end,
        c.note_set_from-from.ensures.end,
        c.loop-i.invariant.from,
        next_before c.args.txns.now c.loop-i.i x (at_i here.After-txn-txn),
      );
      sources = sources_twice c.args.plan.now q r (sources_twice c.args.plan.now p q c.loop-i.invariant.sources reads.sources) writes.sources;
      right = ∥∥₁_map (right_then here.After-note_set_from-from) (writes.right c.args.txns.now);
      noted = next_row c.args.txns.now p q r base c.loop-i.i x (at_i here.After-txn-txn) c.loop-i.invariant.noted reads writes;
    }

pub returns-clause-batched : goal.returns-clause-batched
returns-clause-batched c = batched_on c.args.txns.now c.args.plan.now c.loop-i.plan c.requires.batched c.loop-i.invariant.sources c.loop-i.invariant.right

pub returns-clause-noted : goal.returns-clause-noted
returns-clause-noted c = λ set i n x a at. c.loop-i.invariant.noted set i n x a (let within = slice_get_within c.args.txns.now i x at in omega arith) at
