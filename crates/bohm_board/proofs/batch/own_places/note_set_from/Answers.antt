use Rattle.std.proofs.Common.{◌≡◌, ℕ, [], ◌+◌, ◌-◌, ◌<◌, length, slice_get, get_or, Some, arith, ap, sym, ◌∙◌, subst}
use Rattle.std.specs.Option.{option_map}
use Rattle.std.proofs.lemmas.Option.{slice_get-get_or}
use Rattle.bohm_place.specs.declared.access.Access.{Access}
use Rattle.bohm_place.specs.Plans.{keys_in, planned_in, IsNoted}
use Rattle.bohm_place.proofs.ForCallers.{next_noted, next_passed, none_noted, sources_long}
use Rattle.bohm_place.specs.Noting.{IsSetNoted}
use Rattle.bohm_board.specs.Bases.{keys_of}
use Rattle.bohm_board.proofs.batch.own_places.note_set_from.Goals as goal
use Rattle.bohm_board.proofs.batch.own_places.note_set_from.Goals.{In-loop-place, in-Before, in-Within}

pub loop-place-init : goal.loop-place-init
loop-place-init c = none_noted c.args.plan.now c.args.set (c.args.t - c.args.plan.now.first) (keys_in c.args.set c.args.txn.now) (keys_of c.args.entries.now)

pub access-requires-clause-first : goal.access-requires-clause-first
access-requires-clause-first c = omega (arith, c.requires.first, c.loop-place.invariant.sources.first)

long : (c : In-loop-place) → c.len-count.result ≡ length (keys_in c.args.set c.args.txn.now)
long c = c.len-count.ensures ∙ ap length c.keys.ensures

inside : (c : In-loop-place) → c.loop-place.place < length (planned_in c.args.set c.loop-place.plan (c.args.t - c.loop-place.plan.first))
inside c =
    let sources = c.loop-place.invariant.sources in
    let i = c.args.t - c.args.plan.now.first in
    let low : c.loop-place.place < length (planned_in c.args.set c.loop-place.plan i) =
    omega (arith, sources_long c.args.plan.now c.loop-place.plan sources c.args.set i, c.requires.paired, long c) in
    subst (λ (f : ℕ). c.loop-place.place < length (planned_in c.args.set c.loop-place.plan (c.args.t - f))) (sym sources.first) low

pub access-requires-clause-index : goal.access-requires-clause-index
access-requires-clause-index c = inside (goal.at.access-requires-clause-index c).In-loop-place

pub note-requires-clause-index : goal.note-requires-clause-index
note-requires-clause-index c = inside (goal.at.note-requires-clause-index c).In-loop-place

pub loop-place-preserved : goal.loop-place-preserved
loop-place-preserved c =
    let p = c.args.plan.now in
    let set = c.args.set in
    let i = c.args.t - p.first in
    let keys = keys_in set c.args.txn.now in
    let base = keys_of c.args.entries.now in
    let q = c.loop-place.plan in
    let n = c.loop-place.place in
    let noted = c.loop-place.invariant in
    let here = (goal.at.loop-place-preserved c).In-loop-place in
    let k = get_or keys n [] in
    let key : slice_get keys n ≡ Some k = slice_get-get_or keys n [] (omega (arith, long here)) in
    let at : slice_get (planned_in set q i) n ≡ Some c.access.result =
    subst (λ (f : ℕ). slice_get (planned_in set q (c.args.t - f)) n ≡ Some c.access.result) noted.sources.first c.access.ensures in
    elim c.match-access.branch [
      | in-Before w ↦
          let place = c.args.from + n in
          let now = subst (λ (f : ℕ). IsNoted q w.note.new.self set (c.args.t - f) n place) noted.sources.first w.note.ensures in
          let before = ap (option_map (λ (a : Access). a.source)) at ∙ ap (λ o. Some o) w.in-Before.is in
          rw w.plan-is (next_noted p set i keys base q w.note.new.self n place k noted now before key (c.requires.there n k key))
      | in-Within w ↦ rw w.plan-is (next_passed p set i keys base q n w.in-Within.field-0 c.access.result noted at w.in-Within.is)
    ]

pub returns-clause-noted : goal.returns-clause-noted
returns-clause-noted c =
    let long = c.len-count.ensures ∙ ap length c.keys.ensures in
    let end : c.loop-place.place ≡ length (keys_in c.args.set c.args.txn.now) = omega arith in
    subst (λ (n : ℕ). IsSetNoted c.args.plan.now c.loop-place.plan c.args.set (c.args.t - c.args.plan.now.first) (keys_in c.args.set c.args.txn.now)
    (keys_of c.args.entries.now) n) end c.loop-place.invariant
