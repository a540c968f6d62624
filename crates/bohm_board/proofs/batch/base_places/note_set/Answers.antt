use Rattle.std.proofs.Common.{◌≡◌, ℕ, List, ◌-◌, ◌<◌, length, slice_get, Some, arith, ap, sym, true, false, ◌∙◌, subst}
use Rattle.std.specs.Option.{option_map}
use Rattle.std.proofs.lemmas.List.{length-map}
use Rattle.std.proofs.lemmas.Option.{slice_get_within}
use Rattle.bohm_txn.proofs.ForCallers.{among_at}
use Rattle.bohm_place.specs.declared.access.Access.{Access}
use Rattle.bohm_place.specs.Plans.{keys_in, planned_in, IsNoted}
use Rattle.bohm_place.proofs.ForCallers.{next_noted, next_passed, none_noted, sources_long}
use Rattle.bohm_place.specs.Noting.{IsSetNoted}
use Rattle.bohm_board.specs.Bases.{keys_of}
use Rattle.bohm_board.proofs.EntrySearch.{Entry}
use Rattle.bohm_board.proofs.batch.base_places.note_set.Goals as goal
use Rattle.bohm_board.proofs.batch.base_places.note_set.Goals.{After-key-key, in-Before+in-Ok, in-Before+in-Err, in-Within}

pub loop-place-init : goal.loop-place-init
loop-place-init c = none_noted c.args.plan.now c.args.set (c.args.t - c.args.plan.now.first) (keys_in c.args.set c.args.txn.now) (keys_of c.args.entries.now)

pub access-requires-clause-first : goal.access-requires-clause-first
access-requires-clause-first c = omega (arith, c.requires.first, c.loop-place.invariant.sources.first)

at_key : (c : After-key-key) → slice_get (keys_in c.args.set c.args.txn.now) c.loop-place.place ≡ Some c.key-key.result.now
at_key c = subst (λ (ks : List (List ℕ)). slice_get ks c.loop-place.place ≡ Some c.key-key.result.now) c.keys-keys.ensures c.key-key.ensures

inside : (c : After-key-key) → c.loop-place.place < length (planned_in c.args.set c.loop-place.plan (c.args.t - c.loop-place.plan.first))
inside c =
    let sources = c.loop-place.invariant.sources in
    let i = c.args.t - c.args.plan.now.first in
    let low : c.loop-place.place < length (planned_in c.args.set c.loop-place.plan i) =
    omega (
      arith,
      sources_long c.args.plan.now c.loop-place.plan sources c.args.set i,
      c.requires.paired,
      slice_get_within (keys_in c.args.set c.args.txn.now) c.loop-place.place c.key-key.result.now (at_key c),
    ) in
    subst (λ (f : ℕ). c.loop-place.place < length (planned_in c.args.set c.loop-place.plan (c.args.t - f))) (sym sources.first) low

pub access-requires-clause-index : goal.access-requires-clause-index
access-requires-clause-index c = inside (goal.at.access-requires-clause-index c).After-key-key

pub overflow_cast-entry : goal.overflow_cast-entry
overflow_cast-entry c =
    let found = rw c.in-Ok.is at c.search.ensures.found in
    omega (
      arith,
      slice_get_within (keys_of c.args.entries.now) c.in-Ok.entry c.key-key.result.now found,
      length-map c.args.entries.now (λ (e : Entry). e.0),
      c.requires.entries,
    )

pub note-requires-clause-first : goal.note-requires-clause-first
note-requires-clause-first c = omega (arith, c.requires.first, c.loop-place.invariant.sources.first)

pub note-requires-clause-index : goal.note-requires-clause-index
note-requires-clause-index c = inside (goal.at.note-requires-clause-index c).After-key-key

pub loop-place-preserved : goal.loop-place-preserved
loop-place-preserved c =
    let p = c.args.plan.now in
    let set = c.args.set in
    let i = c.args.t - p.first in
    let keys = keys_in set c.args.txn.now in
    let base = keys_of c.args.entries.now in
    let q = c.loop-place.plan in
    let n = c.loop-place.place in
    let k = c.key-key.result.now in
    let noted = c.loop-place.invariant in
    let key = at_key (goal.at.loop-place-preserved c).After-key-key in
    let at : slice_get (planned_in set q i) n ≡ Some c.access.result =
    subst (λ (f : ℕ). slice_get (planned_in set q (c.args.t - f)) n ≡ Some c.access.result) noted.sources.first c.access.ensures in
    elim c.match-access.branch [
      | in-Before+in-Ok w ↦
          let now = subst (λ (f : ℕ). IsNoted q w.note.new.self set (c.args.t - f) n w.in-Ok.entry) noted.sources.first w.note.ensures in
          let before = ap (option_map (λ (a : Access). a.source)) at ∙ ap (λ o. Some o) w.in-Before.is in
          let found = rw w.in-Ok.is at w.search.ensures.found in
          rw w.plan-is (next_noted p set i keys base q w.note.new.self n w.in-Ok.entry k noted now before key found)
      | in-Before+in-Err w ↦
          let missing = rw w.in-Err.is at w.search.ensures.missing in
          let there = c.requires.there k (among_at keys n k key) in
          absurd (let h : true ≡ false = sym there ∙ missing in cc)
      | in-Within w ↦ rw w.plan-is (next_passed p set i keys base q n w.in-Within.field-0 c.access.result noted at w.in-Within.is)
    ]

pub returns : goal.returns
returns c =
    let long = ap length c.keys-keys.ensures in
    let end : c.loop-place.place ≡ length (keys_in c.args.set c.args.txn.now) = omega arith in
    subst (λ (n : ℕ). IsSetNoted c.args.plan.now c.loop-place.plan c.args.set (c.args.t - c.args.plan.now.first) (keys_in c.args.set c.args.txn.now)
    (keys_of c.args.entries.now) n) end c.loop-place.invariant
