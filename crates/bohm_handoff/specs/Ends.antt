-- The ends of a handoff.
use Rattle.std.specs.Prelude.{◌≡◌}
use Rattle.bohm_handoff.specs.declared.ends.Giver.{Giver}
use Rattle.bohm_handoff.specs.declared.ends.Taker.{Taker}

module _ {T P : Type 0} where
  -- the promise that the value keeps
  abbrev pub promised : Giver T P → P
  promised giver = giver.place.value.shared.key

  abbrev pub awaited : Taker T P → P
  awaited taker = taker.place.value.shared.key

  -- both are ends of the same handoff
  abbrev pub AreEnds : Giver T P → Taker T P → Type 0
  AreEnds giver taker = giver.place.value.shared.table_id ≡ taker.place.value.shared.table_id
