-- The key that a statement writes.
use Rattle.std.specs.Prelude.{◌≡◌, ℕ, List, Some, true, slice_get}
use Rattle.bohm_types.specs.Name.{is_name}
use Rattle.bohm_text.specs.declared.targets.Target.{Target}
use Rattle.bohm_text.specs.declared.targets.Target.TheVariants.{Declared, Named}

abbrev pub name_in : Target → List ℕ
name_in (Declared place word) = word.now
name_in (Named key) = key

-- a declared key is at its index
abbrev pub StandsIn : Target → List (List ℕ) → Type 0
StandsIn (Declared place word) writes = (slice_get writes place ≡ Some word.now) × (is_name word.now ≡ true)
StandsIn (Named key) writes = Unit {0}
