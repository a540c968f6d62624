use Rattle.std.proofs.Common.{◌≡◌, drop}
use Rattle.std.specs.List.{position_from}
use Rattle.std.specs.Str.{bytes_eq}
use Rattle.bohm_types.specs.Keys.{place}
use Rattle.bohm_log.proofs.keys.Keys.place_of.Given as goal

abbrev pub invariant-loop-place : goal.invariant-loop-place
invariant-loop-place l = position_from (λ k. bytes_eq k l.key) l.place (drop l.place l.self) ≡ place l.self l.key
