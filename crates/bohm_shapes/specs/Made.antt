-- Which shapes are a procedure's.
use Rattle.std.specs.Prelude.{◌≡◌, length, take}
use Rattle.bohm_types.specs.Procedure.{Procedure}
use Rattle.bohm_shapes.specs.declared.shape.Shape.{Shape}
use Rattle.bohm_shapes.specs.Filled.{steps_filled}

-- over its own names the shape has the procedure's statements, its first locals are the procedure's values, and its first names those that the procedure writes
pub record IsLike (p : Procedure) (s : Shape) : Type 0 where
  pub same_edition : s.edition ≡ p.edition
  pub steps : steps_filled s s.names.items ≡ p.body
  pub values : take (length p.values) s.locals.items ≡ p.values
  pub many : s.values ≡ length p.values
  pub writes : take s.writes s.names.items ≡ p.writes
  pub written : s.writes ≡ length p.writes
