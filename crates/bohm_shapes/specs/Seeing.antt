-- What a statement of a shape sees.
use Rattle.std.specs.Prelude.{List, Bool}
use Rattle.bohm_types.specs.declared.cmp.Cmp.{Cmp}
use Rattle.bohm_types.specs.Stmt.{Cond}
use Rattle.bohm_txn.specs.Meaning.{Locals, Look}
use Rattle.bohm_txn.specs.Tables.{cell_at}
use Rattle.bohm_shapes.specs.declared.shape.Term.{Term}
use Rattle.bohm_shapes.specs.declared.sight.Sight.{Sight}
use Rattle.bohm_shapes.specs.Filled.{sum_filled, term_filled}
use Rattle.bohm_shapes.specs.Running.{bound_to}
use Rattle.bohm_types.specs.Term.{Atom}

abbrev pub look_of : Sight → Look
look_of s = cell_at s.keys.now s.cells.now

abbrev pub locals_of : Sight → Locals
locals_of s = bound_to s.names.now s.locals.now

abbrev pub term_seen : Sight → Term → Bool × Atom
term_seen s term = term_filled s.names.now s.keys.now term

abbrev pub sum_seen : Sight → List Term → List (Bool × Atom)
sum_seen s terms = sum_filled s.names.now s.keys.now terms

abbrev pub cond_seen : Sight → List Term → Cmp → List Term → Cond
cond_seen s left cmp right = record { left = sum_seen s left; cmp = cmp; right = sum_seen s right }
