use Rattle.std.proofs.Common.{◌≡◌, Some, None, refl}
use Rattle.bohm_types.specs.Parts.{bound}
use Rattle.bohm_check.proofs.Scoped.{with_one, with_none}
use Rattle.bohm_check.proofs.scope.Scope.pass.Goals as goal

pub returns-in_ok-add_name-in-Some : goal.returns-in_ok-add_name-in-Some
returns-in_ok-add_name-in-Some c = λ t i before at.
    let binds : bound c.args.stmt.now ≡ Some c.in-Some.name = cc in
    with_one t i c.args.stmt.now c.args.self.now before at c.in-Some.name
    (record { reads = c.args.self.now.reads; writes = c.args.self.now.writes; bound = c.add_name.new.names }) binds refl refl
    c.in_ok-add_name-in-Some.ensures

pub returns-in-None : goal.returns-in-None
returns-in-None c = λ t i before at.
    let binds_none : bound c.args.stmt.now ≡ None = cc in
    with_none t i c.args.stmt.now c.args.self.now before at binds_none
