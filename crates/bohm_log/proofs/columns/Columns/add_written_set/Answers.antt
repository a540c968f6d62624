use Rattle.std.proofs.Common.{List, ℕ, refl, drop, map, subst}
use Rattle.bohm_types.specs.KeySets.{key_set}
use Rattle.bohm_log.specs.Calling.{argument_of}
use Rattle.bohm_log.specs.CallPlaces.{HasPlaces}
use Rattle.bohm_log.specs.Columns.{Shared, shared_of, NumbersCome}
use Rattle.bohm_log.specs.Handles.{keys_named}
use Rattle.bohm_log.specs.declared.template.DeclaredName.{DeclaredName}
use Rattle.bohm_log.proofs.Widening.{repeated}
use Rattle.bohm_log.proofs.columns.Columns.add_written_set.Goals as goal

pub returns-then-body-clause-ok : goal.returns-then-body-clause-ok
returns-then-body-clause-ok g c =
    let s : Shared = shared_of c.args.self.now in
    let d : Shared = record { names = s.names; ids = c.repeat_end.new.column.items; others = s.others; large = s.large; terms = s.terms; rows = s.rows } in
    let f : DeclaredName → List ℕ = argument_of (keys_named c.args.args.now) in
    subst (λ (ns : List DeclaredName). NumbersCome s d (key_set (map f ns))) (c.requires.alike c.if-body.true)
    (repeated s d (key_set (map f c.args.body.now.reads.items)) c.args.start (drop c.args.start s.ids) c.requires.end refl
    (λ i. record { names = s.names; ids = c.in_ok-repeat_end.ensures.ok i; others = s.others; large = s.large; terms = s.terms; rows = s.rows }))

pub returns-then-body-clause-writes : goal.returns-then-body-clause-writes
returns-then-body-clause-writes g c =
    let f : DeclaredName → List ℕ = argument_of (keys_named c.args.args.now) in
    rw c.if-body.true (subst (λ (ns : List DeclaredName). HasPlaces (map f ns) c.args.places.now.reads) (c.requires.alike c.if-body.true) c.requires.reads)
