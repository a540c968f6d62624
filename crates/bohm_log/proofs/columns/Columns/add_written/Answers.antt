use Rattle.std.proofs.Common.{◌≡◌, List, ℕ, refl, drop, subst}
use Rattle.bohm_log.specs.Columns.{Shared, shared_of, NumbersCome}
use Rattle.bohm_log.proofs.Widening.{repeated}
use Rattle.bohm_log.proofs.columns.Columns.add_written.Goals as goal

pub returns-then-are_same-clause-ok : goal.returns-then-are_same-clause-ok
returns-then-are_same-clause-ok g c =
    let s : Shared = shared_of c.args.self.now in
    let d : Shared = record { names = s.names; ids = c.repeat_end.new.column.items; others = s.others; large = s.large; terms = s.terms; rows = s.rows } in
    let same : c.args.reads.now ≡ c.args.writes.now = c.are_same.ensures c.if-are_same.true in
    subst (λ (ns : List (List ℕ)). NumbersCome s d ns) same (repeated s d c.args.reads.now c.args.start (drop c.args.start s.ids) c.requires refl
    (λ i. record { names = s.names; ids = c.in_ok-repeat_end.ensures.ok i; others = s.others; large = s.large; terms = s.terms; rows = s.rows }))
