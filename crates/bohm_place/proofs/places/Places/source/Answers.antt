use Rattle.std.proofs.Common.{sym, ap, ◌∙◌}
use Rattle.std.specs.Str.{bytes_eq}
use Rattle.bohm_place.specs.Chains.{items_of, begins, greatest_below}
use Rattle.bohm_place.proofs.Keyed.{lookup_table}
use Rattle.bohm_place.proofs.places.Places.source.Goals as goal

pub greatest_below-requires : goal.greatest_below-requires
greatest_below-requires c = rw (← c.in-Some.ensures.value) at (c.self.invariant.rises c.args.key.now)

pub returns-in-Some-clause-source : goal.returns-in-Some-clause-source
returns-in-Some-clause-source c = rw (← c.self.view_is) (c.greatest_below.ensures ∙ ap (λ vs. greatest_below c.args.ts (begins vs))
    (ap items_of c.in-Some.ensures.value ∙ sym (lookup_table (bytes_eq c.args.key.now) c.self.inside.chains.entries)))

pub returns-in-Some-clause-rises : goal.returns-in-Some-clause-rises
returns-in-Some-clause-rises c = rw (← c.self.view_is, lookup_table (bytes_eq c.args.key.now) c.self.inside.chains.entries)
    (c.self.invariant.rises c.args.key.now)

pub returns-in-None-clause-source : goal.returns-in-None-clause-source
returns-in-None-clause-source c = rw (← c.self.view_is) (ap (λ vs. greatest_below c.args.ts (begins vs))
    (ap items_of c.in-None.ensures.value ∙ sym (lookup_table (bytes_eq c.args.key.now) c.self.inside.chains.entries)))

pub returns-in-None-clause-rises : goal.returns-in-None-clause-rises
returns-in-None-clause-rises c = rw (← c.self.view_is, lookup_table (bytes_eq c.args.key.now) c.self.inside.chains.entries)
    (c.self.invariant.rises c.args.key.now)
