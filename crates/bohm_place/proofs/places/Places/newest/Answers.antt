use Rattle.std.proofs.Common.{sym, ap, ◌∙◌}
use Rattle.std.specs.Str.{bytes_eq}
use Rattle.bohm_place.specs.Chains.{items_of, last_or, none}
use Rattle.bohm_place.proofs.Keyed.{lookup_table, last_or-items}
use Rattle.bohm_place.proofs.places.Places.newest.Goals as goal

pub returns-in-Some : goal.returns-in-Some
returns-in-Some c = rw (← c.self.view_is)
    (sym (ap (last_or none) (lookup_table (bytes_eq c.args.key.now) c.self.inside.chains.entries ∙ ap items_of (sym c.in-Some.ensures.value))
    ∙ last_or-items none c.in-Some.chain.now))

pub returns-in-None : goal.returns-in-None
returns-in-None c = rw (← c.self.view_is) (c.none.ensures
    ∙ sym (ap (last_or none) (lookup_table (bytes_eq c.args.key.now) c.self.inside.chains.entries ∙ ap items_of (sym c.in-None.ensures.value))))
