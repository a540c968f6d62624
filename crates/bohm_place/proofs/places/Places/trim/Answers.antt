use Rattle.std.proofs.Common.{sym, ap, ◌∙◌}
use Rattle.std.specs.Str.{bytes_eq}
use Rattle.bohm_place.specs.Chains.{items_at, begins, kept}
use Rattle.bohm_place.proofs.Keyed.{lookup_table}
use Rattle.bohm_place.proofs.Keeping.{begins-kept, RisesFrom-kept}
use Rattle.bohm_place.proofs.places.Places.trim.Goals as goal

pub invariant_of-self : goal.invariant_of-self
invariant_of-self c =
    let old = c.self.inside.chains in
    record {
      rises = λ k. rw (c.shorten_all.ensures.chains k, begins-kept c.args.floor (items_at old k))
          (RisesFrom-kept 0 c.args.floor (begins (items_at old k)) (c.self.invariant.rises k));
      listed = c.shorten_all.ensures.listed;
    }

pub returns : goal.returns
returns c k =
    let old = c.self.inside.chains in
    rw (← c.self.view_is) (ap begins (lookup_table (bytes_eq k) c.shorten_all.new.chains.entries ∙ c.shorten_all.ensures.chains k)
    ∙ begins-kept c.args.floor (items_at old k)
    ∙ ap (λ vs. kept c.args.floor (begins vs)) (sym (lookup_table (bytes_eq k) old.entries)))
