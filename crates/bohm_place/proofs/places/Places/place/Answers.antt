use Rattle.std.proofs.Common.{◌≡◌, ◌++◌, ◌∷◌, [], Bool, true, false, List, ap, refl, ◌∙◌, if◌then◌else◌}
use Rattle.std.specs.Str.{bytes_eq}
use Rattle.bohm_place.specs.declared.placeholder.Placeholder.{Placeholder}
use Rattle.bohm_place.specs.Chains.{begins, placeholders}
use Rattle.bohm_place.proofs.Rising.{begins-append}
use Rattle.bohm_place.proofs.places.Places.place.Goals as goal

begun : (b : Bool) (vs : List Placeholder) (v : Placeholder) → begins (if b then vs ++ v ∷ [] else vs) ≡ (if b then begins vs ++ v.begin ∷ [] else begins vs)
begun true vs v = begins-append vs (v ∷ [])
begun false vs v = refl

pub returns : goal.returns
returns c k = ap begins (c.in_ok-annotate.ensures.chains k)
    ∙ begun (bytes_eq c.args.key k) (placeholders c.args.self.now k) (record { begin = c.args.ts; index = 0 })
