use Rattle.std.proofs.Common.{◌∷◌, List, subst}
use Rattle.bohm_store.specs.declared.older.Older.{Older}
use Rattle.bohm_store.specs.Places.{IsPlaced}
use Rattle.bohm_store.proofs.Places.{placed_rest}
use Rattle.bohm_store.proofs.older.OlderVersions.take_due.Goals as goal

pub invariant_of-self-2 : goal.invariant_of-self-2
invariant_of-self-2 c =
    let gone = c.self.inside.gone in
    let latest = c.self.inside.latest.items in
    let one = c.in_ok-taken.taken in
    let rest = c.pop_front.new.self.items in
    let was : IsPlaced gone latest (one ∷ rest) = subst (λ (os : List Older). IsPlaced gone latest os) c.in_ok-taken.ensures.items c.self.invariant in
    rw c.saturating_add-self-inside.ensures (placed_rest gone latest one rest was)
