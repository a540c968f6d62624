use Rattle.std.proofs.Common.{◌≡◌, map, sym, ◌∙◌, append-nil}
use Rattle.bohm_explain.proofs.Listing.{are_heats, entry_heat}
use Rattle.bohm_explain.proofs.gathering.Gathering.heats.Goals as goal

pub returns : goal.returns
returns c log batches all =
    let end = rw c.in-None.is at c.next.ensures.steps in
    let whole : c.loop-key.heats.items ≡ map entry_heat c.args.self.now.tallies.entries = sym (append-nil _) ∙ rw end.0 at c.loop-key.invariant in
    are_heats log batches c.args.self.now.tallies c.loop-key.heats.items all c.len.ensures.unique whole
