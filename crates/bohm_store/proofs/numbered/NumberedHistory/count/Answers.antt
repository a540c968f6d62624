use Rattle.std.proofs.Common.{◌≡◌, ◌+◌, ◌∙◌, List, length, ap, min, arith}
use Rattle.bohm_log.specs.Layers.{all_names}
use Rattle.bohm_hints.specs.declared.held.Held.{Held}
use Rattle.bohm_store.specs.Numbered.{Numbered, filled, timeline}
use Rattle.bohm_store.specs.Versions.{total}
use Rattle.bohm_store.proofs.Counted.{counted}
use Rattle.bohm_store.proofs.numbered.NumberedHistory.count.Goals as goal

pub returns : goal.returns
returns c =
    let h : Numbered =
    record { floor = c.self.inside.floor; top = c.self.inside.top; newest = c.self.inside.newest.items; older = c.self.inside.older.items } in
    let names = all_names c.args.names in
    let long = rw (← c.self.view_is) at c.requires in
    let all : total (timeline names h).chains ≡ length h.older + filled h.newest = counted h names c.self.invariant long in
    let held : c.count_held.result ≡ filled h.newest = c.count_held.ensures ∙ ap (λ (vs : List Held). filled vs) c.deref.ensures.value in
    let both : c.count_held.result + c.len.result ≡ length h.older + filled h.newest = omega (arith, held, c.len.ensures) in
    rw (← c.self.view_is, all) (c.saturating_add.ensures ∙ ap (λ n. min n 18446744073709551615) both)
