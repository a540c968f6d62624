use Rattle.std.proofs.Common.{◌≡◌, ◌∙◌, ◌≤◌, List, ℕ, take, length, ap, sym, arith}
use Rattle.std.specs.Cmp.Lexicographic.{nat_list_eq_equiv}
use Rattle.indexmap.proofs.MapLemmas.{distinct-take}
use Rattle.bohm_types.specs.declared.cell.Cell.TheVariants.{Absent}
use Rattle.bohm_store.specs.declared.version.Version.{Version}
use Rattle.bohm_store.specs.Numbered.{timeline}
use Rattle.bohm_store.specs.Versions.{cell_at, past}
use Rattle.bohm_store.proofs.Same.{shorter}
use Rattle.bohm_store.proofs.history.History.store_at.Goals as goal

pub store_at-requires-clause-names : goal.store_at-requires-clause-names
store_at-requires-clause-names c =
    rw (c.up_to-names.ensures, c.table.ensures.names)
    (distinct-take nat_list_eq_equiv c.len-known.result c.self.inside.names c.table.ensures.apart)

pub returns-in-Ok-clause-past : goal.returns-in-Ok-clause-past
returns-in-Ok-clause-past c =
    let ts = c.args.ts in
    let names = c.self.inside.names in
    let h = c.self.inside.numbered in
    let m = c.len-known.result in
    let low : m ≤ length names = omega (arith, c.len-known.ensures.len, c.self.invariant) in
    let same : (k : List ℕ) → past (timeline (take m names) h) ts k ≡ past (timeline names h) ts k =
    λ k. ap (λ (vs : List Version). cell_at ts vs Absent)
    (sym (shorter h names m k low (λ n le. c.len-known.ensures.behind n (omega (arith, le, c.len-known.ensures.len))))) in
    let told = rw (c.up_to-names.ensures, c.table.ensures.names) at c.in-Ok.ensures.past in
    rw (← c.self.view_is) (told ∙ (λ i k. same k i))
