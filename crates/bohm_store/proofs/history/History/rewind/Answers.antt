use Rattle.std.proofs.Common.{◌≡◌, ◌∙◌, List, ℕ, ap, refl, subst, sym}
use Rattle.std.specs.List.{IsDistinct}
use Rattle.std.specs.Str.{bytes_eq}
use Rattle.bohm_types.specs.declared.cell.Cell.TheVariants.{Absent}
use Rattle.bohm_store.specs.declared.version.Version.{Version}
use Rattle.bohm_store.specs.Versions.{cell_at, versions, versions_to}
use Rattle.bohm_store.specs.Numbered.{timeline, versions_at}
use Rattle.bohm_store.proofs.Entries.{keys_named}
use Rattle.bohm_store.proofs.Named.{mapped_versions}
use Rattle.bohm_store.proofs.Rewound.{cell_to}
use Rattle.bohm_store.proofs.history.History.rewind.Goals as goal

pub returns-clause-versions : goal.returns-clause-versions
returns-clause-versions c =
    let h = c.self.inside.numbered in
    rw (← c.self.view_is)
    (λ k. mapped_versions (versions_at c.rewind.new.self) (versions_at h) (versions_to c.args.ts) c.self.inside.names k refl c.rewind.ensures.versions)

pub returns-clause-past : goal.returns-clause-past
returns-clause-past c =
    let h = c.self.inside.numbered in
    let names = c.self.inside.names in
    let less : (k : List ℕ) → versions (timeline names c.rewind.new.self) k ≡ versions_to c.args.ts (versions (timeline names h) k) =
    λ k. mapped_versions (versions_at c.rewind.new.self) (versions_at h) (versions_to c.args.ts) names k refl c.rewind.ensures.versions in
    rw (← c.self.view_is) (λ t le. (let each : (k : List ℕ) → _ =
    λ k. ap (λ (vs : List Version). cell_at t vs Absent) (less k) ∙ cell_to c.args.ts t (versions (timeline names h) k) Absent le in λ i k. each k i))

pub returns-clause-distinct : goal.returns-clause-distinct
returns-clause-distinct c =
    subst (λ (keys : List (List ℕ)). IsDistinct bytes_eq keys) (sym (keys_named (versions_at c.rewind.new.self) 0 c.self.inside.names))
    c.table.ensures.apart
