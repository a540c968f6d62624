use Rattle.std.proofs.Common.{◌≡◌, ◌<◌, ◌≤◌, ◌∙◌, List, ℕ, length, ap, refl, ⊎_elim, arith}
use Rattle.std.proofs.lemmas.Bool.{cases_lt}
use Rattle.bohm_types.specs.declared.cell.Cell.TheVariants.{Absent}
use Rattle.bohm_store.specs.declared.version.Version.{Version}
use Rattle.bohm_store.specs.Versions.{Rises, cell_at, kept_versions, versions}
use Rattle.bohm_store.specs.Numbered.{timeline, versions_at}
use Rattle.bohm_store.proofs.Bounds.{trimmed_no_more}
use Rattle.bohm_store.proofs.Past.{cell_at-kept}
use Rattle.bohm_store.proofs.Named.{all_versions, mapped_versions}
use Rattle.bohm_store.proofs.NewestVersion.{kept_members}
use Rattle.bohm_store.proofs.history.History.trim.Goals as goal
use Rattle.bohm_store.proofs.history.History.trim.Goals.{After-trim}

less : (c : After-trim) → c.self.inside.numbered.floor < c.args.floor → (k : List ℕ)
    → versions (timeline c.self.inside.names c.trim.new.self) k ≡ kept_versions c.args.floor (versions (timeline c.self.inside.names c.self.inside.numbered) k)
less c lt k =
    mapped_versions (versions_at c.trim.new.self) (versions_at c.self.inside.numbered)
    (kept_versions c.args.floor) c.self.inside.names k refl (c.trim.ensures.versions lt)

same : (c : After-trim) → c.args.floor ≤ c.self.inside.numbered.floor → (k : List ℕ)
    → versions (timeline c.self.inside.names c.trim.new.self) k ≡ versions (timeline c.self.inside.names c.self.inside.numbered) k
same c le k =
    mapped_versions (versions_at c.trim.new.self) (versions_at c.self.inside.numbered)
    (λ (vs : List Version). vs) c.self.inside.names k refl (c.trim.ensures.unchanged le)

pub returns-clause-versions : goal.returns-clause-versions
returns-clause-versions c = rw (← c.self.view_is) (less c)

pub returns-clause-unchanged : goal.returns-clause-unchanged
returns-clause-unchanged c = rw (← c.self.view_is) (same c)

pub returns-clause-kept : goal.returns-clause-kept
returns-clause-kept c =
    rw (← c.self.view_is) (λ lt k v. rw (less c lt k) (kept_members c.args.floor
    (versions (timeline c.self.inside.names c.self.inside.numbered) k) v
    (all_versions Rises (versions_at c.self.inside.numbered) c.self.inside.names k tt c.trim.ensures.rising)))

pub returns-clause-past : goal.returns-clause-past
returns-clause-past c =
    rw (← c.self.view_is) (λ ts low. (let each : (k : List ℕ) → _ = λ k. ⊎_elim
    (λ (lt : c.self.inside.numbered.floor < c.args.floor). ap (λ (vs : List Version). cell_at ts vs Absent) (less c lt k)
    ∙ cell_at-kept c.args.floor ts (versions (timeline c.self.inside.names c.self.inside.numbered) k) Absent (omega (arith, low, c.trim.ensures.floor)))
    (λ (le : c.args.floor ≤ c.self.inside.numbered.floor). ap (λ (vs : List Version). cell_at ts vs Absent) (same c le k))
    (cases_lt c.self.inside.numbered.floor c.args.floor) in λ i k. each k i))

pub returns-clause-count : goal.returns-clause-count
returns-clause-count c =
    rw (← c.self.view_is) (trimmed_no_more (versions_at c.trim.new.self) (versions_at c.self.inside.numbered) c.self.inside.numbered.floor c.args.floor
    c.self.inside.names c.trim.ensures.versions c.trim.ensures.unchanged)

pub returns-clause-one : goal.returns-clause-one
returns-clause-one c =
    rw (← c.self.view_is) (λ at_top k. all_versions (λ (vs : List Version). length vs ≤ 1) (versions_at c.trim.new.self) c.self.inside.names k
    (omega arith) (c.trim.ensures.one at_top))
