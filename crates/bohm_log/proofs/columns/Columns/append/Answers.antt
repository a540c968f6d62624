use Rattle.std.proofs.Common.{◌≡◌, subst}
use Rattle.std.specs.Prelude.{IfOk}
use Rattle.bohm_log.specs.Columns.{shared_of, Appends}
use Rattle.bohm_log.specs.Drafting.{parts_of}
use Rattle.bohm_log.specs.Parts.{Parts}
use Rattle.bohm_log.specs.Slices.{parts_by}
use Rattle.bohm_log.specs.declared.table.Head.{Head}
use Rattle.bohm_log.proofs.columns.Columns.append.Goals as goal

pub returns-clause-ok : goal.returns-clause-ok
returns-clause-ok g c =
    let same : parts_by c.as_slice.result.now c.as_slice-2.result.now c.as_slice-others.result.now c.as_slice-3.result.now
    c.as_slice-4.result.now c.as_slice-5.result.now ≡ parts_of c.args.draft.now =
    λ j. parts_by (c.as_slice.ensures.value j) (c.as_slice-2.ensures.value j) (c.as_slice-others.ensures.names j)
    (c.as_slice-3.ensures.value j) (c.as_slice-4.ensures.value j) (c.as_slice-5.ensures.value j) in
    let Comes : Parts → Head → Type 0 =
    λ p h. Appends (shared_of c.args.self.now) (shared_of c.append_parts.new.self) h c.args.edition p in
    subst (λ (p : Parts). IfOk c.append_parts.result (Comes p)) same c.append_parts.ensures.ok
