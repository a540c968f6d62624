use Rattle.std.proofs.Common.{◌≡◌, ℕ, List, [], refl, ap, sym, ◌∙◌, slice_set}
use Rattle.bohm_types.specs.declared.cell.Cell.{Cell}
use Rattle.bohm_shapes.specs.Filled.{txn_filled}
use Rattle.bohm_shapes.specs.Running.{bound_to, tables_of}
use Rattle.bohm_shapes.proofs.Terms.{written_blind, written_seen}
use Rattle.bohm_shapes.proofs.running.write.Goals as goal

pub returns-in-One-clause-after : goal.returns-in-One-clause-after
returns-in-One-clause-after c =
    let names = c.args.shape.now.locals.items in
    let before = tables_of names c.args.work.now in
    ap (λ (r : List Cell × ℕ). record before { cells = r.0 }) c.set.ensures
    ∙ sym (written_blind (txn_filled c.args.shape.now c.args.keys.now []) before c.args.place c.args.cell c.requires.fits.apart_keys c.requires.within
    c.in-One.is)

pub returns-in-Two-clause-after : goal.returns-in-Two-clause-after
returns-in-Two-clause-after c =
    let names = c.args.shape.now.locals.items in
    let before = tables_of names c.args.work.now in
    let said = c.write_seen.ensures in
    let same : tables_of names c.write_seen.new.work ≡ record before {
      seen = slice_set before.seen c.args.place c.args.cell;
      cells = c.set.new.self.0;
    } = λ i. record { locals = bound_to names (said.locals i).0; seen = (said.seen i).0; cells = (said.cells i).0; shows = (said.shows i).0 } in
    same ∙ ap (λ (r : List Cell × ℕ). record before { seen = slice_set before.seen c.args.place c.args.cell; cells = r.0 }) c.set.ensures
    ∙ sym (written_seen (txn_filled c.args.shape.now c.args.keys.now []) before c.args.place c.args.cell c.requires.fits.apart_keys c.requires.within
    c.in-Two.is refl)
