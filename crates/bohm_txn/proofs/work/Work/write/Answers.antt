use Rattle.std.proofs.Common.{◌≡◌, ℕ, List, ap, sym, ◌∙◌}
use Rattle.bohm_types.specs.declared.cell.Cell.{Cell}
use Rattle.bohm_txn.specs.Room.{tables_of}
use Rattle.bohm_txn.specs.Tables.{replaced}
use Rattle.bohm_log.specs.Parts.{name_at}
use Rattle.bohm_txn.proofs.Evaluating.{written_blind, written_seen}
use Rattle.bohm_txn.proofs.work.Work.write.Goals as goal

pub returns-in-One-clause-after : goal.returns-in-One-clause-after
returns-in-One-clause-after c =
    let before = tables_of c.args.self.now in
    ap (λ (r : List Cell × ℕ). record before { cells = r.0 }) c.set.ensures
    ∙ sym (written_blind c.args.txn.now before c.args.place c.args.cell c.requires.rising c.requires.place c.args.edition c.in-One.is)

pub returns-in-Two-clause-after : goal.returns-in-Two-clause-after
returns-in-Two-clause-after c =
    let before = tables_of c.args.self.now in
    let txn = c.args.txn.now in
    let said = c.write_seen.ensures in
    let same : tables_of c.write_seen.new.self ≡ record before {
      seen = replaced txn.reads before.seen (name_at txn.writes c.args.place) c.args.cell;
      cells = c.set.new.self.0;
    } = λ i. record { locals = (said.locals i).0; seen = said.seen i; cells = (said.cells i).0; shows = (said.shows i).0 } in
    same ∙ ap (λ (r : List Cell × ℕ). record before { seen = replaced txn.reads before.seen (name_at txn.writes c.args.place) c.args.cell; cells = r.0 })
    c.set.ensures ∙ sym (written_seen txn before c.args.place c.args.cell c.requires.rising c.requires.place c.args.edition c.in-Two.is)
