use Rattle.std.proofs.Common.{sym, ◌∙◌}
use Rattle.std.proofs.lemmas.Result.{err_from_is_err_and}
use Rattle.bohm_replay.proofs.Admitted as lemma
use Rattle.bohm_replay.proofs.entry_machine.EntryMachine.pass_entry.Goals as goal

pub returns-in_err-define-clause-unreadable : goal.returns-in_err-define-clause-unreadable
returns-in_err-define-clause-unreadable g c is entry =
    let first = c.in-Some-read_first_line.first in
    let p = err_from_is_err_and c.from_residual.result c.from_residual.ensures.1 in
    let told = sym p.1 ∙ is in
    let same = p.2 in
    let said = lemma.entry_said (record { edition = c.args.self.now.edition; procedures = c.args.self.now.definitions }) c.args.entry.now c.in-Some.line.now
    c.in-Some.lines.now first.kind _ first.rest entry c.in-Some.ensures.bytes c.in-Some.ensures.lines
    c.in-Some-read_first_line.ensures.read c.in-Some-read_first_line.ensures.id in
    let definition = lemma.said_definition (record { edition = c.args.self.now.edition; procedures = c.args.self.now.definitions }) first.kind first.rest
    c.in-Some.lines.now c.in-Define.is said.0 said.1 in
    c.in_err-define.ensures.unreadable (cc) definition.0 definition.1
