use Rattle.std.proofs.Common.{◌≡◌, sym, ◌∙◌}
use Rattle.std.proofs.lemmas.Result.{on_ok_weaker}
use Rattle.bohm_ledger.proofs.Balancing as lemma
use Rattle.bohm_ledger.proofs.balance.put_changed_key.Goals as goal

pub returns-then-are_same-clause-ok : goal.returns-then-are_same-clause-ok
returns-then-are_same-clause-ok g c clean look h held =
    let now = (g.M.Machine.state c.args.machine.now).look in
    let was = g.M.Machine.saved c.args.machine.now in
    let same : was c.args.key.now ≡ now c.args.key.now = sym c.saved_value-was.ensures ∙ c.are_same.ensures c.if-are_same.true ∙ c.value-is.ensures in
    lemma.key_same _ was now look _ same h held

pub returns-clause-ok : goal.returns-clause-ok
returns-clause-ok g c =
    on_ok_weaker c.put_key.result (λ ok clean look h held.
    lemma.key_put _ _ (g.M.Machine.saved c.args.machine.now) _ look _ _ _ c.saved_value-was.ensures c.value-is.ensures (ok clean) h held) c.put_key.ensures.ok
