use Rattle.std.proofs.Common.{◌≡◌, ◌∷◌, [], ap, ◌∙◌, Err}
use Rattle.bohm_types.specs.Procedure.{instance}
use Rattle.bohm_txn.specs.Meaning.{body}
use Rattle.bohm_txn.specs.Serial.{after, reply_of}
use Rattle.bohm_ledger.specs.declared.error.MachineFault.TheVariants as machine_is
use Rattle.bohm_replay.proofs.Admitted as lemma
use Rattle.bohm_replay.proofs.Stepping as steps
use Rattle.bohm_replay.proofs.entry_machine.EntryMachine.call.Goals as goal

pub returns-clause-ran : goal.returns-clause-ran
returns-clause-ran g c =
    let found = c.in-Ok.ensures.found in
    let was = c.args.self.now in
    let look = g.P.Past.look was.past in
    let p = c.in-Ok.call.procedure.now in
    let keys = c.in-Ok.call.arguments.keys.items in
    let values = c.in-Ok.call.arguments.values.items in
    let ran : g.P.Past.look c.run_call.new.self ≡ after look (instance p keys values) = c.in_ok-run_call.ensures.look
    ∙ (λ i. after look (instance p (c.as_slice-keys.ensures.value i) (c.as_slice-values.ensures.value i))) in
    let reply : c.run_call.new.answered ≡ reply_of (body look (instance p keys values)) ∷ [] = c.in_ok-run_call.ensures.replies
    ∙ (λ i. reply_of (body look (instance p (c.as_slice-keys.ensures.value i) (c.as_slice-values.ensures.value i))) ∷ []) in
    steps.call_then was.edition was.definitions look _ was.top _ found.name p keys values c.in-Ok-reply_text.text.items found.spelled found.known ran
    (c.in-Ok-reply_text.ensures (reply_of (body look (instance p keys values))) reply)

pub returns-in-Err-clause-unreadable : goal.returns-in-Err-clause-unreadable
returns-in-Err-clause-unreadable g c is calls =
    let fault : c.fault_of.result ≡ machine_is.Unreadable = cc in
    let refused = c.fault_of.ensures.refused fault in
    lemma.call_refused c.args.self.now.edition c.args.self.now.definitions c.args.words refused.0 calls (c.in-Err.ensures.refused refused.0 (ap Err refused.1))
