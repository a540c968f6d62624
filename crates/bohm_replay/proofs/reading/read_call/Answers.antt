use Rattle.std.proofs.Common.{◌≡◌, ℕ, length, inr, ap, subst, Err}
use Rattle.bohm_entries.specs.Refusals.{RefusesArguments}
use Rattle.bohm_entries.specs.declared.refusal.EntryFault.TheVariants as fault_is
use Rattle.bohm_replay.proofs.Admitted as lemma
use Rattle.bohm_replay.proofs.reading.read_call.Goals as goal

pub returns-in-Err-clause-refused : goal.returns-in-Err-clause-refused
returns-in-Err-clause-refused c r is =
    let same : c.in-Err.fault ≡ fault_is.Refused r = cc in
    let why = c.in-Err.ensures.refused r (ap Err same) in
    inr (lemma.miscalled c.args.definitions.now c.args.words c.next.new.self c.in-Some.name.now c.in-Some-get.procedure.now r c.in-Some.ensures c.in-Some-get.ensures
    (subst (λ (k : ℕ). RefusesArguments c.next.new.self k (length c.in-Some-get.procedure.now.values) r) c.keys.ensures
    (subst (λ (v : ℕ). RefusesArguments c.next.new.self c.keys.result v r) c.values.ensures why)))
