use Rattle.std.proofs.Common.{◌≡◌, ◌∙◌, List, ap, arith, sym, subst, rules, length}
use Rattle.std.specs.Prelude.{IfSome, slice_get}
use Rattle.std.proofs.lemmas.Option.{same_Some}
use Rattle.bohm_types.specs.Document.{Document}
use Rattle.bohm_types.specs.Procedure.{Procedure, procedure_with}
use Rattle.bohm_types.specs.Txn.{Txn}
use Rattle.bohm_txn.specs.Declares.{IsUsable}
use Rattle.bohm_txn.specs.declared.fault.CheckFault.{CheckFault}
use Rattle.bohm_txn.specs.Faulty.{WellFormed, IsWellFormedTxn, IsFirstFault, alone}
use Rattle.bohm_txn.proofs.ForCallers.{usable}
use Rattle.bohm_procedures.specs.Accepting.{IsAccepted}
use Rattle.bohm_procedures.specs.Compiling.{IsCompiled}
use Rattle.bohm_procedures.proofs.InstanceLaw.{accepted}
use Rattle.bohm_procedures.proofs.Calling.{own_alone, lets_within, lets_short}
use Rattle.bohm_procedures.proofs.procedure.accept.Goals as goal

well : (c : goal.In-Ok-compile) → IsWellFormedTxn c.args.draft.txn
well c =
    let is : c.in-Some.doc ≡ alone c.args.draft.txn = own_alone c.args.edition c.args.draft.txn c.close_whole.result c.new-log.result c.close_whole.new.log
    c.new.result.items c.in-Some.doc (search rules) c.close_whole.ensures c.new-log.ensures c.new.ensures.items c.requires.edition
    (sym c.in-Some.is ∙ c.new-2.ensures) in
    subst (λ (d : Document). WellFormed d) (c.in-Ok.ensures.ok ∙ is) c.in-Ok.ensures.well_formed

pub txn-own-requires : goal.txn-own-requires
txn-own-requires c =
    let is : c.in-Some.doc ≡ alone c.args.draft.txn = own_alone c.args.edition c.args.draft.txn c.close_whole.result c.new-log.result c.close_whole.new.log
    c.new.result.items c.in-Some.doc (search rules) c.close_whole.ensures c.new-log.ensures c.new.ensures.items c.requires.edition
    (sym c.in-Some.is ∙ c.new-2.ensures) in
    let one = c.log-in-Ok.ensures.same ∙ ap (λ (d : Document). d.log) (c.in-Ok.ensures.ok ∙ is) in
    omega (arith, ap length one)

pub returns-in-Ok-new-clause-compiled : goal.returns-in-Ok-new-clause-compiled
returns-in-Ok-new-clause-compiled c =
    let is : c.in-Some.doc ≡ alone c.args.draft.txn = own_alone c.args.edition c.args.draft.txn c.close_whole.result c.new-log.result c.close_whole.new.log
    c.new.result.items c.in-Some.doc (search rules) c.close_whole.ensures c.new-log.ensures c.new.ensures.items c.requires.edition
    (sym c.in-Some.is ∙ c.new-2.ensures) in
    let one = c.log-in-Ok.ensures.same ∙ ap (λ (d : Document). d.log) (c.in-Ok.ensures.ok ∙ is) in
    let own : c.txn-own.result ≡ c.args.draft.txn =
    same_Some c.txn-own.result c.args.draft.txn (sym c.txn-own.ensures ∙ ap (λ (ts : List Txn). slice_get ts 0) one) in
    subst (λ (p : Procedure). IfSome c.in-Ok-compile.compiled (IsCompiled p))
    ((λ j. procedure_with (own j) (c.as_slice.ensures.value j) c.args.values.now) ∙ sym c.in-Ok-new.ensures.ok) c.in-Ok-compile.ensures

pub new-requires-in-Ok-clause-few_reads : goal.new-requires-in-Ok-clause-few_reads
new-requires-in-Ok-clause-few_reads c = let u : IsUsable c.args.draft.txn = usable c.args.draft.txn (well c) in u.few_reads

pub new-requires-in-Ok-clause-few_writes : goal.new-requires-in-Ok-clause-few_writes
new-requires-in-Ok-clause-few_writes c = let u : IsUsable c.args.draft.txn = usable c.args.draft.txn (well c) in u.few_writes

pub new-requires-in-Ok-clause-lets : goal.new-requires-in-Ok-clause-lets
new-requires-in-Ok-clause-lets c = lets_within c.args.draft.txn c.args.values.now c.requires.lets

pub new-requires-in-Ok-clause-short : goal.new-requires-in-Ok-clause-short
new-requires-in-Ok-clause-short c = lets_short c.args.draft c.args.values.now c.requires.lets c.requires.whole

pub new-requires-in-Ok-clause-reads : goal.new-requires-in-Ok-clause-reads
new-requires-in-Ok-clause-reads c = let u : IsUsable c.args.draft.txn = usable c.args.draft.txn (well c) in u.reads

pub new-requires-in-Ok-clause-writes : goal.new-requires-in-Ok-clause-writes
new-requires-in-Ok-clause-writes c = let u : IsUsable c.args.draft.txn = usable c.args.draft.txn (well c) in u.writes

pub returns-in-Err-clause-fault : goal.returns-in-Err-clause-fault
returns-in-Err-clause-fault c f e =
    let is : c.in-Some.doc ≡ alone c.args.draft.txn = own_alone c.args.edition c.args.draft.txn c.close_whole.result c.new-log.result c.close_whole.new.log
    c.new.result.items c.in-Some.doc (search rules) c.close_whole.ensures c.new-log.ensures c.new.ensures.items c.requires.edition
    (sym c.in-Some.is ∙ c.new-2.ensures) in
    let same : c.in-Err.fault ≡ f = cc in
    subst (λ (x : CheckFault). IsFirstFault (alone c.args.draft.txn) x) same (subst (λ (d : Document). IsFirstFault d c.in-Err.fault) is c.in-Err.ensures.err)

pub returns-in-Ok-new-clause-accepted : goal.returns-in-Ok-new-clause-accepted
returns-in-Ok-new-clause-accepted c =
    let is : c.in-Some.doc ≡ alone c.args.draft.txn = own_alone c.args.edition c.args.draft.txn c.close_whole.result c.new-log.result c.close_whole.new.log
    c.new.result.items c.in-Some.doc (search rules) c.close_whole.ensures c.new-log.ensures c.new.ensures.items c.requires.edition
    (sym c.in-Some.is ∙ c.new-2.ensures) in
    let one : IsWellFormedTxn c.args.draft.txn = subst (λ (d : Document). WellFormed d) (c.in-Ok.ensures.ok ∙ is) c.in-Ok.ensures.well_formed in
    subst (λ (p : Procedure). IsAccepted p) (sym c.in-Ok-new.ensures.ok) (accepted c.args.draft.txn c.args.keys.items c.args.values.now c.requires.lets one)
