use Rattle.std.proofs.Common.{◌<◌, ◌∙◌, List, [], length, ap, subst, arith}
use Rattle.bohm_types.specs.Document.{Document}
use Rattle.bohm_types.specs.Txn.{Txn}
use Rattle.bohm_txn.specs.Serial.{replies}
use Rattle.bohm_machine.specs.Machines.{GoesOn, now_of}
use Rattle.bohm_machine.specs.Segments.{IsRefused}
use Rattle.bohm_machine.specs.declared.fault.SegmentFault.TheVariants.{Store, Timestamps}
use Rattle.bohm_durable.proofs.Since as lemma
use Rattle.bohm_durable.proofs.applying.apply_call.Goals as goal

pub returns-in-Ok-clause-replies : goal.returns-in-Ok-clause-replies
returns-in-Ok-clause-replies c = λ t is.
    lemma.one_replied _ c.args.calls.now.log t c.clear.new.self c.run_batch.new.answered c.clear.ensures c.in-Ok.ensures.answered is

pub returns-in-Ok-clause-now : goal.returns-in-Ok-clause-now
returns-in-Ok-clause-now c = λ t is.
    let was = c.args.machine.now in
    let answered = replies (now_of was) c.args.calls.now.log in
    lemma.one_ran was c.run_batch.new.self t answered
    (subst (λ (ts : List Txn). GoesOn was c.run_batch.new.self ts answered) is c.in-Ok.ensures.goes_on)

pub returns-in-Ok-clause-since : goal.returns-in-Ok-clause-since
returns-in-Ok-clause-since c = λ changed since noted.
    lemma.batch_since c.args.machine.now c.run_batch.new.self c.args.calls.now.log _ changed c.requires.one
    (λ t is. lemma.well_one c.log-well_formed.result c.args.calls.now.log t c.log-well_formed.ensures.well_formed
    (c.log-well_formed.ensures.same ∙ ap (λ (d : Document). d.log) c.segment.ensures) is) c.in-Ok.ensures.goes_on since noted

pub returns-in-Ok-clause-checkpoint : goal.returns-in-Ok-clause-checkpoint
returns-in-Ok-clause-checkpoint c = lemma.keeps c.args.machine.now c.run_batch.new.self _ _ c.in-Ok.ensures.goes_on

pub returns-in-Err-NoMemory-clause-since : goal.returns-in-Err-NoMemory-clause-since
returns-in-Err-NoMemory-clause-since c = λ changed since noted.
    lemma.still_since c.args.machine.now c.run_batch.new.self [] changed (c.in-Err-NoMemory.ensures.no_memory cc) since

pub returns-in-Err-NoMemory-clause-checkpoint : goal.returns-in-Err-NoMemory-clause-checkpoint
returns-in-Err-NoMemory-clause-checkpoint c = lemma.keeps c.args.machine.now c.run_batch.new.self [] [] (c.in-Err-NoMemory.ensures.no_memory cc)

pub returns-in-Err-NoMemory-clause-earlier : goal.returns-in-Err-NoMemory-clause-earlier
returns-in-Err-NoMemory-clause-earlier c = (c.in-Err-NoMemory.ensures.no_memory cc).earlier

pub returns-in-Err-Segment-Store-clause-readable : goal.returns-in-Err-Segment-Store-clause-readable
returns-in-Err-Segment-Store-clause-readable c = λ is.
    let refused : 0 < length c.args.calls.now.store = c.in-Err-Segment-Store.ensures.refused Store cc in
    omega (arith, refused, ap length c.requires.storeless)

pub returns-in-Err-Segment-Timestamps-clause-full : goal.returns-in-Err-Segment-Timestamps-clause-full
returns-in-Err-Segment-Timestamps-clause-full c = λ is.
    let refused : IsRefused c.args.machine.now c.args.calls.now Timestamps = c.in-Err-Segment-Timestamps.ensures.refused Timestamps cc in
    omega (arith, refused.1, c.requires.one)
