-- Refusals of the check, by what is refused.
use Rattle.std.proofs.Common.{◌≡◌, ◌<◌, ◌≤◌, List, ℕ, length, sym, subst}
use Rattle.std.specs.Prelude.{Option}
use Rattle.std.specs.Io.KnownBytes.{Consumes, IsAtEnd}
use Rattle.bohm_types.specs.Limits.{longest_text}
use Rattle.bohm_answer.specs.Bytes.{IsReadFault, ReadsAll}
use Rattle.bohm_run.specs.Headline.{IsBeforeWriting}
use Rattle.bohm_answer.specs.declared.fault.RunFault.{RunFault}
use Rattle.bohm_answer.specs.declared.fault.RunFault.TheVariants.{Read, TooLong, Text, Check, Trimmed, Future, NoMemory, Write}
use Rattle.bohm_check_cli.specs.Checking.{RefusesToTell}
use Rattle.bohm_report.specs.Procedures.{RefusesLogOrProcedure}
use Rattle.bohm_report.proofs.ForCallers.{of_reading as read_refused}

-- refusals before anything is written
pub before_writing : (unread unread' written written' : Option (List ℕ)) (fault : RunFault) → IsBeforeWriting fault → RefusesLogOrProcedure unread unread' fault
    → RefusesToTell unread unread' written written' fault
before_writing unread unread' written written' Read before refuses = refuses
before_writing unread unread' written written' TooLong before refuses = refuses
before_writing unread unread' written written' (Text fault) before refuses = refuses
before_writing unread unread' written written' (Check fault) before refuses = refuses
before_writing unread unread' written written' Trimmed before refuses = refuses
before_writing unread unread' written written' Future before refuses = refuses
before_writing unread unread' written written' NoMemory before refuses = refuses
before_writing unread unread' written written' (Write sent) before refuses = absurd before

-- faults of reading
pub of_reading : (unread unread' written written' : Option (List ℕ)) (fault : RunFault) → IsReadFault fault
    → (fault ≡ TooLong → (bytes : List ℕ) × (longest_text < length bytes) × Consumes unread unread' bytes)
    → RefusesToTell unread unread' written written' fault
of_reading unread unread' written written' fault is long =
    let refused = read_refused unread unread' fault is long in before_writing unread unread' written written' fault refused.1 refused.0

-- a refusal of all that was read
pub of_text : (unread unread' written written' : Option (List ℕ)) (text shown : List ℕ) (fault : RunFault) → shown ≡ text → Consumes unread unread' text
    → IsAtEnd unread' → length text ≤ longest_text → IsBeforeWriting fault
    → ((before after : Option (List ℕ)) → ReadsAll before after shown → RefusesLogOrProcedure before after fault)
    → RefusesToTell unread unread' written written' fault
of_text unread unread' written written' text shown fault is read at_end short before refuses =
    before_writing unread unread' written written' fault before
    (refuses unread unread' (subst (ReadsAll unread unread') (sym is) (record { read = read; at_end = at_end; short = short })))
