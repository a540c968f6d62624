-- Faults of reading are refusals before writing.
use Rattle.std.proofs.Common.{◌≡◌, ◌<◌, List, ℕ, length, refl, inl}
use Rattle.std.specs.Prelude.{Option}
use Rattle.std.specs.Io.KnownBytes.{Consumes}
use Rattle.bohm_types.specs.Limits.{longest_text}
use Rattle.bohm_answer.specs.Bytes.{IsReadFault}
use Rattle.bohm_answer.specs.Refusing.{IsBeforeWriting}
use Rattle.bohm_answer.specs.declared.fault.RunFault.{RunFault}
use Rattle.bohm_answer.specs.declared.fault.RunFault.TheVariants.{Read, TooLong, Text, Check, Trimmed, Future, NoMemory, Write}
use Rattle.bohm_report.specs.Procedures.{RefusesLogOrProcedure}

pub of_reading : (unread unread' : Option (List ℕ)) (fault : RunFault) → IsReadFault fault
    → (fault ≡ TooLong → (bytes : List ℕ) × (longest_text < length bytes) × Consumes unread unread' bytes)
    → RefusesLogOrProcedure unread unread' fault × IsBeforeWriting fault
of_reading unread unread' Read is long = (inl (λ given. tt), tt)
of_reading unread unread' TooLong is long = let w = long refl in (inl (λ given. record { bytes = w.0; long = w.1; read = w.2 }), tt)
of_reading unread unread' (Text fault) is long = absurd is
of_reading unread unread' (Check fault) is long = absurd is
of_reading unread unread' Trimmed is long = absurd is
of_reading unread unread' Future is long = absurd is
of_reading unread unread' NoMemory is long = (inl (λ given. tt), tt)
of_reading unread unread' (Write sent) is long = absurd is
