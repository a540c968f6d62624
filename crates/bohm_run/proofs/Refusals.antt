-- Refusals of a text, and refusals before writing.
use Rattle.std.proofs.Common.{◌≡◌, ℕ, List, None, refl}
use Rattle.std.specs.Prelude.{Option}
use Rattle.bohm_text.specs.Cut.{whole_lines}
use Rattle.bohm_text.specs.Faults.{IsFirstBadLine, IsShort}
use Rattle.bohm_text.specs.declared.fault.TextFault.{TextFault}
use Rattle.bohm_text.specs.declared.fault.TextFault.TheVariants as texts
use Rattle.bohm_settings.specs.Given.{Given}
use Rattle.bohm_answer.specs.Bytes.{ReadsAll}
use Rattle.bohm_run.specs.Headline.{Refuses, IsBeforeWriting}
use Rattle.bohm_answer.specs.declared.fault.RunFault.{RunFault}
use Rattle.bohm_answer.specs.declared.fault.RunFault.TheVariants.{Read, TooLong, Text, Check, Trimmed, Future, NoMemory, Write}
use Rattle.bohm_answer.specs.Refusing.{refusal_of}

pub text_refused : (given : Given) (unread unread' : Option (List ℕ)) (text : List ℕ) (fault : TextFault) → ReadsAll unread unread' text
    → ((n : ℕ) → fault ≡ texts.Line n → IsFirstBadLine (whole_lines text) n) → (fault ≡ texts.Short → IsShort text)
    → Refuses given unread unread' None None (refusal_of fault)
text_refused given unread unread' text (texts.Line n) read line short = record { text = text; read = read; is = line n refl }
text_refused given unread unread' text texts.Short read line short = record { text = text; read = read; is = short refl }
text_refused given unread unread' text texts.NoMemory read line short = tt

-- a refusal before writing doesn't depend on the written bytes
pub before_writing : (given : Given) (unread unread' w w' v v' : Option (List ℕ)) (fault : RunFault) → IsBeforeWriting fault
    → Refuses given unread unread' w w' fault → Refuses given unread unread' v v' fault
before_writing given unread unread' w w' v v' Read early h = tt
before_writing given unread unread' w w' v v' TooLong early h = h
before_writing given unread unread' w w' v v' (Text (texts.Line n)) early h = h
before_writing given unread unread' w w' v v' (Text texts.Short) early h = h
before_writing given unread unread' w w' v v' (Text texts.NoMemory) early h = h
before_writing given unread unread' w w' v v' (Check fault) early h = h
before_writing given unread unread' w w' v v' Trimmed early h = h
before_writing given unread unread' w w' v v' Future early h = h
before_writing given unread unread' w w' v v' NoMemory early h = tt
before_writing given unread unread' w w' v v' (Write sent) early h = absurd early
