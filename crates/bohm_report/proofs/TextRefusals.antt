-- The check refuses a text for the reasons for which a run refuses it.
use Rattle.std.proofs.Common.{◌≡◌, ℕ, List, None, sym, subst}
use Rattle.std.specs.Prelude.{Option}
use Rattle.bohm_text.specs.declared.fault.TextFault.TheVariants as texts
use Rattle.bohm_report.specs.Refusals as check
use Rattle.bohm_report.specs.declared.refusal.Refusal.{Refusal}
use Rattle.bohm_report.specs.declared.refusal.Refusal.TheVariants.{Text, Check, NoMemory}
use Rattle.bohm_settings.specs.Given.{Given}
use Rattle.bohm_answer.specs.Bytes.{ReadsAll}
use Rattle.bohm_run.specs.Headline.{Refuses, IsBeforeWriting}
use Rattle.bohm_answer.specs.declared.fault.RunFault.{RunFault}
use Rattle.bohm_report.specs.Refused.{fault_of}

module _ (unread unread' : Option (List ℕ)) (text : List ℕ) (read : ReadsAll unread unread' text) where
  pub run_refuses : (refusal : Refusal) → check.Refuses text refusal → (given : Given) → Refuses given unread unread' None None (fault_of refusal)
  run_refuses (Text (texts.Line n)) is given = record { text = text; read = read; is = is }
  run_refuses (Text texts.Short) is given = record { text = text; read = read; is = is }
  run_refuses (Text texts.NoMemory) is given = absurd is
  run_refuses (Check fault) is given = record {
    document = is.document;
    sound = is.sound;
    read = subst (ReadsAll unread unread') (sym is.print) read;
    is = is.first;
  }
  run_refuses NoMemory is given = tt

-- the same of the fault that a refusal becomes
pub told_refuses : (unread unread' : Option (List ℕ)) (text : List ℕ) (refusal : Refusal) (fault : RunFault) → ReadsAll unread unread' text
    → check.Refuses text refusal
    → fault ≡ fault_of refusal → (given : Given) → Refuses given unread unread' None None fault
told_refuses unread unread' text refusal fault read is made given =
    subst (λ (e : RunFault). Refuses given unread unread' None None e) (sym made) (run_refuses unread unread' text read refusal is given)

-- the refusal comes before anything is written
module _ (text : List ℕ) where
  pub refused_early : (refusal : Refusal) → check.Refuses text refusal → IsBeforeWriting (fault_of refusal)
  refused_early (Text (texts.Line n)) is = tt
  refused_early (Text texts.Short) is = tt
  refused_early (Text texts.NoMemory) is = tt
  refused_early (Check fault) is = tt
  refused_early NoMemory is = tt
