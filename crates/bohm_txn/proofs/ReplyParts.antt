-- A reply, from an outcome and shows.
use Rattle.std.proofs.Common.{◌≡◌, ◌∙◌, List, Ok, Err, refl, sym}
use Rattle.std.specs.Prelude.{ℤ}
use Rattle.bohm_txn.specs.declared.outcome.Outcome.{Outcome}
use Rattle.bohm_txn.specs.Meaning.{Ended}
use Rattle.bohm_txn.specs.Serial.{outcome_of, reply_of, reply_with, shows_of}

by_parts : (e : Ended) → reply_of e ≡ reply_with (outcome_of e) (shows_of e)
by_parts (Ok run) = refl
by_parts (Err fault) = refl

-- the reply with a body's outcome and with its shows is the body's reply
pub replied : (e : Ended) (o : Outcome) (zs : List ℤ) → outcome_of e ≡ o → shows_of e ≡ zs → reply_with o zs ≡ reply_of e
replied e o zs outcome shows = sym (by_parts e ∙ (λ i. reply_with (outcome i) (shows i)))
