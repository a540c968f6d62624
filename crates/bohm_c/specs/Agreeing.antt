-- What two machines have in common, and the rest of a segment.
use Rattle.std.specs.Prelude.{◌≡◌, ◌⊎◌, ℕ, ◌-◌, List, drop}
use Rattle.bohm_types.specs.Document.{Document}
use Rattle.bohm_machine.specs.Machines.{now_of, top_of}
use Rattle.bohm_c.specs.Reading.{IsRead}
use Rattle.bohm_c.specs.declared.session.Session.{Session}

-- two machines with one top, whose stores there are equal
pub record AreAlike (one other : Session) : Type 0 where
  pub top : top_of one.machine ≡ top_of other.machine
  pub holds : now_of one.machine ≡ now_of other.machine

-- the text of the transactions of a segment that a machine hasn't run yet
pub record IsRest (was mid : Session) (segment : Document) (text : List ℕ) : Type 0 where
  pub document : Document
  pub read : IsRead text document
  pub log : document.log ≡ drop (top_of mid.machine - top_of was.machine) segment.log

-- the status says what the text is, or that it ran whole: no allocation failed, and no reply was waiting
abbrev pub IsOfTheText : ℕ → Type 0
IsOfTheText status = (status ≡ 0) ⊎ (status ≡ 1) ⊎ (status ≡ 5) ⊎ (status ≡ 6)
