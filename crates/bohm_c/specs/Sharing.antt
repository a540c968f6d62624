-- A machine whose calls workers run.
use Rattle.bohm_c.specs.Listed.{Listed}
use Rattle.bohm_c.specs.declared.session.Session.{Session}

-- the machine and the list as they were when the calls were shared
pub record Sharing : Type 0 where
  pub session : Session
  pub list : Listed
