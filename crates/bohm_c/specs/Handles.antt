-- What handles keep.
use Rattle.std.specs.Prelude.{◌⊎◌, Option, Some, None}
use Rattle.bohm_types.specs.Procedure.{Procedure}
use Rattle.bohm_c.specs.Listed.{Listed}
use Rattle.bohm_c.specs.Sharing.{Sharing}
use Rattle.bohm_c.specs.declared.session.Session.{Session}
use Rattle.bohm_c.specs.declared.kept.Kept.{Kept}
use Rattle.bohm_c.specs.declared.kept.Kept.TheVariants.{Machine, Prepared, Calls, Shared, Lent, Worker}

-- the handle keeps a machine that isn't shared, and satisfies this
abbrev pub OnMachine : Option Kept → (Session → Type 0) → Type 0
OnMachine None P = ⊥
OnMachine (Some (Machine k)) P = P k
OnMachine (Some (Prepared p)) P = ⊥
OnMachine (Some (Calls l)) P = ⊥
OnMachine (Some (Shared s)) P = ⊥
OnMachine (Some Lent) P = ⊥
OnMachine (Some (Worker w)) P = ⊥

abbrev pub IsMachine : Option Kept → Type 0
IsMachine h = OnMachine h (λ _. Unit {0})

-- the handle keeps a procedure that satisfies this
abbrev pub OnProcedure : Option Kept → (Procedure → Type 0) → Type 0
OnProcedure None P = ⊥
OnProcedure (Some (Machine k)) P = ⊥
OnProcedure (Some (Prepared p)) P = P p
OnProcedure (Some (Calls l)) P = ⊥
OnProcedure (Some (Shared s)) P = ⊥
OnProcedure (Some Lent) P = ⊥
OnProcedure (Some (Worker w)) P = ⊥

abbrev pub IsProcedure : Option Kept → Type 0
IsProcedure h = OnProcedure h (λ _. Unit {0})

-- the handle keeps a list of calls that isn't shared, and satisfies this
abbrev pub OnCalls : Option Kept → (Listed → Type 0) → Type 0
OnCalls None P = ⊥
OnCalls (Some (Machine k)) P = ⊥
OnCalls (Some (Prepared p)) P = ⊥
OnCalls (Some (Calls l)) P = P l
OnCalls (Some (Shared s)) P = ⊥
OnCalls (Some Lent) P = ⊥
OnCalls (Some (Worker w)) P = ⊥

abbrev pub IsCallList : Option Kept → Type 0
IsCallList h = OnCalls h (λ _. Unit {0})

-- the handle keeps a machine whose calls are shared, with their list, and these satisfy this
abbrev pub OnShared : Option Kept → (Sharing → Type 0) → Type 0
OnShared None P = ⊥
OnShared (Some (Machine k)) P = ⊥
OnShared (Some (Prepared p)) P = ⊥
OnShared (Some (Calls l)) P = ⊥
OnShared (Some (Shared s)) P = P s
OnShared (Some Lent) P = ⊥
OnShared (Some (Worker w)) P = ⊥

abbrev pub IsShared : Option Kept → Type 0
IsShared h = OnShared h (λ _. Unit {0})

-- the handle's list of calls is with a machine that shares them
abbrev pub IsLent : Option Kept → Type 0
IsLent None = ⊥
IsLent (Some (Machine k)) = ⊥
IsLent (Some (Prepared p)) = ⊥
IsLent (Some (Calls l)) = ⊥
IsLent (Some (Shared s)) = ⊥
IsLent (Some Lent) = Unit {0}
IsLent (Some (Worker w)) = ⊥

-- the handle keeps a worker of shared calls
abbrev pub IsWorker : Option Kept → Type 0
IsWorker None = ⊥
IsWorker (Some (Machine k)) = ⊥
IsWorker (Some (Prepared p)) = ⊥
IsWorker (Some (Calls l)) = ⊥
IsWorker (Some (Shared s)) = ⊥
IsWorker (Some Lent) = ⊥
IsWorker (Some (Worker w)) = Unit {0}

-- it is a machine's, or a list's, shared or not
abbrev pub HasMachine : Option Kept → Type 0
HasMachine h = IsMachine h ⊎ IsShared h

abbrev pub HasCalls : Option Kept → Type 0
HasCalls h = IsCallList h ⊎ IsLent h

-- of a machine's and a list's handle one is shared
abbrev pub AreShared : Option Kept → Option Kept → Type 0
AreShared m l = (IsShared m × HasCalls l) ⊎ (HasMachine m × IsLent l)
