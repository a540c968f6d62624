-- What the functions that run single calls on a machine guarantee.
use Rattle.std.specs.Prelude.{◌≡◌, ◌<◌, ℕ, ℤ, List, [], ◌∷◌, ◌++◌, Some, drop, length}
use Rattle.bohm_types.specs.Name.{key_of}
use Rattle.bohm_types.specs.Procedure.{Procedure}
use Rattle.bohm_machine.specs.Machines.{GoesOn, IsCompacted, top_of}
use Rattle.bohm_c.specs.Calling.{Fits, Ran, reply_now}
use Rattle.bohm_c.specs.Rows.{row_of, shows_of}
use Rattle.bohm_c.specs.declared.rows.BohmReply.{BohmReply}
use Rattle.bohm_c.specs.declared.session.Session.{Session}

-- no reply was waiting, and the call was run; handles keep their keys
pub record IsCalled (was now : Session) (p : Procedure) (ks : List (List ℕ)) (vs : List ℤ) : Type 0 where
  pub waited : was.waiting ≡ []
  pub fits : Fits p (length ks) (length vs)
  pub ran : Ran was.machine now.machine p ks vs
  pub names : now.single ≡ was.single

-- the call was run, and its reply is handed out: a row, and the values that it shows, which replaced others
pub record IsCallDone (was now : Session) (p : Procedure) (ks : List (List ℕ)) (vs : List ℤ) (row : BohmReply) (before shown : List ℤ) : Type 0 where
  pub called : IsCalled was now p ks vs
  pub told : row ≡ row_of 0 (reply_now was.machine p ks vs)
  pub shows : shown ≡ shows_of (reply_now was.machine p ks vs) ++ drop (length (shows_of (reply_now was.machine p ks vs))) before
  pub handed : now.waiting ≡ []

-- the call was run, and its reply, which shows more values than there is room for, is waiting
pub record IsCallKept (was now : Session) (p : Procedure) (ks : List (List ℕ)) (vs : List ℤ) (room : ℕ) : Type 0 where
  pub called : IsCalled was now p ks vs
  pub waits : now.waiting ≡ reply_now was.machine p ks vs ∷ []
  pub behind : now.behind ≡ top_of was.machine
  pub long : room < length (shows_of (reply_now was.machine p ks vs))

-- no transaction was run: timestamps and past are as they were, and so are waiting replies and handles
pub record IsStill (was now : Session) : Type 0 where
  pub machine : GoesOn was.machine now.machine [] []
  pub waiting : now.waiting ≡ was.waiting
  pub behind : now.behind ≡ was.behind
  pub names : now.single ≡ was.single

-- the past below the top is forgotten, and waiting replies and handles are as they were
pub record IsCompact (was now : Session) : Type 0 where
  pub machine : IsCompacted was.machine now.machine
  pub waiting : now.waiting ≡ was.waiting
  pub behind : now.behind ≡ was.behind
  pub names : now.single ≡ was.single

-- a handle was made of the key with this name, whose number is the count of those made before; the machine and its replies are as they were
pub record IsNamed (was now : Session) (name : List ℕ) (handle : ℕ) : Type 0 where
  pub key : key_of name ≡ Some name
  pub number : handle ≡ length was.single
  pub names : now.single ≡ was.single ++ name ∷ []
  pub machine : now.machine ≡ was.machine
  pub waiting : now.waiting ≡ was.waiting
  pub behind : now.behind ≡ was.behind
