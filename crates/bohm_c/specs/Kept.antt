-- What a handle keeps: how the logic encodes it, and the memory that it owns.
use base.Fml.{Fml, feq}
use denote.RawPtr.{Ptr, null_ptr}
use Rattle.std.specs.Prelude.{◌≡◌, Bool, true, false, Option, Some, None, Result, Ok, Err, refl}
use Rattle.std.specs.Coded.{Coded, code_by, coded×, coded_bool, coded_option, coded_result}
use Rattle.bohm_types.specs.Procedure.{Procedure}
use Rattle.bohm_c.specs.CallCodes.{listed_code, procedure_code}
use Rattle.bohm_c.specs.Codes.{keeper_code}
use Rattle.bohm_c.specs.Listed.{Listed}
use Rattle.bohm_c.specs.Sharing.{Sharing}
use Rattle.bohm_c.specs.declared.session.Session.{Session}
use Rattle.bohm_c.specs.declared.kept.Kept.{Kept}
use Rattle.bohm_c.specs.declared.kept.Kept.TheVariants.{Machine, Prepared, Calls, Shared, Lent, Worker}

abbrev sharing_code : Coded Sharing
sharing_code = code_by (Session × Listed) (coded× keeper_code listed_code) (λ s. (s.session, s.list)) (λ p. record { session = p.0; list = p.1 }) (λ _. refl)

-- the last is whether it is a list that a machine has, and not a worker
abbrev Parts : Type 0
Parts = Result Session (Result Procedure (Result Listed (Result Sharing Bool)))

abbrev parts_of : Kept → Parts
parts_of (Machine k) = Ok k
parts_of (Prepared p) = Err (Ok p)
parts_of (Calls l) = Err (Err (Ok l))
parts_of (Shared s) = Err (Err (Err (Ok s)))
parts_of Lent = Err (Err (Err (Err true)))
parts_of (Worker w) = Err (Err (Err (Err false)))

abbrev kept_of : Parts → Kept
kept_of (Ok k) = Machine k
kept_of (Err (Ok p)) = Prepared p
kept_of (Err (Err (Ok l))) = Calls l
kept_of (Err (Err (Err (Ok s)))) = Shared s
kept_of (Err (Err (Err (Err true)))) = Lent
kept_of (Err (Err (Err (Err false)))) = Worker tt

pub kept_back : (k : Kept) → kept_of (parts_of k) ≡ k
kept_back (Machine k) = refl
kept_back (Prepared p) = refl
kept_back (Calls l) = refl
kept_back (Shared s) = refl
kept_back Lent = refl
kept_back (Worker w) = refl

abbrev parts_code : Coded Parts
parts_code = coded_result keeper_code (coded_result procedure_code (coded_result listed_code (coded_result sharing_code coded_bool)))

abbrev pub kept_code : Coded (Option Kept)
kept_code = coded_option (code_by Parts parts_code parts_of kept_of kept_back)

-- the memory that a pointer owns: a box, or nothing if the pointer is null
abbrev pub owned : (Ptr → Kept → Fml) → Ptr → Option Kept → Fml
owned box p None = feq Ptr p null_ptr
owned box p (Some x) = box p x
