-- The state of a procedure's reader.
use Rattle.std.specs.Prelude.{◌≡◌, ℕ, List, [], ◌∷◌, map, take, drop, length, false, Option, Some, Result, Ok, Err}
use Rattle.bohm_types.specs.declared.edition.Edition.{Edition}
use Rattle.bohm_types.specs.Term.{Lit}
use Rattle.bohm_types.specs.Stmt.{Stmt, Bind}
use Rattle.bohm_log.specs.Drafting.{Drafted, IsBare, IsBetween, fresh}
use Rattle.bohm_text.specs.declared.fault.ReadFault.{ReadFault}
use Rattle.bohm_text.specs.declared.procedures.ParamPlace.{ParamPlace}
use Rattle.bohm_text.specs.declared.procedures.ParamPlace.TheVariants as places
use Rattle.bohm_text.specs.declared.procedures.ProcedureReader.{ProcedureReader}
use Rattle.bohm_text.specs.Print.{Words}
use Rattle.bohm_text.specs.Reading.{Fails}
use Rattle.bohm_text.specs.ProcedureText.{Stage, Keys, Values, Reading, Body, Done}

-- let $x = 0
abbrev pub let_zero : List ℕ → Stmt
let_zero x = Bind x ((false, Lit 0) ∷ [])

-- the draft is that of the procedure's own instance: its body begins with a statement for each value
abbrev pub stage_at : ParamPlace → Edition → Words → Words → Drafted → Stage
stage_at places.Keys e ks vs d = Keys e ks
stage_at places.Values e ks vs d = Values e ks vs
stage_at places.Reading e ks vs d = Reading e ks vs d.txn.reads
stage_at places.Body e ks vs d = Body e ks vs d.txn.reads d.txn.writes (drop (length vs) d.txn.body)
stage_at places.Done e ks vs d = Done
    (record { edition = e; keys = ks; values = vs; reads = d.txn.reads; writes = d.txn.writes; body = drop (length vs) d.txn.body })

abbrev pub stage_of : ProcedureReader → Stage
stage_of r = stage_at r.place r.edition r.keys.items r.values.items r.draft

abbrev pub HasLets : Words → Drafted → Type 0
HasLets vs d = take (length vs) d.txn.body ≡ map let_zero vs

abbrev pub IsReadyAt : ParamPlace → Edition → Words → Drafted → Type 0
IsReadyAt places.Keys e vs d = (vs ≡ []) × (d ≡ fresh e)
IsReadyAt places.Values e vs d = d ≡ fresh e
IsReadyAt places.Reading e vs d = IsBare d × (d.txn.edition ≡ e) × (d.txn.writes ≡ [])
IsReadyAt places.Body e vs d = IsBetween d × (d.txn.edition ≡ e) × HasLets vs d
IsReadyAt places.Done e vs d = IsBetween d × (d.txn.edition ≡ e) × HasLets vs d

abbrev pub IsReady : ProcedureReader → Type 0
IsReady r = IsReadyAt r.place r.edition r.values.items r.draft

-- a reader accepted a line, unless an allocation failed
abbrev pub Feeds : Result (Unit {0}) ReadFault → Option Stage → Stage → Type 0
Feeds (Ok done) read next = read ≡ Some next
Feeds (Err e) read next = Fails e read
