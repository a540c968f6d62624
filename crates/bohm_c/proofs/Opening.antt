-- The answer to opening a snapshot, once its text was read.
use Rattle.std.proofs.Common.{◌≡◌, ◌∙◌, ℕ, ◌≤◌, true, List, [], ◌∷◌, length, map, Result, Ok, Err, IfOk, IfErr, refl, ap, sym, subst, arith}
use Rattle.std.specs.Prelude.{ℤ}
use Rattle.std.specs.List.{AllByRecursion}
use Rattle.bohm_types.specs.Document.{Document}
use Rattle.bohm_types.specs.Keys.{names_of, rising}
use Rattle.bohm_types.specs.Sound.{IsName}
use Rattle.bohm_types.specs.Txn.{Txn}
use Rattle.bohm_txn.specs.Stores.{cell_in, store_of}
use Rattle.bohm_machine.specs.Machines.{HasRun}
use Rattle.bohm_c.specs.Entries.{IsOpeningOfRows, entry_of}
use Rattle.bohm_c.specs.Keeping.{IsOpened, IsOpening, IsRefusedOpening, IsUnopened}
use Rattle.bohm_c.specs.Reading.{IsRead, IsRefused, snapshot_of}
use Rattle.bohm_c.specs.declared.entries.BohmEntry.{BohmEntry}
use Rattle.bohm_c.specs.declared.session.Session.{Session}
use Rattle.bohm_c.specs.declared.session.OpenFault.{OpenFault}
use Rattle.bohm_c.specs.declared.session.OpenFault.TheVariants.{Text, HasLog}

module _ (text : List ℕ) (document : Document) (read : IsRead text document) where
  pub opened : (top : ℕ) (r : Result Session OpenFault) → IfOk r (IsOpened document top) → IfOk r (IsOpening text top)
  opened top (Ok session) h = record { document = document; read = read; opened = h }
  opened top (Err fault) h = tt

  pub unopened : (r : Result Session OpenFault) → IfErr r (IsUnopened document) → IfErr r (IsRefusedOpening text)
  unopened (Ok session) h = tt
  unopened (Err (Text fault)) h = subst (IsRefused text) (sym h.1) tt
  unopened (Err HasLog) h = record { document = document; read = read; some = h }

none_left : (log : List Txn) → length log ≤ 0 → log ≡ []
none_left [] none = refl
none_left (t ∷ ts) none = absurd (omega (arith, none))

-- a machine on a store is one on a document with that store and no transactions
pub on_document : (document : Document) (store : List (List ℕ × ℤ)) (top : ℕ) (session : Session) → store ≡ document.store
    → length document.log ≤ 0 → IsOpened (snapshot_of store) top session → IsOpened document top session
on_document document store top session same none h = record {
  alone = none_left document.log none;
  top = h.top;
  floor = h.floor;
  run = subst (λ (es : List (List ℕ × ℤ)). HasRun (cell_in (store_of es)) top [] session.machine) same h.run;
  count = h.count ∙ ap (λ (es : List (List ℕ × ℤ)). length es) same;
  handed = h.handed;
  names = h.names;
}

-- a machine on the entries of rows
pub on_rows : (rows : List BohmEntry) (entries store : List (List ℕ × ℤ)) (top : ℕ) (session : Session) → entries ≡ map entry_of rows
    → store ≡ entries → AllByRecursion IsName (names_of entries) → rising (names_of store) ≡ true → IsOpened (snapshot_of store) top session
    → IsOpeningOfRows rows top session
on_rows rows entries store top session are same named rises h = record {
  named = subst (λ (es : List (List ℕ × ℤ)). AllByRecursion IsName (names_of es)) are named;
  rises = subst (λ (es : List (List ℕ × ℤ)). rising (names_of es) ≡ true) (same ∙ are) rises;
  opened = subst (λ (es : List (List ℕ × ℤ)). IsOpened (snapshot_of es) top session) (same ∙ are) h;
}
