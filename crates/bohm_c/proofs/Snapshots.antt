-- Snapshots are well formed, and a machine that was opened with one has its store.
use Rattle.std.proofs.Common.{◌≡◌, ◌∙◌, ℕ, zero, suc, ◌-◌, true, false, List, [], ap, arith}
use Rattle.std.specs.Prelude.{ℤ}
use Rattle.std.specs.FinMap.{entries}
use Rattle.bohm_types.specs.Document.{Document}
use Rattle.bohm_types.specs.Sound.{IsDocument}
use Rattle.bohm_txn.specs.Faulty.{WellFormed}
use Rattle.bohm_txn.specs.Meaning.{Look}
use Rattle.bohm_txn.specs.Serial.{state}
use Rattle.bohm_txn.specs.Stores.{cell_in, store_of}
use Rattle.bohm_txn.specs.declared.fault.CheckKind.TheVariants.{Order, Unread, Unwritten, Local, Limit}
use Rattle.bohm_store.specs.Versions.{Timeline}
use Rattle.bohm_machine.specs.Machines.{now_of, top_of}
use Rattle.bohm_machine.proofs.ForCallers.{listed_rise}
use Rattle.bohm_c.specs.Keeping.{IsOpening, IsSnapshot}
use Rattle.bohm_c.specs.Reading.{snapshot_of}
use Rattle.bohm_c.specs.declared.session.Session.{Session}
use Rattle.bohm_text.specs.Print.{print_doc}

pub snapshot_formed : (store : List (List ℕ × ℤ)) → store ≡ entries (store_of store) → WellFormed (snapshot_of store)
snapshot_formed store listed zero zero Order faulty = let rises = listed_rise store listed in let none : false ≡ true = rw rises at faulty in cc
snapshot_formed store listed zero zero Unread faulty = cc
snapshot_formed store listed zero zero Unwritten faulty = cc
snapshot_formed store listed zero zero Local faulty = cc
snapshot_formed store listed zero zero Limit faulty = cc
snapshot_formed store listed zero (suc s) kind faulty = cc
snapshot_formed store listed (suc t) s kind faulty = cc

-- a machine that was opened with a snapshot of the top

pub opened_holds : (one_text : (d e : Document) → IsDocument d → IsDocument e → print_doc d ≡ print_doc e → d ≡ e)
    → (m : Timeline) (text : List ℕ) (session : Session) → IsSnapshot m (top_of m) text → IsOpening text (top_of m) session → now_of session.machine ≡ now_of m
opened_holds one_text m text session snapshot opening =
    let same : opening.document ≡ snapshot_of snapshot.store =
    one_text opening.document (snapshot_of snapshot.store) opening.read.sound snapshot.sound (opening.read.printed ∙ snapshot.printed) in
    let look : Look = cell_in (store_of opening.document.store) in
    let none : top_of session.machine - top_of m ≡ 0 = omega (arith, opening.opened.top) in
    opening.opened.run.past (top_of session.machine) opening.opened.run.ordered (omega arith)
    ∙ ap (state look []) none
    ∙ ap (λ (d : Document). cell_in (store_of d.store)) same
    ∙ snapshot.holds
