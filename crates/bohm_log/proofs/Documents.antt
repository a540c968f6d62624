-- Documents hold only values that the program's types can hold.
use Rattle.std.proofs.Common.{◌≡◌, ℕ, true, List, [], ◌∷◌, refl}
use Rattle.std.specs.Prelude.{ℤ, IsTrue}
use Rattle.std.specs.List.{AllByRecursion, list_all}
use Rattle.std.proofs.lemmas.Bool.{and_parts}
use Rattle.bohm_types.specs.declared.edition.Edition.{Edition}
use Rattle.bohm_types.specs.declared.edition.Edition.TheVariants.{One, Two}
use Rattle.bohm_types.specs.Document.{same_edition, in_edition}
use Rattle.bohm_types.specs.Sound.{IsEntry, IsTxn, IsDocument}
use Rattle.bohm_types.specs.Txn.{Txn}
use Rattle.bohm_log.specs.SoundLogs.{AreTxns}

same_is : (a b : Edition) → same_edition a b ≡ true → a ≡ b
same_is One One e = refl
same_is One Two e = absurd cc
same_is Two One e = absurd cc
same_is Two Two e = refl

txns_in : (edition : Edition) (log : List Txn) → list_all (in_edition edition) log ≡ true → AreTxns log → AllByRecursion (IsTxn edition) log
txns_in edition [] all h = tt
txns_in edition (t ∷ ts) all h =
    let here = and_parts (in_edition edition t) (list_all (in_edition edition) ts) all in
    let same : t.edition ≡ edition = same_is t.edition edition here.0 in (
      record { same = same; reads = h.0.reads; writes = h.0.writes; body = h.0.body },
      txns_in edition ts here.1 h.1,
    )

-- sound entries and sound transactions of one edition make a sound document
pub is_document : (edition : Edition) (store : List (List ℕ × ℤ)) (log : List Txn) → AllByRecursion IsEntry store → IsTrue (list_all (in_edition edition) log)
    → AreTxns log → IsDocument (record { edition = edition; store = store; log = log })
is_document edition store log entries all h = record { store = entries; log = txns_in edition log all h }
