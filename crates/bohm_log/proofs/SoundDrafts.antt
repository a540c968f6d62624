-- Each step keeps a draft sound, and appending a sound transaction keeps a log sound.
use Rattle.std.proofs.Common.{◌≡◌, ℕ, ◌+◌, ◌<◌, Bool, List, [], ◌∷◌, ◌++◌, length, get_or, take, refl, ap, sym, ◌∙◌, subst}
use Rattle.std.proofs.lemmas.List.{take_more}
use Rattle.std.specs.List.{AllByRecursion}
use Rattle.bohm_types.specs.Term.{Atom}
use Rattle.bohm_types.specs.Stmt.{Stmt}
use Rattle.bohm_types.specs.Txn.{Txn}
use Rattle.bohm_types.specs.Sound.{IsName, IsTerm, IsStmt, IsTxn}
use Rattle.bohm_log.specs.Drafting.{Drafted, with_read, with_write, with_term, with_stmt}
use Rattle.bohm_log.specs.SoundLogs.{IsSoundDraft, AreTxns}
use Rattle.bohm_log.proofs.Lists.{each_push}

-- if the first i elements and the element at index i satisfy P, the first i + 1 elements do
pub taken_more : {A : Type 0} (P : A → Type 0) (xs : List A) (i : ℕ) (x : A) → i < length xs → x ≡ get_or xs i x → AllByRecursion P (take i xs) → P x
    → AllByRecursion P (take (i + 1) xs)
taken_more P xs i x inside is h one =
    subst (AllByRecursion P) (ap (λ y. take i xs ++ y ∷ []) is ∙ sym (take_more xs i x inside)) (each_push P (take i xs) x h one)

pub sound_read : (d : Drafted) (k : List ℕ) → IsSoundDraft d → IsName k → IsSoundDraft (with_read d k)
sound_read d k h name = record {
  txn = record { same = refl; reads = each_push IsName d.txn.reads k h.txn.reads name; writes = h.txn.writes; body = h.txn.body };
  done = h.done;
  latest = h.latest;
}

pub sound_write : (d : Drafted) (k : List ℕ) → IsSoundDraft d → IsName k → IsSoundDraft (with_write d k)
sound_write d k h name = record {
  txn = record { same = refl; reads = h.txn.reads; writes = each_push IsName d.txn.writes k h.txn.writes name; body = h.txn.body };
  done = h.done;
  latest = h.latest;
}

pub sound_term : (d : Drafted) (minus : Bool) (atom : Atom) → IsSoundDraft d → IsTerm (minus, atom) → IsSoundDraft (with_term d minus atom)
sound_term d minus atom h term = record { txn = h.txn; done = h.done; latest = each_push IsTerm d.latest (minus, atom) h.latest term }

pub sound_stmt : (d : Drafted) (s : Stmt) → IsSoundDraft d → IsStmt s → IsSoundDraft (with_stmt d s)
sound_stmt d s h stmt = record {
  txn = record { same = refl; reads = h.txn.reads; writes = h.txn.writes; body = each_push IsStmt d.txn.body s h.txn.body stmt };
  done = tt;
  latest = tt;
}

-- appending a sound transaction keeps all transactions sound
pub sound_log : (log : List Txn) (t : Txn) → AreTxns log → IsTxn t.edition t → AreTxns (log ++ t ∷ [])
sound_log log t h one = each_push (λ (x : Txn). IsTxn x.edition x) log t h one
