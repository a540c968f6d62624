-- The texts of a log's segments are the text of the log.
use Rattle.std.proofs.Common.{◌≡◌, ℕ, ℤ, ◌+◌, ◌++◌, List, [], ◌∷◌, length, length-append, append_assoc, append-nil, ap, sym, subst, ◌∙◌, arith}
use Rattle.std.proofs.Math.Seq.{take-length}
use Rattle.std.specs.Prelude.{take}
use Rattle.std.specs.FinMap.{entries}
use Rattle.bohm_types.specs.Txn.{Txn}
use Rattle.bohm_txn.specs.Meaning.{Look}
use Rattle.bohm_txn.specs.Serial.{replies}
use Rattle.bohm_txn.specs.Stores.{cell_in, store_after, store_of}
use Rattle.bohm_txn.proofs.ForCallers.{length-replies}
use Rattle.bohm_text.specs.Print.{print_answer, print_numbered, print_store}
use Rattle.bohm_text.proofs.ForCallers.{numbered-append}
use Rattle.bohm_apply.proofs.ForCallers.{store_then}
use Rattle.bohm_store.specs.Versions.{Timeline}
use Rattle.bohm_machine.specs.Machines.{HasRun, now_of}
use Rattle.bohm_machine.specs.Texts.{Run, GoesThrough, log_of, texts_of}
use Rattle.bohm_machine.proofs.GoingOn.{at_top, has_run_on, answers_on}

-- ---- segments after a log

pub went_through : (look : Look) (start : ℕ) (log : List Txn) (was now : Timeline) (runs : List Run) → HasRun look start log was → GoesThrough was runs now
    → HasRun look start (log ++ log_of runs) now
went_through look start log was now [] h e = rw (e, append-nil log) h
went_through look start log was now (r ∷ rs) h (mid, goes, more) =
    subst (λ (l : List Txn). HasRun look start l now) (append_assoc log r.txns (log_of rs))
    (went_through look start (log ++ r.txns) mid now rs (has_run_on look start log r.txns was mid r.replies goes h) more)

pub texts_joined : (look : Look) (start : ℕ) (log : List Txn) (was now : Timeline) (runs : List Run) → HasRun look start log was → GoesThrough was runs now
    → print_numbered 1 (replies look log) ++ texts_of (1 + length log) runs ≡ print_numbered 1 (replies look (log ++ log_of runs))
texts_joined look start log was now [] h e = append-nil (print_numbered 1 (replies look log))
    ∙ ap (λ (l : List Txn). print_numbered 1 (replies look l)) (sym (append-nil log))
texts_joined look start log was now (r ∷ rs) h (mid, goes, more) =
    let before = replies look log in
    let next = has_run_on look start log r.txns was mid r.replies goes h in
    let both : before ++ r.replies ≡ replies look (log ++ r.txns) = answers_on look start log r.txns was mid r.replies goes h in
    let long : length before ≡ length log = length-replies look log in
    let count : (1 + length log) + length r.replies ≡ 1 + length (log ++ r.txns) =
    omega (arith, length-append log r.txns, ap length goes.replies, length-replies (now_of was) r.txns) in
    let here : print_numbered 1 before ++ print_numbered (1 + length log) r.replies ≡ print_numbered 1 (replies look (log ++ r.txns)) =
    ap (λ (n : ℕ). print_numbered 1 before ++ print_numbered (1 + n) r.replies) (sym long) ∙ sym (numbered-append 1 before r.replies)
    ∙ ap (print_numbered 1) both in
    sym (append_assoc (print_numbered 1 before) (print_numbered (1 + length log) r.replies) (texts_of ((1 + length log) + length r.replies) rs))
    ∙ ap (λ (n : ℕ). (print_numbered 1 before ++ print_numbered (1 + length log) r.replies) ++ texts_of n rs) count
    ∙ ap (λ (text : List ℕ). text ++ texts_of (1 + length (log ++ r.txns)) rs) here
    ∙ texts_joined look start (log ++ r.txns) mid now rs next more
    ∙ ap (λ (l : List Txn). print_numbered 1 (replies look l)) (append_assoc log r.txns (log_of rs))

pub joined : (store : List (List ℕ × ℤ)) (opened now : Timeline) (runs : List Run) (listed : List (List ℕ × ℤ)) → HasRun
    (cell_in (store_of store)) 0 [] opened → GoesThrough opened runs now → cell_in (store_of listed) ≡ now_of now → listed ≡ entries (store_of listed)
    → texts_of 1 runs ++ print_store listed ≡ print_answer (replies (cell_in (store_of store)) (log_of runs))
    (entries (store_after (store_of store) (log_of runs)))
joined store opened now runs listed h through cells own =
    let look = cell_in (store_of store) in
    let log = log_of runs in
    let ran = went_through look 0 [] opened now runs h through in
    let last : listed ≡ entries (store_after (store_of store) (take (length log) log)) =
    store_then (store_of store) log (length log) listed (omega arith) (cells ∙ at_top look 0 log now ran) own in
    let whole : listed ≡ entries (store_after (store_of store) log) =
    last ∙ ap (λ (l : List Txn). entries (store_after (store_of store) l)) (take-length log) in
    let front : texts_of 1 runs ≡ print_numbered 1 (replies look log) = texts_joined look 0 [] opened now runs h through in
    ap (λ (text : List ℕ). text ++ print_store listed) front ∙ ap (λ (l : List (List ℕ × ℤ)). print_numbered 1 (replies look log) ++ print_store l) whole
