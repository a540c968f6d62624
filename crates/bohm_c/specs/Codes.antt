-- How the logic encodes what a handle keeps.
use Rattle.std.specs.Prelude.{◌≡◌, ℕ, zero, suc, ℤ, List, Option, Some, None, Result, Ok, Err, refl}
use Rattle.std.specs.Coded.{Coded, code_by, coded×, coded_ℕ, coded_ℤ, coded_list, coded_option, coded_result}
use Rattle.bohm_types.specs.declared.cell.Cell.{Cell}
use Rattle.bohm_types.specs.declared.cell.Cell.TheVariants.{Absent, Present}
use Rattle.bohm_txn.specs.declared.outcome.Reason.{Reason}
use Rattle.bohm_txn.specs.declared.outcome.Reason.TheVariants.{Need, Fail, Absent as NoValue, Range}
use Rattle.bohm_txn.specs.declared.outcome.Reply.{Reply}
use Rattle.bohm_txn.specs.declared.outcome.Reply.TheVariants.{Commit, Abort}
use Rattle.bohm_store.specs.declared.version.Version.{Version}
use Rattle.bohm_store.specs.Versions.{Timeline}
use Rattle.bohm_c.specs.declared.session.Session.{Session}

-- ---- versions

abbrev value_of : Cell → Option ℤ
value_of Absent = None
value_of (Present z) = Some z

abbrev cell_of : Option ℤ → Cell
cell_of None = Absent
cell_of (Some z) = Present z

pub cell_back : (c : Cell) → cell_of (value_of c) ≡ c
cell_back Absent = refl
cell_back (Present z) = refl

abbrev cell_code : Coded Cell
cell_code = code_by (Option ℤ) (coded_option coded_ℤ) value_of cell_of cell_back

abbrev version_code : Coded Version
version_code = code_by (ℕ × Cell) (coded× coded_ℕ cell_code) (λ v. (v.begin, v.cell)) (λ p. record { begin = p.0; cell = p.1 }) (λ _. refl)

abbrev timeline_code : Coded Timeline
timeline_code = code_by (ℕ × (ℕ × List (List ℕ × List Version)))
    (coded× coded_ℕ (coded× coded_ℕ (coded_list (coded× (coded_list coded_ℕ) (coded_list version_code))))) (λ t. (t.floor, (t.top, t.chains)))
    (λ p. record { floor = p.0; top = p.1.0; chains = p.1.1 }) (λ _. refl)

-- ---- replies

abbrev number_of : Reason → ℕ
number_of Need = 0
number_of Fail = 1
number_of NoValue = 2
number_of Range = 3

abbrev reason_of : ℕ → Reason
reason_of zero = Need
reason_of (suc zero) = Fail
reason_of (suc (suc zero)) = NoValue
reason_of (suc (suc (suc n))) = Range

pub reason_back : (r : Reason) → reason_of (number_of r) ≡ r
reason_back Need = refl
reason_back Fail = refl
reason_back NoValue = refl
reason_back Range = refl

abbrev reason_code : Coded Reason
reason_code = code_by ℕ coded_ℕ number_of reason_of reason_back

abbrev parts_of : Reply → Result (List ℤ) (Reason × ℕ)
parts_of (Commit shows) = Ok shows
parts_of (Abort reason stmt) = Err (reason, stmt)

abbrev reply_of : Result (List ℤ) (Reason × ℕ) → Reply
reply_of (Ok shows) = Commit shows
reply_of (Err p) = Abort p.0 p.1

pub reply_back : (r : Reply) → reply_of (parts_of r) ≡ r
reply_back (Commit shows) = refl
reply_back (Abort reason stmt) = refl

abbrev reply_code : Coded Reply
reply_code = code_by (Result (List ℤ) (Reason × ℕ)) (coded_result (coded_list coded_ℤ) (coded× reason_code coded_ℕ)) parts_of reply_of reply_back

-- ---- what a handle keeps

abbrev pub keeper_code : Coded Session
keeper_code = code_by (Timeline × (List Reply × (ℕ × List (List ℕ))))
    (coded× timeline_code (coded× (coded_list reply_code) (coded× coded_ℕ (coded_list (coded_list coded_ℕ)))))
    (λ k. (k.machine, (k.waiting, (k.behind, k.single)))) (λ p. record { machine = p.0; waiting = p.1.0; behind = p.1.1.0; single = p.1.1.1 }) (λ _. refl)
