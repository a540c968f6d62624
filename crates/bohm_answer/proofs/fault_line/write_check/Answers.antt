use Rattle.std.proofs.Common.{◌≡◌, ℕ, List, ◌++◌, codes, OnErr, OnOk, ap, subst}
use Rattle.std.specs.Io.KnownBytes.{Appends}
use Rattle.std.proofs.KnownBytes.{Appends-trans}
use Rattle.bohm_answer.specs.FaultLine.{AppendsFront, kind_word, spaced_decimal}
use Rattle.bohm_answer.proofs.Fronts.{behind, then_err, then_ok, wider}
use Rattle.bohm_answer.proofs.fault_line.write_check.Goals as goal
use Rattle.bohm_log.proofs.ForCallers.{on_err}

abbrev head : List ℕ
head = codes "refused: check "

pub returns-in_err-write_bytes-clause-err : goal.returns-in_err-write_bytes-clause-err
returns-in_err-write_bytes-clause-err g c =
    let f = c.args.fault.now in
    on_err c.from_residual.result (wider _ _ head (kind_word f.kind ++ spaced_decimal f.txn ++ spaced_decimal f.stmt) c.in_err-write_bytes.ensures.err)

pub returns-in_err-write_numbered-clause-err : goal.returns-in_err-write_numbered-clause-err
returns-in_err-write_numbered-clause-err g c =
    let f = c.args.fault.now in
    let word : c.as_bytes.result.now ≡ kind_word f.kind = cc (c.as_bytes.ensures.value, c.word_of.ensures) in
    let txn : spaced_decimal c.from.result ≡ spaced_decimal f.txn = ap spaced_decimal c.from.ensures in
    let same : c.as_bytes.result.now ++ spaced_decimal c.from.result ≡ kind_word f.kind ++ spaced_decimal f.txn = cc (word, txn) in
    let second = subst (AppendsFront (g.W.Write.contents c.write_bytes.new.writer) (g.W.Write.contents c.write_numbered.new.writer)) same
    c.in_err-write_numbered.ensures.err in
    let both = behind _ _ _ head (kind_word f.kind ++ spaced_decimal f.txn) c.in_ok-write_bytes.ensures.ok second in
    on_err c.from_residual-in_err-write_numbered.result (wider _ _ (head ++ (kind_word f.kind ++ spaced_decimal f.txn)) (spaced_decimal f.stmt) both)

pub returns : goal.returns
returns g c =
    let f = c.args.fault.now in
    let word : c.as_bytes.result.now ≡ kind_word f.kind = cc (c.as_bytes.ensures.value, c.word_of.ensures) in
    let txn : spaced_decimal c.from.result ≡ spaced_decimal f.txn = ap spaced_decimal c.from.ensures in
    let same : c.as_bytes.result.now ++ spaced_decimal c.from.result ≡ kind_word f.kind ++ spaced_decimal f.txn = cc (word, txn) in
    let second = subst (Appends (g.W.Write.contents c.write_bytes.new.writer) (g.W.Write.contents c.write_numbered.new.writer)) same
    c.in_ok-write_numbered.ensures.ok in
    let both = Appends-trans _ _ _ head (kind_word f.kind ++ spaced_decimal f.txn) c.in_ok-write_bytes.ensures.ok second in
    let stmt : spaced_decimal c.from-2.result ≡ spaced_decimal f.stmt = ap spaced_decimal c.from-2.ensures in
    let third = subst
    (λ (bs : List ℕ). OnOk c.write_spaced.result
    (Appends (g.W.Write.contents c.write_numbered.new.writer) (g.W.Write.contents c.write_spaced.new.writer) bs)) stmt c.write_spaced.ensures.ok in
    let fourth = subst
    (λ (bs : List ℕ). OnErr c.write_spaced.result
    (AppendsFront (g.W.Write.contents c.write_numbered.new.writer) (g.W.Write.contents c.write_spaced.new.writer) bs)) stmt c.write_spaced.ensures.err in
    record {
      ok = then_ok _ _ _ (head ++ (kind_word f.kind ++ spaced_decimal f.txn)) (spaced_decimal f.stmt) both c.write_spaced.result third;
      err = then_err _ _ _ (head ++ (kind_word f.kind ++ spaced_decimal f.txn)) (spaced_decimal f.stmt) both c.write_spaced.result fourth;
    }
