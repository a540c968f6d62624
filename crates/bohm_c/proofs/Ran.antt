-- A segment has as many replies as it ran transactions.
use Rattle.std.proofs.Common.{◌≡◌, ◌≤◌, List, ap, ◌∙◌, length, length-take, take, arith}
use Rattle.bohm_types.specs.Txn.{Txn}
use Rattle.bohm_txn.specs.declared.outcome.Reply.{Reply}
use Rattle.bohm_txn.specs.Meaning.{Look}
use Rattle.bohm_txn.specs.Serial.{replies}
use Rattle.bohm_txn.proofs.ForCallers.{length-replies}

pub no_more : (look : Look) (log : List Txn) (a : List Reply) → a ≡ replies look (take (length a) log) → length a ≤ length log
no_more look log a is =
    let many : length a ≡ length (take (length a) log) = ap length is ∙ length-replies look (take (length a) log) in
    omega (arith, many, length-take (length a) log)
