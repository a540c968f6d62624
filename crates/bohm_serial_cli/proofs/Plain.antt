-- A run with the default settings prints the store after the whole log, which is always readable.
use Rattle.std.proofs.Common.{◌≡◌, ap, arith}
use Rattle.std.specs.FinMap.{entries}
use Rattle.std.proofs.Math.Seq.{take-length}
use Rattle.bohm_types.specs.Document.{Document}
use Rattle.bohm_text.specs.Print.{print_answer}
use Rattle.bohm_txn.specs.Serial.{replies}
use Rattle.bohm_txn.specs.Stores.{cell_in, store_after, store_of}
use Rattle.bohm_settings.specs.Given.{defaults}
use Rattle.bohm_run.specs.Headline.{IsReadable, answer_of, time_of}

pub readable : (d : Document) → IsReadable defaults d
readable d = record { there = omega arith; kept = omega arith }

pub all_of_it : (d : Document) → answer_of d (time_of defaults d) ≡ print_answer (replies (cell_in (store_of d.store)) d.log)
    (entries (store_after (store_of d.store) d.log))
all_of_it d = ap (λ ts. print_answer (replies (cell_in (store_of d.store)) d.log) (entries (store_after (store_of d.store) ts))) (take-length d.log)
