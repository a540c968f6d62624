use Rattle.std.proofs.Common.{rules, refl}
use Rattle.bohm_ledger.proofs.Reading as lemma
use Rattle.bohm_ledger.proofs.load.load_batches.Goals as goal

pub rows-init : goal.rows-init
rows-init g c = record {
  live = search rules;
  small = search rules;
  reads = search rules;
  quiet = search rules;
  saved = search rules;
  state = λ clean. rw (c.in_ok-seek.ensures.ok clean, c.clear.ensures, lemma.from_no_key) refl;
  place = λ clean. rw (c.in_ok-seek.ensures.ok clean, c.clear.ensures, lemma.from_no_key) refl;
  fit = λ clean all. rw (c.in_ok-seek.ensures.ok clean, c.clear.ensures, lemma.from_no_key) all;
}
