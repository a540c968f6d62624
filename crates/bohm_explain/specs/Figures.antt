-- The figures of a part, and of a log.
use Rattle.std.specs.Prelude.{ℕ, ◌≤◌, fold, ◌+◌, List, length, replicate, sum, sum_by, count_by}
use Rattle.bohm_types.specs.Txn.{Txn}
use Rattle.bohm_txn.specs.Sure.{is_sure}
use Rattle.bohm_place.specs.Chains.{greatest}
use Rattle.bohm_explain.specs.declared.figures.Figures.{Figures}
use Rattle.bohm_explain.specs.declared.figures.Totals.{Totals}
use Rattle.bohm_explain.specs.declared.parts.Part.{Part}
use Rattle.bohm_explain.specs.Heaviest.{heaviest_to}
use Rattle.bohm_explain.specs.Wanted.{arrows}
use Rattle.bohm_explain.specs.Weighing.{weights, declared_by}

-- each transaction weighs 1
abbrev pub alike : List Txn → List ℕ
alike txns = replicate (length txns) 1

-- the transactions on the longest chain of wanted versions that ends at each position
abbrev pub depths : List Txn → List ℕ
depths txns = heaviest_to (alike txns) (arrows txns)

abbrev pub figures_of : List Txn → Figures
figures_of txns = record {
  transactions = length txns;
  keys = sum_by declared_by txns;
  sure = count_by is_sure txns;
  taken = length (arrows txns);
  depth = greatest (depths txns);
  terms = sum (weights txns);
  heaviest = greatest (heaviest_to (weights txns) (arrows txns));
}

-- ---- of the whole log: parts run one after another, so their depths add up

abbrev pub nothing : Totals
nothing = record { transactions = 0; keys = 0; sure = 0; taken = 0; depth = 0; terms = 0; heaviest = 0 }

abbrev pub plus : Totals → Figures → Totals
plus t f = record {
  transactions = t.transactions + f.transactions;
  keys = t.keys + f.keys;
  sure = t.sure + f.sure;
  taken = t.taken + f.taken;
  depth = t.depth + f.depth;
  terms = t.terms + f.terms;
  heaviest = t.heaviest + f.heaviest;
}

abbrev pub totals_of : List Part → Totals
totals_of ps = fold (λ t p. plus t p.figures) nothing ps

-- none is above n
pub record AreAtMost (n : ℕ) (t : Totals) : Type 0 where
  pub transactions : t.transactions ≤ n
  pub keys : t.keys ≤ n
  pub sure : t.sure ≤ n
  pub taken : t.taken ≤ n
  pub depth : t.depth ≤ n
  pub terms : t.terms ≤ n
  pub heaviest : t.heaviest ≤ n

abbrev pub alone : Figures → Totals
alone f = record { transactions = f.transactions; keys = f.keys; sure = f.sure; taken = f.taken; depth = f.depth; terms = f.terms; heaviest = f.heaviest }
