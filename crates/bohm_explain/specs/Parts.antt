-- The parts of a log: what a run executes as one. Several workers share a window in batches, each of which is a part; another window runs on one thread, and is
-- one part unless it has more transactions than a batch may have.
use Rattle.std.specs.Prelude.{◌≡◌, ℕ, zero, suc, ◌+◌, ◌/◌, ◌%◌, ◌==◌, List, [], ◌∷◌, ◌++◌, length, replicate, flat_map, slice_index_or, if◌then◌else◌}
use Rattle.bohm_types.specs.Txn.{Txn}
use Rattle.bohm_types.specs.Limits.{largest_batch}
use Rattle.bohm_settings.specs.Given.{Given}
use Rattle.bohm_place.specs.Cuttings.{Cutting, first_at, txns_at}
use Rattle.bohm_read_ahead.specs.Sharing.{sharing_of}
use Rattle.bohm_read_ahead.specs.declared.checked_chunk.Sharing.{Sharing}
use Rattle.bohm_read_ahead.specs.declared.checked_chunk.Sharing.TheVariants.{OneWorker, NoTransactions, ShortBodies, Shared}
use Rattle.bohm_explain.specs.declared.parts.Part.{Part}
use Rattle.bohm_explain.specs.Figures.{figures_of}

-- the most transactions of a part of a window
abbrev pub size_for : Given → Sharing → ℕ
size_for given OneWorker = largest_batch
size_for given NoTransactions = largest_batch
size_for given ShortBodies = largest_batch
size_for given Shared = given.batch

-- a last part with what is left, if anything is
abbrev pub rest_of : ℕ → List ℕ
rest_of n = if n == 0 then [] else n ∷ []

-- sizes of n transactions in parts of this size, and of a last part
abbrev pub even : ℕ → ℕ → List ℕ
even size n = replicate (n / size) size ++ rest_of (n % size)

abbrev pub sizes_of : Given → List Txn → List ℕ
sizes_of given window = even (size_for given (sharing_of given window)) (length window)

-- how each part of a window runs: as the window
abbrev pub ways_of : Given → List Txn → List Sharing
ways_of given window = replicate (length (sizes_of given window)) (sharing_of given window)

abbrev pub together : List (List Txn) → List Txn
together windows = flat_map (λ w. w) windows

-- where the parts of these windows begin and end
abbrev pub cutting : Given → List (List Txn) → Cutting
cutting given windows = record { first = 1; log = together windows; sizes = flat_map (sizes_of given) windows }

abbrev pub ways : Given → List (List Txn) → List Sharing
ways given windows = flat_map (ways_of given) windows

-- the part at an index: its number, the place of its first transaction in the log, how it runs, and the figures of its transactions
abbrev pub part_at : Cutting → List Sharing → ℕ → Part
part_at c ways i = record {
  number = i + 1;
  first = first_at c i;
  sharing = slice_index_or ways i OneWorker;
  figures = figures_of (txns_at c i);
}

-- the first n parts
abbrev pub parts_below : Cutting → List Sharing → ℕ → List Part
parts_below c ways zero = []
parts_below c ways (suc n) = parts_below c ways n ++ part_at c ways n ∷ []

abbrev pub parts_in : Cutting → List Sharing → List Part
parts_in c ways = parts_below c ways (length c.sizes)

-- these windows are the log, and these are its parts' sizes, and how each runs
pub record AreCut (given : Given) (log : List Txn) (sizes : List ℕ) (how : List Sharing) : Type 0 where
  pub windows : List (List Txn)
  pub whole : together windows ≡ log
  pub sizes_are : sizes ≡ flat_map (sizes_of given) windows
  pub ways_are : how ≡ ways given windows
