-- The list of the writes of transactions that run one after another, by keys and by the numbers of keys.
use Rattle.std.specs.Prelude.{◌≡◌, ℕ, ◌+◌, ◌-◌, ◌*◌, ◌<◌, ◌≤◌, ◌==◌, nat_lt, List, [], ◌∷◌, ◌++◌, length, map, take, drop}
use Rattle.std.specs.Prelude.{All, Some, slice_index, slice_index_or, if◌then◌else◌}
use Rattle.std.specs.Map.{keys_of}
use Rattle.bohm_types.specs.declared.cell.Cell.{Cell}
use Rattle.bohm_types.specs.Txn.{Txn}
use Rattle.bohm_txn.specs.Declares.{IsUsable}
use Rattle.bohm_txn.specs.Meaning.{Look}
use Rattle.bohm_txn.specs.Serial.{after, state}
use Rattle.bohm_log.specs.Parts.{name_at}
use Rattle.bohm_place.specs.Shares.{AreDistinct}
use Rattle.bohm_board.specs.declared.batch.Batch.{Batch}
use Rattle.bohm_board.specs.Batches.{base_of, first_of, txn_at, txns_of}
use Rattle.bohm_store.specs.declared.version.Version.{Version}
use Rattle.bohm_store.specs.declared.numbered_write.NumberedWrite.{NumberedWrite}
use Rattle.bohm_store.specs.declared.listed_writes.FreshKey.{FreshKey}
use Rattle.bohm_store.specs.declared.listed_writes.ListedWrites.{ListedWrites}
use Rattle.bohm_store.specs.declared.writes.Writes.{Writes}
use Rattle.bohm_store.specs.declared.writes.Writes.TheVariants.{Listed, Begun}
use Rattle.bohm_store.specs.Versions.{KeyedVersion, Timeline, past}
use Rattle.bohm_store.specs.Nexts.{Agree, IsNext}
use Rattle.bohm_types.specs.Limits.{most_keys}

-- the writes of the transaction at u, which leaves this look
abbrev pub txn_writes : ℕ → Look → List (List ℕ) → List KeyedVersion
txn_writes u look [] = []
txn_writes u look (k ∷ ks) = record { begin = u; key = k; cell = look k } ∷ txn_writes u look ks

-- the writes of transactions, the first of which is at u and sees this look
abbrev pub all_txn_writes : ℕ → Look → List Txn → List KeyedVersion
all_txn_writes u look [] = []
all_txn_writes u look (t ∷ ts) = txn_writes u (after look t) t.writes ++ all_txn_writes (u + 1) (after look t) ts

-- the transaction with the timestamp t declares to write these keys
abbrev pub IsTxnWriting : Batch → ℕ → List (List ℕ) → Type 0
IsTxnWriting b t keys = (x : Txn) × (txn_at b t ≡ Some x) × (x.writes ≡ keys) × (length keys ≤ most_keys)

-- ---- by the numbers of keys

-- a write with its key instead of the number
abbrev pub named_write : List (List ℕ) → NumberedWrite → KeyedVersion
named_write names w = record { begin = w.version.begin; key = name_at names w.number; cell = w.version.cell }

-- the versions that the writes give the key with this number
abbrev pub versions_by : List NumberedWrite → ℕ → List Version
versions_by [] n = []
versions_by (w ∷ ws) n = (if (w.number == n) then w.version ∷ [] else []) ++ versions_by ws n

-- each begins at or above the one before, the first at or above n, and none above the top
abbrev pub ClimbTo : ℕ → ℕ → List NumberedWrite → Type 0
ClimbTo n top [] = n ≤ top
ClimbTo n top (w ∷ ws) = (n ≤ w.version.begin) × ClimbTo w.version.begin top ws

-- each number is below this count of keys
abbrev pub AreBelow : ℕ → List NumberedWrite → Type 0
AreBelow count ws = All (λ w. w.number < count) ws

-- under these names the keys have these numbers
pub record AreNumbersOf (names : List (List ℕ)) (numbers : List ℕ) (keys : List (List ℕ)) : Type 0 where
  pub below : All (λ n. n < length names) numbers
  pub named : map (name_at names) numbers ≡ keys

-- a version of each number that begins at u, with its cell
abbrev pub writes_by : ℕ → List ℕ → List Cell → List NumberedWrite
writes_by u [] cells = []
writes_by u (n ∷ ns) [] = []
writes_by u (n ∷ ns) (c ∷ cs) = record { number = n; version = record { begin = u; cell = c } } ∷ writes_by u ns cs

-- all writes of the sequence
abbrev pub listed_in : Writes → List NumberedWrite
listed_in (Listed ws) = ws.now
listed_in (Begun u ns cs) = writes_by u ns.now cs.now

-- under these names they are the writes of the transaction at u, which sees this look
pub record AreTxnWrites (names : List (List ℕ)) (u : ℕ) (look : Look) (t : Txn) (ws : List NumberedWrite) : Type 0 where
  pub below : AreBelow (length names) ws
  pub listed : map (named_write names) ws ≡ txn_writes u (after look t) t.writes

-- the transaction is within the limits, reads and writes declared keys alone, and declares each write once, in any order
pub record IsRunnable (t : Txn) : Type 0 where
  pub usable : IsUsable t
  pub apart : AreDistinct t.writes

-- under these names they are the writes of this many transactions after the top of a history, in log order
pub record AreWritesBehind (names : List (List ℕ)) (t : Timeline) (count : ℕ) (txns : List Txn) (ws : List NumberedWrite) : Type 0 where
  pub many : length txns ≡ count
  pub some : 0 < count
  pub formed : All IsRunnable txns
  pub base : Look
  pub agree : Agree txns base (past t t.top)
  pub below : AreBelow (length names) ws
  pub listed : map (named_write names) ws ≡ all_txn_writes (t.top + 1) base txns

-- ---- the writes of a part of a batch, some of whose keys have no number yet

-- the names, and behind them the keys without a number
abbrev pub names_with : List (List ℕ) → List FreshKey → List (List ℕ)
names_with names fresh = names ++ map (λ f. f.key) fresh

-- they are the writes of these transactions, the first of which is at u and sees this look
pub record AreListed (names : List (List ℕ)) (u : ℕ) (look : Look) (txns : List Txn) (l : ListedWrites) : Type 0 where
  pub below : AreBelow (length (names_with names l.fresh.items)) l.writes.items
  pub listed : map (named_write (names_with names l.fresh.items)) l.writes.items ≡ all_txn_writes u look txns

-- they are the writes of at most `count` transactions of the batch, from the one at an index on
abbrev pub AreListedFrom : List (List ℕ) → Batch → ℕ → ℕ → ListedWrites → Type 0
AreListedFrom names b from count = AreListed names (first_of b + from) (state (base_of b) (txns_of b) from) (take count (drop from (txns_of b)))

-- together they are the writes of the batch: each has those of as many transactions, the last one of those that are left
pub record AreShares (names : List (List ℕ)) (b : Batch) (shares : List ListedWrites) : Type 0 where
  pub size : ℕ
  pub each : (i : ℕ) (d : ListedWrites) → i < length shares → AreListedFrom names b (i * size) size (slice_index_or shares i d)
  pub whole : length (txns_of b) ≤ length shares * size

-- the number of a key that was counted as if it followed `known` names: one of these numbers
abbrev pub number_by : ℕ → List ℕ → ℕ → ℕ
number_by known numbers n = if nat_lt n known then n else slice_index numbers (n - known)

abbrev pub with_number : ℕ → List ℕ → NumberedWrite → NumberedWrite
with_number known numbers w = record { number = number_by known numbers w.number; version = w.version }

-- under these names they are the writes of the batch, in log order
pub record AreWritesOf (names : List (List ℕ)) (b : Batch) (ws : List NumberedWrite) : Type 0 where
  pub below : AreBelow (length names) ws
  pub listed : map (named_write names) ws ≡ all_txn_writes (first_of b) (base_of b) (txns_of b)

-- the batch with this many transactions follows the history, and under these names they are its writes
pub record AreNextWrites (names : List (List ℕ)) (t : Timeline) (b : Batch) (count : ℕ) (ws : List NumberedWrite) : Type 0 where
  pub next : IsNext t b
  pub many : length (txns_of b) ≡ count
  pub writes : AreWritesOf names b ws

-- the batch with this many transactions follows the history, and together they are its writes
pub record AreNextShares (t : Timeline) (b : Batch) (count : ℕ) (shares : List ListedWrites) : Type 0 where
  pub next : IsNext t b
  pub many : length (txns_of b) ≡ count
  pub parts : AreShares (keys_of t.chains) b shares
