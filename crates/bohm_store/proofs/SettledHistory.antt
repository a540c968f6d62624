-- A history whose chains were extended by the versions that transactions produce.
use Rattle.std.proofs.Common.{◌≡◌, ℕ, ◌+◌, ◌-◌, ◌<◌, ◌≤◌, List, ◌++◌, length, max, All, sym, ap, ◌∙◌, arith}
use Rattle.std.proofs.lemmas.List.Elements.{All-weaker, All-append}
use Rattle.bohm_types.specs.declared.cell.Cell.TheVariants.{Absent}
use Rattle.bohm_types.specs.Txn.{Txn}
use Rattle.bohm_store.specs.Writes.{IsRunnable}
use Rattle.bohm_txn.specs.Meaning.{Look}
use Rattle.bohm_txn.specs.Serial.{state}
use Rattle.bohm_store.specs.declared.version.Version.{Version}
use Rattle.bohm_store.specs.Versions.{KeyedVersion}
use Rattle.bohm_store.specs.Versions.{Rises, Timeline, cell_at, kept_versions, past, produced_versions, total, versions}
use Rattle.bohm_store.specs.Chains.{UpTo, versions_of_writes}
use Rattle.bohm_store.specs.Nexts.{Agree, IsSettled, IsSettledKept}
use Rattle.bohm_store.specs.Writes.{all_txn_writes}
use Rattle.bohm_store.proofs.Past.{cell_at-above, cell_at-append, cell_at-up_to}
use Rattle.bohm_store.proofs.ProducedVersions.{Rises-append, produced_from, produced_up_to, produced_rises, produced_state, produced_same}
use Rattle.bohm_store.proofs.WrittenVersions.{made_written}

-- the writes give the versions that the transactions produce on any look that agrees on declared keys
pub made_produced : (u : ℕ) (look other : Look) (txns : List Txn) (ws : List KeyedVersion) (k : List ℕ) → All IsRunnable txns
    → Agree txns look other → ws ≡ all_txn_writes u look txns → versions_of_writes ws k ≡ produced_versions u other txns k
made_produced u look other txns ws k well same is =
    ap (λ (xs : List KeyedVersion). versions_of_writes xs k) is ∙ made_written u look txns k well ∙ produced_same u look other txns k well same

pub settled_low : (top : ℕ) (look : Look) (txns : List Txn) (k : List ℕ) (old new : List Version)
    → new ≡ old ++ produced_versions (top + 1) look txns k → UpTo top old → UpTo (top + length txns) new
settled_low top look txns k old new is low =
    rw is (All-append (λ (v : Version). v.begin ≤ top + length txns) old (produced_versions (top + 1) look txns k)
    (All-weaker (λ (v : Version). v.begin ≤ top) (λ (v : Version). v.begin ≤ top + length txns) (λ v l. omega arith) old low)
    (produced_up_to (top + length txns) (top + 1) look txns k (omega arith)))

pub settled_rises : (top : ℕ) (look : Look) (txns : List Txn) (k : List ℕ) (old new : List Version)
    → new ≡ old ++ produced_versions (top + 1) look txns k → UpTo top old → Rises old → Rises new
settled_rises top look txns k old new is low rises =
    rw is (Rises-append top old (produced_versions (top + 1) look txns k) rises (produced_rises (top + 1) look txns k) low
    (produced_from top (top + 1) look txns k (omega arith)))

pub settled_earlier : (top ts : ℕ) (look : Look) (txns : List Txn) (k : List ℕ) (old new : List Version)
    → new ≡ old ++ produced_versions (top + 1) look txns k → ts ≤ top → cell_at ts new Absent ≡ cell_at ts old Absent
settled_earlier top ts look txns k old new is le =
    rw is (cell_at-append ts old (produced_versions (top + 1) look txns k) Absent
    ∙ cell_at-above ts (produced_versions (top + 1) look txns k) (cell_at ts old Absent) (produced_from ts (top + 1) look txns k (omega arith)))

pub settled_later : (top ts : ℕ) (look : Look) (txns : List Txn) (k : List ℕ) (old new : List Version)
    → new ≡ old ++ produced_versions (top + 1) look txns k → UpTo top old → look k ≡ cell_at top old Absent → All IsRunnable txns
    → top ≤ ts → ts ≤ top + length txns → cell_at ts new Absent ≡ state look txns (ts - top) k
settled_later top ts look txns k old new is low at well from to =
    let here : cell_at ts old Absent ≡ look k = cell_at-up_to top ts old Absent low from ∙ sym at in
    rw is (cell_at-append ts old (produced_versions (top + 1) look txns k) Absent
    ∙ ap (cell_at ts (produced_versions (top + 1) look txns k)) here ∙ produced_state top ts look txns k well to from)

-- ---- the settled history, trimmed

pub settled_trimmed : (was mid now : Timeline) (txns : List Txn) (low : ℕ) → IsSettled was mid txns → now.floor ≡ max mid.floor low → now.top ≡ mid.top
    → (mid.floor < low → (k : List ℕ) → versions now k ≡ kept_versions low (versions mid k))
    → (low ≤ mid.floor → (k : List ℕ) → versions now k ≡ versions mid k)
    → total now.chains ≤ total mid.chains → ((ts : ℕ) → now.floor ≤ ts → past now ts ≡ past mid ts) → IsSettledKept was now txns low
settled_trimmed was mid now txns low h floor top less same few seen = record {
  floor = rw h.floor at floor;
  top = top ∙ h.top;
  unchanged = λ le k. same (omega (arith, le, h.floor)) k ∙ h.versions k;
  versions = λ lt k. less (omega (arith, lt, h.floor)) k ∙ ap (kept_versions low) (h.versions k);
  count = omega (arith, few, h.count);
  earlier = λ ts above below. seen ts above ∙ h.earlier ts below;
  later = λ ts above from below. seen ts above ∙ h.later ts from (omega (arith, below, top));
}
