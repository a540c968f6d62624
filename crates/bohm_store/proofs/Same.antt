-- A history that is the same under more names, or with room for more keys.
use Rattle.std.proofs.Common.{◌≡◌, ℕ, ◌+◌, ◌-◌, ◌≤◌, ◌∙◌, List, [], ◌++◌, length, take, drop, refl, sym, ap, arith, max}
use Rattle.std.proofs.lemmas.List.{length-take-le, take-append-drop}
use Rattle.bohm_types.specs.declared.cell.Cell.TheVariants.{Absent}
use Rattle.bohm_types.specs.Txn.{Txn}
use Rattle.bohm_txn.specs.Meaning.{Look}
use Rattle.bohm_txn.specs.Serial.{state}
use Rattle.bohm_log.specs.Parts.{Begins}
use Rattle.bohm_board.specs.declared.batch.Batch.{Batch}
use Rattle.bohm_store.specs.declared.version.Version.{Version}
use Rattle.bohm_store.specs.Versions.{Timeline, cell_at, kept_versions, past, produced_versions, total, versions}
use Rattle.bohm_store.specs.Nexts.{IsNext, IsSame, IsSettled, IsSettledKept, grown_versions}
use Rattle.bohm_store.specs.Numbered.{Numbered, named, timeline, versions_at}
use Rattle.bohm_store.proofs.Longer.{longer_names, longer_total}
use Rattle.bohm_store.proofs.Named.{mapped_versions}

-- ---- more names, and room for more keys

pub named_more : (h : Numbered) (names names' : List (List ℕ)) → length h.newest ≤ length names
    → ((n : ℕ) → length h.newest ≤ n → versions_at h n ≡ []) → Begins names names' → IsSame (timeline names h) (timeline names' h)
named_more h names names' long behind (more, is) = rw is (record {
  floor = refl;
  top = refl;
  versions = λ k. longer_names (versions_at h) (versions_at h) 0 names more k (λ n. refl) (λ n le. behind n (omega (arith, le, long)));
  count = longer_total (versions_at h) 0 names more (λ n le. behind n (omega (arith, le, long)));
})

pub covered_same : (names : List (List ℕ)) (old new : Numbered) → new.floor ≡ old.floor → new.top ≡ old.top
    → ((n : ℕ) → versions_at new n ≡ versions_at old n) → IsSame (timeline names old) (timeline names new)
covered_same names old new floor top same = record {
  floor = floor;
  top = top;
  versions = λ k. mapped_versions (versions_at new) (versions_at old) (λ (vs : List Version). vs) names k refl same;
  count = λ i. total (named (λ n. same n i) 0 names);
}

-- leaving out trailing names whose numbers have no versions doesn't change a key's versions
pub shorter : (h : Numbered) (names : List (List ℕ)) (m : ℕ) (k : List ℕ) → m ≤ length names → ((n : ℕ) → m ≤ n → versions_at h n ≡ [])
    → versions (timeline names h) k ≡ versions (timeline (take m names) h) k
shorter h names m k low behind =
    let whole : names ≡ take m names ++ drop m names = sym (take-append-drop m names) in
    let len : length (take m names) ≡ m = length-take-le m names low in
    ap (λ (ns : List (List ℕ)). versions (timeline ns h) k) whole
    ∙ longer_names (versions_at h) (versions_at h) 0 (take m names) (drop m names) k (λ n. refl) (λ n le. behind n (omega (arith, le, len)))

-- ---- properties that carry over to a history that is the same

pub same_past : (t r : Timeline) (ts : ℕ) → IsSame t r → past r ts ≡ past t ts
same_past t r ts h = (let each : (k : List ℕ) → _ = λ k. ap (λ (vs : List Version). cell_at ts vs Absent) (h.versions k) in λ i k. each k i)

pub same_top : (t r : Timeline) → IsSame t r → past r r.top ≡ past t t.top
same_top t r h = ap (λ (ts : ℕ). past r ts) h.top ∙ same_past t r t.top h

pub next_same : (t r : Timeline) (b : Batch) → IsSame t r → IsNext t b → IsNext r b
next_same t r b h next = record {
  first = next.first ∙ ap (λ (n : ℕ). n + 1) (sym h.top);
  base = λ k declared. next.base k declared ∙ ap (λ (look : Look). look k) (sym (same_top t r h));
}

grown_same : (t r : Timeline) (txns : List Txn) (k : List ℕ) → IsSame t r → grown_versions r txns k ≡ grown_versions t txns k
grown_same t r txns k h =
    ap (λ (vs : List Version). vs ++ produced_versions (r.top + 1) (past r r.top) txns k) (h.versions k)
    ∙ ap (λ (look : Look). versions t k ++ produced_versions (r.top + 1) look txns k) (same_top t r h)
    ∙ ap (λ (n : ℕ). versions t k ++ produced_versions (n + 1) (past t t.top) txns k) h.top

pub settled_same : (t r now : Timeline) (txns : List Txn) → IsSame t r → IsSettled r now txns → IsSettled t now txns
settled_same t r now txns h g = record {
  floor = g.floor ∙ h.floor;
  top = g.top ∙ ap (λ (n : ℕ). n + length txns) h.top;
  versions = λ k. g.versions k ∙ grown_same t r txns k h;
  count = omega (arith, g.count, h.count);
  earlier = λ ts le. g.earlier ts (omega (arith, le, h.top)) ∙ same_past t r ts h;
  later = λ ts from below. g.later ts (omega (arith, from, h.top)) below
      ∙ ap (λ (look : Look). state look txns (ts - r.top)) (same_top t r h)
      ∙ ap (λ (n : ℕ). state (past t t.top) txns (ts - n)) h.top;
}

pub kept_same : (t r now : Timeline) (txns : List Txn) (low : ℕ) → IsSame t r → IsSettledKept r now txns low → IsSettledKept t now txns low
kept_same t r now txns low h g = record {
  floor = g.floor ∙ ap (λ (n : ℕ). max n low) h.floor;
  top = g.top ∙ ap (λ (n : ℕ). n + length txns) h.top;
  unchanged = λ le k. g.unchanged (omega (arith, le, h.floor)) k ∙ grown_same t r txns k h;
  versions = λ lt k. g.versions (omega (arith, lt, h.floor)) k ∙ ap (kept_versions low) (grown_same t r txns k h);
  count = omega (arith, g.count, h.count);
  earlier = λ ts above le. g.earlier ts above (omega (arith, le, h.top)) ∙ same_past t r ts h;
  later = λ ts above from below. g.later ts above (omega (arith, from, h.top)) below
      ∙ ap (λ (look : Look). state look txns (ts - r.top)) (same_top t r h)
      ∙ ap (λ (n : ℕ). state (past t t.top) txns (ts - n)) h.top;
}
