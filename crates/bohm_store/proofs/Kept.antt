-- A history continued by transactions, given the versions of each key.
use Rattle.std.proofs.Common.{◌≡◌, ℕ, ◌+◌, ◌<◌, ◌≤◌, ◌∙◌, false, List, [], length, max, All, refl, sym, ap, subst, ⊎_elim, arith}
use Rattle.std.specs.List.{IsDistinct}
use Rattle.std.specs.Map.{keys_of}
use Rattle.std.specs.Str.{bytes_eq}
use Rattle.std.proofs.lemmas.Bool.{cases_lt}
use Rattle.bohm_types.specs.declared.cell.Cell.TheVariants.{Absent}
use Rattle.bohm_types.specs.Txn.{Txn}
use Rattle.bohm_types.specs.Keys.{is_among}
use Rattle.bohm_log.specs.Parts.{name_at}
use Rattle.bohm_store.specs.Writes.{IsRunnable}
use Rattle.bohm_store.specs.declared.version.Version.{Version}
use Rattle.bohm_store.specs.Versions.{Timeline, cell_at, kept_versions, past, versions}
use Rattle.bohm_store.specs.Chains.{UpTo}
use Rattle.bohm_store.specs.Nexts.{IsSettled, IsSettledKept, grown_versions}
use Rattle.bohm_store.proofs.Bounds.{grown_count, kept_no_more, trimmed_no_more}
use Rattle.bohm_store.proofs.Past.{cell_at-kept}
use Rattle.bohm_store.proofs.SettledHistory.{settled_earlier, settled_later, settled_trimmed}
use Rattle.bohm_store.specs.Numbered.{Numbered, timeline, versions_at}
use Rattle.bohm_store.proofs.Names.{HasNumber, number_of, versions_named, versions_none}

-- a property of the versions by number holds for the versions by key
pub by_key : (names : List (List ℕ)) (h : Numbered) (P : List ℕ → List Version → Type 0) → IsDistinct bytes_eq names
    → ((n : ℕ) → n < length names → P (name_at names n) (versions_at h n)) → ((k : List ℕ) → is_among names k ≡ false → P k [])
    → (k : List ℕ) → P k (versions (timeline names h) k)
by_key names h P apart at none k = ⊎_elim
    (λ (x : HasNumber names k). subst (λ (j : List ℕ). P j (versions (timeline names h) j)) x.is (subst
    (λ (vs : List Version). P (name_at names x.number) vs) (sym (versions_named (versions_at h) names x.number apart x.inside))
    (at x.number x.inside)))
    (λ absent. subst (λ (vs : List Version). P k vs) (sym (versions_none (versions_at h) names k absent)) (none k absent))
    (number_of names k)

pub grown_by_key : (names : List (List ℕ)) (old new : Numbered) (f : List ℕ → List Version → List Version) → IsDistinct bytes_eq names
    → ((n : ℕ) → n < length names → versions_at new n ≡ f (name_at names n) (versions_at old n))
    → ((k : List ℕ) → is_among names k ≡ false → f k [] ≡ []) → (k : List ℕ)
    → versions (timeline names new) k ≡ f k (versions (timeline names old) k)
grown_by_key names old new f apart at none k = ⊎_elim
    (λ (x : HasNumber names k). subst (λ (j : List ℕ). versions (timeline names new) j ≡ f j (versions (timeline names old) j)) x.is
    (versions_named (versions_at new) names x.number apart x.inside ∙ at x.number x.inside
    ∙ ap (f (name_at names x.number)) (sym (versions_named (versions_at old) names x.number apart x.inside))))
    (λ absent. versions_none (versions_at new) names k absent ∙ sym (none k absent) ∙ ap (f k) (sym (versions_none (versions_at old) names k absent)))
    (number_of names k)

module _ (was now : Timeline) (txns : List Txn) (low : ℕ) (well : All IsRunnable txns)
    (up : (k : List ℕ) → UpTo was.top (versions was k)) (floor : now.floor ≡ max was.floor low) (top : now.top ≡ was.top + length txns)
    (all : low ≤ was.floor → (k : List ℕ) → versions now k ≡ grown_versions was txns k)
    (kept : was.floor < low → (k : List ℕ) → versions now k ≡ kept_versions low (grown_versions was txns k))
    (apart : IsDistinct bytes_eq (keys_of now.chains)) where
  seen : (ts : ℕ) → now.floor ≤ ts → (k : List ℕ) → cell_at ts (versions now k) Absent ≡ cell_at ts (grown_versions was txns k) Absent
  seen ts above k = ⊎_elim
      (λ lt. ap (λ vs. cell_at ts vs Absent) (kept lt k) ∙ cell_at-kept low ts (grown_versions was txns k) Absent (omega (arith, above, floor)))
      (λ le. ap (λ vs. cell_at ts vs Absent) (all le k))
      (cases_lt was.floor low)

  few : (k : List ℕ) → length (versions now k) ≤ length (grown_versions was txns k)
  few k = ⊎_elim
      (λ lt. let is = kept lt k in rw is (kept_no_more low (grown_versions was txns k)))
      (λ le. let is = all le k in rw is (omega arith))
      (cases_lt was.floor low)

  pub kept_settled : IsSettledKept was now txns low
  kept_settled = record {
    floor = floor;
    top = top;
    unchanged = all;
    versions = kept;
    count = grown_count was now txns apart few;
    earlier =
        λ ts above below. (let same : (k : List ℕ) → _ = λ k. seen ts above k
        ∙ settled_earlier was.top ts (past was was.top) txns k (versions was k) (grown_versions was txns k) refl below in λ i k. same k i);
    later =
        λ ts above from below. (let same : (k : List ℕ) → _ = λ k. seen ts above k ∙ settled_later was.top ts (past was was.top) txns k
        (versions was k) (grown_versions was txns k) refl (up k) refl well from (omega (arith, below, top)) in λ i k. same k i);
  }

-- as `kept_settled`, with all versions kept
pub all_settled : (was now : Timeline) (txns : List Txn) → All IsRunnable txns → ((k : List ℕ) → UpTo was.top (versions was k))
    → now.floor ≡ was.floor → now.top ≡ was.top + length txns → ((k : List ℕ) → versions now k ≡ grown_versions was txns k)
    → IsDistinct bytes_eq (keys_of now.chains) → IsSettled was now txns
all_settled was now txns well up floor top all apart = record {
  floor = floor;
  top = top;
  versions = all;
  count = grown_count was now txns apart (λ k. let is = all k in rw is (omega arith));
  earlier =
      λ ts below. (let same : (k : List ℕ) → _ = λ k. ap (λ vs. cell_at ts vs Absent) (all k)
      ∙ settled_earlier was.top ts (past was was.top) txns k (versions was k) (grown_versions was txns k) refl below in λ i k. same k i);
  later =
      λ ts from below. (let same : (k : List ℕ) → _ = λ k. ap (λ vs. cell_at ts vs Absent) (all k) ∙ settled_later was.top ts
      (past was was.top) txns k (versions was k) (grown_versions was txns k) refl (up k) refl well from
      (omega (arith, below, top)) in λ i k. same k i);
}

-- a history that settled the transactions and was then trimmed at a floor
module _ (names : List (List ℕ)) (was : Timeline) (mid new : Numbered) (txns : List Txn) (low : ℕ) (apart : IsDistinct bytes_eq names)
    (h : IsSettled was (timeline names mid) txns) (floor : new.floor ≡ max mid.floor low) (top : new.top ≡ mid.top)
    (less : mid.floor < low → (n : ℕ) → versions_at new n ≡ kept_versions low (versions_at mid n))
    (same : low ≤ mid.floor → (n : ℕ) → versions_at new n ≡ versions_at mid n) where
  less_by_key : mid.floor < low → (k : List ℕ) → versions (timeline names new) k ≡ kept_versions low (versions (timeline names mid) k)
  less_by_key lt = grown_by_key names mid new (λ k vs. kept_versions low vs) apart (λ n inside. less lt n) (λ k absent. refl)

  same_by_key : low ≤ mid.floor → (k : List ℕ) → versions (timeline names new) k ≡ versions (timeline names mid) k
  same_by_key le = grown_by_key names mid new (λ k vs. vs) apart (λ n inside. same le n) (λ k absent. refl)

  seen_by_key : (ts : ℕ) → new.floor ≤ ts → (k : List ℕ)
      → cell_at ts (versions (timeline names new) k) Absent ≡ cell_at ts (versions (timeline names mid) k) Absent
  seen_by_key ts above k = ⊎_elim
      (λ lt. ap (λ vs. cell_at ts vs Absent) (less_by_key lt k) ∙ cell_at-kept low ts (versions (timeline names mid) k) Absent (omega (arith, above, floor)))
      (λ le. ap (λ vs. cell_at ts vs Absent) (same_by_key le k))
      (cases_lt mid.floor low)

  pub trim_settled : IsSettledKept was (timeline names new) txns low
  trim_settled =
      settled_trimmed was (timeline names mid) (timeline names new) txns low h floor top less_by_key same_by_key
      (trimmed_no_more (versions_at new) (versions_at mid) mid.floor low names less same)
      (λ ts above. (let each : (k : List ℕ) → _ = λ k. seen_by_key ts above k in λ i k. each k i))

-- ---- the cell of a key that was looked up

pub past_named : (names : List (List ℕ)) (h : Numbered) (ts n : ℕ) (k : List ℕ) → IsDistinct bytes_eq names → n < length names
    → name_at names n ≡ k → past (timeline names h) ts k ≡ cell_at ts (versions_at h n) Absent
past_named names h ts n k apart inside is =
    ap (λ (j : List ℕ). past (timeline names h) ts j) (sym is)
    ∙ ap (λ (vs : List Version). cell_at ts vs Absent) (versions_named (versions_at h) names n apart inside)

pub past_unnamed : (names : List (List ℕ)) (h : Numbered) (ts : ℕ) (k : List ℕ) → is_among names k ≡ false → past (timeline names h) ts k ≡ Absent
past_unnamed names h ts k absent = ap (λ (vs : List Version). cell_at ts vs Absent) (versions_none (versions_at h) names k absent)
