-- A history that keeps only the newest version of each key after transactions.
use Rattle.std.proofs.Common.{◌≡◌, false, ℕ, ◌+◌, ◌<◌, ◌≤◌, ◌∙◌, List, [], ◌++◌, length, map, All, get_or, refl, sym, ap, subst, ⊎_elim, arith}
use Rattle.std.proofs.Common.{append-nil, append_assoc}
use Rattle.std.specs.List.{IsDistinct}
use Rattle.std.specs.Str.{bytes_eq}
use Rattle.std.proofs.lemmas.Bool.{cases_lt}
use Rattle.std.proofs.lemmas.List.Elements.{All-nil, All-weaker}
use Rattle.bohm_types.specs.Keys.{is_among}
use Rattle.bohm_log.specs.Parts.{name_at}
use Rattle.bohm_types.specs.Txn.{Txn}
use Rattle.bohm_store.specs.Writes.{IsRunnable}
use Rattle.bohm_txn.specs.Meaning.{Look}
use Rattle.bohm_store.specs.declared.version.Version.{Version}
use Rattle.bohm_store.specs.declared.numbered_write.NumberedWrite.{NumberedWrite}
use Rattle.bohm_store.specs.Versions.{Rises, kept_versions, past, produced_versions}
use Rattle.bohm_store.specs.Chains.{UpTo, newest_only, later_begins}
use Rattle.bohm_store.specs.Nexts.{Agree, IsSettledKept}
use Rattle.bohm_store.specs.Writes.{AreBelow, all_txn_writes, named_write, versions_by}
use Rattle.bohm_store.proofs.Entries.{keys_named}
use Rattle.bohm_store.proofs.NewestVersion.{All-kept}
use Rattle.bohm_store.proofs.NewestOnly.{kept_newest}
use Rattle.bohm_store.proofs.SettledHistory.{settled_low}
use Rattle.bohm_hints.specs.declared.held.Held.TheVariants.{Never}
use Rattle.bohm_store.specs.declared.older.Older.{Older}
use Rattle.bohm_store.specs.Held.{held_at}
use Rattle.bohm_store.specs.Numbered.{Numbered, IsNumbered, older_of, ends_of, timeline, versions_at}
use Rattle.bohm_store.proofs.Linked.{rises_held, single_at, as_many, newest_held}
use Rattle.bohm_store.proofs.NumberedWrites.{keyed_versions, none_past, unnamed_versions}
use Rattle.bohm_store.proofs.Grown.{made}
use Rattle.bohm_store.proofs.Kept.{by_key, grown_by_key, kept_settled}

module _ (names : List (List ℕ)) (base : Look) (txns : List Txn) (well : All IsRunnable txns) (some : 0 < length txns)
    (old new : Numbered) (ws : List NumberedWrite) (h : IsNumbered old) (apart : IsDistinct bytes_eq names)
    (agree : Agree txns base (past (timeline names old) old.top)) (below : AreBelow (length names) ws)
    (listed : map (named_write names) ws ≡ all_txn_writes (old.top + 1) base txns)
    (floor : new.floor ≡ old.top + length txns) (top : new.top ≡ old.top + length txns) (gone : new.older ≡ [])
    (done : (n : ℕ) → held_at new.newest n ≡ newest_only (held_at old.newest n ++ versions_by ws n)) where
  alone : (n : ℕ) → versions_at new n ≡ held_at new.newest n
  alone n = ap (λ (os : List Older). older_of os n ++ held_at new.newest n) gone

  -- older versions don't change which version is the newest
  newest_of : (n : ℕ) (ps : List Version) → newest_only (versions_at old n ++ ps) ≡ newest_only (held_at old.newest n ++ ps)
  newest_of n ps =
      ap newest_only (append_assoc (older_of old.older n) (held_at old.newest n) ps)
      ∙ newest_held (older_of old.older n) (held_at old.newest n) ps (ends_of old.older n) (h.linked n) (as_many old.older n)

  left : (n : ℕ) → versions_at new n ≡ newest_only (versions_at old n ++ versions_by ws n)
  left n = alone n ∙ done n ∙ sym (newest_of n (versions_by ws n))

  grown_up : (n : ℕ) (k : List ℕ)
      → UpTo (old.top + length txns) (versions_at old n ++ produced_versions (old.top + 1) (past (timeline names old) old.top) txns k)
  grown_up n k =
      settled_low old.top (past (timeline names old) old.top) txns k (versions_at old n)
      (versions_at old n ++ produced_versions (old.top + 1) (past (timeline names old) old.top) txns k) refl (h.low n)

  by_writes : (n : ℕ) → n < length names → versions_by ws n ≡ produced_versions (old.top + 1) (past (timeline names old) old.top) txns (name_at names n)
  by_writes n inside = sym (keyed_versions names ws n apart below inside) ∙ made names base txns well some old ws h apart agree below listed (name_at names n)

  pub grown : (n : ℕ) → n < length names
      → versions_at new n ≡ kept_versions (old.top + length txns)
      (versions_at old n ++ produced_versions (old.top + 1) (past (timeline names old) old.top) txns (name_at names n))
  grown n inside =
      left n
      ∙ ap (λ (xs : List Version). newest_only (versions_at old n ++ xs)) (by_writes n inside)
      ∙ sym (kept_newest (old.top + length txns)
      (versions_at old n ++ produced_versions (old.top + 1) (past (timeline names old) old.top) txns (name_at names n))
      (grown_up n (name_at names n)))

  up_to_end : (n : ℕ) → UpTo (old.top + length txns) (versions_at old n)
  up_to_end n =
      All-weaker (λ (v : Version). v.begin ≤ old.top) (λ (v : Version). v.begin ≤ old.top + length txns) (λ v l. omega arith)
      (versions_at old n) (h.low n)

  unnamed : (n : ℕ) → length names ≤ n → versions_at new n ≡ kept_versions (old.top + length txns) (versions_at old n)
  unnamed n out =
      left n
      ∙ ap (λ (xs : List Version). newest_only (versions_at old n ++ xs)) (none_past (length names) ws n below out)
      ∙ ap newest_only (append-nil (versions_at old n))
      ∙ sym (kept_newest (old.top + length txns) (versions_at old n) (up_to_end n))

  low_of : (n : ℕ) → UpTo (old.top + length txns) (versions_at new n)
  low_of n = ⊎_elim
      (λ lt. rw (grown n lt) (All-kept (λ (v : Version). v.begin ≤ old.top + length txns) (old.top + length txns)
      (versions_at old n ++ produced_versions (old.top + 1) (past (timeline names old) old.top) txns (name_at names n))
      (grown_up n (name_at names n))))
      (λ le. rw (unnamed n le) (All-kept (λ (v : Version). v.begin ≤ old.top + length txns) (old.top + length txns)
      (versions_at old n) (up_to_end n)))
      (cases_lt n (length names))

  rising_of : (n : ℕ) → Rises (versions_at new n)
  rising_of n = subst Rises (sym (alone n)) (rises_held (get_or new.newest n Never))

  numbered : IsNumbered new
  numbered = record {
    ordered = omega (arith, floor, top);
    low = λ n. rw top (low_of n);
    rising = rising_of;
    linked = λ n. ap later_begins (alone n) ∙ single_at new.newest n ∙ sym (ap (λ (os : List Older). ends_of os n) gone);
    climbs = rw gone tt;
    due = rw gone (All-nil (λ (o : Older). new.floor < o.end));
  }

  none_grown : (k : List ℕ) → is_among names k ≡ false
      → kept_versions (old.top + length txns) ([] ++ produced_versions (old.top + 1) (past (timeline names old) old.top) txns k) ≡ []
  none_grown k absent =
      let none : produced_versions (old.top + 1) (past (timeline names old) old.top) txns k ≡ [] =
      sym (made names base txns well some old ws h apart agree below listed k) ∙ unnamed_versions names ws k below absent in
      ap (λ (vs : List Version). kept_versions (old.top + length txns) ([] ++ vs)) none

  settled_kept : IsSettledKept (timeline names old) (timeline names new) txns (old.top + length txns)
  settled_kept = kept_settled (timeline names old) (timeline names new) txns (old.top + length txns) well
      (by_key names old (λ k vs. UpTo old.top vs) apart (λ n lt. h.low n) (λ k absent. All-nil (λ (v : Version). v.begin ≤ old.top)))
      (omega (arith, floor, h.ordered)) top
      (λ le. absurd (omega (arith, le, h.ordered, some)))
      (λ lt. grown_by_key names old new (λ k vs. kept_versions (old.top + length txns)
      (vs ++ produced_versions (old.top + 1) (past (timeline names old) old.top) txns k)) apart grown none_grown)
      (subst (λ (ks : List (List ℕ)). IsDistinct bytes_eq ks) (sym (keys_named (versions_at new) 0 names)) apart)

  -- the new history keeps the invariant and has settled the transactions
  pub settled : IsNumbered new × IsSettledKept (timeline names old) (timeline names new) txns (old.top + length txns)
  settled = (numbered, settled_kept)
