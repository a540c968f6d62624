-- A history to which all versions that transactions produce were added.
use Rattle.std.proofs.Common.{◌≡◌, false, ℕ, ◌+◌, ◌<◌, ◌≤◌, ◌∙◌, List, [], ◌∷◌, ◌++◌, length, map, All, refl, sym, ap, subst, ⊎_elim, arith, append-nil}
use Rattle.std.specs.List.{IsDistinct}
use Rattle.std.specs.Str.{bytes_eq}
use Rattle.std.proofs.lemmas.Bool.{cases_lt}
use Rattle.std.proofs.lemmas.List.Elements.{All-nil, All-weaker}
use Rattle.bohm_types.specs.Keys.{is_among}
use Rattle.bohm_log.specs.Parts.{name_at}
use Rattle.bohm_types.specs.Txn.{Txn}
use Rattle.bohm_store.specs.Writes.{IsRunnable}
use Rattle.bohm_txn.specs.Meaning.{Look}
use Rattle.bohm_board.specs.declared.batch.Batch.{Batch}
use Rattle.bohm_board.specs.Batches.{first_of, base_of, txns_of}
use Rattle.bohm_store.specs.declared.version.Version.{Version}
use Rattle.bohm_store.specs.Versions.{KeyedVersion}
use Rattle.bohm_store.specs.Versions.{Rises, Timeline, past, produced_versions}
use Rattle.bohm_store.specs.Chains.{Climb, UpTo, versions_of_writes}
use Rattle.bohm_store.specs.Nexts.{Agree, IsNext, IsSettled}
use Rattle.bohm_store.specs.Writes.{all_txn_writes}
use Rattle.bohm_store.proofs.Advanced.{one_formed, one_listed}
use Rattle.bohm_store.proofs.Runnable.{all_runnable}
use Rattle.bohm_store.proofs.Entries.{keys_named}
use Rattle.bohm_store.proofs.SettledHistory.{made_produced, settled_low, settled_rises}
use Rattle.bohm_store.proofs.WrittenVersions.{written_climbs}
use Rattle.bohm_store.specs.declared.numbered_write.NumberedWrite.{NumberedWrite}
use Rattle.bohm_store.specs.Writes.{AreBelow, AreTxnWrites, AreWritesBehind, AreWritesOf, ClimbTo, named_write, versions_by}
use Rattle.bohm_store.specs.Numbered.{Numbered, IsNumbered, timeline, versions_at}
use Rattle.bohm_store.proofs.Kept.{by_key, grown_by_key, all_settled}
use Rattle.bohm_store.proofs.NumberedWrites.{keyed_versions, unnamed_versions, none_past, named_climb}

-- if a batch starts after the top, its writes begin at the timestamp after the top
listed_next : (b : Batch) (top : ℕ) (ws : List KeyedVersion) → first_of b ≡ top + 1 → ws ≡ all_txn_writes (first_of b) (base_of b) (txns_of b)
    → ws ≡ all_txn_writes (top + 1) (base_of b) (txns_of b)
listed_next b top ws first listed = listed ∙ ap (λ (u : ℕ). all_txn_writes u (base_of b) (txns_of b)) first

-- the writes of the next batch, or of the next transaction, are the writes after the history's top
pub batch_behind : (names : List (List ℕ)) (t : Timeline) (b : Batch) (ws : List NumberedWrite) → IsNext t b → AreWritesOf names b ws
    → AreWritesBehind names t (length (txns_of b)) (txns_of b) ws
batch_behind names t b ws next writes = record {
  many = refl;
  some = b.batched.some;
  formed = all_runnable (txns_of b) b.batched.formed;
  base = base_of b;
  agree = next.base;
  below = writes.below;
  listed = listed_next b t.top (map (named_write names) ws) next.first writes.listed;
}

pub txn_behind : (names : List (List ℕ)) (t : Timeline) (x : Txn) (ws : List NumberedWrite) → IsRunnable x
    → AreTxnWrites names (t.top + 1) (past t t.top) x ws → AreWritesBehind names t 1 (x ∷ []) ws
txn_behind names t x ws well writes = record {
  many = refl;
  some = omega arith;
  formed = one_formed x well;
  base = past t t.top;
  agree = λ k declared. refl;
  below = writes.below;
  listed = one_listed names (t.top + 1) (past t t.top) x ws writes;
}

module _ (names : List (List ℕ)) (base : Look) (txns : List Txn) (well : All IsRunnable txns) (some : 0 < length txns)
    (old : Numbered) (ws : List NumberedWrite) (h : IsNumbered old) (apart : IsDistinct bytes_eq names)
    (agree : Agree txns base (past (timeline names old) old.top)) (below : AreBelow (length names) ws)
    (listed : map (named_write names) ws ≡ all_txn_writes (old.top + 1) base txns) where
  pub made : (k : List ℕ)
      → versions_of_writes (map (named_write names) ws) k ≡ produced_versions (old.top + 1) (past (timeline names old) old.top) txns k
  made k =
      made_produced (old.top + 1) base (past (timeline names old) old.top) txns
      (map (named_write names) ws) k well agree listed

  pub climb : ClimbTo (old.top + 1) (old.top + length txns) ws
  climb =
      named_climb names (old.top + 1) (old.top + length txns) ws (subst
      (λ (xs : List KeyedVersion). Climb (old.top + 1) xs (old.top + length txns)) (sym listed)
      (written_climbs (old.top + 1) (old.top + 1) (old.top + length txns) base txns (omega arith) (omega arith) (omega arith)))

  module _ (new : Numbered) (floor : new.floor ≡ old.floor) (top : new.top ≡ old.top + length txns)
      (grew : (n : ℕ) → versions_at new n ≡ versions_at old n ++ versions_by ws n) where
    grown : (n : ℕ) → n < length names
        → versions_at new n ≡ versions_at old n ++ produced_versions (old.top + 1) (past (timeline names old) old.top) txns (name_at names n)
    grown n inside = grew n ∙ ap (λ (vs : List Version). versions_at old n ++ vs) (sym (keyed_versions names ws n apart below inside) ∙ made (name_at names n))

    stays : (n : ℕ) → length names ≤ n → versions_at new n ≡ versions_at old n
    stays n out = grew n ∙ ap (λ (vs : List Version). versions_at old n ++ vs) (none_past (length names) ws n below out) ∙ append-nil (versions_at old n)

    pub grown_low : (n : ℕ) → UpTo new.top (versions_at new n)
    grown_low n = rw top (⊎_elim
        (λ lt. settled_low old.top (past (timeline names old) old.top) txns (name_at names n) (versions_at old n) (versions_at new n)
        (grown n lt) (h.low n))
        (λ le. rw (stays n le) (All-weaker (λ (v : Version). v.begin ≤ old.top) (λ (v : Version). v.begin ≤ old.top + length txns)
        (λ v l. omega arith) (versions_at old n) (h.low n)))
        (cases_lt n (length names)))

    pub grown_rises : (n : ℕ) → Rises (versions_at new n)
    grown_rises n = ⊎_elim
        (λ lt. settled_rises old.top (past (timeline names old) old.top) txns (name_at names n) (versions_at old n)
        (versions_at new n) (grown n lt) (h.low n) (h.rising n))
        (λ le. rw (stays n le) (h.rising n))
        (cases_lt n (length names))

    none_grown : (k : List ℕ) → is_among names k ≡ false → [] ++ produced_versions (old.top + 1) (past (timeline names old) old.top) txns k ≡ []
    none_grown k absent = sym (made k) ∙ unnamed_versions names ws k below absent

    pub grown_settled : IsSettled (timeline names old) (timeline names new) txns
    grown_settled = all_settled (timeline names old) (timeline names new) txns well
        (by_key names old (λ k vs. UpTo old.top vs) apart (λ n lt. h.low n) (λ k absent. All-nil (λ (v : Version). v.begin ≤ old.top)))
        floor top
        (grown_by_key names old new (λ k vs. vs ++ produced_versions (old.top + 1) (past (timeline names old) old.top) txns k) apart grown none_grown)
        (subst (λ (ks : List (List ℕ)). IsDistinct bytes_eq ks) (sym (keys_named (versions_at new) 0 names)) apart)
