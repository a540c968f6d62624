-- The result of a worker that has only its own parts, restated for all parts.
use Rattle.std.proofs.Common.{◌≡◌, ℕ, ◌<◌, Bool, true, false, List, [], ◌++◌, All, length, slice_get, Some, refl, sym, subst, ap, ◌∙◌, if◌then◌else◌}
use Rattle.bohm_types.specs.Txn.{Txn}
use Rattle.bohm_txn.proofs.ForCallers.{rising_writes}
use Rattle.bohm_place.specs.declared.placeholder.Placeholder.{Placeholder}
use Rattle.bohm_place.specs.Chains.{Keyed, placeholders_in, chain_in, begins, none}
use Rattle.bohm_place.specs.Shares.{AreWellFormed, AreDistinct, keys_of, placeholders_made, newest_ahead, HasPartsOf, CanPlace, IsFoundIn, IsFoundInAll}
use Rattle.bohm_place.proofs.Distinct.{AreDistinct-rising}
use Rattle.bohm_place.proofs.Found.{found_same}
use Rattle.bohm_place.proofs.NewestCell.{formed_at}

module _ (part : List ℕ → ℕ) (n first : ℕ) (all own : List Keyed) (w : ℕ) (is : HasPartsOf n w all own) (inside : (k : List ℕ) → part k < length all) where
  held : (k : List ℕ) → keys_of part n w k ≡ true → placeholders_in part own k ≡ placeholders_in part all k
  held k mine = let here = is (part k) (inside k) mine in rw here refl

  -- a worker can plan with its own parts if the begins in all parts are below the first timestamp of the batch
  pub can_place : (count : ℕ) → length all ≡ count → length own ≡ length all → ((k : List ℕ) → All (λ b. b < first) (chain_in part all k))
      → CanPlace part count n w first own
  can_place count counted long earlier = record {
    parts = long ∙ counted;
    earlier = λ k mine. subst (λ (vs : List Placeholder). All (λ b. b < first) (begins vs)) (sym (held k mine)) (earlier k);
  }

module _ (part : List ℕ → ℕ) (n first : ℕ) (txns : List Txn) (all own left : List Keyed) (w : ℕ) where
  masked : HasPartsOf n w all own → ((k : List ℕ) → part k < length all) → (done : List Txn) (k : List ℕ) (b : Bool) → keys_of part n w k ≡ b
      → (if keys_of part n w k then newest_ahead first (placeholders_in part own) done k else none)
      ≡ (if keys_of part n w k then newest_ahead first (placeholders_in part all) done k else none)
  masked is inside done k true e = let same = held part n first all own w is inside k e in rw (e, same) refl
  masked is inside done k false e = rw e refl

  kept_mine : (k : List ℕ) (b : Bool) → b ≡ true → (vs ws : List Placeholder) → placeholders_in part left k ≡ (if b then vs else ws)
      → placeholders_in part left k ≡ vs
  kept_mine k true e vs ws h = h
  kept_mine k false e vs ws h = absurd cc

  pub found_in_all : (out : List Placeholder) → IsFoundIn part n w first txns own out left → HasPartsOf n w all own → ((k : List ℕ) → part k < length all)
      → length own ≡ length all → IsFoundInAll part n w first txns all out left
  found_in_all out right is inside long = record {
    found = right.found ∙ found_same (keys_of part n w) (keys_of part n w) (newest_ahead first (placeholders_in part own))
        (newest_ahead first (placeholders_in part all)) (λ done k. masked is inside done k (keys_of part n w k) refl) [] txns;
    chains = λ k mine. kept_mine k (keys_of part n w k) mine (placeholders_in part own k ++ placeholders_made first txns k) (placeholders_in part own k)
        (right.chains k) ∙ ap (λ vs. vs ++ placeholders_made first txns k) (held part n first all own w is inside k mine);
    others = λ i k low mine apart. (let here = is i low mine in right.others i k apart ∙ (rw here refl));
    parts = right.parts ∙ long;
  }

-- the declared writes of each transaction are distinct
pub writes_distinct : (txns : List Txn) → AreWellFormed txns → (i : ℕ) (t : Txn) → slice_get txns i ≡ Some t → AreDistinct t.writes
writes_distinct txns formed i t e = AreDistinct-rising t.writes (rising_writes t (formed_at txns formed i t e))
