-- The parts and the counts of a log after one more part, and lists of distinct keys.
use Rattle.std.proofs.Common.{◌≡◌, ◌∙◌, ℕ, suc, ◌+◌, ◌<◌, List, [], ◌∷◌, ◌++◌, length, take, get_or, refl, ap, arith, subst, add-one}
use Rattle.std.proofs.lemmas.List.{get_or_default}
use Rattle.std.specs.List.{IsDistinct}
use Rattle.std.specs.Str.{bytes_eq}
use Rattle.bohm_types.specs.Txn.{Txn}
use Rattle.bohm_types.specs.Keys.{is_among}
use Rattle.bohm_place.specs.Cuttings.{Cutting, ahead, first_at, txns_at}
use Rattle.bohm_place.specs.Shares.{AreDistinct}
use Rattle.bohm_read_ahead.specs.declared.checked_chunk.Sharing.{Sharing}
use Rattle.bohm_read_ahead.specs.declared.checked_chunk.Sharing.TheVariants.{OneWorker}
use Rattle.bohm_explain.specs.declared.figures.Figures.{Figures}
use Rattle.bohm_explain.specs.declared.gathering.Gathering.{Gathering}
use Rattle.bohm_explain.specs.declared.parts.Part.{Part}
use Rattle.bohm_explain.specs.Figures.{figures_of}
use Rattle.bohm_explain.specs.Heats.{Chained}
use Rattle.bohm_explain.specs.Parts.{part_at, parts_below}
use Rattle.bohm_explain.specs.Printed.{chained, chained_below}
use Rattle.bohm_explain.specs.Tallies.{IsGathered}
use Rattle.bohm_explain.proofs.Cutting.{joined}
use Rattle.bohm_txn.proofs.ForCallers.{apart_each, not_true}

-- the part with what was found of it
pub part_made : (c : Cutting) (ways : List Sharing) (i first : ℕ) (d : Sharing) (figures : Figures) → i < length ways → first ≡ first_at c i
    → figures ≡ figures_of (txns_at c i) → record { number = i + 1; first = first; sharing = get_or ways i d; figures = figures } ≡ part_at c ways i
part_made c ways i first d figures low is_first are_figures =
    let same : get_or ways i d ≡ get_or ways i OneWorker = get_or_default ways i d OneWorker low in
    λ j. record { number = i + 1; first = is_first j; sharing = same j; figures = are_figures j }

module _ (c : Cutting) (i : ℕ) (low : i < length c.sizes) (txns : List Txn) (is : txns ≡ txns_at c i) where
  pub parts_more : (ways : List Sharing) (old new : List Part) (p : Part) → old ≡ parts_below c ways i → p ≡ part_at c ways i → new ≡ old ++ p ∷ []
      → new ≡ parts_below c ways (i + 1)
  parts_more ways old new p so_far of more =
      let same : suc i ≡ i + 1 = omega arith in
      let step : parts_below c ways i ++ part_at c ways i ∷ [] ≡ parts_below c ways (i + 1) = ap (parts_below c ways) same in
      more ∙ (ap (λ (ps : List Part). ps ++ p ∷ []) so_far ∙ (ap (λ (q : Part). parts_below c ways i ++ q ∷ []) of ∙ step))

  pub keys_more : (new : Gathering) → IsGathered (take (ahead c.sizes i) c.log ++ txns) (chained_below c i ++ chained txns ∷ []) new
      → IsGathered (take (ahead c.sizes (i + 1)) c.log) (chained_below c (i + 1)) new
  keys_more new noted =
      let step : chained_below c i ++ chained (txns_at c i) ∷ [] ≡ chained_below c (i + 1) = rw add-one refl in
      let cut : IsGathered (take (ahead c.sizes i) c.log ++ txns_at c i) (chained_below c i ++ chained (txns_at c i) ∷ []) new =
      subst (λ (b : List Txn). IsGathered (take (ahead c.sizes i) c.log ++ b) (chained_below c i ++ chained b ∷ []) new) is noted in
      subst (λ (l : List Txn). IsGathered l (chained_below c (i + 1)) new) (joined c i low)
      (subst (λ (cs : List Chained). IsGathered (take (ahead c.sizes i) c.log ++ txns_at c i) cs new) step cut)

-- ---- lists of distinct keys

pub apart : (ks : List (List ℕ)) → AreDistinct ks → IsDistinct bytes_eq ks
unfolding IsDistinct
apart [] h = tt
apart (k ∷ ks) h = (apart_each k ks (not_true (is_among ks k) h.0), apart ks h.1)
