-- What the parts of a cut log, its keys and its longest chain say about a request.
use Rattle.std.proofs.Common.{◌≡◌, ℕ, ◌<◌, ◌≤◌, List, Option, Some, None, length, subst, sym}
use Rattle.std.specs.Prelude.{IsSomeAnd}
use Rattle.bohm_types.specs.Txn.{Txn}
use Rattle.bohm_settings.specs.Given.{Given}
use Rattle.bohm_place.specs.Cuttings.{Cutting}
use Rattle.bohm_read_ahead.specs.declared.checked_chunk.Sharing.{Sharing}
use Rattle.bohm_explain.specs.declared.heat.Heat.{Heat}
use Rattle.bohm_explain.specs.Asked.{Asked}
use Rattle.bohm_explain.specs.Heats.{AreHeatsOf}
use Rattle.bohm_explain.specs.Parts.{AreCut, parts_in}
use Rattle.bohm_explain.specs.Printed.{chained_in, figures_text, IsAnswerTo, IsCutUp, IsLongestChain, LacksPart, Says}
use Rattle.bohm_explain.specs.Ranking.{IsRanking}

module _ (asked : Asked) (log : List Txn) (given : Given) (sizes : List ℕ) (how : List Sharing) (same : given ≡ asked.given) (are_cut : AreCut given log sizes how) where
  abbrev cut : IsCutUp asked.given log
  cut = record { sizes = sizes; how = how; are_cut = subst (λ (g : Given). AreCut g log sizes how) same are_cut }

  -- the text of a log that is cut up as in k
  record IsTextBy (heats ranked : List Heat) (chain : List ℕ) (text : List ℕ) (k : Cutting) : Type 0 where
    are_heats : AreHeatsOf k.log (chained_in k) heats
    is_longest : IsLongestChain k chain
    says : text ≡ figures_text asked (parts_in k how) ranked chain

  pub figures : (k : Cutting) → k ≡ record { first = 1; log = log; sizes = sizes } → (heats ranked : List Heat) (chain text : List ℕ)
      → AreHeatsOf k.log (chained_in k) heats → IsRanking heats ranked → IsLongestChain k chain → text ≡ figures_text asked (parts_in k how) ranked chain
      → asked.picture ≡ None → IsAnswerTo asked log text
  figures k is heats ranked chain text are_heats is_ranking is_longest says none =
      let by : IsTextBy heats ranked chain text (record { first = 1; log = log; sizes = sizes }) =
      subst (IsTextBy heats ranked chain text) is (record { are_heats = are_heats; is_longest = is_longest; says = says }) in
      subst (λ (o : Option ℕ). Says asked log text o) (sym none) (record {
        cut = cut;
        heats = heats;
        ranked = ranked;
        chain = chain;
        are_heats = by.are_heats;
        is_ranking = is_ranking;
        is_longest = by.is_longest;
        says = by.says;
      })

  pub picture : (text : List ℕ) (number : ℕ) → asked.picture ≡ Some number → number ≤ length sizes → IsAnswerTo asked log text
  picture text number is there = subst (λ (o : Option ℕ). Says asked log text o) (sym is) (record { cut = cut; there = there })

  pub no_picture : (number : ℕ) → asked.picture ≡ Some number → length sizes < number → LacksPart asked log
  no_picture number is less = record { cut = cut; less = subst (λ (o : Option ℕ). IsSomeAnd o (λ n. length sizes < n)) (sym is) less }
