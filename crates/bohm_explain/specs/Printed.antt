-- The text that is printed for a log.
use Rattle.std.specs.Prelude.{◌≡◌, ℕ, zero, suc, ◌+◌, ◌<◌, ◌≤◌, ◌⊎◌, List, [], ◌∷◌, ◌++◌}
use Rattle.std.specs.Prelude.{length, map, if◌then◌else◌, Option, Some, None, IsSomeAnd}
use Rattle.std.specs.List.{zip}
use Rattle.bohm_types.specs.Txn.{Txn}
use Rattle.bohm_settings.specs.Given.{Given}
use Rattle.bohm_place.specs.Cuttings.{Cutting, first_at, txns_at}
use Rattle.bohm_read_ahead.specs.declared.checked_chunk.Sharing.{Sharing}
use Rattle.bohm_explain.specs.declared.heat.Heat.{Heat}
use Rattle.bohm_explain.specs.declared.parts.Part.{Part}
use Rattle.bohm_explain.specs.Asked.{Asked}
use Rattle.bohm_explain.specs.Chains.{IsChainOf}
use Rattle.bohm_explain.specs.Figures.{alike, depths}
use Rattle.bohm_explain.specs.Heats.{AreHeatsOf, Chained}
use Rattle.bohm_explain.specs.Heaviest.{heaviest_from, through}
use Rattle.bohm_explain.specs.Json.{json_text}
use Rattle.bohm_explain.specs.Parts.{AreCut, parts_in}
use Rattle.bohm_explain.specs.Ranking.{IsRanking}
use Rattle.bohm_explain.specs.Table.{plain_text}
use Rattle.bohm_explain.specs.Wanted.{arrows}

-- the transactions on the longest chain of wanted versions that begins at each position
abbrev pub heights : List Txn → List ℕ
heights txns = heaviest_from (alike txns) (arrows txns)

-- the arrows of a part, each with the transactions on the longest chain through it
abbrev pub chained : List Txn → Chained
chained txns = zip (arrows txns) (through (depths txns) (heights txns) (arrows txns))

-- of the first n parts
abbrev pub chained_below : Cutting → ℕ → List Chained
chained_below c zero = []
chained_below c (suc n) = chained_below c n ++ chained (txns_at c n) ∷ []

abbrev pub chained_in : Cutting → List Chained
chained_in c = chained_below c (length c.sizes)

-- ---- the longest chain

-- a chain of a part's transactions, as places in the log
pub record IsPlacedChain (c : Cutting) (places : List ℕ) : Type 0 where
  pub index : ℕ
  pub there : index < length c.sizes
  pub chain : List ℕ
  pub is : IsChainOf (txns_at c index) chain
  pub placed : places ≡ map (λ p. first_at c index + p) chain

-- no such chain is longer; it is empty if the log has no transactions
pub record IsLongestChain (c : Cutting) (places : List ℕ) : Type 0 where
  pub placed : (places ≡ []) ⊎ IsPlacedChain c places
  pub none_longer : (other : List ℕ) → IsPlacedChain c other → length other ≤ length places

-- ---- figures

-- a table, the first `top` keys, the longest chain and the last line; or the same in JSON
abbrev pub figures_text : Asked → List Part → List Heat → List ℕ → List ℕ
figures_text asked ps ranked longest =
    if asked.layout.json then json_text asked ps ranked longest else plain_text asked.layout.summary asked.top ps ranked longest

-- the parts that a run with these settings makes, in order and together the log: where each begins and ends, and how it runs
pub record IsCutUp (given : Given) (log : List Txn) : Type 0 where
  pub sizes : List ℕ
  pub how : List Sharing
  pub are_cut : AreCut given log sizes how

abbrev pub cut_up : (given : Given) (log : List Txn) → IsCutUp given log → Cutting
cut_up given log h = record { first = 1; log = log; sizes = h.sizes }

-- the figures of a log's parts, its keys, the hottest first, and a longest chain
pub record IsTextOf (asked : Asked) (log : List Txn) (text : List ℕ) : Type 0 where
  pub cut : IsCutUp asked.given log
  pub heats : List Heat
  pub ranked : List Heat
  pub chain : List ℕ
  pub are_heats : AreHeatsOf log (chained_in (cut_up asked.given log cut)) heats
  pub is_ranking : IsRanking heats ranked
  pub is_longest : IsLongestChain (cut_up asked.given log cut) chain
  pub says : text ≡ figures_text asked (parts_in (cut_up asked.given log cut) cut.how) ranked chain

-- ---- requests

-- the log has the part whose conflicts are drawn
pub record HasPart (given : Given) (log : List Txn) (number : ℕ) : Type 0 where
  pub cut : IsCutUp given log
  pub there : number ≤ length cut.sizes

-- the figures, unless a picture is requested: no clause says what that shows
abbrev pub Says : Asked → List Txn → List ℕ → Option ℕ → Type 0
Says asked log text None = IsTextOf asked log text
Says asked log text (Some number) = HasPart asked.given log number

-- this text answers the request
abbrev pub IsAnswerTo : Asked → List Txn → List ℕ → Type 0
IsAnswerTo asked log text = Says asked log text asked.picture

-- the conflicts of a part are requested that the log doesn't have
pub record LacksPart (asked : Asked) (log : List Txn) : Type 0 where
  pub cut : IsCutUp asked.given log
  pub less : IsSomeAnd asked.picture (λ number. length cut.sizes < number)
