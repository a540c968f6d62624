-- The versions that a part's transactions wait for.
use Rattle.std.specs.Prelude.{◌≡◌, ◌≤◌, ◌^◌, List, All, length}
use Rattle.bohm_types.specs.Txn.{Txn}
use Rattle.bohm_explain.specs.declared.waits.Waits.{Waits}
use Rattle.bohm_explain.specs.Figures.{depths}
use Rattle.bohm_explain.specs.Heaviest.{IsInside, most_arrows}
use Rattle.bohm_explain.specs.Printed.{heights}
use Rattle.bohm_explain.specs.Wanted.{arrows}

-- the arrows of the transactions, and for each position the length of the longest chain that ends there, and that begins there
pub record AreWaits (txns : List Txn) (w : Waits) : Type 0 where
  pub arrows : w.arrows.items ≡ arrows txns
  pub inside : All (IsInside (length txns)) w.arrows.items
  pub few_arrows : length w.arrows.items ≤ most_arrows
  pub depths : w.depths.items ≡ depths txns
  pub depths_paired : length w.depths.items ≡ length txns
  pub depths_light : All (λ c. c ≤ 2 ^ 24) w.depths.items
  pub heights : w.heights.items ≡ heights txns
  pub heights_paired : length w.heights.items ≡ length txns
  pub heights_light : All (λ c. c ≤ 2 ^ 24) w.heights.items
