use Rattle.std.proofs.Common.{ℕ, ◌+◌, ◌<◌, ◌∙◌, length, slice_index, ap}
use Rattle.std.proofs.lemmas.List.{get_or-replicate, length-replicate}
use Rattle.bohm_explain.specs.Figures.{alike, depths}
use Rattle.bohm_explain.specs.Heaviest.{greatest_wanted}
use Rattle.bohm_explain.specs.Wanted.{arrows}
use Rattle.bohm_explain.proofs.Rising.{rising}
use Rattle.bohm_explain.proofs.Rules.{rule_to}
use Rattle.bohm_explain.proofs.laws.depth_of_each.Goals as goal

pub returns : goal.returns
returns c txns p low =
    let inside : p < length (alike txns) = rw (length-replicate {A = ℕ} (length txns) 1) low in
    rule_to (alike txns) (arrows txns) p (rising txns) inside
    ∙ ap (λ (own : ℕ). own + greatest_wanted (slice_index (depths txns)) (arrows txns) p) (get_or-replicate {A = ℕ} (length txns) p 1 0 low)
