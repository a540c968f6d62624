use Rattle.std.proofs.Common.{◌∙◌, List, ℕ, ap, map}
use Rattle.bohm_types.specs.Keys.{place}
use Rattle.bohm_procedures.proofs.compiled.compile.Goals as goal

pub returns : goal.returns
returns c = record {
  like = c.in-Ok.ensures.like c.args.keys.now;
  usable = c.in-Ok.ensures.usable;
  parameters = c.in_ok-parameters.ensures ∙ ap (λ (names : List (List ℕ)). map (place c.args.keys.now) names) c.as_slice.ensures.value;
}
