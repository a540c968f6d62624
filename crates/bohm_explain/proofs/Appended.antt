-- Texts that are appended one after another.
use Rattle.std.proofs.Common.{◌≡◌, ◌∙◌, ℕ, List, [], ◌∷◌, ◌++◌, ap, append_assoc, sym}
use Rattle.std.proofs.lemmas.Grind.{flat_map-append}
use Rattle.std.proofs.lemmas.List.{flat_map_more}
use Rattle.bohm_explain.specs.Pieces.{joined}

-- one more text
pub more : (start out new : List ℕ) (texts : List (List ℕ)) (text : List ℕ) → out ≡ start ++ joined texts → new ≡ out ++ text
    → new ≡ start ++ joined (texts ++ text ∷ [])
more start out new texts text before is = is ∙ (ap (λ (w : List ℕ). w ++ text) before ∙ flat_map_more (λ t. t) start texts text)

pub several : (start out new : List ℕ) (texts others : List (List ℕ)) → out ≡ start ++ joined texts → new ≡ out ++ joined others
    → new ≡ start ++ joined (texts ++ others)
several start out new texts others before is =
    is ∙ (ap (λ (w : List ℕ). w ++ joined others) before ∙ (append_assoc start (joined texts) (joined others)
    ∙ ap (λ (w : List ℕ). start ++ w) (sym (flat_map-append (λ t. t) texts others))))
