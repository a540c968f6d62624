-- The key that four words encode.
use Rattle.std.specs.Prelude.{◌≡◌, ℕ, List, true}
use Rattle.bohm_types.specs.Name.{is_name}
use Rattle.bohm_types.specs.declared.key.Key.TheInside.{Inside}
use Rattle.bohm_types.specs.Words.{before_zero, spread, words_of}
use Rattle.bohm_types.specs.Shortness.{short}
use Rattle.bohm_types.specs.Spreading.{read_back}

unfoldable pub name_of : Inside → List ℕ
name_of k = before_zero (spread k.words)

pub record IsWorded (k : Inside) : Type 0 where
  pub name : List ℕ
  pub is : is_name name ≡ true
  pub made : k.words ≡ words_of name

unfoldable pub worded : List ℕ → Inside
worded name = record { words = words_of name }

pub worded_ok : (k : Inside) → IsWorded k → worded (name_of k) ≡ k
unfolding worded name_of
worded_ok k h = λ i. record { words = read_back k.words h.name (short h.name h.is) h.made i }
