-- What a term adds or subtracts. A term is an atom, with whether it is subtracted; a sum is a list of terms.
use Rattle.std.specs.Prelude.{ℕ, List}

pub data Atom : Type 0 where
  Lit : ℕ → Atom
  Read : (key : List ℕ) → Atom
  Local : (name : List ℕ) → Atom
