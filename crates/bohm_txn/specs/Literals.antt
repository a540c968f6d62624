-- Sums of literals: what is added, and what is subtracted.
use Rattle.std.specs.Prelude.{ℕ, ◌+◌, ◌^◌, List, [], ◌∷◌, Bool, true, false, ◌&&◌, nat_lt, nat_le, Option, Some, None}
use Rattle.bohm_types.specs.Term.{Atom, Lit, Read, Local}
use Rattle.bohm_txn.specs.declared.sureness.Literals.{Literals}

abbrev pub none_yet : Literals
none_yet = record { added = 0; taken = 0 }

abbrev pub with_literal : Literals → Bool → ℕ → Literals
with_literal l false n = record l { added = l.added + n }
with_literal l true n = record l { taken = l.taken + n }

abbrev pub with_atom : Literals → Bool → Atom → Option Literals
with_atom l minus (Lit n) = Some (with_literal l minus n)
with_atom l minus (Read k) = None
with_atom l minus (Local x) = None

abbrev pub and_then : Option Literals → (Literals → Option Literals) → Option Literals
and_then None f = None
and_then (Some l) f = f l

-- the literals so far and those of the terms, if the terms are only literals
abbrev pub literals_from : Literals → List (Bool × Atom) → Option Literals
literals_from l [] = Some l
literals_from l (t ∷ ts) = and_then (with_atom l t.0 t.1) (λ next. literals_from next ts)

-- the total is a value
abbrev pub total_fits : Literals → Bool
total_fits l = nat_lt l.added (l.taken + 2 ^ 63) && nat_le l.taken (l.added + 2 ^ 63)
