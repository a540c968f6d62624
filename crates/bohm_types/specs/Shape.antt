-- Terms and sums that have a text.
use Rattle.std.specs.Prelude.{◌^◌, List, [], ◌∷◌, Bool, true, ◌&&◌, ◌==◌, not, nat_lt, Option, Some, None, if◌then◌else◌}
use Rattle.bohm_types.specs.Term.{Atom, Lit, Read, Local}

-- a literal is at most the greatest 64-bit value, and is not 0 after a minus
abbrev pub is_term : Bool → Atom → Bool
is_term minus (Lit n) = nat_lt n (2 ^ 63) && not (minus && (n == 0))
is_term minus (Read k) = true
is_term minus (Local x) = true

abbrev pub term_of : Bool → Atom → Option (Bool × Atom)
term_of minus atom = if is_term minus atom then Some (minus, atom) else None

abbrev pub sum_of : List (Bool × Atom) → Option (List (Bool × Atom))
sum_of [] = None
sum_of (t ∷ ts) = Some (t ∷ ts)
