-- What follows a term: a sign and a further term, or the end of the sum.
use Rattle.std.specs.Prelude.{ℕ, List, [], ◌∷◌, Bool, false, ◌&&◌, ◌||◌, ◌==◌, Option, Some, None}
use Rattle.bohm_text.specs.Print.{Words}
use Rattle.bohm_text.specs.Reading.{End, Terms, sign_of, stopped}

-- a sign followed by a space
unfoldable pub begins_signed : List ℕ → Bool
begins_signed [] = false
begins_signed (sign ∷ []) = false
begins_signed (sign ∷ space ∷ bytes) = (space == 32) && ((sign == 45) || (sign == 43))

-- the sign of a further term, followed by another word
abbrev pub sign_ahead : Words → Option Bool
sign_ahead [] = None
sign_ahead (sign ∷ []) = None
sign_ahead (sign ∷ word ∷ words) = sign_of sign

-- the words after a sign, if there was one
abbrev pub behind_sign : Option Bool → Words → Words
behind_sign None words = words
behind_sign (Some minus) [] = []
behind_sign (Some minus) (sign ∷ words) = words

-- what ends a sum if no sign follows
abbrev pub end_of : Words → Option Terms
end_of [] = Some ([], End)
end_of (word ∷ words) = stopped word words
