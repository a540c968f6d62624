-- Reading the words of a line from left to right: `None` if they spell nothing valid.
use Rattle.std.specs.Prelude.{◌≡◌, ℕ, zero, suc, ℤ, pos, negsuc, ◌+◌, ◌-◌, ◌*◌, ◌^◌, List, [], ◌∷◌, Bool, true, false, ◌&&◌}
use Rattle.std.specs.Prelude.{◌==◌, nat_lt, nat_le, Option, Some, None, Result, Ok, Err, if◌then◌else◌, codes, length}
use Rattle.std.specs.Option.{option_map}
use Rattle.std.specs.Str.{bytes_eq}
use Rattle.std.specs.Char.{is_ascii_digit}
use Rattle.bohm_types.specs.Name.{key_of}
use Rattle.bohm_types.specs.Shape.{term_of}
use Rattle.bohm_types.specs.Term.{Atom, Lit, Read, Local}
use Rattle.bohm_types.specs.declared.cmp.Cmp.{Cmp}
use Rattle.bohm_types.specs.declared.cmp.Cmp.TheVariants.{Lt, Le, Eq, Ge, Gt}
use Rattle.bohm_types.specs.Stmt.{Cond, Stmt, Bind, Need, Has, Lacks, Put, Remove, Show, Fail}
use Rattle.bohm_text.specs.declared.fault.ReadFault.{ReadFault}
use Rattle.bohm_text.specs.declared.fault.ReadFault.TheVariants.{Bad, NoMemory}
use Rattle.bohm_text.specs.declared.stops.Stop.{Stop}
use Rattle.bohm_text.specs.declared.stops.Stop.TheVariants as stops
use Rattle.bohm_text.specs.Print.{Words}

infixl 10 ◌>>=◌
abbrev pub ◌>>=◌ : {A B : Type 0} → Option A → (A → Option B) → Option B
(Some x) >>= f = f x
None >>= f = None

-- a function failed because the words spell nothing valid, or because an allocation failed
abbrev pub Fails : {X : Type 0} → ReadFault → Option X → Type 0
Fails Bad read = read ≡ None
Fails NoMemory read = Unit {0}

abbrev pub Gives : {X : Type 0} → Result X ReadFault → Option X → Type 0
Gives (Ok x) read = read ≡ Some x
Gives (Err e) read = Fails e read

-- ---- numbers

-- digits that continue a number, which stays within the limit
unfoldable pub digits_of : ℕ → ℕ → List ℕ → Option ℕ
digits_of limit n [] = Some n
digits_of limit n (c ∷ cs) = if is_ascii_digit c && nat_le (n * 10 + (c - 48)) limit then digits_of limit (n * 10 + (c - 48)) cs else None

-- no leading zero
abbrev pub whole_of : ℕ → List ℕ → Option ℕ
whole_of limit [] = None
whole_of limit (c ∷ cs) = if c == 48 && nat_lt 0 (length cs) then None else digits_of limit 0 (c ∷ cs)

abbrev pub lit_of : List ℕ → Option ℕ
lit_of word = whole_of (2 ^ 63 - 1) word

abbrev pub negative : ℕ → Option ℤ
negative zero = None
negative (suc n) = Some (negsuc n)

unfoldable pub number_of : List ℕ → Option ℤ
number_of [] = None
number_of (c ∷ cs) = if c == 45 then (whole_of (2 ^ 63) cs >>= negative) else option_map pos (lit_of (c ∷ cs))

-- ---- terms

unfoldable pub atom_of : List ℕ → Option Atom
atom_of [] = None
atom_of (c ∷ cs) = if c == 36 then option_map Local (key_of cs)
    else (if is_ascii_digit c then option_map Lit (lit_of (c ∷ cs)) else option_map Read (key_of (c ∷ cs)))

unfoldable pub first_of : List ℕ → Option (Bool × Atom)
first_of [] = None
first_of (c ∷ cs) = if c == 45 then (atom_of cs >>= λ a. term_of true a) else (atom_of (c ∷ cs) >>= λ a. term_of false a)

unfoldable pub sign_of : List ℕ → Option Bool
sign_of word = if bytes_eq word (codes "-") then Some true else (if bytes_eq word (codes "+") then Some false else None)

-- a term whose sign was read
unfoldable pub further_of : Bool → List ℕ → Option (Bool × Atom)
further_of minus word = atom_of word >>= λ a. term_of minus a

unfoldable pub cmp_of : List ℕ → Option Cmp
cmp_of word =
    if bytes_eq word (codes "<") then Some Lt else (
    if bytes_eq word (codes "<=") then Some Le else (
    if bytes_eq word (codes "=") then Some Eq else (
    if bytes_eq word (codes ">=") then Some Ge else (
    if bytes_eq word (codes ">") then Some Gt else None))))

-- ---- sums

-- what ends a sum, with the words after it
pub data Ending : Type 0 where
  End : Ending
  When : Words → Ending
  Compared : Cmp → Words → Ending

abbrev pub ending : Stop → Words → Ending
ending stops.End words = End
ending stops.When words = When words
ending (stops.Compared cmp) words = Compared cmp words

-- the word that ends a sum
unfoldable pub stop_of : List ℕ → Option Stop
stop_of word = if bytes_eq word (codes "when") then Some stops.When else option_map stops.Compared (cmp_of word)

-- terms, and what ends them
abbrev pub Terms : Type 0
Terms = List (Bool × Atom) × Ending

abbrev pub stopped : List ℕ → Words → Option Terms
stopped word words = stop_of word >>= λ stop. Some ([], ending stop words)

abbrev pub longer : Bool × Atom → Option Terms → Option Terms
longer term more = more >>= λ p. Some (term ∷ p.0, p.1)

-- a further term after a sign, or the end
abbrev pub one_more : Option Bool → List ℕ → Option Terms → Option Terms → Option Terms
one_more None word more end = end
one_more (Some minus) word more end = further_of minus word >>= λ term. longer term more

-- further terms
unfoldable pub terms_of : Words → Option Terms
terms_of [] = Some ([], End)
terms_of (word ∷ []) = stopped word []
terms_of (sign ∷ word ∷ words) = one_more (sign_of sign) word (terms_of words) (stopped sign (word ∷ words))

unfoldable pub sum_from : Words → Option Terms
sum_from [] = None
sum_from (word ∷ words) = first_of word >>= λ term. longer term (terms_of words)

-- the sum, if it is the last of the line
abbrev pub at_end : Terms → Option (List (Bool × Atom))
at_end (sum, End) = Some sum
at_end (sum, When words) = None
at_end (sum, Compared cmp words) = None

-- ---- statements

unfoldable pub keys_of : Words → Option Words
keys_of [] = Some []
keys_of (word ∷ words) = do
  key ← key_of word
  keys ← keys_of words
  Some (key ∷ keys)

abbrev pub local_of : List ℕ → Option (List ℕ)
local_of [] = None
local_of (c ∷ cs) = if c == 36 then key_of cs else None

-- reads the words after the first word, which must be this word
abbrev pub after : {X : Type 0} → List ℕ → (Words → Option X) → Words → Option X
after word read [] = None
after word read (w ∷ words) = if bytes_eq w word then read words else None

unfoldable pub last_sum : Words → Option (List (Bool × Atom))
last_sum words = sum_from words >>= at_end

-- the right side, after the left was read
abbrev pub right_side : Terms → Option Cond
right_side (sum, End) = None
right_side (sum, When words) = None
right_side (sum, Compared cmp words) = last_sum words >>= λ right. Some (record { left = sum; cmp = cmp; right = right })

unfoldable pub cond_of : Words → Option Cond
cond_of words = sum_from words >>= right_side

-- the write, after its sum was read
abbrev pub guarded : List ℕ → Terms → Option Stmt
guarded key (sum, End) = Some (Put key sum None)
guarded key (sum, When words) = cond_of words >>= λ cond. Some (Put key sum (Some cond))
guarded key (sum, Compared cmp words) = None

unfoldable pub bind_of : Words → Option Stmt
bind_of [] = None
bind_of (word ∷ words) = do
  name ← local_of word
  sum ← after (codes "=") last_sum words
  Some (Bind name sum)

abbrev pub assigned_of : List ℕ → Words → Option Stmt
assigned_of key words = sum_from words >>= guarded key

unfoldable pub put_of : Words → Option Stmt
put_of [] = None
put_of (word ∷ words) = key_of word >>= λ key. after (codes "=") (assigned_of key) words

-- the only two words after `need`
unfoldable pub presence_of : List ℕ → List ℕ → Option Stmt
presence_of word name = if bytes_eq word (codes "has") then option_map Has (key_of name)
    else (if bytes_eq word (codes "no") then option_map Lacks (key_of name) else None)

unfoldable pub need_of : Words → Option Stmt
need_of [] = None
need_of (word ∷ []) = None
need_of (word ∷ name ∷ []) = presence_of word name
need_of (left ∷ cmp ∷ right ∷ words) = option_map Need (cond_of (left ∷ cmp ∷ right ∷ words))

unfoldable pub remove_of : Words → Option Stmt
remove_of [] = None
remove_of (name ∷ []) = option_map Remove (key_of name)
remove_of (name ∷ word ∷ words) = None

unfoldable pub fail_of : Words → Option Stmt
fail_of [] = Some Fail
fail_of (word ∷ words) = None

unfoldable pub stmt_of : Words → Option Stmt
stmt_of [] = None
stmt_of (verb ∷ words) =
    if bytes_eq verb (codes "set") then put_of words else (
    if bytes_eq verb (codes "let") then bind_of words else (
    if bytes_eq verb (codes "need") then need_of words else (
    if bytes_eq verb (codes "show") then option_map Show (last_sum words) else (
    if bytes_eq verb (codes "drop") then remove_of words else (
    if bytes_eq verb (codes "fail") then fail_of words else None)))))

unfoldable pub entry_of : Words → Option (List ℕ × ℤ)
entry_of [] = None
entry_of (name ∷ []) = None
entry_of (name ∷ digits ∷ []) = do
  key ← key_of name
  number ← number_of digits
  Some (key, number)
entry_of (name ∷ digits ∷ word ∷ words) = None
