-- The parts of terms and statements that the check examines.
use Rattle.std.specs.Prelude.{ℕ, List, [], ◌∷◌, Bool, true, false, Option, Some, None}
use Rattle.bohm_types.specs.Term.{Atom, Lit, Read, Local}
use Rattle.bohm_types.specs.Stmt.{Cond, Stmt, Bind, Need, Has, Lacks, Put, Remove, Show, Fail}

-- the key that it reads
abbrev pub key_read : Atom → Option (List ℕ)
key_read (Lit n) = None
key_read (Read k) = Some k
key_read (Local x) = None

abbrev pub guard_sums : Option Cond → List (List (Bool × Atom))
guard_sums None = []
guard_sums (Some c) = c.left ∷ c.right ∷ []

-- all its sums
abbrev pub sums : Stmt → List (List (Bool × Atom))
sums (Bind x sum) = sum ∷ []
sums (Need c) = c.left ∷ c.right ∷ []
sums (Has k) = []
sums (Lacks k) = []
sums (Put k sum guard) = sum ∷ guard_sums guard
sums (Remove k) = []
sums (Show sum) = sum ∷ []
sums Fail = []

-- the key whose presence it tests
abbrev pub tested : Stmt → Option (List ℕ)
tested (Bind x sum) = None
tested (Need c) = None
tested (Has k) = Some k
tested (Lacks k) = Some k
tested (Put k sum guard) = None
tested (Remove k) = None
tested (Show sum) = None
tested Fail = None

-- the key that it writes
abbrev pub target : Stmt → Option (List ℕ)
target (Bind x sum) = None
target (Need c) = None
target (Has k) = None
target (Lacks k) = None
target (Put k sum guard) = Some k
target (Remove k) = Some k
target (Show sum) = None
target Fail = None

-- the name that it binds
abbrev pub bound : Stmt → Option (List ℕ)
bound (Bind x sum) = Some x
bound (Need c) = None
bound (Has k) = None
bound (Lacks k) = None
bound (Put k sum guard) = None
bound (Remove k) = None
bound (Show sum) = None
bound Fail = None

abbrev pub is_show : Stmt → Bool
is_show (Bind x sum) = false
is_show (Need c) = false
is_show (Has k) = false
is_show (Lacks k) = false
is_show (Put k sum guard) = false
is_show (Remove k) = false
is_show (Show sum) = true
is_show Fail = false
