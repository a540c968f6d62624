-- When several workers execute a part of a log.
use Rattle.std.specs.Prelude.{◌≡◌, ℕ, zero, suc, ◌+◌, ◌-◌, ◌*◌, ◌/◌, List, [], ◌∷◌, length, sum_by}
use Rattle.std.specs.Prelude.{Bool, true, false, ◌==◌, ◌||◌, if◌then◌else◌, nat_lt, nat_le}
use Rattle.bohm_types.specs.Limits.{largest_batch}
use Rattle.bohm_types.specs.Txn.{Txn}
use Rattle.bohm_place.specs.Cuttings.{IsEven}
use Rattle.bohm_settings.specs.Given.{Given}
use Rattle.bohm_read_ahead.specs.declared.checked_chunk.Sharing.{Sharing}
use Rattle.bohm_read_ahead.specs.declared.checked_chunk.Sharing.TheVariants.{OneWorker, NoTransactions, ShortBodies, Shared}
use Rattle.bohm_read_ahead.specs.declared.checked_chunk.Prepared.{Prepared}
use Rattle.bohm_read_ahead.specs.declared.checked_chunk.Prepared.TheVariants.{Faulty, TooMany, Ready, Planned}

-- statements of a body from which on several workers run it faster than one
abbrev pub shared_body : ℕ
shared_body = 32

-- bodies of a part that are sampled, at most
abbrev pub most_sampled : ℕ
most_sampled = 64

-- after n transactions every step-th one
abbrev pub every : ℕ → ℕ → List Txn → List Txn
every step n [] = []
every step zero (t ∷ ts) = t ∷ every step (step - 1) ts
every step (suc n) (t ∷ ts) = every step n ts

-- transactions at equal distances, from the first on
abbrev pub sampled : List Txn → List Txn
sampled txns = every (length txns / most_sampled + 1) 0 txns

-- the number of statements of the bodies
abbrev pub statements : List Txn → ℕ
statements txns = sum_by (λ t. length t.body) txns

-- the sampled bodies have `shared_body` statements or more on average
abbrev pub are_long : List Txn → Bool
are_long txns = nat_le (length (sampled txns) * shared_body) (statements (sampled txns))

-- several workers execute the part if there are several, there are transactions, and bodies are long or smaller batches than the largest were requested
abbrev pub sharing_of : Given → List Txn → Sharing
sharing_of given txns =
    if given.exec == 1 then OneWorker
    else (if length txns == 0 then NoTransactions else (if nat_lt given.batch largest_batch || are_long txns then Shared else ShortBodies))

abbrev pub is_shared_by : Sharing → Bool
is_shared_by OneWorker = false
is_shared_by NoTransactions = false
is_shared_by ShortBodies = false
is_shared_by Shared = true

abbrev pub is_shared : Given → List Txn → Bool
is_shared given txns = is_shared_by (sharing_of given txns)

-- there are plans
abbrev pub is_planned : Prepared → Bool
is_planned (Faulty fault) = false
is_planned TooMany = false
is_planned Ready = false
is_planned (Planned cuts plans) = true

-- if the part runs, it has plans just if it is shared, and these are of batches of the size that the settings give
abbrev pub IsSharedAs : Given → List Txn → Prepared → Type 0
IsSharedAs given txns (Faulty fault) = Unit {0}
IsSharedAs given txns TooMany = Unit {0}
IsSharedAs given txns Ready = is_shared given txns ≡ false
IsSharedAs given txns (Planned cuts plans) = (is_shared given txns ≡ true) × IsEven given.batch cuts
