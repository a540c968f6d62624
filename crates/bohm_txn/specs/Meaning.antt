-- What a body does, statement by statement, over what each key holds.
use Rattle.std.specs.Prelude.{ℕ, ℤ, pos, negsuc, ◌+◌, ◌^◌, ◌+ℤ◌, ◌-ℤ◌, List, [], ◌∷◌, ◌++◌, Bool}
use Rattle.std.specs.Prelude.{true, false, nat_lt, Option, Some, None, Result, Ok, Err, if◌then◌else◌}
use Rattle.std.specs.Ordering.{int_cmp, is_lt, is_le, is_eq, is_ge, is_gt}
use Rattle.std.specs.declared.cmp.Ordering.{Ordering}
use Rattle.std.specs.Str.{bytes_eq}
use Rattle.bohm_types.specs.declared.cell.Cell.{Cell}
use Rattle.bohm_types.specs.declared.cell.Cell.TheVariants.{Absent, Present}
use Rattle.bohm_types.specs.declared.cmp.Cmp.{Cmp}
use Rattle.bohm_types.specs.declared.cmp.Cmp.TheVariants.{Lt, Le, Eq, Ge, Gt}
use Rattle.bohm_types.specs.Stmt.{Cond, Stmt, Bind, Need, Has, Lacks, Put, Remove, Show, Fail}
use Rattle.bohm_types.specs.Term.{Atom, Lit, Read, Local}
use Rattle.bohm_types.specs.declared.edition.Edition.{Edition}
use Rattle.bohm_types.specs.declared.edition.Edition.TheVariants.{One, Two}
use Rattle.bohm_types.specs.Txn.{Txn}
use Rattle.bohm_txn.specs.declared.outcome.Reason.{Reason}
use Rattle.bohm_txn.specs.declared.outcome.Reason.TheVariants as reasons

-- what each key holds
abbrev pub Look : Type 0
Look = List ℕ → Cell

-- a key's last entry, or else what it had before
abbrev pub newest : {A : Type 0} → List (List ℕ × A) → List ℕ → A → A
newest [] k before = before
newest (e ∷ es) k before = newest es k (if bytes_eq e.0 k then e.1 else before)

-- ---- sums

abbrev pub Locals : Type 0
Locals = List (List ℕ × ℤ)

abbrev pub number_in : Cell → Option ℤ
number_in Absent = None
number_in (Present z) = Some z

abbrev pub atom_value : Look → Locals → Atom → Option ℤ
atom_value look locals (Lit n) = Some (pos n)
atom_value look locals (Read k) = number_in (look k)
atom_value look locals (Local x) = Some (newest locals x (pos 0))

abbrev pub signed : ℤ → Bool → ℤ → ℤ
signed total minus z = if minus then total -ℤ z else (total +ℤ z)

infixl 10 ◌>>=◌
abbrev pub ◌>>=◌ : {A B : Type 0} → Option A → (A → Option B) → Option B
(Some x) >>= f = f x
None >>= f = None

-- the exact total, from a total so far, if no key is missing
abbrev pub total_from : Look → Locals → ℤ → List (Bool × Atom) → Option ℤ
total_from look locals total [] = Some total
total_from look locals total (t ∷ ts) = atom_value look locals t.1 >>= λ z. total_from look locals (signed total t.0 z) ts

abbrev pub fits : ℤ → Bool
fits (pos n) = nat_lt n (2 ^ 63)
fits (negsuc n) = nat_lt n (2 ^ 63)

abbrev pub in_range : Option ℤ → Result ℤ Reason
in_range None = Err reasons.Absent
in_range (Some z) = if fits z then Ok z else Err reasons.Range

abbrev pub sum_value : Look → Locals → List (Bool × Atom) → Result ℤ Reason
sum_value look locals sum = in_range (total_from look locals (pos 0) sum)

-- ---- conditions

abbrev pub then_try : {A B : Type 0} → Result A Reason → (A → Result B Reason) → Result B Reason
then_try (Ok x) f = f x
then_try (Err r) f = Err r

abbrev pub then_do : {A B : Type 0} → Result A Reason → (A → B) → Result B Reason
then_do (Ok x) f = Ok (f x)
then_do (Err r) f = Err r

abbrev pub compares : Cmp → Ordering → Bool
compares Lt o = is_lt o
compares Le o = is_le o
compares Eq o = is_eq o
compares Ge o = is_ge o
compares Gt o = is_gt o

-- whether the comparison holds; the left sum is evaluated first
abbrev pub cond_value : Look → Locals → Cond → Result Bool Reason
cond_value look locals c = then_try (sum_value look locals c.left) (λ a. then_do (sum_value look locals c.right) (λ b. compares c.cmp (int_cmp a b)))

-- no guard always holds
abbrev pub guard_value : Look → Locals → Option Cond → Result Bool Reason
guard_value look locals None = Ok true
guard_value look locals (Some c) = cond_value look locals c

abbrev pub is_present : Cell → Bool
is_present Absent = false
is_present (Present z) = true

-- ---- statements

-- the effects of the statements so far
pub record Run : Type 0 where
  pub locals : Locals
  pub writes : List (List ℕ × Cell)
  pub shows : List ℤ

abbrev pub fresh : Run
fresh = record { locals = []; writes = []; shows = [] }

-- what a statement sees: in edition 2 also the writes of earlier statements
abbrev pub seen : Edition → Look → Run → Look
seen One look run = look
seen Two look run = λ k. newest run.writes k (look k)

abbrev pub bind : Run → List ℕ → ℤ → Run
bind run x z = record run { locals = run.locals ++ (x, z) ∷ [] }

abbrev pub write : Run → List ℕ → Cell → Run
write run k c = record run { writes = run.writes ++ (k, c) ∷ [] }

abbrev pub show : Run → ℤ → Run
show run z = record run { shows = run.shows ++ z ∷ [] }

-- continues if it holds
abbrev pub needs : Run → Bool → Result Run Reason
needs run holds = if holds then Ok run else Err reasons.Need

-- what one statement adds, or why it fails
abbrev pub perform : Look → Run → Stmt → Result Run Reason
perform look run (Bind x sum) = then_do (sum_value look run.locals sum) (bind run x)
perform look run (Need c) = then_try (cond_value look run.locals c) (needs run)
perform look run (Has k) = needs run (is_present (look k))
perform look run (Lacks k) = if is_present (look k) then Err reasons.Need else Ok run
perform look run (Put k sum guard) = then_try (guard_value look run.locals guard)
    (λ holds. if holds then then_do (sum_value look run.locals sum) (λ z. write run k (Present z)) else Ok run)
perform look run (Remove k) = Ok (write run k Absent)
perform look run (Show sum) = then_do (sum_value look run.locals sum) (show run)
perform look run Fail = Err reasons.Fail

-- ---- bodies

abbrev pub or_stop : ℕ → Result Run Reason → (Run → Result Run (Reason × ℕ)) → Result Run (Reason × ℕ)
or_stop n (Err r) f = Err (r, n)
or_stop n (Ok next) f = f next

-- the effects of statements, the first of which has number n; or why, and at which number, the first one failed
abbrev pub body_from : Edition → Look → Run → ℕ → List Stmt → Result Run (Reason × ℕ)
body_from e look run n [] = Ok run
body_from e look run n (s ∷ ss) = or_stop n (perform (seen e look run) run s) (λ next. body_from e look next (n + 1) ss)

-- how a body ended
abbrev pub Ended : Type 0
Ended = Result Run (Reason × ℕ)

abbrev pub body : Look → Txn → Ended
body look t = body_from t.edition look fresh 1 t.body
