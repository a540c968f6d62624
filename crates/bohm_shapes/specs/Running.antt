-- Running a shape over the cells of its keys.
use Rattle.std.specs.Prelude.{◌≡◌, ℕ, ℤ, ◌+◌, ◌<◌, ◌≤◌, List, [], ◌∷◌, length, All, true}
use Rattle.bohm_types.specs.Limits.{most_stmts, most_terms}
use Rattle.bohm_txn.specs.Meaning.{Locals}
use Rattle.bohm_txn.specs.Tables.{Tables}
use Rattle.bohm_shapes.specs.Apart.{all_apart}
use Rattle.bohm_shapes.specs.declared.shape.Term.{Term}
use Rattle.bohm_shapes.specs.declared.shape.Term.TheVariants.{Number, Slot, Local}
use Rattle.bohm_shapes.specs.declared.shape.Step.{Step}
use Rattle.bohm_shapes.specs.declared.shape.Step.TheVariants.{Let, Need, Has, Lacks, Set, SetWhen, Remove, Show, Fail}
use Rattle.bohm_shapes.specs.declared.shape.Shape.{Shape}
use Rattle.bohm_shapes.specs.declared.registers.Work.{Work}

-- the most names that a procedure declares
abbrev pub most_slots : ℕ
most_slots = 32

-- the first names, with these values
abbrev pub bound_to : List (List ℕ) → List ℤ → Locals
bound_to [] vs = []
bound_to (x ∷ xs) [] = []
bound_to (x ∷ xs) (v ∷ vs) = (x, v) ∷ bound_to xs vs

abbrev pub tables_of : List (List ℕ) → Work → Tables
tables_of names w = record { locals = bound_to names w.locals.0; seen = w.seen.0; cells = w.cells.0; shows = w.shows.0 }

-- ---- indices of a body over this many keys, after n locals were bound

abbrev pub TermIn : ℕ → ℕ → Term → Type 0
TermIn k n (Number v) = Unit {0}
TermIn k n (Slot minus i) = i < k
TermIn k n (Local minus i) = i < n

pub record SumIn (k n : ℕ) (terms : List Term) : Type 0 where
  pub each : All (TermIn k n) terms
  pub few : length terms ≤ most_terms

-- the names of the locals are these
abbrev pub StepIn : List (List ℕ) → ℕ → ℕ → Step → Type 0
StepIn names k n (Let i sum) = (i ≡ n) × (n < length names) × SumIn k n sum.items
StepIn names k n (Need left cmp right) = SumIn k n left.items × SumIn k n right.items
StepIn names k n (Has i) = i < k
StepIn names k n (Lacks i) = i < k
StepIn names k n (Set i sum) = (i < k) × SumIn k n sum.items
StepIn names k n (SetWhen i sum left cmp right) = (i < k) × SumIn k n sum.items × SumIn k n left.items × SumIn k n right.items
StepIn names k n (Remove i) = i < k
StepIn names k n (Show sum) = SumIn k n sum.items
StepIn names k n Fail = Unit {0}

-- how many locals a statement binds
abbrev pub lets_in : Step → ℕ
lets_in (Let i sum) = 1
lets_in (Need left cmp right) = 0
lets_in (Has i) = 0
lets_in (Lacks i) = 0
lets_in (Set i sum) = 0
lets_in (SetWhen i sum left cmp right) = 0
lets_in (Remove i) = 0
lets_in (Show sum) = 0
lets_in Fail = 0

abbrev pub StepsIn : List (List ℕ) → ℕ → ℕ → List Step → Type 0
StepsIn names k n [] = Unit {0}
StepsIn names k n (x ∷ xs) = StepIn names k n x × StepsIn names k (n + lets_in x) xs

-- the indices are within the lists, and locals differ from one another
pub record IsUsable (s : Shape) : Type 0 where
  pub within : StepsIn s.locals.items (length s.names.items) s.values s.steps.items
  pub apart : all_apart s.locals.items ≡ true
  pub named : s.values ≤ length s.locals.items
  pub few_stmts : s.values + length s.steps.items ≤ most_stmts
  pub few_names : length s.names.items ≤ most_slots
  pub written : s.writes ≤ length s.names.items

-- ---- a run

-- there is a cell for each key, and keys and locals differ from one another
pub record Fits (names keys : List (List ℕ)) (w : Work) : Type 0 where
  pub apart_keys : all_apart keys ≡ true
  pub seen : length w.seen.0 ≡ length keys
  pub cells : length w.cells.0 ≡ length keys
  pub apart : all_apart names ≡ true
  pub locals : length w.locals.0 ≤ length names

-- room for one more local and one more shown value
pub record HasRoom (w : Work) : Type 0 where
  pub more_locals : length w.locals.0 < w.locals.1
  pub more_shows : length w.shows.0 < w.shows.1

-- room for 64 locals, 32 keys and 64 shown values
pub record IsRoomy (w : Work) : Type 0 where
  pub locals : most_stmts ≤ w.locals.1
  pub seen : most_slots ≤ w.seen.1
  pub cells : most_slots ≤ w.cells.1
  pub shows : most_stmts ≤ w.shows.1

-- room stays
pub record Keeps (old new : Work) : Type 0 where
  pub limit_locals : new.locals.1 ≡ old.locals.1
  pub limit_seen : new.seen.1 ≡ old.seen.1
  pub limit_cells : new.cells.1 ≡ old.cells.1
  pub limit_shows : new.shows.1 ≡ old.shows.1
