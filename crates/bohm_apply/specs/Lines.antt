-- The notes of the plan queue, and its rule.
use Rattle.std.specs.Prelude.{◌≡◌, ℕ, ◌+◌, ◌<◌, Bool, true, List, [], ◌∷◌, ◌++◌, length, All, IsNone, IsSome}
use Rattle.std.specs.Option.{ForSome}
use mathlib.Core.Option.{some}
use lib.ListN.{get_elem?}
use Rattle.atomic_table.specs.Seated.{TableId}
use Rattle.bohm_place.specs.Cuttings.{Cutting, IsPlanAt}
use Rattle.bohm_apply.specs.declared.plan_queue.note.PlanNote.{PlanNote}
use Rattle.bohm_apply.specs.declared.plan_queue.rule.End.{End}

-- the note is of the batch at this index; a plan in it is right for that batch
pub record IsNoteAt (c : Cutting) (i : ℕ) (x : PlanNote) : Type 0 where
  pub number : x.number ≡ i + 1
  pub batch : i < length c.sizes
  pub plan : ForSome x.plan (IsPlanAt c i)

-- notes of the batches from this index on; only the last may say that planning failed to allocate
abbrev pub IsLine : Cutting → ℕ → List PlanNote → Type 0
IsLine c i [] = Unit {0}
IsLine c i (x ∷ xs) = IsNoteAt c i x × (IsNone x.plan → xs ≡ []) × IsLine c (i + 1) xs

-- these are the notes of all batches, or the last of them says that planning failed to allocate
abbrev pub IsWholeLine : Cutting → List PlanNote → Type 0
IsWholeLine c notes = All (λ x. IsSome x.plan) notes → length notes ≡ length c.sizes

-- an end of a plan queue: the queue, and the notes that it sent or took
pub record LineEnd : Type 0 where
  pub queue : TableId
  pub notes : List PlanNote

-- ---- the rule

abbrev pub end_of : Bool → Bool → List PlanNote → List PlanNote → End
end_of sends takes sent taken = record { sends = sends; takes = takes; sent = sent; taken = taken }

-- the only end that sends has sent these, and the only end that takes has taken these
abbrev pub Fits : ℕ → ℕ → List PlanNote → List PlanNote → ℕ → End → Type 0
Fits sender receiver sent taken port v = (v.sends ≡ true → (port ≡ sender) × (v.sent ≡ sent)) × (v.takes ≡ true → (port ≡ receiver) × (v.taken ≡ taken))

-- the sent notes are those of consecutive batches: the taken ones, followed by those that the queue holds
pub record IsInOrder (c : Cutting) (items : List PlanNote) (views : List End) : Type 0 where
  pub sender : ℕ
  pub receiver : ℕ
  pub sent : List PlanNote
  pub taken : List PlanNote
  pub held : sent ≡ taken ++ items
  pub line : IsLine c 0 sent
  pub fit : (port : ℕ) (v : End) → get_elem? views port ≡ some v → Fits sender receiver sent taken port v
