-- Looks and fills in a view, and the accesses whose versions a position wants.
use Rattle.std.proofs.Common.{◌≡◌, ℕ, ◌+◌, ◌<◌, ◌≤◌, List, [], ◌∷◌, ◌++◌, length, Bool, false, Option, None, Some, refl, sym, ap, ◌∙◌, subst, ⊎_elim, arith}
use Rattle.std.specs.Prelude.{Contains, if◌then◌else◌}
use Rattle.std.proofs.lemmas.List.Elements.{Contains-append_left, Contains-append_right, Contains-push, Contains-push_cases}
use mathlib.Core.Logic.{dite}
use native.Mathlib.Decide.{ℕ_discrete}
use Rattle.bohm_types.specs.declared.cell.Cell.{Cell}
use Rattle.bohm_types.specs.declared.cell.Cell.TheVariants.{Absent, Present}
use Rattle.bohm_types.specs.Txn.{Txn}
use Rattle.bohm_txn.specs.Faulty.{IsWellFormedTxn}
use Rattle.bohm_place.specs.declared.access.Access.{Access}
use Rattle.bohm_place.specs.declared.declared_set.DeclaredSet.{DeclaredSet}
use Rattle.bohm_place.specs.declared.declared_set.DeclaredSet.TheVariants.{Reads, Writes}
use Rattle.bohm_board.specs.declared.batch.Batch.{Batch}
use Rattle.bohm_board.specs.declared.slot.Slot.{Slot}
use Rattle.bohm_board.specs.declared.knowledge.View.{View}
use Rattle.bohm_board.specs.Batches.{position, txns_of, txn_at, IsIn, accesses_in, reads_at, writes_at, is_sure_at, slot_in}
use Rattle.bohm_board.specs.Passes.{KnowsWanted}
use Rattle.bohm_board.specs.Views.{Knows, after_look, after_fill}
use Rattle.bohm_board.proofs.ForCallers.{keeps_same, keeps_then, keeps_looked, txn_there, reads_paired, writes_paired, in_either}
use Rattle.bohm_place.proofs.ForCallers.{formed_at, usable_at}
use Rattle.bohm_exec.specs.Handed.{WantsAllOf, KnowsAll, slot_of}
use Rattle.bohm_exec.specs.Steps.{LooksOnly}

-- ---- looks

pub no_looks : (v : View) → LooksOnly v v
no_looks v = record { keeps = keeps_same v; done = refl; finished = refl; busy = refl; held = refl; stored = refl; filled = refl }

looks_on : (v w : View) (k : Slot) (answer : Option Cell) → LooksOnly v w → LooksOnly v (after_look w k answer)
looks_on v w k None l = l
looks_on v w k (Some Absent) l = record {
  keeps = keeps_then v w (after_look w k (Some Absent)) l.keeps (keeps_looked w k (Some Absent));
  done = l.done;
  finished = l.finished;
  busy = l.busy;
  held = l.held;
  stored = l.stored;
  filled = l.filled;
}
looks_on v w k (Some (Present z)) l = record {
  keeps = keeps_then v w (after_look w k (Some (Present z))) l.keeps (keeps_looked w k (Some (Present z)));
  done = l.done;
  finished = l.finished;
  busy = l.busy;
  held = l.held;
  stored = l.stored;
  filled = l.filled;
}

-- after one more look, still nothing else has changed
pub one_look : (v w u : View) (k : Slot) (answer : Option Cell) → LooksOnly v w → u ≡ after_look w k answer → LooksOnly v u
one_look v w u k answer l e = subst (λ (z : View). LooksOnly v z) (sym e) (looks_on v w k answer l)

pub then_looks : (u v w : View) → LooksOnly u v → LooksOnly v w → LooksOnly u w
then_looks u v w a b = record {
  keeps = keeps_then u v w a.keeps b.keeps;
  done = b.done ∙ a.done;
  finished = b.finished ∙ a.finished;
  busy = b.busy ∙ a.busy;
  held = b.held ∙ a.held;
  stored = b.stored ∙ a.stored;
  filled = b.filled ∙ a.filled;
}

-- ---- the versions that a position wants

pub few_in : (b : Batch) (set : DeclaredSet) (t : ℕ) → IsIn b t → length (accesses_in set b t) ≤ 16
few_in b Reads t is =
    let (x, at) = txn_there b t is in
    let few = (usable_at (txns_of b) b.batched.formed (position b t) x at).few_reads in
    omega (arith, few, reads_paired b t x at)
few_in b Writes t is =
    let (x, at) = txn_there b t is in
    let few = (usable_at (txns_of b) b.batched.formed (position b t) x at).few_writes in
    omega (arith, few, writes_paired b t x at)

pub reads_wanted : (b : Batch) (t : ℕ) → WantsAllOf b t Reads
reads_wanted b t = λ a in_it. Contains-append_left (reads_at b t) (if is_sure_at b t then [] else writes_at b t) a in_it

pub writes_wanted : (b : Batch) (t : ℕ) → is_sure_at b t ≡ false → WantsAllOf b t Writes
writes_wanted b t unsure = λ a in_it.
    let P : Bool → Type 0 = λ s. Contains (reads_at b t ++ (if s then [] else writes_at b t)) a in
    subst P (sym unsure) (Contains-append_right (reads_at b t) (writes_at b t) a in_it)

-- a position's wanted slots are known if those of its reads are and, unless it is sure, those of its writes
pub knows_wanted : (b : Batch) (v : View) (t : ℕ) → KnowsAll b v (reads_at b t) → (is_sure_at b t ≡ false → KnowsAll b v (writes_at b t)) → KnowsWanted b v t
knows_wanted b v t reads writes = λ a u in_it is. ⊎_elim
    (λ (c : Contains (reads_at b t) a). reads a u c is)
    (λ (c : (is_sure_at b t ≡ false) × Contains (writes_at b t) a). writes c.0 a u c.1 is)
    (in_either (is_sure_at b t) (reads_at b t) (writes_at b t) a in_it)

pub knows_later : (b : Batch) (v w : View) (accesses : List Access) → ((x : Slot) → Knows v x → Knows w x) → KnowsAll b v accesses → KnowsAll b w accesses
knows_later b v w accesses later all = λ a u in_it is. later (slot_in u a) (all a u in_it is)

pub well_formed : (b : Batch) (t : ℕ) (x : Txn) → txn_at b t ≡ Some x → IsWellFormedTxn x
well_formed b t x at = formed_at (txns_of b) b.batched.formed (position b t) x at

-- ---- fills

-- slots of the held position were filled, and nothing else changed
pub record FillsOnly (v w : View) : Type 0 where
  pub right : w.right ≡ v.right
  pub done : w.done ≡ v.done
  pub finished : w.finished ≡ v.finished
  pub busy : w.busy ≡ v.busy
  pub absent : w.absent ≡ v.absent
  pub present : w.present ≡ v.present
  pub held : w.held ≡ v.held

pub no_fills : (v : View) → FillsOnly v v
no_fills v = record { right = refl; done = refl; finished = refl; busy = refl; absent = refl; present = refl; held = refl }

fills_on : (v w : View) (k : Slot) (c : Cell) → FillsOnly v w → FillsOnly v (after_fill w k c) × ((after_fill w k c).filled ≡ w.filled ++ k ∷ [])
fills_on v w k Absent f = (record { right = f.right; done = f.done; finished = f.finished; busy = f.busy; absent = f.absent; present = f.present; held = f.held }, refl)
fills_on v w k (Present z) f = (record { right = f.right; done = f.done; finished = f.finished; busy = f.busy; absent = f.absent; present = f.present; held = f.held }, refl)

-- after one more fill, still nothing else has changed, and the slot is the last one filled
pub one_fill : (v w u : View) (k : Slot) (c : Cell) → FillsOnly v w → u ≡ after_fill w k c → FillsOnly v u × (u.filled ≡ w.filled ++ k ∷ [])
one_fill v w u k c f e = subst (λ (z : View). FillsOnly v z × (z.filled ≡ w.filled ++ k ∷ [])) (sym e) (fills_on v w k c f)

-- wanted slots that are known stay known while the position's own slots are filled
pub wanted_stays : (b : Batch) (v w : View) (t : ℕ) → w.absent ≡ v.absent → w.present ≡ v.present → KnowsWanted b v t → KnowsWanted b w t
wanted_stays b v w t absent present knows = λ a u in_it is.
    let P : List Slot → Type 0 = λ xs. Contains xs (slot_in u a) in
    subst P (λ i. sym absent i ++ sym present i) (knows a u in_it is)

-- with slot j of t added, all filled slots have an index below j + 1
pub below_fill : (xs : List Slot) (t j : ℕ) → ((x : Slot) → Contains xs x → x.index < j) → (x : Slot) → Contains (xs ++ slot_of t j ∷ []) x → x.index < j + 1
below_fill xs t j all x c = ⊎_elim (λ (h : Contains xs x). let l = all x h in omega arith)
    (λ (e : slot_of t j ≡ x). let same : j ≡ x.index = ap (λ (z : Slot). z.index) e in omega arith) (Contains-push_cases xs (slot_of t j) x c)

pub all_fill : (xs : List Slot) (t n : ℕ) → ((j : ℕ) → j < n → Contains xs (slot_of t j)) → (j : ℕ) → j < n + 1
    → Contains (xs ++ slot_of t n ∷ []) (slot_of t j)
all_fill xs t n all j l = dite (ℕ_discrete j n)
    (λ e. subst (λ (z : ℕ). Contains (xs ++ slot_of t n ∷ []) (slot_of t z)) (sym e) (Contains-push xs (slot_of t n)))
    (λ ne. Contains-append_left xs (slot_of t n ∷ []) (slot_of t j) (all j (omega arith)))
