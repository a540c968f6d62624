-- The input of a position has, for each declared key, the cell of the key's access.
-- If its wanted slots are filled, the position has the same outcome and cells over its input as in the serial run.
use Rattle.std.proofs.Common.{◌≡◌, ℕ, zero, suc, ◌+◌, List, [], ◌∷◌, ◌++◌, map, length, Bool, true, false}
use Rattle.std.proofs.Common.{cond, Some, refl, ap, sym, ◌∙◌, subst, inl, inr, arith, ◌<◌, ◌≤◌, ⊎_elim}
use Rattle.std.specs.Prelude.{Option, Contains, unwrap_or, if◌then◌else◌, true}
use Rattle.std.specs.Option.{option_map}
use Rattle.std.specs.List.{slice_get, All}
use Rattle.std.specs.Str.{bytes_eq}
use Rattle.std.proofs.lemmas.Option.{same_Some, slice_get_within, get_or_from_slice_get}
use Rattle.std.proofs.lemmas.List.{append-nil}
use Rattle.std.proofs.lemmas.List.Elements.{Contains-append_left, Contains-append_right}
use Rattle.bohm_types.specs.declared.cell.Cell.{Cell}
use Rattle.bohm_types.specs.declared.cell.Cell.TheVariants as cells
use Rattle.bohm_types.specs.Txn.{Txn}
use Rattle.bohm_types.specs.Keys.{IsAmong, is_among}
use Rattle.bohm_txn.specs.Declares.{shows_in}
use Rattle.bohm_txn.specs.Meaning.{Look, Ended, newest, body, ◌>>=◌}
use Rattle.bohm_txn.specs.Serial.{after, state, shows_of, outcome_of}
use Rattle.bohm_txn.specs.Sure.{is_sure, IsSure}
use Rattle.bohm_txn.proofs.ForCallers.{same_key, key_itself, same_reads, same_cells, among_at, there, sure_body, sure_after, rising_writes}
use Rattle.bohm_place.specs.declared.access.Access.{Access}
use Rattle.bohm_place.specs.declared.access.Source.{Source}
use Rattle.bohm_place.specs.declared.access.Source.TheVariants.{Before, Within}
use Rattle.bohm_board.specs.declared.batch.Batch.{Batch}
use Rattle.bohm_board.specs.declared.slot.Slot.{Slot}
use Rattle.bohm_board.specs.Serial.{own_cells, show_cells}
use Rattle.bohm_board.specs.Batches.{txns_of, base_of, position, number, rights_of, right_cell, IsIn, IsSlot}
use Rattle.bohm_board.specs.Batches.{txn_at, reads_at, writes_at, wanted_at, is_sure_at, plan_of, first_of}
use Rattle.bohm_board.specs.Inputs.{IsCellFrom, IsCellOf, EndsAlike}
use Rattle.bohm_board.proofs.Inputs.{among_place, own_right, outcome_right, read_before, write_before, cell_planned}
use Rattle.bohm_board.proofs.SlotNumbers.{txn_there, slot_there}
use Rattle.bohm_board.proofs.SerialSlots.{get_left, get_right, length-own_cells}
use Rattle.bohm_board.proofs.SlotPlaces.{in_either}
use Rattle.bohm_board.proofs.WantedSources.{reads_paired, writes_paired}
use Rattle.bohm_board.specs.Core.{State, IsFull, HasWanted, cell_from, cell_at, entries, input, outcome_over, cell_over, cell_in}
use Rattle.std.proofs.lemmas.Bool.{cases_lt}
use Rattle.bohm_txn.specs.Faulty.{IsWellFormedTxn}
use Rattle.bohm_place.specs.Plans.{IsRightAccess, AreRightAccesses, IsRightPlan, IsIndexOf}
use Rattle.bohm_place.specs.Shares.{AreDistinct}
use Rattle.bohm_place.specs.Writers.{IsNewest, WritesAt}
use Rattle.bohm_place.proofs.ForCallers.{AreDistinct-rising, usable_at}
use Rattle.bohm_board.specs.Law.{IsSound}
use Rattle.bohm_board.proofs.BoardLaw.{filled_right}

pub contains_at : {A : Type 0} (xs : List A) (j : ℕ) (x : A) → slice_get xs j ≡ Some x → Contains xs x
contains_at xs j x e = (j, slice_get_within xs j x e, get_or_from_slice_get xs j x x e)

-- ---- a key's newest cell in a list of entries

-- if P holds for d and for the cell of each entry of k, P holds for k's newest cell
newest_has : (P : Cell → Type 0) (es : List (List ℕ × Cell)) (k : List ℕ) (d : Cell)
    → ((j : ℕ) (e : List ℕ × Cell) → slice_get es j ≡ Some e → e.0 ≡ k → P e.1) → P d → P (newest es k d)
newest_has P [] k d each here = here
newest_has P (e ∷ es) k d each here =
    newest_has P es k (if bytes_eq e.0 k then e.1 else d) (λ j. each (suc j))
    (elim (bytes_eq e.0 k) as (λ (b : Bool). bytes_eq e.0 k ≡ b → P (cond b e.1 d)) [
      | true ↦ λ same. each 0 e refl (same_key e.0 k same)
      | false ↦ λ _. here
    ] refl)

-- if k has an entry, and P holds for the cell of each entry of k, P holds for k's newest cell
pub newest_among : (P : Cell → Type 0) (es : List (List ℕ × Cell)) (k : List ℕ) (d : Cell) (j : ℕ) (e : List ℕ × Cell) → slice_get es j ≡ Some e → e.0 ≡ k
    → ((m : ℕ) (f : List ℕ × Cell) → slice_get es m ≡ Some f → f.0 ≡ k → P f.1) → P (newest es k d)
newest_among P [] k d j e at same each = absurd cc
newest_among P (x ∷ es) k d zero e at same each =
    let first : x ≡ e = same_Some x e at in
    let key : x.0 ≡ k = ap (λ (y : List ℕ × Cell). y.0) first ∙ same in
    let found : bytes_eq x.0 k ≡ true = subst (λ (y : List ℕ). bytes_eq x.0 y ≡ true) key (key_itself x.0) in
    newest_has P es k (if bytes_eq x.0 k then x.1 else d) (λ m. each (suc m)) (subst (λ (b : Bool). P (cond b x.1 d)) (sym found) (each 0 x refl key))
newest_among P (x ∷ es) k d (suc j) e at same each = newest_among P es k (if bytes_eq x.0 k then x.1 else d) j e at same (λ m. each (suc m))

-- ---- the entries of a list of keys

-- e is key j with its cell by access j
pub record IsEntry (b : Batch) (s : State) (keys : List (List ℕ)) (accesses : List Access) (j : ℕ) (e : List ℕ × Cell) : Type 0 where
  pub access : Access
  pub key_at : slice_get keys j ≡ Some e.0
  pub access_at : slice_get accesses j ≡ Some access
  pub cell : e.1 ≡ cell_at b s e.0 access

pub entry_of : (b : Batch) (s : State) (keys : List (List ℕ)) (accesses : List Access) (j : ℕ) (e : List ℕ × Cell)
    → slice_get (entries b s keys accesses) j ≡ Some e → IsEntry b s keys accesses j e
entry_of b s [] accesses j e at = absurd cc
entry_of b s (k ∷ ks) [] j e at = absurd cc
entry_of b s (k ∷ ks) (a ∷ more) zero e at =
    let same : (k, cell_at b s k a) ≡ e = same_Some _ e at in
    subst (IsEntry b s (k ∷ ks) (a ∷ more) zero) same (record { access = a; key_at = refl; access_at = refl; cell = refl })
entry_of b s (k ∷ ks) (a ∷ more) (suc j) e at =
    let rest = entry_of b s ks more j e at in
    record { access = rest.access; key_at = rest.key_at; access_at = rest.access_at; cell = rest.cell }

-- each key with an access has an entry, with its cell by the access
pub entry_at : (b : Batch) (s : State) (keys : List (List ℕ)) (accesses : List Access) (j : ℕ) (k : List ℕ) (a : Access) → slice_get keys j ≡ Some k
    → slice_get accesses j ≡ Some a → slice_get (entries b s keys accesses) j ≡ Some (k, cell_at b s k a)
entry_at b s [] accesses j k a at_key at_access = absurd cc
entry_at b s (x ∷ ks) [] j k a at_key at_access = absurd cc
entry_at b s (x ∷ ks) (y ∷ more) zero k a at_key at_access =
    let key : x ≡ k = same_Some x k at_key in
    let access : y ≡ a = same_Some y a at_access in
    λ i. Some (key i, cell_at b s (key i) (access i))
entry_at b s (x ∷ ks) (y ∷ more) (suc j) k a at_key at_access = entry_at b s ks more j k a at_key at_access

-- ---- right accesses of a key have the same source and slot

same_place : (ks : List (List ℕ)) (i j : ℕ) (k : List ℕ) → AreDistinct ks → slice_get ks i ≡ Some k → slice_get ks j ≡ Some k → i ≡ j
same_place [] i j k d e f = absurd cc
same_place (x ∷ ks) zero zero k d e f = refl
same_place (x ∷ ks) zero (suc j) k d e f =
    let first : x ≡ k = same_Some x k e in
    let there : is_among ks k ≡ true = among_at ks j k f in
    let none_there : is_among ks k ≡ false = subst (λ (y : List ℕ). is_among ks y ≡ false) first d.0 in
    let no : false ≡ true = sym none_there ∙ there in
    absurd cc
same_place (x ∷ ks) (suc i) zero k d e f =
    let first : x ≡ k = same_Some x k f in
    let there : is_among ks k ≡ true = among_at ks i k e in
    let none_there : is_among ks k ≡ false = subst (λ (y : List ℕ). is_among ks y ≡ false) first d.0 in
    let no : false ≡ true = sym none_there ∙ there in
    absurd cc
same_place (x ∷ ks) (suc i) (suc j) k d e f = ap suc (same_place ks i j k d.1 e f)

same_source : (first : ℕ) (txns : List Txn) (k : List ℕ) (t : ℕ) (o r : Source) → IsNewest first txns k t o → IsNewest first txns k t r → o ≡ r
same_source first txns k t Before Before n m = refl
same_source first txns k t Before (Within u) n m = absurd (n u m.below m.holds)
same_source first txns k t (Within u) Before n m = absurd (m u n.below n.holds)
same_source first txns k t (Within u) (Within v) n m = ⊎_elim
    (λ (low : u < v). absurd (n.none_between v low m.below m.holds))
    (λ (high : v ≤ u). ⊎_elim
    (λ (low : v < u). absurd (m.none_between u low n.below n.holds))
    (λ (not_low : u ≤ v). let same : u ≡ v = omega arith in ap Within same)
    (cases_lt v u))
    (cases_lt u v)

same_index : (first : ℕ) (txns : List Txn) (k : List ℕ) (u i j : ℕ) → All IsWellFormedTxn txns → WritesAt first txns k u i → WritesAt first txns k u j → i ≡ j
same_index first txns k u i j all n m =
    let stamp : u ≡ first + n.there.place = n.there.timestamp in
    let other : u ≡ first + m.there.place = m.there.timestamp in
    let place : m.there.place ≡ n.there.place = omega arith in
    let same : m.txn ≡ n.txn = same_Some m.txn n.txn (sym m.there.is_at ∙ (ap (slice_get txns) place ∙ n.there.is_at)) in
    let formed : IsWellFormedTxn n.txn = subst IsWellFormedTxn (get_or_from_slice_get txns n.there.place n.txn n.txn n.there.is_at)
    (all n.there.place n.txn (slice_get_within txns n.there.place n.txn n.there.is_at)) in
    same_place n.txn.writes i j k (AreDistinct-rising n.txn.writes (rising_writes n.txn formed)) n.declared
    (subst (λ (x : Txn). slice_get x.writes j ≡ Some k) same m.declared)

-- ---- all entries of a key have the same cell

module _ (b : Batch) (s : State) (t : ℕ) (x : Txn) (at : txn_at b t ≡ Some x) (plan : IsRightPlan (txns_of b) (plan_of b)) where
  abbrev Right : List ℕ → Access → Type 0
  Right k a = IsRightAccess (first_of b) (txns_of b) (first_of b + position b t) k a

  same_cell_by : (k : List ℕ) (i j : ℕ) (o : Source) → IsIndexOf (first_of b) (txns_of b) k i o → IsIndexOf (first_of b) (txns_of b) k j o
      → cell_from b s k i o ≡ cell_from b s k j o
  same_cell_by k i j Before n m = refl
  same_cell_by k i j (Within u) n m = ap (λ (index : ℕ). cell_in s (record { txn = u; index = index }))
      (same_index (first_of b) (txns_of b) k u i j b.batched.formed n m)

  same_cell : (k : List ℕ) (a d : Access) → Right k a → Right k d → cell_at b s k a ≡ cell_at b s k d
  same_cell k a d n m =
      let source : a.source ≡ d.source = same_source (first_of b) (txns_of b) k (first_of b + position b t) a.source d.source n.newest m.newest in
      ap (cell_from b s k a.index) source ∙ same_cell_by k a.index d.index d.source
      (subst (IsIndexOf (first_of b) (txns_of b) k a.index) source n.write) m.write

  own_entry : (keys : List (List ℕ)) (accesses : List Access) → AreRightAccesses (first_of b) (txns_of b) (first_of b + position b t) keys accesses
      → (m : ℕ) (e : List ℕ × Cell) (k : List ℕ) (a : Access) → Right k a → slice_get (entries b s keys accesses) m ≡ Some e → e.0 ≡ k → e.1 ≡ cell_at b s k a
  own_entry keys accesses are m e k a right at_m key =
      let is = entry_of b s keys accesses m e at_m in
      let here : Right e.0 is.access = are.each m e.0 is.access is.key_at is.access_at in
      is.cell ∙ (λ i. cell_at b s (key i) is.access) ∙ same_cell k is.access a (subst (λ (y : List ℕ). Right y is.access) key here) right

  abbrev all_entries : List (List ℕ × Cell)
  all_entries = entries b s x.reads (reads_at b t) ++ entries b s x.writes (writes_at b t)

  each_entry : (k : List ℕ) (a : Access) → Right k a → (m : ℕ) (e : List ℕ × Cell) → slice_get all_entries m ≡ Some e → e.0 ≡ k → e.1 ≡ cell_at b s k a
  each_entry k a right m e at_m key = elim (in_either (entries b s x.reads (reads_at b t))
      (entries b s x.writes (writes_at b t)) m e at_m) as (λ _. e.1 ≡ cell_at b s k a) [
        | inl h ↦ own_entry x.reads (reads_at b t) (plan.reads (position b t) x at) m e k a right h key
        | inr (n, _, h) ↦ own_entry x.writes (writes_at b t) (plan.writes (position b t) x at) n e k a right h key
      ]

  found : (k : List ℕ) (a : Access) (m : ℕ) → Right k a → slice_get all_entries m ≡ Some (k, cell_at b s k a) → input b s t x k ≡ cell_at b s k a
  found k a m right at_m = newest_among (λ c. c ≡ cell_at b s k a) all_entries k cells.Absent m (k, cell_at b s k a) at_m refl (each_entry k a right)

  read_found : (j : ℕ) (k : List ℕ) (a : Access) → slice_get x.reads j ≡ Some k → slice_get (reads_at b t) j ≡ Some a → input b s t x k ≡ cell_at b s k a
  read_found j k a at_key at_access =
      found k a j ((plan.reads (position b t) x at).each j k a at_key at_access)
      (get_left (entries b s x.reads (reads_at b t)) (entries b s x.writes (writes_at b t)) j (k, cell_at b s k a)
      (entry_at b s x.reads (reads_at b t) j k a at_key at_access))

  write_found : (j : ℕ) (k : List ℕ) (a : Access) → slice_get x.writes j ≡ Some k → slice_get (writes_at b t) j ≡ Some a → input b s t x k ≡ cell_at b s k a
  write_found j k a at_key at_access =
      let first : List (List ℕ × Cell) = entries b s x.reads (reads_at b t) in
      found k a (length first + j) ((plan.writes (position b t) x at).each j k a at_key at_access)
      (get_right first (entries b s x.writes (writes_at b t)) (length first + j) j refl ∙ entry_at b s x.writes (writes_at b t) j k a at_key at_access)

pub read_by_access : (b : Batch) (s : State) (t j : ℕ) (x : Txn) (k : List ℕ) (a : Access) → txn_at b t ≡ Some x → slice_get x.reads j ≡ Some k
    → slice_get (reads_at b t) j ≡ Some a → input b s t x k ≡ cell_at b s k a
read_by_access b s t j x k a at at_key at_access =
    cell_planned b k (input b s t x) (cell_at b s k a) (λ plan. read_found b s t x at plan j k a at_key at_access)

pub write_by_access : (b : Batch) (s : State) (t j : ℕ) (x : Txn) (k : List ℕ) (a : Access) → txn_at b t ≡ Some x → slice_get x.writes j ≡ Some k
    → slice_get (writes_at b t) j ≡ Some a → input b s t x k ≡ cell_at b s k a
write_by_access b s t j x k a at at_key at_access =
    cell_planned b k (input b s t x) (cell_at b s k a) (λ plan. write_found b s t x at plan j k a at_key at_access)

-- ---- t has the same outcome and cells over its input as over the state before it

source_right : (b : Batch) (s : State) (k : List ℕ) (index : ℕ) (o : Source) → IsSound b s
    → ((u : ℕ) → o ≡ Within u → IsFull s (record { txn = u; index = index })) → IsCellFrom b k index (cell_from b s k index o) o
source_right b s k index Before sound filled = refl
source_right b s k index (Within u) sound filled = filled_right b s (record { txn = u; index = index }) sound (filled u refl)

-- the cell of a wanted access is right
wanted_right : (b : Batch) (s : State) (t : ℕ) (k : List ℕ) (a : Access) → IsSound b s → HasWanted b s t → Contains (wanted_at b t) a
    → IsCellOf b k a (cell_at b s k a)
wanted_right b s t k a sound filled in_it = source_right b s k a.index a.source sound (λ u e. filled a u in_it e)

unsure_wants : (b : Batch) (t : ℕ) → is_sure_at b t ≡ false → wanted_at b t ≡ reads_at b t ++ writes_at b t
unsure_wants b t e = ap (λ (sure : Bool). reads_at b t ++ (if sure then [] else writes_at b t)) e

-- if t isn't sure, its input has each declared key's cell before t
module _ (b : Batch) (s : State) (t : ℕ) (x : Txn) (at : txn_at b t ≡ Some x) (sound : IsSound b s) (filled : HasWanted b s t)
    (unsure : is_sure_at b t ≡ false) where
  abbrev before : Look
  before = state (base_of b) (txns_of b) (position b t)

  read_wanted : (a : Access) → Contains (reads_at b t) a → Contains (wanted_at b t) a
  read_wanted a c = subst (λ (w : List Access). Contains w a) (sym (unsure_wants b t unsure)) (Contains-append_left (reads_at b t) (writes_at b t) a c)

  write_wanted : (a : Access) → Contains (writes_at b t) a → Contains (wanted_at b t) a
  write_wanted a c = subst (λ (w : List Access). Contains w a) (sym (unsure_wants b t unsure)) (Contains-append_right (reads_at b t) (writes_at b t) a c)

  -- the access of a declared read is wanted, so the input has the key's cell before t
  unsure_read : (k : List ℕ) → IsAmong x.reads k → input b s t x k ≡ before k
  unsure_read k among =
      let (j, at_key) = among_place x.reads k among in
      let (a, at_access) = there (reads_at b t) j (omega (arith, slice_get_within x.reads j k at_key, reads_paired b t x at)) in
      let right = wanted_right b s t k a sound filled (read_wanted a (contains_at (reads_at b t) j a at_access)) in
      read_by_access b s t j x k a at at_key at_access
      ∙ sym (read_before b (position b t) x j k (cell_at b s k a) at at_key
      (λ d at_d. subst (λ (y : Access). IsCellOf b k y (cell_at b s k a)) (same_Some a d (sym at_access ∙ at_d)) right))

  unsure_write : (k : List ℕ) → IsAmong x.writes k → input b s t x k ≡ before k
  unsure_write k among =
      let (j, at_key) = among_place x.writes k among in
      let (a, at_access) = there (writes_at b t) j (omega (arith, slice_get_within x.writes j k at_key, writes_paired b t x at)) in
      let right = wanted_right b s t k a sound filled (write_wanted a (contains_at (writes_at b t) j a at_access)) in
      write_by_access b s t j x k a at at_key at_access
      ∙ sym (write_before b (position b t) x j k (cell_at b s k a) at at_key
      (λ d at_d. subst (λ (y : Access). IsCellOf b k y (cell_at b s k a)) (same_Some a d (sym at_access ∙ at_d)) right))

  unsure_alike : EndsAlike (input b s t x) before x
  unsure_alike =
      let bodies : body (input b s t x) x ≡ body before x =
      same_reads (input b s t x) before x (usable_at (txns_of b) b.batched.formed (position b t) x at) unsure_read in
      let own : map (after (input b s t x) x) x.writes ≡ map (after before x) x.writes = same_cells (input b s t x) before x x.writes bodies unsure_write in
      record { bodies = bodies; cells = λ d. own d ++ show_cells (shows_in x.body) (shows_of (bodies d)) }

sure_alike : (look other : Look) (x : Txn) → IsSure x → EndsAlike look other x
sure_alike look other x sure =
    let bodies : body look x ≡ body other x = sure_body look other x sure in
    let own : map (after look x) x.writes ≡ map (after other x) x.writes = sure_after look other x sure in
    record { bodies = bodies; cells = λ d. own d ++ show_cells (shows_in x.body) (shows_of (bodies d)) }

pub over_own_input : (b : Batch) (s : State) (t : ℕ) (x : Txn) → txn_at b t ≡ Some x → IsSound b s → HasWanted b s t
    → EndsAlike (input b s t x) (state (base_of b) (txns_of b) (position b t)) x
over_own_input b s t x at sound filled =
    let here : is_sure_at b t ≡ is_sure x = ap (λ (o : Option Txn). unwrap_or (option_map is_sure o) false) at in
    elim (is_sure x) as (λ (v : Bool). is_sure x ≡ v → EndsAlike (input b s t x) (state (base_of b) (txns_of b) (position b t)) x) [
      | true ↦ λ e. sure_alike (input b s t x) (state (base_of b) (txns_of b) (position b t)) x e
      | false ↦ λ e. unsure_alike b s t x at sound filled (here ∙ e)
    ] refl

-- ---- the outcome and cells of a position over its input are right

outcome_at : (b : Batch) (s : State) (t : ℕ) (x : Txn) → txn_at b t ≡ Some x → outcome_over b s t ≡ Some (outcome_of (body (input b s t x) x))
outcome_at b s t x at = ap (λ (o : Option Txn). option_map (λ y. outcome_of (body (input b s t y) y)) o) at

pub outcome_is_right : (b : Batch) (s : State) (t : ℕ) → IsSound b s → IsIn b t → HasWanted b s t
    → outcome_over b s t ≡ slice_get (rights_of b).outcomes (position b t)
outcome_is_right b s t sound inside filled =
    let (x, at) = txn_there b t inside in
    let alike = over_own_input b s t x at sound filled in
    outcome_at b s t x at ∙ (ap (λ (e : Ended). Some (outcome_of e)) alike.bodies ∙ sym (outcome_right b (position b t) x at))

cell_over_at : (b : Batch) (s : State) (y : Slot) (x : Txn) → txn_at b y.txn ≡ Some x → cell_over b s y ≡ slice_get (own_cells (input b s y.txn x) x) y.index
cell_over_at b s y x at = ap (λ (o : Option Txn). o >>= (λ z. slice_get (own_cells (input b s y.txn z) z) y.index)) at

pub cell_is_right : (b : Batch) (s : State) (y : Slot) → IsSound b s → IsSlot b y → HasWanted b s y.txn
    → cell_over b s y ≡ right_cell (rights_of b) (number b y)
cell_is_right b s y sound is filled =
    let (x, at, below) = slot_there b y is in
    let before : Look = state (base_of b) (txns_of b) (position b y.txn) in
    let alike = over_own_input b s y.txn x at sound filled in
    let (c, own) = there (own_cells before x) y.index (omega (arith, below, length-own_cells before x)) in
    cell_over_at b s y x at ∙ (ap (λ (cs : List Cell). slice_get cs y.index) alike.cells ∙ (own ∙ sym (own_right b (position b y.txn) x at y.index c own)))

pub sure_wants : (b : Batch) (t : ℕ) (x : Txn) → txn_at b t ≡ Some x → IsSure x → wanted_at b t ≡ reads_at b t
sure_wants b t x at sure =
    let here : is_sure_at b t ≡ true = ap (λ (o : Option Txn). unwrap_or (option_map is_sure o) false) at ∙ sure in
    ap (λ (v : Bool). reads_at b t ++ (if v then [] else writes_at b t)) here ∙ append-nil (reads_at b t)
