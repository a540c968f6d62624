-- The indices of declared keys among the entries of a base.
use Rattle.std.proofs.Common.{◌≡◌, ℕ, suc, ◌*◌, ◌<◌, ◌≤◌, true, List, [], ◌∷◌, ◌++◌, length}
use Rattle.std.proofs.Common.{slice_get, get_or, Some, refl, sym, ◌∙◌, arith, All, length-append}
use Rattle.std.specs.List.{list_any}
use Rattle.std.specs.Str.{bytes_eq}
use Rattle.std.specs.Cmp.Lexicographic.{nat_list_eq_equiv}
use Rattle.std.proofs.lemmas.List.{length-map}
use Rattle.std.proofs.lemmas.List.Folds.{list_any-append}
use Rattle.std.proofs.lemmas.Map.Made.{length-le_from_is_member}
use Rattle.std.proofs.lemmas.Option.{slice_get-get_or, slice_get_within}
use Rattle.bohm_types.specs.declared.cell.Cell.{Cell}
use Rattle.bohm_types.specs.Txn.{Txn}
use Rattle.bohm_types.specs.Keys.{is_among}
use Rattle.bohm_txn.specs.Faulty.{IsWellFormedTxn}
use Rattle.bohm_txn.proofs.ForCallers.{usable}
use Rattle.bohm_place.specs.declared.access.Access.{Access}
use Rattle.bohm_place.specs.declared.access.Source.TheVariants.{Before}
use Rattle.bohm_place.specs.declared.declared_set.DeclaredSet.{DeclaredSet}
use Rattle.bohm_place.specs.Noting.{declares_key}
use Rattle.bohm_place.specs.Plans.{Planned, keys_in, HasSourcesOf, IsRightPlan}
use Rattle.bohm_board.specs.declared.batch.Batch.{Batch}
use Rattle.bohm_board.specs.declared.base.Base.TheVariants.{Listed}
use Rattle.bohm_board.specs.Batches.{key_in, accesses_in, position, txn_at, IsIn}
use Rattle.bohm_board.proofs.SlotNumbers.{txn_there}
use Rattle.bohm_board.proofs.WantedSources.{keys_paired}
use Rattle.bohm_board.specs.Bases.{keys_of, declared_keys, IsBase, IsBatched}

abbrev pub Entries : Type 0
Entries = List (List ℕ × Cell)

-- ---- a base has at most 32 entries per transaction

pub member_among : (ks : List (List ℕ)) (k : List ℕ) → list_any (bytes_eq k) ks ≡ is_among ks k
member_among [] k = refl
member_among (x ∷ ks) k = rw (nat_list_eq_equiv.symm k x, member_among ks k) refl

pub declared_any : (ts : List Txn) (k : List ℕ) → is_among (declared_keys ts) k ≡ list_any (declares_key k) ts
declared_any [] k = refl
declared_any (t ∷ ts) k = rw (
  list_any-append (λ y. bytes_eq y k) (t.reads ++ t.writes) (declared_keys ts),
  list_any-append (λ y. bytes_eq y k) t.reads t.writes,
  declared_any ts k,
) refl

pub length-declared : (ts : List Txn) → All IsWellFormedTxn ts → length (declared_keys ts) ≤ 32 * length ts
length-declared [] h = omega arith
length-declared (t ∷ ts) h =
    let each = usable t (h 0 t (omega arith)) in
    let rest = length-declared ts (λ i d l. h (suc i) d (omega arith)) in
    omega (arith, each.few_reads, each.few_writes, rest, length-append (t.reads ++ t.writes) (declared_keys ts), length-append t.reads t.writes)

pub few_entries : (ts : List Txn) (entries : Entries) → IsBase ts entries → All IsWellFormedTxn ts → length entries ≤ 32 * length ts
few_entries ts entries base formed =
    let keys = keys_of entries in
    let among : (k : List ℕ) → list_any (bytes_eq k) keys ≡ true → list_any (bytes_eq k) (declared_keys ts) ≡ true =
    λ k has. member_among (declared_keys ts) k ∙ declared_any ts k ∙ sym (base.each k) ∙ sym (member_among keys k) ∙ has in
    omega (
      arith,
      length-le_from_is_member nat_list_eq_equiv keys (declared_keys ts) base.apart among,
      length-declared ts formed,
      length-map entries (λ (e : List ℕ × Cell). e.0),
    )

-- `IsBatched` also holds for each right plan with the same sources, such as one with noted indices
pub batched_on : (txns : List Txn) (p q : Planned) → IsBatched txns p → HasSourcesOf p q → ∥ IsRightPlan txns q ∥₁ → IsBatched txns q
batched_on txns p q is same right = record {
  some = is.some;
  few = is.few;
  timestamps = omega (arith, is.timestamps, same.first);
  formed = is.formed;
  right = right;
}

-- ---- indices in a batch's base

-- an access of the batch has a key
pub key_there : (b : Batch) (set : DeclaredSet) (t j : ℕ) (a : Access) (x : Txn) → txn_at b t ≡ Some x → slice_get (accesses_in set b t) j ≡ Some a
    → (k : List ℕ) × (slice_get (keys_in set x) j ≡ Some k)
key_there b set t j a x at_x at =
    let keys = keys_in set x in
    let low : j < length keys = omega (arith, slice_get_within (accesses_in set b t) j a at, keys_paired b set t x at_x) in
    (get_or keys j [], slice_get-get_or keys j [] low)

-- an access whose source is `Before` has the index of its key in a listed base
pub placed : (b : Batch) (entries : Entries) (set : DeclaredSet) (t j : ℕ) (a : Access) → IsIn b t → b.base ≡ Listed entries
    → slice_get (accesses_in set b t) j ≡ Some a → a.source ≡ Before
    → (k : List ℕ) × (key_in set b t j ≡ Some k) × (slice_get (keys_of entries) a.index ≡ Some k)
placed b entries set t j a is listed at before =
    let (x, at_x) = txn_there b t is in
    let (k, at_k) = key_there b set t j a x at_x at in
    (k, rw at_x at_k, (b.based entries listed).1 set (position b t) j x a at_x at before k at_k)
