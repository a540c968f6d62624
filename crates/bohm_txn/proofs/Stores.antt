-- The cells of a store after writes and after transactions; stores with the same cells are equal.
use Rattle.std.proofs.Common.{◌≡◌, ℕ, Bool, true, false, cond, List, [], ◌∷◌, length, Option, Some, None, refl, ap, ◌∙◌}
use Rattle.std.specs.Prelude.{ℤ, if◌then◌else◌}
use Rattle.std.specs.Ordering.{nat_cmp, eq_by_cmp}
use Rattle.std.specs.Cmp.{eq_by_cmp_equiv}
use Rattle.std.specs.Cmp.Lexicographic.{slice_cmp, nat_list_cmp_total}
use Rattle.std.specs.FinMap as map
use Rattle.std.specs.Str.{bytes_eq}
use Rattle.std.proofs.lemmas.Map.Text.{is_eq-slice_cmp}
use Rattle.bohm_types.specs.declared.cell.Cell.{Cell}
use Rattle.bohm_types.specs.declared.cell.Cell.TheVariants.{Absent, Present}
use Rattle.bohm_types.specs.Txn.{Txn}
use Rattle.bohm_txn.specs.Meaning.{body, newest}
use Rattle.bohm_txn.specs.Serial.{after, state, writes_of}
use Rattle.bohm_txn.specs.Stores.{Store, cell_of, cell_in, put, put_all, store_after}

pub tested : (q k : List ℕ) → eq_by_cmp (slice_cmp nat_cmp) q k ≡ bytes_eq k q
tested q k = (eq_by_cmp_equiv nat_list_cmp_total).symm q k ∙ is_eq-slice_cmp k q

cell_if : (b : Bool) (o p : Option ℤ) → cell_of (cond b o p) ≡ cond b (cell_of o) (cell_of p)
cell_if true o p = refl
cell_if false o p = refl

cell_in-put : (s : Store) (k : List ℕ) (c : Cell) (q : List ℕ) → cell_in (put s k c) q ≡ (if bytes_eq k q then c else cell_in s q)
cell_in-put s k Absent q = ap cell_of (map.get-remove nat_list_cmp_total s k q) ∙ cell_if (eq_by_cmp (slice_cmp nat_cmp) q k) None (map.get s q)
    ∙ ap (λ b. cond b Absent (cell_in s q)) (tested q k)
cell_in-put s k (Present z) q = ap cell_of (map.get-insert nat_list_cmp_total s k z q) ∙ cell_if (eq_by_cmp (slice_cmp nat_cmp) q k) (Some z) (map.get s q)
    ∙ ap (λ b. cond b (Present z) (cell_in s q)) (tested q k)

pub cell_in-put_all : (s : Store) (ws : List (List ℕ × Cell)) (q : List ℕ) → cell_in (put_all s ws) q ≡ newest ws q (cell_in s q)
cell_in-put_all s [] q = refl
cell_in-put_all s (w ∷ ws) q = cell_in-put_all (put s w.0 w.1) ws q ∙ ap (λ c. newest ws q c) (cell_in-put s w.0 w.1 q)

-- the store after the transactions has the cells of the last state
pub cell_in-after : (s : Store) (ts : List Txn) → cell_in (store_after s ts) ≡ state (cell_in s) ts (length ts)
cell_in-after s [] = refl
cell_in-after s (t ∷ ts) =
    let one : cell_in (put_all s (writes_of (body (cell_in s) t))) ≡ after (cell_in s) t = λ i q. cell_in-put_all s (writes_of (body (cell_in s) t)) q i in
    cell_in-after (put_all s (writes_of (body (cell_in s) t))) ts ∙ ap (λ look. state look ts (length ts)) one

same_option : (o p : Option ℤ) → cell_of o ≡ cell_of p → o ≡ p
same_option None None e = refl
same_option None (Some z) e = absurd cc
same_option (Some z) None e = absurd cc
same_option (Some z) (Some y) e = let same : z ≡ y = cc in ap (λ x. Some x) same

pub same_nat : map.IsAntisymmetric (slice_cmp nat_cmp)
same_nat = map.slice_cmp-IsAntisymmetric map.nat_cmp-IsAntisymmetric

-- stores with the same cells are equal
pub same_store : (s r : Store) → ((k : List ℕ) → cell_in s k ≡ cell_in r k) → s ≡ r
same_store s r same = map.same_map nat_list_cmp_total same_nat s r (λ k. same_option (map.get s k) (map.get r k) (same k))
