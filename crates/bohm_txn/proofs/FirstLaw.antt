-- The first fault that the recursion finds is the first faulty place with the least kind there.
use Rattle.std.proofs.Common.{◌≡◌, ℕ, zero, suc, ◌<◌, Bool, true, false, Option, Some, None, ◌⊎◌, inl, inr, refl, sym, subst, arith}
use Rattle.std.specs.Prelude.{if◌then◌else◌}
use Rattle.std.specs.Option.{option_map}
use Rattle.bohm_txn.specs.declared.fault.CheckFault.{CheckFault}
use Rattle.bohm_txn.specs.declared.fault.CheckKind.{CheckKind}
use Rattle.bohm_txn.specs.declared.fault.CheckKind.TheVariants.{Order, Unread, Unwritten, Local, Limit}
use Rattle.bohm_types.specs.Stmt.{Stmt}
use Rattle.bohm_types.specs.Txn.{Txn}
use Rattle.bohm_types.specs.Document.{Document}
use Rattle.bohm_txn.specs.Faulty.{whole_faulty, sets_faulty, stmt_faulty, txn_faulty, faulty, WellFormed, IsFirstFault, rank}
use Rattle.bohm_txn.specs.FirstFault.{least, find_stmt, find_txn, first_in_body, first_in_txn, first_in_log, first_in_doc, fault_of}
use Rattle.bohm_txn.proofs.Searches.{IsLeast, Sooner, from_law, front_law, within_at}
use Rattle.std.specs.Prelude.{take}

abbrev pub Lesser : CheckKind → CheckKind → Type 0
Lesser a b = rank a < rank b

below : (p : CheckKind → Bool) (n : ℕ) → (1 < n → p Order ≡ false) → (2 < n → p Unread ≡ false) → (3 < n → p Unwritten ≡ false) → (4 < n → p Local ≡ false)
    → (5 < n → p Limit ≡ false) → (k : CheckKind) → rank k < n → p k ≡ false
below p n a b c d e Order l = a l
below p n a b c d e Unread l = b l
below p n a b c d e Unwritten l = c l
below p n a b c d e Local l = d l
below p n a b c d e Limit l = e l

all_false : (p : CheckKind → Bool) → p Order ≡ false → p Unread ≡ false → p Unwritten ≡ false → p Local ≡ false → p Limit ≡ false → (k : CheckKind)
    → p k ≡ false
all_false p a b c d e Order = a
all_false p a b c d e Unread = b
all_false p a b c d e Unwritten = c
all_false p a b c d e Local = d
all_false p a b c d e Limit = e

least_of : (p : CheckKind → Bool) (a b c d e : Bool) → p Order ≡ a → p Unread ≡ b → p Unwritten ≡ c → p Local ≡ d → p Limit ≡ e
    → IsLeast Lesser p
    (if a then Some Order else (if b then Some Unread else (if c then Some Unwritten else (if d then Some Local else (if e then Some Limit else None)))))
least_of p true b c d e u v w x y = (
  u,
  below p 1 (λ l. absurd (omega arith)) (λ l. absurd (omega arith)) (λ l. absurd (omega arith))
      (λ l. absurd (omega arith)) (λ l. absurd (omega arith)),
)
least_of p false true c d e u v w x y = (
  v,
  below p 2 (λ l. u) (λ l. absurd (omega arith)) (λ l. absurd (omega arith)) (λ l. absurd (omega arith))
      (λ l. absurd (omega arith)),
)
least_of p false false true d e u v w x y = (w, below p 3 (λ l. u) (λ l. v) (λ l. absurd (omega arith)) (λ l. absurd (omega arith)) (λ l. absurd (omega arith)))
least_of p false false false true e u v w x y = (x, below p 4 (λ l. u) (λ l. v) (λ l. w) (λ l. absurd (omega arith)) (λ l. absurd (omega arith)))
least_of p false false false false true u v w x y = (y, below p 5 (λ l. u) (λ l. v) (λ l. w) (λ l. x) (λ l. absurd (omega arith)))
least_of p false false false false false u v w x y = all_false p u v w x y

pub least_law : (p : CheckKind → Bool) → IsLeast Lesser p (least p)
least_law p = least_of p (p Order) (p Unread) (p Unwritten) (p Local) (p Limit) refl refl refl refl refl

pub txn_law : (t : Txn) → IsLeast (Sooner Lesser) (λ p. txn_faulty t p.0 p.1) (first_in_txn t)
txn_law t =
    let Q : ℕ → Stmt → CheckKind → Bool = λ i s. stmt_faulty t (take i t.body) s in
    front_law Lesser Q (txn_faulty t) t.body (λ j kind. sym (within_at Q t.body j kind)) (least (sets_faulty t)) (least_law (sets_faulty t)) (first_in_body t)
    (from_law Lesser Q (find_stmt t) (λ i s. least_law (stmt_faulty t (take i t.body) s)) 0 t.body)

whole_law : (d : Document) (o : Option CheckKind) → IsLeast Lesser (whole_faulty d) o
    → IsLeast (Sooner Lesser) (λ p. faulty d 0 p.0 p.1) (option_map (λ kind. (0, kind)) o)
whole_law d None h = λ p. none p.0 p.1
  where
    none : (s : ℕ) (kind : CheckKind) → faulty d 0 s kind ≡ false
    none zero kind = h kind
    none (suc s) kind = refl
whole_law d (Some found) h = (h.0, λ p l. less p.0 p.1 l)
  where
    less : (s : ℕ) (kind : CheckKind) → (s < 0) ⊎ ((s ≡ 0) × Lesser kind found) → faulty d 0 s kind ≡ false
    less zero kind (inl l) = absurd (omega arith)
    less zero kind (inr e) = h.1 kind e.1
    less (suc s) kind l = refl

doc_law : (d : Document) → IsLeast (Sooner (Sooner Lesser)) (λ p. faulty d p.0 p.1.0 p.1.1) (first_in_doc d)
doc_law d =
    let Q : ℕ → Txn → ℕ × CheckKind → Bool = λ i t p. txn_faulty t p.0 p.1 in
    front_law (Sooner Lesser) Q (λ t p. faulty d t p.0 p.1) d.log (λ j p. sym (within_at Q d.log j p))
    (option_map (λ kind. (0, kind)) (least (whole_faulty d))) (whole_law d (least (whole_faulty d)) (least_law (whole_faulty d))) (first_in_log d.log)
    (from_law (Sooner Lesser) Q find_txn (λ i t. txn_law t) 0 d.log)

pub not_true : (b : Bool) → b ≡ false → ¬ (b ≡ true)
not_true b e f = cc

no_fault : (d : Document) (o : Option (ℕ × (ℕ × CheckKind))) → IsLeast (Sooner (Sooner Lesser)) (λ p. faulty d p.0 p.1.0 p.1.1) o
    → option_map fault_of o ≡ None → WellFormed d
no_fault d None h e = λ t s kind. not_true (faulty d t s kind) (h (t, (s, kind)))
no_fault d (Some p) h e = absurd cc

a_fault : (d : Document) (f : CheckFault) (o : Option (ℕ × (ℕ × CheckKind))) → IsLeast (Sooner (Sooner Lesser)) (λ p. faulty d p.0 p.1.0 p.1.1) o
    → option_map fault_of o ≡ Some f → IsFirstFault d f
a_fault d f None h e = absurd cc
a_fault d f (Some p) h e =
    let same : fault_of p ≡ f = cc in
    subst (IsFirstFault d) same (record {
      faulty_there = h.0;
      no_earlier = λ t s kind before. not_true (faulty d t s kind) (h.1 (t, (s, kind)) (sooner t s kind before));
      no_lesser = λ kind lesser. not_true (faulty d p.0 p.1.0 kind) (h.1 (p.0, (p.1.0, kind)) (inr (refl, inr (refl, lesser))));
    })
  where
    sooner : (t s : ℕ) (kind : CheckKind) → (t < p.0) ⊎ ((t ≡ p.0) × (s < p.1.0)) → Sooner (Sooner Lesser) (t, (s, kind)) p
    sooner t s kind (inl l) = inl l
    sooner t s kind (inr e) = inr (e.0, inl e.1)

pub well_formed : (d : Document) → option_map fault_of (first_in_doc d) ≡ None → WellFormed d
well_formed d e = no_fault d (first_in_doc d) (doc_law d) e

pub first_fault : (d : Document) (f : CheckFault) → option_map fault_of (first_in_doc d) ≡ Some f → IsFirstFault d f
first_fault d f e = a_fault d f (first_in_doc d) (doc_law d) e
