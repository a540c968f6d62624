-- A document has at most one first fault.
use Rattle.std.proofs.Common.{◌≡◌, ℕ, zero, suc, ◌<◌, ◌≤◌, ◌⊎◌, inl, inr, refl, ap, sym, subst, ◌∙◌, arith, ⊎_elim}
use Rattle.std.proofs.lemmas.Bool.{cases_lt}
use Rattle.bohm_types.specs.Document.{Document}
use Rattle.bohm_txn.specs.declared.fault.CheckFault.{CheckFault}
use Rattle.bohm_txn.specs.declared.fault.CheckKind.{CheckKind}
use Rattle.bohm_txn.specs.declared.fault.CheckKind.TheVariants.{Order, Unread, Unwritten, Local, Limit}
use Rattle.bohm_txn.specs.Faulty.{Faulty, IsFirstFault, WellFormed, rank}

-- the place of the fault f is before that of the fault g
Earlier : CheckFault → CheckFault → Type 0
Earlier f g = (f.txn < g.txn) ⊎ ((f.txn ≡ g.txn) × (f.stmt < g.stmt))

not_earlier : (d : Document) (f g : CheckFault) → IsFirstFault d f → IsFirstFault d g → Earlier f g → ⊥
unfolding Earlier
not_earlier d f g one other early = other.no_earlier f.txn f.stmt f.kind early one.faulty_there

same_place : (d : Document) (f g : CheckFault) → IsFirstFault d f → IsFirstFault d g → (f.txn ≡ g.txn) × (f.stmt ≡ g.stmt)
unfolding Earlier
same_place d f g one other =
    let txn_up : g.txn ≤ f.txn = ⊎_elim (λ (h : f.txn < g.txn). absurd (not_earlier d f g one other (inl h))) (λ h. h) (cases_lt f.txn g.txn) in
    let txn_down : f.txn ≤ g.txn = ⊎_elim (λ (h : g.txn < f.txn). absurd (not_earlier d g f other one (inl h))) (λ h. h) (cases_lt g.txn f.txn) in
    let txn : f.txn ≡ g.txn = omega arith in
    let up : g.stmt ≤ f.stmt = ⊎_elim (λ (h : f.stmt < g.stmt). absurd (not_earlier d f g one other (inr (txn, h)))) (λ h. h) (cases_lt f.stmt g.stmt) in
    let down : f.stmt ≤ g.stmt =
    ⊎_elim (λ (h : g.stmt < f.stmt). absurd (not_earlier d g f other one (inr (sym txn, h)))) (λ h. h) (cases_lt g.stmt f.stmt) in
    (txn, omega arith)

kind_of : ℕ → CheckKind
kind_of zero = Limit
kind_of (suc zero) = Order
kind_of (suc (suc zero)) = Unread
kind_of (suc (suc (suc zero))) = Unwritten
kind_of (suc (suc (suc (suc zero)))) = Local
kind_of (suc (suc (suc (suc (suc n))))) = Limit

of_rank : (k : CheckKind) → kind_of (rank k) ≡ k
unfolding kind_of
of_rank Order = refl
of_rank Unread = refl
of_rank Unwritten = refl
of_rank Local = refl
of_rank Limit = refl

least : (d : Document) (f g : CheckFault) → IsFirstFault d f → IsFirstFault d g → f.txn ≡ g.txn → f.stmt ≡ g.stmt → rank f.kind < rank g.kind → ⊥
least d f g one other txn stmt lt =
    let there : Faulty d g.txn g.stmt f.kind = subst (λ (s : ℕ). Faulty d g.txn s f.kind) stmt
    (subst (λ (t : ℕ). Faulty d t f.stmt f.kind) txn one.faulty_there) in
    other.no_lesser f.kind lt there

same_kind : (d : Document) (f g : CheckFault) → IsFirstFault d f → IsFirstFault d g → f.txn ≡ g.txn → f.stmt ≡ g.stmt → f.kind ≡ g.kind
same_kind d f g one other txn stmt =
    let up : rank g.kind ≤ rank f.kind =
    ⊎_elim (λ (h : rank f.kind < rank g.kind). absurd (least d f g one other txn stmt h)) (λ h. h) (cases_lt (rank f.kind) (rank g.kind)) in
    let down : rank f.kind ≤ rank g.kind =
    ⊎_elim (λ (h : rank g.kind < rank f.kind). absurd (least d g f other one (sym txn) (sym stmt) h)) (λ h. h) (cases_lt (rank g.kind) (rank f.kind)) in
    let same : rank f.kind ≡ rank g.kind = omega arith in
    sym (of_rank f.kind) ∙ ap kind_of same ∙ of_rank g.kind

pub one_first_fault : (d : Document) (f g : CheckFault) → IsFirstFault d f → IsFirstFault d g → f ≡ g
one_first_fault d f g one other =
    let place = same_place d f g one other in
    let kind = same_kind d f g one other place.0 place.1 in
    λ i. record { txn = place.0 i; stmt = place.1 i; kind = kind i }

pub none_well_formed : (d : Document) (f : CheckFault) → WellFormed d → IsFirstFault d f → ⊥
none_well_formed d f well first = well f.txn f.stmt f.kind first.faulty_there
