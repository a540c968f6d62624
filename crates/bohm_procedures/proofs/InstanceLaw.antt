-- Every instance of an accepted procedure is well formed.
use Rattle.std.proofs.Common.{◌≡◌, ℕ, zero, suc, ◌+◌, ◌-◌, ◌^◌, Bool, true, false, cond, List, [], ◌∷◌, ◌++◌}
use Rattle.std.proofs.Common.{length, map, take, drop, refl, sym, ap, ◌∙◌, subst, arith}
use Rattle.std.specs.Prelude.{ℤ, ◌||◌, not, nat_le, nat_lt, count_by, if◌then◌else◌}
use Rattle.std.specs.List.{fold}
use Rattle.std.proofs.lemmas.Bool.{false_from_ne_true, false≢true}
use Rattle.std.proofs.lemmas.Bool.Decides.{nat_tests}
use Rattle.bohm_types.specs.Keys.{IsAmong, rising}
use Rattle.bohm_types.specs.Parts.{bound, is_show}
use Rattle.bohm_types.specs.Term.{Lit}
use Rattle.bohm_types.specs.Stmt.{Stmt, Bind}
use Rattle.bohm_types.specs.Txn.{Txn}
use Rattle.bohm_txn.specs.declared.fault.CheckKind.{CheckKind}
use Rattle.bohm_txn.specs.declared.fault.CheckKind.TheVariants.{Order, Unread, Unwritten, Local as LocalFault, Limit}
use Rattle.bohm_txn.specs.Faulty.{is_unread, is_unwritten, is_misnamed, is_long, stmt_faulty}
use Rattle.bohm_txn.specs.Faulty.{sets_faulty, txn_faulty, faulty, passes_at, alone, IsWellFormedTxn}
use Rattle.bohm_types.specs.Substitution.{stmt_with}
use Rattle.bohm_types.specs.KeySets.{key_set}
use Rattle.bohm_types.specs.Procedure.{Procedure, stands_for, is_minus, sum_of, lets, instance, procedure_with}
use Rattle.std.proofs.lemmas.List.{take-append-drop, length-map}
use Rattle.bohm_text.specs.ProcedureReading.{let_zero}
use Rattle.bohm_procedures.specs.Accepting.{own, IsAccepted, BeginsWithLets}
use Rattle.std.specs.Int.RustNames.{unsigned_abs}
use Rattle.bohm_log.proofs.ForCallers.{key_set_few}
use Rattle.bohm_txn.proofs.ForCallers.{key_set_rises, not_true}
use Rattle.bohm_procedures.proofs.KeySetLaws.{among_key_set_map}
use Rattle.bohm_procedures.proofs.SubstitutionLaws.{Covers, BindAlike, unread_with, unwritten_with, misnamed_with, long_with, parts_with}

-- t has no fault if s has none: t names the locals of s, and the keys that f gives for the keys of s
pub record Mirrors (f : List ℕ → List ℕ) (s t : Stmt) : Type 0 where
  binds : bound t ≡ bound s
  shows : is_show t ≡ is_show s
  reads : (keys others : List (List ℕ)) → Covers f keys others → is_unread keys s ≡ false → is_unread others t ≡ false
  writes : (keys others : List (List ℕ)) → Covers f keys others → is_unwritten keys s ≡ false → is_unwritten others t ≡ false
  names : (before now : List Stmt) → BindAlike before now → is_misnamed before s ≡ false → is_misnamed now t ≡ false
  few : is_long s ≡ false → is_long t ≡ false

mirrors_with : (f : List ℕ → List ℕ) (s : Stmt) → Mirrors f s (stmt_with f s)
mirrors_with f s = record {
  binds = (parts_with f s).binds;
  shows = (parts_with f s).shows;
  reads = λ keys others covers. unread_with f keys others covers s;
  writes = λ keys others covers. unwritten_with f keys others covers s;
  names = λ before now alike. misnamed_with f before now alike s;
  few = long_with f s;
}

mirrors_one : (f : List ℕ → List ℕ) (x : List ℕ) (minus : Bool) (n : ℕ) → Mirrors f (let_zero x) (Bind x ((minus, Lit n) ∷ []))
mirrors_one f x minus n = record {
  binds = refl;
  shows = refl;
  reads = λ keys others covers h. refl;
  writes = λ keys others covers h. refl;
  names = λ before now alike h. alike x ∙ h;
  few = λ h. refl;
}

mirrors_two : (f : List ℕ → List ℕ) (x : List ℕ) (minus : Bool) (n m : ℕ) → Mirrors f (let_zero x) (Bind x ((minus, Lit n) ∷ (minus, Lit m) ∷ []))
mirrors_two f x minus n m = record {
  binds = refl;
  shows = refl;
  reads = λ keys others covers h. refl;
  writes = λ keys others covers h. refl;
  names = λ before now alike h. alike x ∙ h;
  few = λ h. refl;
}

mirrors_let : (f : List ℕ → List ℕ) (x : List ℕ) (v : ℤ) → Mirrors f (let_zero x) (Bind x (sum_of v))
mirrors_let f x v =
    elim (nat_lt (unsigned_abs v) (2 ^ 63)) as
    (λ b. Mirrors f (let_zero x)
    (Bind x (if b then (is_minus v, Lit (unsigned_abs v)) ∷ [] else (is_minus v, Lit (2 ^ 63 - 1)) ∷ (is_minus v, Lit 1) ∷ []))) [
      | true ↦ mirrors_one f x (is_minus v) (unsigned_abs v)
      | false ↦ mirrors_two f x (is_minus v) (2 ^ 63 - 1) 1
    ]

-- ---- bodies

pub Bodies : (f : List ℕ → List ℕ) → List Stmt → List Stmt → Type 0
Bodies f [] [] = Unit {0}
Bodies f [] (t ∷ ts) = ⊥
Bodies f (s ∷ ss) [] = ⊥
Bodies f (s ∷ ss) (t ∷ ts) = Mirrors f s t × Bodies f ss ts

bodies_with : (f : List ℕ → List ℕ) (ss : List Stmt) → Bodies f ss (map (stmt_with f) ss)
unfolding Bodies
bodies_with f [] = tt
bodies_with f (s ∷ ss) = (mirrors_with f s, bodies_with f ss)

bodies_lets : (f : List ℕ → List ℕ) (xs : List (List ℕ)) (vs : List ℤ) (ss ts : List Stmt) → length vs ≡ length xs → Bodies f ss ts
    → Bodies f (map let_zero xs ++ ss) (lets xs vs ++ ts)
unfolding Bodies
bodies_lets f [] vs ss ts e h = h
bodies_lets f (x ∷ xs) [] ss ts e h = absurd (omega (arith, e))
bodies_lets f (x ∷ xs) (v ∷ vs) ss ts e h = (mirrors_let f x v, bodies_lets f xs vs ss ts (omega (arith, e)) h)

same_length : (f : List ℕ → List ℕ) (ss ts : List Stmt) → Bodies f ss ts → length ts ≡ length ss
unfolding Bodies
same_length f [] [] h = refl
same_length f [] (t ∷ ts) h = absurd h
same_length f (s ∷ ss) [] h = absurd h
same_length f (s ∷ ss) (t ∷ ts) h = ap suc (same_length f ss ts h.1)

same_from : (f : List ℕ → List ℕ) (ss ts : List Stmt) → Bodies f ss ts → (n : ℕ) → fold (λ a x. a + cond (is_show x) 1 0) n ts
    ≡ fold (λ a x. a + cond (is_show x) 1 0) n ss
unfolding Bodies
same_from f [] [] h n = refl
same_from f [] (t ∷ ts) h n = absurd h
same_from f (s ∷ ss) [] h n = absurd h
same_from f (s ∷ ss) (t ∷ ts) h n = rw h.0.shows (same_from f ss ts h.1 (n + cond (is_show s) 1 0))

same_shows : (f : List ℕ → List ℕ) (ss ts : List Stmt) → Bodies f ss ts → count_by is_show ts ≡ count_by is_show ss
same_shows f ss ts h = same_from f ss ts h 0

bound_alike : (f : List ℕ → List ℕ) (ss ts : List Stmt) → Bodies f ss ts → (i : ℕ) → BindAlike (take i ss) (take i ts)
unfolding Bodies
bound_alike f ss ts h zero x = refl
bound_alike f [] [] h (suc i) x = refl
bound_alike f [] (t ∷ ts) h (suc i) x = absurd h
bound_alike f (s ∷ ss) [] h (suc i) x = absurd h
bound_alike f (s ∷ ss) (t ∷ ts) h (suc i) x = rw (h.0.binds, bound_alike f ss ts h.1 i x) refl

-- if p doesn't hold at an index of ss, q doesn't hold there in ts, whose statements mirror those of ss
still_none : (f : List ℕ → List ℕ) (p q : Stmt → Bool) → ((s t : Stmt) → Mirrors f s t → p s ≡ false → q t ≡ false) → (ss ts : List Stmt)
    → Bodies f ss ts → (i : ℕ) → passes_at p ss i ≡ false → passes_at q ts i ≡ false
unfolding Bodies
still_none f p q each [] [] h i e = refl
still_none f p q each [] (t ∷ ts) h i e = absurd h
still_none f p q each (s ∷ ss) [] h i e = absurd h
still_none f p q each (s ∷ ss) (t ∷ ts) h zero e = each s t h.0 e
still_none f p q each (s ∷ ss) (t ∷ ts) h (suc i) e = still_none f p q each ss ts h.1 i e

-- ---- transactions

-- u declares the keys that f gives for those of t, as sets, and the body of u mirrors that of t
pub record IsTurned (f : List ℕ → List ℕ) (t u : Txn) : Type 0 where
  pub reads : u.reads ≡ key_set (map f t.reads)
  pub writes : u.writes ≡ key_set (map f t.writes)
  pub body : Bodies f t.body u.body

covered : (f : List ℕ → List ℕ) (keys others : List (List ℕ)) → others ≡ key_set (map f keys) → Covers f keys others
covered f keys others e k h = subst (λ (ks : List (List ℕ)). IsAmong ks (f k)) (sym e) (among_key_set_map f keys k h)

stmt_still : (f : List ℕ → List ℕ) (t u : Txn) → IsTurned f t u → (before now : List Stmt) → BindAlike before now
    → (kind : CheckKind) (s r : Stmt) → Mirrors f s r → stmt_faulty t before s kind ≡ false → stmt_faulty u now r kind ≡ false
stmt_still f t u turned before now alike Order s r m e = refl
stmt_still f t u turned before now alike Unread s r m e = m.reads t.reads u.reads (covered f t.reads u.reads turned.reads) e
stmt_still f t u turned before now alike Unwritten s r m e = m.writes t.writes u.writes (covered f t.writes u.writes turned.writes) e
stmt_still f t u turned before now alike LocalFault s r m e = m.names before now alike e
stmt_still f t u turned before now alike Limit s r m e = m.few e

few_in_set : (f : List ℕ → List ℕ) (keys others : List (List ℕ)) → others ≡ key_set (map f keys) → nat_le (length keys) 16 ≡ true
    → nat_le (length others) 16 ≡ true
few_in_set f keys others e few =
    let same : length others ≡ length (key_set (map f keys)) = ap length e in
    grind (arith, nat_tests, same, key_set_few (map f keys), length-map keys f, few)

no_counts : (a b c d : Bool) → (not a || not b || not c || not d) ≡ false → (a ≡ true) × (b ≡ true) × (c ≡ true) × (d ≡ true)
no_counts true true true true h = (refl, refl, refl, refl)
no_counts true true true false h = absurd cc
no_counts true true false d h = absurd cc
no_counts true false c d h = absurd cc
no_counts false b c d h = absurd cc

sets_still : (f : List ℕ → List ℕ) (t u : Txn) → IsTurned f t u → (kind : CheckKind) → sets_faulty t kind ≡ false → sets_faulty u kind ≡ false
sets_still f t u turned Order e =
    let reads : rising u.reads ≡ true = rw turned.reads (key_set_rises (map f t.reads)) in
    let writes : rising u.writes ≡ true = rw turned.writes (key_set_rises (map f t.writes)) in
    rw (reads, writes) refl
sets_still f t u turned Unread e = refl
sets_still f t u turned Unwritten e = refl
sets_still f t u turned LocalFault e = refl
sets_still f t u turned Limit e =
    let few = no_counts (nat_le (length t.body) 64) (nat_le (length t.reads) 16) (nat_le (length t.writes) 16) (nat_le (count_by is_show t.body) 16) e in
    let body : nat_le (length u.body) 64 ≡ true = rw (same_length f t.body u.body turned.body) few.0 in
    let shows : nat_le (count_by is_show u.body) 16 ≡ true = rw (same_shows f t.body u.body turned.body) few.3 in
    rw (body, few_in_set f t.reads u.reads turned.reads few.1, few_in_set f t.writes u.writes turned.writes few.2, shows) refl

place_still : (f : List ℕ → List ℕ) (t u : Txn) → IsTurned f t u → (s : ℕ) (kind : CheckKind) → txn_faulty t s kind ≡ false → txn_faulty u s kind ≡ false
place_still f t u turned zero kind e = sets_still f t u turned kind e
place_still f t u turned (suc i) kind e =
    still_none f (λ s. stmt_faulty t (take i t.body) s kind) (λ s. stmt_faulty u (take i u.body) s kind)
    (stmt_still f t u turned (take i t.body) (take i u.body) (bound_alike f t.body u.body turned.body i) kind)
    t.body u.body turned.body i e

pub still_well : (f : List ℕ → List ℕ) (t u : Txn) → IsTurned f t u → IsWellFormedTxn t → IsWellFormedTxn u
still_well f t u turned well = within
  where
    within : (n s : ℕ) (kind : CheckKind) → ¬ (faulty (alone u) n s kind ≡ true)
    within zero zero Order = false≢true
    within zero zero Unread = false≢true
    within zero zero Unwritten = false≢true
    within zero zero LocalFault = false≢true
    within zero zero Limit = false≢true
    within zero (suc s) kind = false≢true
    within (suc zero) s kind = not_true _ (place_still f t u turned s kind (false_from_ne_true (txn_faulty t s kind) (well 1 s kind)))
    within (suc (suc n)) s kind = false≢true

pub instance_well : (p : Procedure) (ks : List (List ℕ)) (vs : List ℤ) → IsAccepted p → length vs ≡ length p.values → IsWellFormedTxn (instance p ks vs)
instance_well p ks vs accepted e =
    still_well (stands_for p.keys ks) (own p) (instance p ks vs)
    (record {
      reads = refl;
      writes = refl;
      body = bodies_lets (stands_for p.keys ks) p.values vs p.body (map (stmt_with (stands_for p.keys ks)) p.body) e
          (bodies_with (stands_for p.keys ks) p.body);
    })
    accepted.own

-- ---- own instances

pub own_is : (t : Txn) (keys values : List (List ℕ)) → BeginsWithLets t values → own (procedure_with t keys values) ≡ t
own_is t keys values e =
    let body : map let_zero values ++ drop (length values) t.body ≡ t.body = ap (λ ss. ss ++ drop (length values) t.body) (sym e)
    ∙ take-append-drop (length values) t.body in
    λ j. record { edition = t.edition; reads = t.reads; writes = t.writes; body = body j }

pub accepted : (t : Txn) (keys values : List (List ℕ)) → BeginsWithLets t values → IsWellFormedTxn t → IsAccepted (procedure_with t keys values)
accepted t keys values e well = record { own = subst (λ (u : Txn). IsWellFormedTxn u) (sym (own_is t keys values e)) well }
