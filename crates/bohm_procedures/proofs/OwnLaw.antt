-- If the declared sets ascend, the own instance is the one for the procedure's own names and zeros.
use Rattle.std.proofs.Common.{◌≡◌, ℕ, Bool, true, List, [], ◌∷◌, ◌++◌, map, get_or, Option, Some, None, refl, ap, ◌∙◌}
use Rattle.std.specs.Prelude.{pos}
use Rattle.std.specs.Str.{bytes_eq}
use Rattle.std.proofs.lemmas.Iterator.Adapters.{position_from-zero}
use Rattle.std.proofs.lemmas.List.Quantifiers.{position-Some}
use Rattle.std.proofs.lemmas.List.{map-id}
use Rattle.bohm_types.specs.Keys.{rising, place}
use Rattle.bohm_types.specs.Term.{Atom, Lit, Read, Local}
use Rattle.bohm_types.specs.Stmt.{Cond, Stmt, Bind, Need, Has, Lacks, Put, Remove, Show, Fail}
use Rattle.bohm_types.specs.KeySets.{key_set}
use Rattle.bohm_types.specs.Substitution.{atom_with, sum_with, guard_with, stmt_with}
use Rattle.bohm_types.specs.Procedure.{Procedure, argument_or, stands_for, lets, instance}
use Rattle.bohm_txn.proofs.ForCallers.{same_key, key_set_itself}
use Rattle.bohm_text.specs.ProcedureReading.{let_zero}
use Rattle.bohm_procedures.specs.Accepting.{own}

stands_itself : (ps : List (List ℕ)) (k : List ℕ) → stands_for ps ps k ≡ k
stands_itself ps k =
    elim (place ps k) as (λ o. place ps k ≡ o → argument_or k ps o ≡ k) [
      | None ↦ λ e. refl
      | Some i ↦ λ e.
          let p = position-Some (λ x. bytes_eq x k) ps i k (position_from-zero (λ x. bytes_eq x k) ps ∙ e) in
          same_key (get_or ps i k) k p.1
    ] refl

atom_same : (a : Atom) → atom_with (λ k. k) a ≡ a
atom_same (Lit n) = refl
atom_same (Read k) = refl
atom_same (Local x) = refl

sum_same : (sum : List (Bool × Atom)) → sum_with (λ k. k) sum ≡ sum
sum_same [] = refl
sum_same (t ∷ ts) = λ i. (t.0, atom_same t.1 i) ∷ sum_same ts i

guard_same : (o : Option Cond) → guard_with (λ k. k) o ≡ o
guard_same None = refl
guard_same (Some c) = λ i. Some (record { left = sum_same c.left i; cmp = c.cmp; right = sum_same c.right i })

stmt_same : (s : Stmt) → stmt_with (λ k. k) s ≡ s
stmt_same (Bind x sum) = ap (Bind x) (sum_same sum)
stmt_same (Need c) = λ i. Need (record { left = sum_same c.left i; cmp = c.cmp; right = sum_same c.right i })
stmt_same (Has k) = refl
stmt_same (Lacks k) = refl
stmt_same (Put k sum guard) = λ i. Put k (sum_same sum i) (guard_same guard i)
stmt_same (Remove k) = refl
stmt_same (Show sum) = ap Show (sum_same sum)
stmt_same Fail = refl

body_same : (ss : List Stmt) → map (stmt_with (λ k. k)) ss ≡ ss
body_same [] = refl
body_same (s ∷ ss) = λ i. stmt_same s i ∷ body_same ss i

zeros : (xs : List (List ℕ)) → lets xs (map (λ x. pos 0) xs) ≡ map let_zero xs
zeros [] = refl
zeros (x ∷ xs) = ap (λ r. let_zero x ∷ r) (zeros xs)

pub own_is_instance : (p : Procedure) → rising p.reads ≡ true → rising p.writes ≡ true → instance p p.keys (map (λ x. pos 0) p.values) ≡ own p
own_is_instance p reads writes =
    let same : stands_for p.keys p.keys ≡ (λ k. k) = λ i k. stands_itself p.keys k i in
    (λ i. record {
      edition = p.edition;
      reads = key_set (map (same i) p.reads);
      writes = key_set (map (same i) p.writes);
      body = zeros p.values i ++ map (stmt_with (same i)) p.body;
    })
    ∙ (λ i. record {
      edition = p.edition;
      reads = (ap key_set (map-id p.reads) ∙ key_set_itself p.reads reads) i;
      writes = (ap key_set (map-id p.writes) ∙ key_set_itself p.writes writes) i;
      body = map let_zero p.values ++ body_same p.body i;
    })
