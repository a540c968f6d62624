-- A list of keys whose repeated ones are taken away has the same keys.
use Rattle.std.proofs.Common.{◌≡◌, ◌∙◌, ap, sym, List, ℕ, true, []}
use Rattle.std.specs.List.{dedup}
use Rattle.std.specs.List.Retain.{DiffersFromLast, IsFiltered}
use Rattle.std.specs.Prelude.{IsPermutation}
use Rattle.std.specs.Str.{bytes_eq}
use Rattle.std.proofs.lemmas.Cmp.{nat_list_eq_equiv}
use Rattle.std.proofs.lemmas.List.Filters.{dedup_is}
use Rattle.std.proofs.lemmas.List.Folds.{Any-from_list_any, list_any-from_Any}
use Rattle.std.proofs.lemmas.List.Kept.{Any-dedup}
use Rattle.std.proofs.lemmas.List.Sorted.{list_any-IsPermutation}
use Rattle.bohm_types.specs.Keys.{is_among}

pub still_among : (keys moved deduped : List (List ℕ)) → IsPermutation keys moved → IsFiltered (DiffersFromLast bytes_eq) [] moved deduped
    → (k : List ℕ) → is_among keys k ≡ true → is_among deduped k ≡ true
still_among keys moved deduped permuted filtered k among =
    let among_moved = Any-from_list_any (λ x. bytes_eq x k) moved (sym (list_any-IsPermutation (λ x. bytes_eq x k) keys moved permuted) ∙ among) in
    let alike = Any-dedup nat_list_eq_equiv moved among_moved.1 (among_moved.0, among_moved.2, among_moved.3) in
    let same : bytes_eq alike.1 k ≡ true = sym (nat_list_eq_equiv.congr among_moved.1 alike.1 k alike.4) ∙ among_moved.4 in
    ap (λ (l : List (List ℕ)). is_among l k) (dedup_is bytes_eq moved deduped filtered)
    ∙ list_any-from_Any (λ x. bytes_eq x k) (dedup bytes_eq moved) (alike.0, alike.1, alike.2, alike.3, same)
