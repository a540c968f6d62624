-- The arrows to the positions up to p: those below p, those for p's reads and, unless p is sure, for its writes.
use Rattle.std.proofs.Common.{◌≡◌, ℕ, ◌+◌, List, [], ◌++◌, Bool, true, false, cond, Some, slice_get}
use Rattle.std.proofs.Common.{unwrap_or, option_map, sym, ap, ◌∙◌, append_assoc, append-nil, add-one}
use Rattle.bohm_types.specs.Txn.{Txn}
use Rattle.bohm_txn.specs.Sure.{is_sure}
use Rattle.bohm_place.specs.declared.declared_set.DeclaredSet.TheVariants.{Reads, Writes}
use Rattle.bohm_explain.specs.declared.arrow.Arrow.{Arrow}
use Rattle.bohm_explain.specs.Wanted.{arrows_below, arrows_in, is_sure_at}

module _ (txns : List Txn) (p : ℕ) (x : Txn) (at : slice_get txns p ≡ Some x) (out mid : List Arrow) (before : out ≡ arrows_below txns p)
    (reads : mid ≡ out ++ arrows_in Reads txns p) where
  surely : (b : Bool) → is_sure x ≡ b → arrows_below txns p ++ (arrows_in Reads txns p ++ cond b [] (arrows_in Writes txns p)) ≡ arrows_below txns (p + 1)
  surely b is =
      let same : is_sure_at txns p ≡ b = ap (λ o. unwrap_or (option_map is_sure o) false) at ∙ is in
      rw add-one (ap (λ (c : Bool). arrows_below txns p ++ (arrows_in Reads txns p ++ cond c [] (arrows_in Writes txns p))) (sym same))

  pub of_sure : is_sure x ≡ true → mid ≡ arrows_below txns (p + 1)
  of_sure is = reads ∙ (ap (λ (ys : List Arrow). ys ++ arrows_in Reads txns p) before
      ∙ (ap (λ (ys : List Arrow). arrows_below txns p ++ ys) (sym (append-nil (arrows_in Reads txns p))) ∙ surely true is))

  pub of_unsure : (new : List Arrow) → is_sure x ≡ false → new ≡ mid ++ arrows_in Writes txns p → new ≡ arrows_below txns (p + 1)
  of_unsure new is writes =
      let whole : new ≡ (arrows_below txns p ++ arrows_in Reads txns p) ++ arrows_in Writes txns p =
      writes ∙ ap (λ (ys : List Arrow). ys ++ arrows_in Writes txns p) (reads ∙ ap (λ (ys : List Arrow). ys ++ arrows_in Reads txns p) before) in
      whole ∙ (append_assoc (arrows_below txns p) (arrows_in Reads txns p) (arrows_in Writes txns p) ∙ surely false is)
