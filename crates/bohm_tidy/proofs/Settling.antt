-- A log that is printed transaction by transaction, with sorted sets.
use Rattle.std.proofs.Common.{◌≡◌, ℕ, ◌+◌, Bool, List, ◌∷◌, ◌++◌, drop, Some, ap, sym, ◌∙◌, append_assoc}
use Rattle.std.specs.List.{flat_map, slice_get}
use Rattle.bohm_types.specs.Txn.{Txn}
use Rattle.bohm_text.specs.Print.{lines_text, txn_lines}
use Rattle.bohm_text.proofs.ForCallers.{lines_append}
use Rattle.bohm_txn.proofs.ForCallers.{drop_at}
use Rattle.bohm_tidy.specs.Settled.{first_flag, other_flags, settled_log, settled_txn}

abbrev log_text : List Bool → List Bool → List Txn → List ℕ
log_text rs ws log = lines_text (flat_map txn_lines (settled_log rs ws log))

abbrev txn_text : Bool → Bool → Txn → List ℕ
txn_text r w t = lines_text (txn_lines (settled_txn r w t))

one_more : (rs ws : List Bool) (t : Txn) (ts : List Txn) (r w : Bool) → r ≡ first_flag rs → w ≡ first_flag ws
    → txn_text r w t ++ log_text (other_flags rs) (other_flags ws) ts ≡ log_text rs ws (t ∷ ts)
one_more rs ws t ts r w same_r same_w =
    ap (λ (b : Bool). txn_text b w t ++ log_text (other_flags rs) (other_flags ws) ts) same_r
    ∙ ap (λ (b : Bool). txn_text (first_flag rs) b t ++ log_text (other_flags rs) (other_flags ws) ts) same_w
    ∙ sym (lines_append (txn_lines (settled_txn (first_flag rs) (first_flag ws) t)) (flat_map txn_lines (settled_log (other_flags rs) (other_flags ws) ts)))

pub log_more : (rs ws rs' ws' : List Bool) (log : List Txn) (i : ℕ) (t : Txn) (r w : Bool) (out longer whole : List ℕ) → slice_get log i ≡ Some t
    → r ≡ first_flag rs → w ≡ first_flag ws → rs' ≡ other_flags rs → ws' ≡ other_flags ws → longer ≡ out ++ txn_text r w t
    → out ++ log_text rs ws (drop i log) ≡ whole → longer ++ log_text rs' ws' (drop (i + 1) log) ≡ whole
log_more rs ws rs' ws' log i t r w out longer whole at same_r same_w others_r others_w more so_far =
    let rest : List ℕ = log_text (other_flags rs) (other_flags ws) (drop (i + 1) log) in
    ap (λ (fs : List Bool). longer ++ log_text fs ws' (drop (i + 1) log)) others_r
    ∙ ap (λ (fs : List Bool). longer ++ log_text (other_flags rs) fs (drop (i + 1) log)) others_w
    ∙ ap (λ (ys : List ℕ). ys ++ rest) more
    ∙ append_assoc out (txn_text r w t) rest
    ∙ ap (λ (ys : List ℕ). out ++ ys) (one_more rs ws t (drop (i + 1) log) r w same_r same_w
    ∙ ap (λ (ts : List Txn). log_text rs ws ts) (sym (drop_at log i t at)))
    ∙ so_far
