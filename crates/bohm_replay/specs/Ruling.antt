-- The meaning of entries meets what a ledger asks of its rules.
use Rattle.std.proofs.Common.{◌≡◌, ℕ, ◌+◌, Bool, true, false, cond, List, [], ◌∷◌, refl, ap, ◌∙◌, arith}
use Rattle.bohm_types.specs.Txn.{Txn}
use Rattle.bohm_txn.specs.Meaning.{Look}
use Rattle.bohm_entries.specs.Batches.{Defined, are_plain, count, defined_after, defined_by, entries_of, is_definition}
use Rattle.bohm_entries.proofs.ForCallers.{not_defining, only_defining}
use Rattle.bohm_ledger.specs.Rules.{AreRules}
use Rattle.bohm_replay.specs.Entries.{entry_rules, look_after, look_by}

plain_first : (b c : Bool) → cond b false c ≡ true → (b ≡ false) × (c ≡ true)
plain_first true c h = absurd cc
plain_first false c h = (refl, h)

all_plain : (d : Defined) (es : List (List (List ℕ))) → are_plain es ≡ true → defined_by d es ≡ d
all_plain d [] h = refl
all_plain d (e ∷ es) h =
    let first = plain_first (is_definition e) (are_plain es) h in
    ap (λ x. defined_by x es) (not_defining d e first.0) ∙ all_plain d es first.1

weightless : (b : Bool) (n : ℕ) → cond b 0 1 + n ≡ 0 → (b ≡ true) × (n ≡ 0)
weightless true n h = (refl, omega (arith, h))
weightless false n h = absurd (omega (arith, h))

none_run : (d : Defined) (look : Look) (es : List (List (List ℕ))) → count es ≡ 0 → look_by d look es ≡ look
none_run d look [] h = refl
none_run d look (e ∷ es) h =
    let first = weightless (is_definition e) (count es) h in
    ap (λ (ts : List Txn). look_by (defined_after d e) (look_after look ts) es) (only_defining d e first.0)
    ∙ none_run (defined_after d e) look es first.1

pub are_rules : AreRules entry_rules
are_rules = record {
  plain = λ d text h. all_plain d (entries_of text) h;
  still = λ d look text h. none_run d look (entries_of text) h;
}
