-- What the trees stand for after one batch more.
use Rattle.std.proofs.Common.{◌≡◌, ◌⊎◌, inl, inr, ℕ, pos, ◌+◌, ◌<◌, List, [], ◌∷◌, ◌++◌}
use Rattle.std.proofs.Common.{map, length, take, refl, sym, ap, ◌∙◌, arith, subst, append_assoc, append-nil, length-append, Less}
use Rattle.std.proofs.lemmas.List.{take-append-le}
use Rattle.std.specs.Ordering.{match_ordering}
use Rattle.std.specs.Cmp.{int_cmp_is}
use Rattle.std.proofs.lemmas.Int.{ints}
use Rattle.bohm_types.specs.declared.edition.Edition.{Edition}
use Rattle.sqlite_value.specs.declared.value.Value.TheVariants.{Int}
use Rattle.sqlite_value.specs.Order.{Row, value_cmp}
use Rattle.sqlite_value.specs.Keys.{plain, entry_cmp}
use Rattle.sqlite_value.proofs.OrderLemmas.{value_cmp-Int}
use Rattle.sqlite_trees.specs.Tree.{Trees, put_row, insert_entry}
use Rattle.bohm_ledger.specs.Rows.{batch_tree, batch_row, request_tree, request_row, Has, AreSame, AreRequests}
use Rattle.bohm_ledger.specs.Rules.{State, Rules, after, run, origin, total, requests}
use Rattle.bohm_ledger.specs.Ledgers.{AreKept, IsBalance, IsLedger}
use Rattle.bohm_ledger.specs.Steps.{HasBatch, with_requests}
use Rattle.bohm_ledger.proofs.Members.{has_first, has_second, has_either, inserted, still_in, in_before, request_tied, IsAlone}

pub int_below : (m n : ℕ) → m < n → value_cmp (Int (pos m)) (Int (pos n)) ≡ Less
int_below m n h = value_cmp-Int (pos m) (pos n) ∙ sym (int_cmp_is (pos m) (pos n) Less (omega (arith, ints)))

module _ {Defs : Type 0} (rules : Rules Defs) where
  pub put_at_end : (c : ℕ) (bs : List (List ℕ)) (place first n at : ℕ) (text : List ℕ) (rows : List Row) → AreKept rules c place first bs rows
      → n ≡ place + length bs
      → put_row (batch_row n at text) rows ≡ rows ++ batch_row n at text ∷ []
  put_at_end c [] place first n at text rows kept is = ap (put_row (batch_row n at text)) kept ∙ ap (λ rs. rs ++ batch_row n at text ∷ []) (sym kept)
  put_at_end c (b ∷ bs) place first n at text rows (inl (rest, same, kept)) is =
      let low : value_cmp (Int (pos place)) (Int (pos n)) ≡ Less = int_below place n (omega arith) in
      let more = put_at_end c bs (place + 1) (first + rules.size b) n at text rest kept (omega arith) in
      ap (put_row (batch_row n at text)) same
      ∙ ap (λ o. match_ordering o (batch_row place first b ∷ put_row (batch_row n at text) rest) (batch_row n at text ∷ rest)
      (batch_row n at text ∷ batch_row place first b ∷ rest)) low
      ∙ ap (λ rs. batch_row place first b ∷ rs) more ∙ ap (λ rs. rs ++ batch_row n at text ∷ []) (sym same)
  put_at_end c (b ∷ bs) place first n at text rows (inr (gone, kept)) is = put_at_end c bs (place + 1) (first + rules.size b) n at text rows kept
      (omega arith)

  pub kept_more : (c : ℕ) (bs : List (List ℕ)) (place first n at : ℕ) (text : List ℕ) (rows : List Row) → AreKept rules c place first bs rows
      → n ≡ place + length bs → at ≡ first + total rules bs
      → AreKept rules c place first (bs ++ text ∷ []) (rows ++ batch_row n at text ∷ [])
  kept_more c [] place first n at text rows kept is from =
      let same_place : n ≡ place = omega arith in
      let same_first : at ≡ first = omega arith in
      inl (
        [],
        ap (λ rs. rs ++ batch_row n at text ∷ []) kept ∙ ap (λ k. batch_row k at text ∷ []) same_place
            ∙ ap (λ k. batch_row place k text ∷ []) same_first,
        refl,
      )
  kept_more c (b ∷ bs) place first n at text rows (inl (rest, same, kept)) is from =
      inl (
        rest ++ batch_row n at text ∷ [],
        ap (λ rs. rs ++ batch_row n at text ∷ []) same,
        kept_more c bs (place + 1)
            (first + rules.size b) n at text rest kept (omega arith) (omega arith),
      )
  kept_more c (b ∷ bs) place first n at text rows (inr (gone, kept)) is from =
      let longer = length-append bs (text ∷ []) in
      inr (
        record { undefining = gone.undefining; below = gone.below; followed = let f = gone.followed in omega arith },
        kept_more c bs (place + 1)
            (first + rules.size b) n at text rows kept (omega arith) (omega arith),
      )

  pub run-append : (s : State Defs) (bs cs : List (List ℕ)) → run rules s (bs ++ cs) ≡ run rules (run rules s bs) cs
  run-append s [] cs = refl
  run-append s (b ∷ bs) cs = run-append (after rules s b) bs cs

  pub run-top : (s : State Defs) (bs : List (List ℕ)) → (run rules s bs).top ≡ s.top + total rules bs
  run-top s [] = omega arith
  run-top s (b ∷ bs) = let more = run-top (after rules s b) bs in omega arith

  requests-append : (place : ℕ) (s : State Defs) (bs : List (List ℕ)) (b : List ℕ) (n : ℕ) → n ≡ place + length bs
      → requests rules place s (bs ++ b ∷ []) ≡ requests rules place s bs ++ map (request_row n) (rules.answers (run rules s bs) b)
  requests-append place s [] b n is = let same : n ≡ place = omega arith in rw same (append-nil (map (request_row place) (rules.answers s b)))
  requests-append place s (x ∷ bs) b n is =
      ap (λ rs. map (request_row place) (rules.answers s x) ++ rs) (requests-append (place + 1) (after rules s x) bs b n (omega arith))
      ∙ sym (append_assoc (map (request_row place) (rules.answers s x)) _ _)

-- ---- rows of requests

abbrev IsRequest : Row → Type 0
IsRequest row = (place : ℕ) × (e : List ℕ × List ℕ) × (row ≡ request_row place e)

are_requests_map : (place : ℕ) (es : List (List ℕ × List ℕ)) (row : Row) → Has row (map (request_row place) es) → IsRequest row
are_requests_map place [] row none = absurd none
are_requests_map place (e ∷ es) row (inl is) = (place, e, is)
are_requests_map place (e ∷ es) row (inr there) = are_requests_map place es row there

pub are_requests : {Defs : Type 0} (rules : Rules Defs) (place : ℕ) (s : State Defs) (bs : List (List ℕ)) (row : Row)
    → Has row (requests rules place s bs) → IsRequest row
are_requests rules place s [] row none = absurd none
are_requests rules place s (b ∷ bs) row there = elim (has_either row (map (request_row place) (rules.answers s b)) _ there) [
  | inl here ↦ are_requests_map place (rules.answers s b) row here
  | inr later ↦ are_requests rules (place + 1) (after rules s b) bs row later
]

alone : (place : ℕ) (e : List ℕ × List ℕ) (rows : List Row) → AreRequests rows → IsAlone (request_row place e) rows
alone place e rows all row here tied =
    let form = all row here in
    form.2 ∙ request_tied form.0 place form.1 e (ap (λ r. entry_cmp plain r (request_row place e)) (sym form.2) ∙ tied)

one_more : (place : ℕ) (e : List ℕ × List ℕ) (rows : List Row) → AreRequests rows → AreRequests (insert_entry plain (request_row place e) rows)
one_more place e rows all row there = elim (in_before (request_row place e) rows row there) [ inl is ↦ (place, e, is) | inr before ↦ all row before ]

with_old : (place : ℕ) (es : List (List ℕ × List ℕ)) (rows : List Row) (row : Row) → Has row rows → Has row (with_requests place es rows)
with_old place [] rows row there = there
with_old place (e ∷ es) rows row there = with_old place es (insert_entry plain (request_row place e) rows) row (still_in (request_row place e) rows row there)

with_new : (place : ℕ) (es : List (List ℕ × List ℕ)) (rows : List Row) → AreRequests rows → (row : Row) → Has row (map (request_row place) es)
    → Has row (with_requests place es rows)
with_new place [] rows all row none = absurd none
with_new place (e ∷ es) rows all row (inl is) =
    subst (λ r. Has r (with_requests place (e ∷ es) rows)) (sym is)
    (with_old place es (insert_entry plain (request_row place e) rows) (request_row place e)
    (inserted (request_row place e) rows (alone place e rows all)))
with_new place (e ∷ es) rows all row (inr there) = with_new place es (insert_entry plain (request_row place e) rows) (one_more place e rows all) row there

with_either : (place : ℕ) (es : List (List ℕ × List ℕ)) (rows : List Row) (row : Row) → Has row (with_requests place es rows) → Has row rows
    ⊎ Has row (map (request_row place) es)
with_either place [] rows row there = inl there
with_either place (e ∷ es) rows row there = elim (with_either place es (insert_entry plain (request_row place e) rows) row there) [
  | inr later ↦ inr (inr later)
  | inl now ↦ elim (in_before (request_row place e) rows row now) [ inl is ↦ inr (inl is) | inr before ↦ inl before ]
]

same_requests : (xs ys : List Row) (place : ℕ) (es : List (List ℕ × List ℕ)) → AreRequests xs → AreSame xs ys
    → AreSame (xs ++ map (request_row place) es) (with_requests place es ys)
same_requests xs ys place es all same = record {
  there = λ row here. elim (has_either row xs (map (request_row place) es) here) [
    | inl old ↦ with_old place es ys row (same.there row old)
    | inr new ↦ with_new place es ys (λ r h. all r (same.back r h)) row new
  ];
  back = λ row here. elim (with_either place es ys row here) [
    | inl old ↦ has_first row xs (map (request_row place) es) (same.back row old)
    | inr new ↦ has_second row xs (map (request_row place) es) new
  ];
}

-- ---- the whole

pub appended : {Defs : Type 0} (rules : Rules Defs) (edition : Edition) (bs : List (List ℕ)) (mark : ℕ) (old db : Trees) (place first : ℕ)
    (text : List ℕ) (answers : List (List ℕ × List ℕ))
    → IsLedger rules edition bs mark old → place ≡ 1 + length bs → first ≡ 1 + total rules bs
    → answers ≡ rules.answers (run rules (origin rules edition) bs) text
    → HasBatch old place first text answers db → IsLedger rules edition (bs ++ text ∷ []) mark db
appended rules edition bs mark old db place first text answers is placed from answered has =
    let same : take mark (bs ++ text ∷ []) ≡ take mark bs = take-append-le mark bs (text ∷ []) is.within in
    let longer = length-append bs (text ∷ []) in
    let end = put_at_end rules (total rules (take mark bs)) bs 1 1 place first text (old batch_tree) is.batches placed in
    record {
      within = let w = is.within in omega arith;
      head = rw same (has.head ∙ is.head);
      batches = rw same (subst (AreKept rules (total rules (take mark bs)) 1 1 (bs ++ text ∷ [])) (sym end ∙ sym has.batch)
          (kept_more rules (total rules (take mark bs)) bs 1 1 place first text (old batch_tree) is.batches placed from));
      balance = rw same (subst (IsBalance (run rules (origin rules edition) (take mark bs)).look) (sym has.balance) is.balance);
      requests = subst (λ rs. AreSame rs (db Rattle.bohm_ledger.specs.Rows.request_tree))
          (sym (requests-append rules 1 (origin rules edition) bs text place placed))
          (subst (AreSame (requests rules 1 (origin rules edition) bs ++ map (request_row place)
          (rules.answers (run rules (origin rules edition) bs) text))) (sym has.request)
          (subst (λ es. AreSame (requests rules 1 (origin rules edition) bs ++ map (request_row place)
          (rules.answers (run rules (origin rules edition) bs) text)) (with_requests place es (old request_tree))) (sym answered)
          (same_requests _ _ place _ (are_requests rules 1 (origin rules edition) bs) is.requests)));
    }
