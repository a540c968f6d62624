-- A log that is cut into windows, and these into parts.
use Rattle.std.proofs.Common.{◌≡◌, ℕ, ◌+◌, ◌-◌, ◌/◌, ◌%◌, ◌<◌, ◌≤◌, ◌^◌, List, [], ◌∷◌, ◌++◌, length, take, drop, length-drop, sym, ap, ◌∙◌}
use Rattle.std.specs.Prelude.{nat_le}
use Rattle.std.proofs.Common.{Option, Some, unwrap_or, ◌≢◌, ◌==◌, Bool, false, cond, true≢false, refl, true, All, replicate, flat_map, slice_index, append-nil, ap₂, length-append, arith}
use Rattle.std.specs.List.{between, list_all, sum}
use Rattle.std.proofs.Math.Nat.{mod-lt}
use Rattle.std.proofs.Math.Seq.{take-add}
use Rattle.std.proofs.lemmas.Bool.{and_from, eq-eqb, eqb-true}
use Rattle.std.proofs.lemmas.Bool.Decides.{nat_tests}
use Rattle.std.proofs.lemmas.Grind.{flat_map-append}
use Rattle.std.proofs.lemmas.Nat.{div-add-mod'}
use Rattle.std.proofs.lemmas.List.{length-replicate, length-take, take_all}
use Rattle.std.proofs.lemmas.List.Elements.{All-append, All-cons, All-replicate}
use Rattle.std.proofs.lemmas.List.Folds.{sum_by-replicate}
use Rattle.std.proofs.lemmas.List.Sums.{count_by-le-length, sum_by-append, sum_by_more_le, AllPass-from_list_all, list_all-from_AllPass}
use Rattle.bohm_types.specs.Txn.{Txn}
use Rattle.bohm_types.specs.Keys.{is_among}
use Rattle.bohm_settings.specs.Given.{Given}
use Rattle.bohm_place.specs.Cuttings.{Cutting, ahead, are_sizes, cuts_of, is_size, txns_at}
use Rattle.bohm_place.specs.declared.declared_set.DeclaredSet.TheVariants.{Reads, Writes}
use Rattle.bohm_place.proofs.ForCallers.{ahead_next}
use Rattle.bohm_read_ahead.specs.Sharing.{sharing_of}
use Rattle.bohm_read_ahead.specs.declared.checked_chunk.Sharing.{Sharing}
use Rattle.bohm_explain.specs.declared.gathering.Gathering.{Gathering}
use Rattle.bohm_explain.specs.declared.tallies.Tally.{Tally}
use Rattle.bohm_explain.specs.Heats.{Chained}
use Rattle.bohm_explain.specs.Parts.{even, rest_of, size_for, sizes_of, together, ways, ways_of, AreCut}
use Rattle.bohm_explain.specs.Tallies.{CanTake, IsGathered}

-- ---- sizes

rest_total : (n : ℕ) → sum (rest_of n) ≡ n
rest_total n = by (n == 0) refl
  where
    by : (b : Bool) → (n == 0) ≡ b → sum (cond b [] (n ∷ [])) ≡ n
    by true is = sym (eqb-true n 0 is)
    by false is = omega arith

pub even_total : (size n : ℕ) → sum (even size n) ≡ n
even_total size n = omega (
  arith,
  sum_by-append (λ x. x) (replicate (n / size) size) (rest_of (n % size)),
  sum_by-replicate (λ x. x) (n / size) size,
  rest_total (n % size),
  div-add-mod' n size,
)

abbrev Is : ℕ → Type 0
Is n = is_size n ≡ true

sized : (n : ℕ) → 1 ≤ n → n ≤ 4096 → Is n
sized n some few = and_from (nat_le 1 n) (nat_le n 4096) (grind (arith, nat_tests)) (grind (arith, nat_tests))

rest_sized : (n : ℕ) → n ≤ 4096 → All Is (rest_of n)
rest_sized n few = by (n == 0) refl
  where
    by : (b : Bool) → (n == 0) ≡ b → All Is (cond b [] (n ∷ []))
    by true is = λ k d h. absurd (omega arith)
    by false is =
        let some : n ≢ 0 = λ none. true≢false (sym (eq-eqb n 0 none) ∙ is) in
        All-cons Is n [] (sized n (omega (arith, some)) few) (λ k d h. absurd (omega arith))

pub more_sized : (old : List ℕ) (size n : ℕ) → 1 ≤ size → size ≤ 4096 → list_all is_size old ≡ true → list_all is_size (old ++ even size n) ≡ true
more_sized old size n some few before =
    let below : n % size < size = mod-lt n some in
    list_all-from_AllPass is_size (old ++ even size n)
    (All-append Is old (even size n) (AllPass-from_list_all is_size old before)
    (All-append Is (replicate (n / size) size) (rest_of (n % size)) (All-replicate Is (n / size) size (sized size some few))
    (rest_sized (n % size) (omega (arith, below, few)))))

pub possible : (sizes : List ℕ) (n : ℕ) → list_all is_size sizes ≡ true → sum sizes ≡ n → n ≤ 4294967295 → are_sizes sizes ≡ true
possible sizes n each total few = let low : sum sizes ≤ 4294967295 = omega (arith, total, few) in and_from (list_all is_size sizes) (nat_le (sum sizes) 4294967295) each (grind (arith, nat_tests))

pub cuts_made : (sizes : List ℕ) (n : ℕ) → list_all is_size sizes ≡ true → sum sizes ≡ n → n ≤ 4294967295 → (result : Option (List ℕ)) (cuts : List ℕ)
    → result ≡ cuts_of sizes → result ≡ Some cuts → cuts ≡ sizes
cuts_made sizes n each total few result cuts made is =
    let all = possible sizes n each total few in
    let some : cuts_of sizes ≡ Some sizes = rw all refl in
    ap (λ (o : Option (List ℕ)). unwrap_or o []) (sym is ∙ (made ∙ some))

-- the parts of a window whose size and way are given
module _ (given : Given) (window : List Txn) (way : Sharing) (size count : ℕ) (runs : way ≡ sharing_of given window) (most : size ≡ size_for given way)
    (all : count ≡ length window) where
  pub even_sizes : even size count ≡ sizes_of given window
  even_sizes = ap₂ even (most ∙ ap (size_for given) runs) all

  pub window_sizes : (old new : List ℕ) → new ≡ old ++ even size count → new ≡ old ++ sizes_of given window
  window_sizes old new is = is ∙ ap (λ (l : List ℕ). old ++ l) even_sizes

  -- as many ways are added as sizes
  pub window_ways : (old new : List ℕ) (ways ways' : List Sharing) (n k : ℕ) → length ways ≡ length old → new ≡ old ++ even size count → n ≡ length new
      → k ≡ length ways → ways' ≡ take n ways ++ replicate (n - k) way → ways' ≡ ways ++ ways_of given window
  window_ways old new ways ways' n k paired is all_new all_old more =
      let longer : length new ≡ length old + length (sizes_of given window) =
      ap length (window_sizes old new is) ∙ length-append old (sizes_of given window) in
      let kept : take n ways ≡ ways = take_all n ways (omega (arith, longer, paired, all_new)) in
      let added : n - k ≡ length (sizes_of given window) = omega (arith, longer, paired, all_new, all_old) in
      more ∙ ap₂ (λ (l : List Sharing) (m : ℕ). l ++ replicate m way) kept added
      ∙ ap (λ (s : Sharing). ways ++ replicate (length (sizes_of given window)) s) runs

  pub window_total : (old new : List ℕ) → new ≡ old ++ even size count → sum new ≡ sum old + length window
  window_total old new is = omega (arith, ap sum is, sum_by-append (λ x. x) old (even size count), even_total size count, all)

-- ---- windows

-- these windows are the first n transactions
pub record IsCutTo (given : Given) (log : List Txn) (n : ℕ) (sizes : List ℕ) (how : List Sharing) : Type 0 where
  pub windows : List (List Txn)
  pub whole : together windows ≡ take n log
  pub sizes_are : sizes ≡ flat_map (sizes_of given) windows
  pub ways_are : how ≡ ways given windows

module _ (given : Given) (log : List Txn) where
  pub none_cut : IsCutTo given log 0 [] []
  none_cut = record { windows = []; whole = refl; sizes_are = refl; ways_are = refl }

  pub cut_more : (n m : ℕ) (sizes sizes' : List ℕ) (how how' : List Sharing) (window : List Txn) → IsCutTo given log n sizes how → n ≤ m
      → window ≡ between n m log → sizes' ≡ sizes ++ sizes_of given window → how' ≡ how ++ ways_of given window → IsCutTo given log m sizes' how'
  cut_more n m sizes sizes' how how' window so_far rises is more_sizes more_ways =
      let ws = so_far.windows in
      let upto : n + (m - n) ≡ m = omega (arith, rises) in
      record {
        windows = ws ++ window ∷ [];
        whole = flat_map-append (λ (w : List Txn). w) ws (window ∷ []) ∙ ap (λ (l : List Txn). together ws ++ l) (append-nil window ∙ is)
            ∙ ap (λ (l : List Txn). l ++ between n m log) so_far.whole ∙ sym (take-add n (m - n) log) ∙ ap (λ k. take k log) upto;
        sizes_are = more_sizes ∙ ap (λ (l : List ℕ). l ++ sizes_of given window) so_far.sizes_are
            ∙ ap (λ (l : List ℕ). flat_map (sizes_of given) ws ++ l) (sym (append-nil (sizes_of given window)))
            ∙ sym (flat_map-append (sizes_of given) ws (window ∷ []));
        ways_are = more_ways ∙ ap (λ (l : List Sharing). l ++ ways_of given window) so_far.ways_are
            ∙ ap (λ (l : List Sharing). ways given ws ++ l) (sym (append-nil (ways_of given window)))
            ∙ sym (flat_map-append (ways_of given) ws (window ∷ []));
      }

  -- a window's sizes and ways are as many
  pub paired_more : (window : List Txn) (sizes sizes' : List ℕ) (how how' : List Sharing) → length how ≡ length sizes
      → sizes' ≡ sizes ++ sizes_of given window → how' ≡ how ++ ways_of given window → length how' ≡ length sizes'
  paired_more window sizes sizes' how how' paired more_sizes more_ways =
      let ns = sizes_of given window in
      let way = sharing_of given window in
      omega (
        arith,
        paired,
        ap length more_sizes,
        ap length more_ways,
        length-append sizes ns,
        length-append how (replicate (length ns) way),
        length-replicate {A = Sharing} (length ns) way,
      )

  pub cut_all : (sizes : List ℕ) (how : List Sharing) → IsCutTo given log (length log) sizes how → AreCut given log sizes how
  cut_all sizes how h = record {
    windows = h.windows;
    whole = h.whole ∙ take_all (length log) log (omega arith);
    sizes_are = h.sizes_are;
    ways_are = h.ways_are;
  }

-- ---- parts

-- the log up to part i, followed by that part, is the log up to part i + 1
pub joined : (c : Cutting) (i : ℕ) → i < length c.sizes → take (ahead c.sizes i) c.log ++ txns_at c i ≡ take (ahead c.sizes (i + 1)) c.log
joined c i low = sym (ap (λ n. take n c.log) (ahead_next c.sizes i low) ∙ take-add (ahead c.sizes i) (slice_index c.sizes i) c.log)

-- all parts together are the whole log
pub whole : (c : Cutting) (i : ℕ) → sum c.sizes ≡ length c.log → i ≡ length c.sizes → take (ahead c.sizes i) c.log ≡ c.log
whole c i total last =
    let all : ahead c.sizes i ≡ sum c.sizes = ap sum (take_all i c.sizes (omega (arith, last))) in
    take_all (ahead c.sizes i) c.log (omega (arith, all, total))

-- no part is empty, and each lies in the log
pub inside : (c : Cutting) (i : ℕ) → sum c.sizes ≡ length c.log → i < length c.sizes → length (txns_at c i) ≡ slice_index c.sizes i
inside c i total low =
    let most : ahead c.sizes i + slice_index c.sizes i ≤ sum c.sizes = sum_by_more_le (λ x. x) c.sizes i 0 low in
    omega (arith, most, total, length-take (slice_index c.sizes i) (drop (ahead c.sizes i) c.log), length-drop (ahead c.sizes i) c.log)

-- n more transactions can be noted if the log, with these, has fewer than 2^32, so that no counter overflows
pub can_take : (log : List Txn) (parts : List Chained) (g : Gathering) (n : ℕ) → IsGathered log parts g → length log + n < 2 ^ 32 → CanTake n g
can_take log parts g n all few Reads k =
    let most = count_by-le-length (λ t. is_among t.reads k) log in
    let same = ap (λ (t : Tally). t.readers) (all.counts k) in
    omega (arith, most, same, few)
can_take log parts g n all few Writes k =
    let most = count_by-le-length (λ t. is_among t.writes k) log in
    let same = ap (λ (t : Tally). t.writers) (all.counts k) in
    omega (arith, most, same, few)
