use Rattle.std.proofs.Common.{◌≡◌, ℕ, ◌<◌, ◌+◌, List, [], if◌then◌else◌, length, take, drop, get_or}
use Rattle.std.proofs.Common.{◌∷◌, refl, sym, ◌∙◌, arith, inl, inr, ⊎_elim, ◌⊎◌, true, length-set}
use Rattle.std.specs.Str.{bytes_eq}
use Rattle.std.proofs.lemmas.Bool.{false≢true, or_cases}
use Rattle.std.proofs.lemmas.List.{drop-set-lt, drop_more, take_all, drop_all}
use Rattle.bohm_types.specs.Keys.{is_among, IsAmong}
use Rattle.bohm_txn.proofs.ForCallers.{front}
use Rattle.bohm_place.specs.Chains.{items_at, kept_items}
use Rattle.bohm_place.proofs.Listing.{among_more, kept_more, kept_all, listed_on, listed_now, long_before}
use Rattle.bohm_place.proofs.places.shorten_all.Goals.{then-shorten, else-shorten}
use Rattle.bohm_place.proofs.places.shorten_all.Goals as goal

pub index_mut-requires : goal.index_mut-requires
index_mut-requires c = omega (arith, c.loop-i.long.ok.0)

pub loop-i-preserved : goal.loop-i-preserved
loop-i-preserved c =
    let all = c.args.long.now.items in
    let xs = c.loop-i.long.items in
    let i = c.loop-i.i in
    let n = c.loop-i.kept in
    let key = c.index.result.now in
    let inside : i < length xs = omega (arith, c.loop-i.long.ok.0) in
    let inside' : i < length all = omega arith in
    let here : drop i xs ≡ key ∷ drop (i + 1) xs = front xs i key inside c.index.ensures in
    let there : drop i all ≡ get_or all i key ∷ drop (i + 1) all = drop_more all i key inside' in
    let both : key ∷ drop (i + 1) xs ≡ get_or all i key ∷ drop (i + 1) all = sym here ∙ c.loop-i.invariant.rest ∙ there in
    let same : get_or all i key ≡ key = cc in
    let rest : drop (i + 1) xs ≡ drop (i + 1) all = cc in
    let told = c.shorten.ensures.chains in
    let before : (k : List ℕ) → 1 < length (items_at c.shorten.new.chains k) → IsAmong (take n xs) k ⊎ ((bytes_eq key k ≡ true) ⊎ IsAmong (drop (i + 1) all) k)
    = λ k long. ⊎_elim inl (λ h. let h' = rw (there, same) at h in inr (or_cases (bytes_eq key k) (is_among (drop (i + 1) all) k) h'))
    (c.loop-i.invariant.listed k (long_before c.args.floor (bytes_eq key k) (items_at c.loop-i.chains k) (items_at c.shorten.new.chains k) (told k) long)) in
    let chains : (k : List ℕ) → items_at c.shorten.new.chains k
    ≡ (if is_among (take (i + 1) all) k then kept_items c.args.floor (items_at c.args.chains.now k) else items_at c.args.chains.now k)
    = λ k. rw (among_more all i key k inside' same) (kept_more c.args.floor (is_among (take i all) k) (bytes_eq key k) (items_at c.args.chains.now k)
    (items_at c.loop-i.chains k) (items_at c.shorten.new.chains k) (c.loop-i.invariant.chains k) (told k)) in
    elim c.if-shorten.branch [
      | then-shorten w ↦ rw (w.long-is, w.kept-is) (record {
        front = omega arith;
        same_length = length-set xs n key ∙ c.loop-i.invariant.same_length;
        rest = drop-set-lt (i + 1) xs n key (omega arith) ∙ rest;
        chains = chains;
        listed = λ k long. ⊎_elim (λ h. inl (listed_on xs n key k (omega arith) h)) (⊎_elim (λ e. inl (listed_now xs n key k (omega arith) e)) inr)
            (before k long);
      })
      | else-shorten w ↦ rw (w.long-is, w.kept-is) (record {
        front = omega arith;
        same_length = c.loop-i.invariant.same_length;
        rest = rest;
        chains = chains;
        listed = λ k long. ⊎_elim inl (⊎_elim (λ e. absurd (let few = w.if-shorten.ensures.short refl k e in omega arith)) inr) (before k long);
      })
    ]

pub returns-clause-chains : goal.returns-clause-chains
returns-clause-chains c k =
    let all = c.args.long.now.items in
    let whole : take c.loop-i.i all ≡ all = take_all c.loop-i.i all (omega (arith, c.args.long.now.ok.0)) in
    kept_all c.args.floor (is_among all k) (items_at c.args.chains.now k) (items_at c.loop-i.chains k) (c.requires k)
    (rw whole at (c.loop-i.invariant.chains k))

pub returns-clause-listed : goal.returns-clause-listed
returns-clause-listed c k long =
    let all = c.args.long.now.items in
    let past : drop c.loop-i.i all ≡ [] = drop_all c.loop-i.i all (omega (arith, c.args.long.now.ok.0)) in
    rw c.truncate.ensures.items (⊎_elim (λ h. h) (λ h. absurd (false≢true (rw past at h))) (c.loop-i.invariant.listed k long))
