-- Histories that are continued by transactions: successive runs, unchanged histories, rewinds, trims.
use Rattle.std.proofs.Common.{◌≡◌, ℕ, zero, suc, [], ◌∷◌, ◌+◌, ◌-◌, ◌<◌, ◌≤◌, ◌++◌, List, length, length-append, take, max, refl, ap, sym, ◌∙◌, arith, ⊎_elim}
use Rattle.std.specs.List.{IsDistinct}
use Rattle.std.specs.Map.{keys_of}
use Rattle.std.specs.Str.{bytes_eq}
use Rattle.std.proofs.lemmas.Bool.{cases_lt}
use Rattle.std.proofs.lemmas.List.{length-take}
use Rattle.bohm_types.specs.Txn.{Txn}
use Rattle.bohm_txn.specs.declared.outcome.Reply.{Reply}
use Rattle.bohm_txn.specs.Meaning.{Look}
use Rattle.bohm_txn.specs.Serial.{state, replies}
use Rattle.bohm_txn.proofs.ForCallers.{state-append, state-front, replies-append}
use Rattle.bohm_types.specs.declared.cell.Cell.TheVariants.{Absent}
use Rattle.bohm_store.specs.Versions.{Timeline, cell_at, declared_writes, past, total, versions, versions_to}
use Rattle.bohm_store.specs.Nexts.{IsSame, IsSettledKept}
use Rattle.bohm_store.proofs.ForCallers.{fewer_count, settled_early, to_few}
use Rattle.bohm_apply.specs.Runs.{floor_after, IsApplied, IsStillPast, NoneEarlier, RanSome}

-- the floor after a run is between the old floor and the new top
pub floor_low : (was now : Timeline) (keep n : ℕ) → was.floor ≤ was.top → now.floor ≡ floor_after was keep n → now.top ≡ was.top + n → now.floor ≤ now.top
floor_low was now keep zero ordered floor top = omega (arith, ordered, floor, top)
floor_low was now keep (suc n) ordered floor top = omega (arith, ordered, floor, top)

floor_high : (was : Timeline) (keep n : ℕ) → was.floor ≤ floor_after was keep n
floor_high was keep zero = omega arith
floor_high was keep (suc n) = omega arith

-- the floor after two successive runs is the floor after one run of all their transactions
floors : (was mid now : Timeline) (keep m n : ℕ) → mid.floor ≡ floor_after was keep m → mid.top ≡ was.top + m → now.floor ≡ floor_after mid keep n
    → now.floor ≡ floor_after was keep (m + n)
floors was mid now keep zero zero first top second = second ∙ first
floors was mid now keep zero (suc n) first top second =
    let f : mid.floor ≡ was.floor = first in
    let t : mid.top ≡ was.top = omega (arith, top) in
    let e : 0 + suc n ≡ suc n = omega arith in
    rw e (second ∙ (λ i. max (f i) ((t i + suc n) - keep)))
floors was mid now keep (suc m) zero first top second = let e : suc m + 0 ≡ suc m = omega arith in rw e (second ∙ first)
floors was mid now keep (suc m) (suc n) first top second =
    let f : mid.floor ≡ max was.floor ((was.top + suc m) - keep) = first in
    let s : now.floor ≡ max mid.floor ((mid.top + suc n) - keep) = second in
    let e : suc m + suc n ≡ suc (m + suc n) = omega arith in
    let goal : now.floor ≡ max was.floor ((was.top + suc (m + suc n)) - keep) = omega (arith, f, top, s) in
    rw e goal

declared-append : (xs ys : List Txn) → declared_writes (xs ++ ys) ≡ declared_writes xs + declared_writes ys
declared-append [] ys = let none : 0 + declared_writes ys ≡ declared_writes ys = omega arith in sym none
declared-append (x ∷ xs) ys = omega (arith, declared-append xs ys)

pub went_on : (was mid now : Timeline) (xs ys : List Txn) (keep : ℕ) (a b : List Reply) → was.floor ≤ was.top → IsApplied was mid xs keep a
    → IsApplied mid now ys keep b → IsApplied was now (xs ++ ys) keep (a ++ b)
went_on was mid now xs ys keep a b ordered h g =
    let look : Look = past was was.top in
    let len : length (xs ++ ys) ≡ length xs + length ys = length-append xs ys in
    let low : mid.floor ≤ mid.top = floor_low was mid keep (length xs) ordered h.floor h.top in
    let all : mid.top - was.top ≡ length xs = omega (arith, h.top) in
    let there : past mid mid.top ≡ state look xs (length xs) = h.later mid.top low (omega (arith, h.top)) (omega arith) ∙ ap (state look xs) all in
    let sunk : mid.floor ≤ now.floor = omega (arith, g.floor, floor_high mid keep (length ys)) in
    record {
      replies = rw (h.replies, g.replies, there) (sym (replies-append look xs ys));
      top = omega (arith, h.top, g.top, len);
      floor = rw len (floors was mid now keep (length xs) (length ys) h.floor h.top g.floor);
      earlier = λ ts above below. g.earlier ts above (omega (arith, h.top, below)) ∙ h.earlier ts (omega (arith, sunk, above)) below;
      later = λ ts above from below. ⊎_elim
          (λ (c : ts < mid.top). g.earlier ts above (omega (arith, c)) ∙ h.later ts (omega (arith, sunk, above)) from (omega (arith, c))
          ∙ sym (state-front look xs ys (ts - was.top) (omega (arith, c, h.top, from))))
          (λ (c : mid.top ≤ ts). g.later ts above c below ∙ ap (λ (l : Look). state l ys (ts - mid.top)) there
          ∙ sym (state-append look xs ys (ts - was.top) (ts - mid.top) (omega (arith, c, h.top, from))))
          (cases_lt ts mid.top);
      count = omega (arith, h.count, g.count, declared-append xs ys);
    }

floor_behind : (was : Timeline) (txns : List Txn) (keep floor : ℕ) → 0 < length txns → floor ≡ max was.floor ((was.top + length txns) - keep)
    → floor ≡ floor_after was keep (length txns)
floor_behind was [] keep floor some f = absurd (omega (arith, some))
floor_behind was (x ∷ xs) keep floor some f = f

-- settling transactions, and trimming at `keep` below the new top, continues the history by them
pub settled_on : (was now : Timeline) (txns : List Txn) (keep : ℕ) → 0 < length txns → IsSettledKept was now txns ((was.top + length txns) - keep)
    → IsApplied was now txns keep (replies (past was was.top) txns)
settled_on was now txns keep some h = record {
  replies = refl;
  top = h.top;
  floor = floor_behind was txns keep now.floor some h.floor;
  earlier = h.earlier;
  later = h.later;
  count = h.count;
}

-- a history is still continued by the transactions if its readable past is unchanged and no version is added
pub stayed_past : (was mid now : Timeline) (txns : List Txn) (keep : ℕ) (a : List Reply) → was.floor ≤ was.top → IsStillPast mid now
    → IsApplied was mid txns keep a → IsApplied was now txns keep a
stayed_past was mid now txns keep a ordered still h =
    let low : mid.floor ≤ mid.top = floor_low was mid keep (length txns) ordered h.floor h.top in
    record {
      replies = h.replies;
      top = still.top ∙ h.top;
      floor = still.floor ∙ h.floor;
      earlier = λ ts above below.
          still.past ts (omega (arith, above, still.floor)) (omega (arith, below, h.top)) ∙ h.earlier ts (omega (arith, above, still.floor)) below;
      later = λ ts above from below.
          still.past ts (omega (arith, above, still.floor)) (omega (arith, below, still.top))
          ∙ h.later ts (omega (arith, above, still.floor)) from (omega (arith, below, still.top));
      count = omega (arith, still.count, h.count);
    }

-- a history is still continued by the transactions if nothing of its contract view changes
pub stayed : (was mid now : Timeline) (txns : List Txn) (keep : ℕ) (a : List Reply) → IsSame mid now → IsApplied was mid txns keep a
    → IsApplied was now txns keep a
stayed was mid now txns keep a same h =
    let alike : (ts : ℕ) → past now ts ≡ past mid ts = λ ts i k. cell_at ts (same.versions k i) Absent in
    record {
      replies = h.replies;
      top = same.top ∙ h.top;
      floor = same.floor ∙ h.floor;
      earlier = λ ts above below. alike ts ∙ h.earlier ts (omega (arith, above, same.floor)) below;
      later = λ ts above from below. alike ts ∙ h.later ts (omega (arith, above, same.floor)) from (omega (arith, below, same.top));
      count = omega (arith, same.count, h.count);
    }

-- nothing of the past changes
pub still_here : (was : Timeline) → IsStillPast was was
still_here was = record { top = refl; floor = refl; past = λ ts above below. refl; count = omega arith }

pub still_same : (was now : Timeline) → IsSame was now → IsStillPast was now
still_same was now same = record {
  top = same.top;
  floor = same.floor;
  past = λ ts above below i k. cell_at ts (same.versions k i) Absent;
  count = omega (arith, same.count);
}

-- ---- a batch that runs while the floor stays, and is then rewound or trimmed

pub floor_stays : (was : Timeline) (keep n : ℕ) → was.top + n ≤ keep → floor_after was keep n ≡ was.floor
floor_stays was keep zero le = refl
floor_stays was keep (suc n) le = (let z : (was.top + suc n) - keep ≡ 0 = omega (arith, le) in rw z (omega arith))

-- a rewind to the old top, after some of the batch's transactions, restores the past and leaves no more versions
pub taken_back : (was mid now : Timeline) (txns : List Txn) (keep : ℕ) → was.top + length txns ≤ keep → RanSome was mid txns keep
    → now.floor ≡ mid.floor → now.top ≡ was.top → ((ts : ℕ) → ts ≤ was.top → past now ts ≡ past mid ts) → IsDistinct bytes_eq (keys_of now.chains)
    → ((k : List ℕ) → versions now k ≡ versions_to was.top (versions mid k)) → IsStillPast was now
taken_back was mid now txns keep room (n, a, h, early) floor top back apart less =
    let few = length-take n txns in
    let stays : mid.floor ≡ was.floor = h.floor ∙ floor_stays was keep (length (take n txns)) (omega (arith, few, room)) in
    record {
      top = top;
      floor = floor ∙ stays;
      past = λ ts above below. back ts below ∙ h.earlier ts (omega (arith, above, stays)) below;
      count = fewer_count was now apart (λ k. let is = less k in rw is (early k));
    }

-- a history that ran the whole batch and is then trimmed to `keep` below its top is continued by the batch
pub trimmed_on : (was mid now : Timeline) (txns : List Txn) (all keep : ℕ) (a : List Reply) → 0 < length txns → was.top + length txns ≤ all
    → IsApplied was mid txns all a → now.floor ≡ max mid.floor (mid.top - keep) → now.top ≡ mid.top
    → total now.chains ≤ total mid.chains → ((ts : ℕ) → now.floor ≤ ts → past now ts ≡ past mid ts) → IsApplied was now txns keep a
trimmed_on was mid now txns all keep a some room h floor top few same =
    let stays : mid.floor ≡ was.floor = h.floor ∙ floor_stays was all (length txns) room in
    record {
      replies = h.replies;
      top = top ∙ h.top;
      floor = floor_behind was txns keep now.floor some (floor ∙ (λ i. max (stays i) (h.top i - keep)));
      earlier = λ ts above below. same ts above ∙ h.earlier ts (omega (arith, above, floor)) below;
      later = λ ts above from below. same ts above ∙ h.later ts (omega (arith, above, floor)) from (omega (arith, below, top));
      count = omega (arith, few, h.count);
    }

-- ---- no key has more versions up to the old top than before

pub none_earlier : (was : Timeline) → NoneEarlier was was
none_earlier was k = to_few was.top (versions was k)

-- a change that keeps the versions of all keys adds none up to the old top
pub none_same : (was mid now : Timeline) → IsSame mid now → NoneEarlier was mid → NoneEarlier was now
none_same was mid now same few k = let is = same.versions k in rw is (few k)

-- settling transactions after the old top adds no version up to the old top
pub none_settled : (was mid now : Timeline) (txns : List Txn) (low : ℕ) → was.top ≤ mid.top → IsSettledKept mid now txns low → NoneEarlier was mid
    → NoneEarlier was now
none_settled was mid now txns low le h few k = omega (arith, few k, settled_early mid now txns low was.top h le k)

-- an unchanged history is continued by an empty list of transactions
pub at_rest : (was : Timeline) (keep : ℕ) → IsApplied was was [] keep []
at_rest was keep = record {
  replies = refl;
  top = omega arith;
  floor = refl;
  earlier = λ ts above below. refl;
  later = λ ts above from below. let e : ts ≡ was.top = omega (arith, from, below) in rw e (let z : was.top - was.top ≡ 0 = omega arith in rw z refl);
  count = omega arith;
}
