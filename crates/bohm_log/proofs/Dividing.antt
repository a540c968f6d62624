-- A slice of a log's heads is a part of the log, and a part's numbers are those of its declared keys.
use Rattle.std.proofs.Common.{◌≡◌, ℕ, ◌-◌, ◌<◌, List, [], ◌∷◌, map, take, drop, length, refl, ap, sym, ◌∙◌}
use Rattle.std.specs.List.{All, between}
use Rattle.std.proofs.lemmas.List.{take-map, drop-map}
use Rattle.std.proofs.lemmas.List.Elements.{All-take, All-drop, All-weaker}
use Rattle.bohm_log.specs.declared.table.Head.{Head}
use Rattle.bohm_log.specs.declared.table.Table.{Table}
use Rattle.bohm_log.specs.Parts.{Parts, TermIn}
use Rattle.bohm_log.specs.Columns.{Shared, AllNamed, HeadIn, txn_at}
use Rattle.bohm_log.specs.Layers.{all_names}
use Rattle.bohm_log.specs.Partial.{shared_seen, IsPart}
use Rattle.bohm_log.specs.Numbering.{Numbers, IsNumbered, SetsIn, sets_at, named_sets, declared_sets}

pub All-between : {A : Type 0} (P : A → Type 0) (i j : ℕ) (xs : List A) → All P xs → All P (between i j xs)
All-between P i j xs h = All-take P (j - i) (drop i xs) (All-drop P i xs h)

pub divided : {A B : Type 0} (f : A → B) (i j : ℕ) (xs : List A) → map f (between i j xs) ≡ between i j (map f xs)
divided f i j xs = sym (ap (take (j - i)) (drop-map f i xs) ∙ take-map f (j - i) (drop i xs))

pub part_divided : (t : Table) (heads : List Head) (i j : ℕ) → IsPart t heads → IsPart t (between i j heads)
part_divided t heads i j h = record {
  logged = record { each = All-between (HeadIn (shared_seen t)) i j heads h.logged.each; ids = h.logged.ids };
  apart = h.apart;
}

pub named_between : (names : List (List ℕ)) (ids : List ℕ) (i j : ℕ) → AllNamed names ids → AllNamed names (between i j ids)
named_between names ids i j h = All-between (λ n. n < length names) i j ids h

pub terms_between : (p : Parts) (i j : ℕ) → All (TermIn p) p.terms → All (TermIn p) (between i j p.terms)
terms_between p i j h = All-between (TermIn p) i j p.terms h

-- ---- the numbers of declared keys

set_in : (c : Shared) (h : Head) → HeadIn c h → SetsIn c.ids h
set_in c h i = record { reads = i.spans.reads; writes = i.spans.writes; end = i.spans.ids }

pub numbered : (t : Table) (heads : List Head) → IsPart t heads → IsNumbered (all_names t.names) t.ids.now heads
numbered t heads h = record {
  each = All-weaker (HeadIn (shared_seen t)) (SetsIn t.ids.now) (set_in (shared_seen t)) heads h.logged.each;
  named = h.logged.ids;
  apart = h.apart;
}

pub same_sets : (c : Shared) (heads : List Head) → map (named_sets c.names) (map (sets_at c.ids) heads) ≡ map declared_sets (map (txn_at c) heads)
same_sets c [] = refl
same_sets c (h ∷ hs) = ap (λ ys. named_sets c.names (sets_at c.ids h) ∷ ys) (same_sets c hs)

pub numbers : (t : Table) (heads : List Head) → IsPart t heads
    → Numbers (record { names = all_names t.names; sets = map (sets_at t.ids.now) heads }) (map (txn_at (shared_seen t)) heads)
numbers t heads h = record { apart = h.apart; same = same_sets (shared_seen t) heads }
