-- The sets of a call's keys, and the indices of the keys in these sets.
use Rattle.std.proofs.Common.{arith, ◌≡◌, ℕ, List, ◌++◌, ◌-◌, length, take, drop, map, refl, ap, sym, subst, ◌∙◌}
use Rattle.std.specs.Prelude.{ℤ, ◌≢◌}
use Rattle.std.specs.List.{range_with_len}
use Rattle.std.proofs.lemmas.List.{length-map, drop_at}
use Rattle.std.proofs.lemmas.Slice.{between_to_end}
use Rattle.bohm_types.specs.KeySets.{key_set}
use Rattle.bohm_log.specs.Calling.{ArePlaces, argument_of, parts_in, IsCalled}
use Rattle.bohm_log.specs.Columns.{Shared, AllNamed, NumbersCome}
use Rattle.bohm_log.specs.declared.template.BodyColumns.{BodyColumns}
use Rattle.bohm_log.specs.declared.call_places.CallPlaces.{CallPlaces}
use Rattle.bohm_log.specs.declared.call_places.KeyOrder.{KeyOrder}
use Rattle.bohm_log.specs.declared.call_places.KeyOrder.TheVariants.{Rising, Falling}
use Rattle.bohm_log.specs.CallPlaces.{HasPlaces, IsSettled, HasSets, parts_called, written}
use Rattle.bohm_log.specs.Parts.{names_at, name_at}
use Rattle.bohm_log.specs.declared.call_places.SetPlaces.{SetPlaces}
use Rattle.bohm_log.proofs.Placing.{own_places}
use Rattle.bohm_log.proofs.Widening.{come_instead}

-- an order isn't both rising and falling
not_both : {o : KeyOrder} → o ≡ Rising → o ≢ Falling
not_both r f = let bad : Rising ≡ Falling = sym r ∙ f in cc

-- ascending keys, which are their own set, are settled with consecutive indices
pub settled_itself : (names : List (List ℕ)) (ids : List ℕ) (s : SetPlaces) → s.order ≡ Rising → key_set (names_at names ids) ≡ names_at names ids
    → s.places.items ≡ range_with_len 0 (length ids) → IsSettled names ids s
settled_itself names ids s order set counted =
    let places : s.places.items ≡ range_with_len 0 (length (names_at names ids)) =
    counted ∙ ap (range_with_len 0) (sym (length-map ids (name_at names))) in
    let at : ArePlaces (names_at names ids) (key_set (names_at names ids)) s.places.items =
    subst (λ (ps : List ℕ). ArePlaces (names_at names ids) (key_set (names_at names ids)) ps) (sym places)
    (subst (λ (ks : List (List ℕ)). ArePlaces (names_at names ids) ks (range_with_len 0 (length (names_at names ids)))) (sym set)
    (own_places (names_at names ids))) in
    record {
      places = record { at = at; ordered = record { rising = λ e. places; falling = λ e. absurd (not_both order e) } };
      itself = λ e. set;
      sorted = λ n. absurd (n order);
    }

-- ---- appended numbers

-- the slice from an offset to the end of the column has the numbers from this offset on
pub ids_behind : (all ids : List ℕ) (from : ℕ) → all ≡ ids → take (length all - from) (drop from all) ≡ drop from ids
ids_behind all ids from e = between_to_end all from (length all) (omega arith) ∙ ap (drop from) e

come_names : (c d : Shared) (keys : List (List ℕ)) (from : ℕ) → from ≡ length c.ids → NumbersCome c d keys → names_at d.names (drop from d.ids) ≡ keys
come_names c d keys from start a = ap (λ (ns : List ℕ). names_at d.names ns) (ap (drop from) a.added ∙ drop_at c.ids a.more from (sym start)) ∙ a.same

pub come_named : (c d : Shared) (keys names : List (List ℕ)) (from : ℕ) (ids : List ℕ) → from ≡ length c.ids → NumbersCome c d keys → names ≡ d.names
    → ids ≡ drop from d.ids
    → AllNamed names ids
come_named c d keys names from ids start a n i =
    let numbers : ids ≡ a.more = i ∙ ap (drop from) a.added ∙ drop_at c.ids a.more from (sym start) in
    subst (λ (ns : List (List ℕ)). AllNamed ns ids) (sym n) (subst (λ (is : List ℕ). AllNamed d.names is) (sym numbers) a.named)

pub come_few : (c d : Shared) (keys : List (List ℕ)) (from : ℕ) (ids : List ℕ) → from ≡ length c.ids → NumbersCome c d keys → ids ≡ drop from d.ids
    → length ids ≡ length keys
come_few c d keys from ids start a i =
    ap length i ∙ sym (length-map (drop from d.ids) (name_at d.names)) ∙ ap length (come_names c d keys from start a)

settled_so : (c d : Shared) (keys names : List (List ℕ)) (from : ℕ) (ids : List ℕ) → from ≡ length c.ids → NumbersCome c d keys → names ≡ d.names
    → ids ≡ drop from d.ids
    → names_at names ids ≡ keys
settled_so c d keys names from ids start a n i = (λ j. names_at (n j) (i j)) ∙ come_names c d keys from start a

pub places_come : (c d : Shared) (keys names : List (List ℕ)) (from : ℕ) (ids : List ℕ) (s : SetPlaces) → from ≡ length c.ids → NumbersCome c d keys
    → names ≡ d.names → ids ≡ drop from d.ids → IsSettled names ids s → HasPlaces keys s
places_come c d keys names from ids s start a n i h =
    subst (λ (ks : List (List ℕ)). HasPlaces ks s) (settled_so c d keys names from ids start a n i) h.places

-- ascending keys are their set, so the appended numbers are those of the set
pub itself_comes : (c d : Shared) (keys names : List (List ℕ)) (from : ℕ) (ids : List ℕ) (s : SetPlaces) → from ≡ length c.ids → NumbersCome c d keys
    → names ≡ d.names → ids ≡ drop from d.ids → IsSettled names ids s → s.order ≡ Rising → NumbersCome c d (key_set keys)
itself_comes c d keys names from ids s start a n i h order =
    let so : names_at names ids ≡ keys = settled_so c d keys names from ids start a n i in
    subst (λ (ks : List (List ℕ)). NumbersCome c d ks) (sym so ∙ sym (h.itself order) ∙ ap key_set so) a

-- if the keys don't ascend, the sorted numbers replace the appended ones and are those of the set
pub sorted_comes : (c d e : Shared) (keys names : List (List ℕ)) (from : ℕ) (ids : List ℕ) (s : SetPlaces) → from ≡ length c.ids → NumbersCome c d keys
    → names ≡ d.names → ids ≡ drop from d.ids → IsSettled names ids s → s.order ≢ Rising
    → e ≡ record d { ids = take from d.ids ++ s.numbers.items } → NumbersCome c e (key_set keys)
sorted_comes c d e keys names from ids s start a n i h order e_is =
    let so : names_at names ids ≡ keys = settled_so c d keys names from ids start a n i in
    let sorted = h.sorted order in
    let named : AllNamed d.names s.numbers.items = subst (λ (ns : List (List ℕ)). AllNamed ns s.numbers.items) n sorted.named in
    let is : names_at d.names s.numbers.items ≡ key_set keys = ap (λ (ns : List (List ℕ)). names_at ns s.numbers.items) (sym n) ∙ sorted.same ∙ ap key_set so in
    come_instead c d e keys (key_set keys) from s.numbers.items start a named is e_is

-- ---- a call

pub called_by : (args : List (List ℕ)) (body : BodyColumns) (locals : List ℕ) (vs : List ℤ) (p : CallPlaces) → HasSets args body p
    → IsCalled (map (argument_of args) body.reads.items) (map (argument_of args) body.writes.items) (parts_in body) locals vs
    (parts_called args body locals vs p)
called_by args body locals vs p h = record {
  same_reads = refl;
  same_writes = refl;
  others = refl;
  read_places = p.reads.places.items;
  write_places = (written body p).places.items;
  reads_at = h.reads.at;
  writes_at = h.writes.at;
  large = refl;
  terms = refl;
  rows = refl;
}
