use Rattle.std.proofs.Common.{◌≡◌, ◌∙◌, ◌+◌, ◌++◌, ◌<◌, [], List, ℕ, length, map, take, drop, ap, sym, arith, subst, append-nil}
use Rattle.std.proofs.lemmas.Bool.Decides.{nat_tests}
use Rattle.std.proofs.lemmas.List.{length-map, length-take-le, map-append, nil_from_length, take-append-drop}
use Rattle.std.proofs.lemmas.List.Elements.{All-append}
use Rattle.bohm_log.specs.Parts.{Begins}
use Rattle.bohm_log.proofs.ForCallers.{Begins-trans}
use Rattle.bohm_store.specs.Versions.{KeyedVersion}
use Rattle.bohm_store.specs.declared.listed_writes.FreshKey.{FreshKey}
use Rattle.bohm_store.specs.declared.numbered_write.NumberedWrite.{NumberedWrite}
use Rattle.bohm_store.specs.Writes.{AreBelow, AreNumbersOf, named_write, names_with, with_number}
use Rattle.bohm_store.proofs.Advanced.{numbers_long}
use Rattle.bohm_store.proofs.NumberedWrites.{below_longer, longer_writes}
use Rattle.bohm_store.proofs.Shares.{names_long, renumbered_below, renumbered_named}
use Rattle.bohm_store.proofs.share_numbers.append_share.Goals as goal
use Rattle.bohm_store.proofs.share_numbers.append_share.Goals.{Start}

-- the names at the time of listing begin the names
front : (c : Start) → Begins (take c.args.known c.args.names.now) c.args.names.now
front c = (drop c.args.known c.args.names.now, sym (take-append-drop c.args.known c.args.names.now))

pub append_renumbered-requires : goal.append_renumbered-requires
append_renumbered-requires c =
    let fresh = c.args.share.now.fresh.items in
    let start = take c.args.known c.args.names.now in
    let keys : List (List ℕ) = map (λ (f : FreshKey). f.key) fresh in
    let are : AreNumbersOf c.number_fresh.new.names c.in_ok-numbers.numbers.items keys =
    subst (λ (fs : List FreshKey). AreNumbersOf c.number_fresh.new.names c.in_ok-numbers.numbers.items (map (λ f. f.key) fs))
    c.deref-2.ensures.value c.in_ok-numbers.ensures.numbers in
    let wide : length (names_with start fresh) ≡ c.args.known + length c.deref-3.result.now =
    omega (
      arith,
      names_long start fresh,
      length-take-le c.args.known c.args.names.now c.requires.known,
      ap length c.deref-3.ensures.value,
      numbers_long _ _ _ are,
      length-map fresh (λ (f : FreshKey). f.key),
    ) in
    subst (λ (n : ℕ). AreBelow n c.args.share.now.writes.items) wide c.requires.share

pub returns : goal.returns
returns c =
    let names = c.args.names.now in
    let names' = c.number_fresh.new.names in
    let known = c.args.known in
    let start = take known names in
    let numbers = c.in_ok-numbers.numbers.items in
    let fresh = c.args.share.now.fresh.items in
    let keys : List (List ℕ) = map (λ (f : FreshKey). f.key) fresh in
    let old = c.args.out.now.items in
    let ws = c.args.share.now.writes.items in
    let long : length start ≡ known = length-take-le known names c.requires.known in
    let longer = c.number_fresh.ensures.longer in
    let are : AreNumbersOf names' numbers keys =
    subst (λ (fs : List FreshKey). AreNumbersOf names' numbers (map (λ f. f.key) fs)) c.deref-2.ensures.value c.in_ok-numbers.ensures.numbers in
    let behind = Begins-trans start names names' (front (goal.at.returns c).Start) longer in
    let out : c.append_renumbered.new.out.items ≡ old ++ map (with_number known numbers) ws =
    c.in_ok-append_renumbered.ensures ∙ ap (λ (ns : List ℕ). old ++ map (with_number known ns) ws) c.deref-3.ensures.value in
    record {
      longer = longer;
      below = rw out (All-append (λ (w : NumberedWrite). w.number < length names') old (map (with_number known numbers) ws)
          (below_longer names names' old longer c.requires.below) (renumbered_below start names' keys known numbers long behind are ws c.requires.share));
      listed = ap (map (named_write names')) out ∙ map-append (named_write names') old (map (with_number known numbers) ws)
          ∙ (λ i. longer_writes names names' old longer c.requires.below i
          ++ renumbered_named start names' keys known numbers long behind are ws c.requires.share i);
    }

pub returns-then-is_empty-clause-listed : goal.returns-then-is_empty-clause-listed
returns-then-is_empty-clause-listed c =
    let names = c.args.names.now in
    let start = take c.args.known names in
    let fresh = c.args.share.now.fresh.items in
    let ws = c.args.share.now.writes.items in
    let old = c.args.out.now.items in
    let tested = sym c.if-is_empty.true ∙ c.is_empty.ensures in
    let len = c.args.share.now.fresh.ok.0 in
    let zero : length fresh ≡ 0 = grind (arith, nat_tests) in
    let none : fresh ≡ [] = nil_from_length fresh zero in
    let bare : names_with start fresh ≡ start = ap (names_with start) none ∙ append-nil start in
    let below = subst (λ (ns : List (List ℕ)). AreBelow (length ns) ws) bare c.requires.share in
    let out : c.extend_from_slice.new.self.items ≡ old ++ ws = c.in_ok-extend_from_slice.ensures.items
    ∙ ap (λ (xs : List NumberedWrite). old ++ xs) c.deref.ensures.value in
    ap (map (named_write names)) out ∙ map-append (named_write names) old ws
    ∙ ap (λ (vs : List KeyedVersion). map (named_write names) old ++ vs)
    (longer_writes start names ws (front (goal.at.returns-then-is_empty-clause-listed c).Start) below
    ∙ ap (λ (ns : List (List ℕ)). map (named_write ns) ws) (sym bare))
