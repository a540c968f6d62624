use Rattle.std.proofs.Common.{◌≡◌, ◌≢◌, ◌-◌, ◌/◌, ◌∷◌, [], Bool, true, false, refl, ap, sym, ◌∙◌, arith, slice_index_or}
use Rattle.std.specs.Prelude.{length, nat_eq}
use Rattle.std.specs.Cmp.{unsigned_Decides}
use Rattle.std.specs.Int.{w64, trailing_zeros}
use Rattle.std.specs.Str.{bytes_eq}
use Rattle.std.proofs.lemmas.Slice.Eq.{bytes_eq-Decides}
use Rattle.bohm_types.specs.Name.{is_name}
use Rattle.bohm_types.specs.Words.{words_of}
use Rattle.bohm_types.proofs.Sizes.{of_one}
use Rattle.bohm_types.proofs.Words.{is_a_name, one_word, other_words, same_size, short_words}
use Rattle.bohm_types.proofs.key.Key.is_short.Goals as goal

not_true : (b : Bool) → b ≢ true → b ≡ false
not_true true h = absurd (h refl)
not_true false h = refl

same : (c : goal.After-zeros_behind) → nat_eq (length c.args.word.now) (8 - c.zeros_behind.result) ≡ bytes_eq c.args.self.now c.args.word.now
same c =
    let ws = c.self.inside.words in
    let word = c.args.word.now in
    let h = c.self.invariant in
    let first = (unsigned_Decides (slice_index_or ws 0 0) c.args.packed).1 c.if-self-packed.true in
    let words : bytes_eq ws (words_of word) ≡ true =
    sym (short_words c.self.inside h word (λ i. omega (arith, c.type_inv.word i)) c.requires.short)
    ∙ ap (nat_eq (slice_index_or ws 0 0)) (sym c.requires.packed) ∙ first in
    let four : ws ≡ c.args.packed ∷ 0 ∷ 0 ∷ 0 ∷ [] =
    (bytes_eq-Decides ws (words_of word)).0 words ∙ sym (one_word word c.args.packed (omega (arith, c.requires.short)) c.requires.packed) in
    let size : 8 - c.zeros_behind.result ≡ length h.name =
    ap (λ z. 8 - z) (c.zeros_behind.ensures ∙ ap (λ w. trailing_zeros w64 w / 8) (sym c.if-self-packed.true))
    ∙ of_one h.name ws h.is h.made (ap (λ vs. slice_index_or vs 1 0) four) in
    same_size c.self.inside h word (8 - c.zeros_behind.result) (λ i. omega (arith, c.type_inv.word i)) size words
    ∙ ap (λ k. bytes_eq k word) c.self.view_is

pub returns-then-self-packed-clause-same : goal.returns-then-self-packed-clause-same
returns-then-self-packed-clause-same c = same c

pub returns-then-self-packed-clause-name : goal.returns-then-self-packed-clause-name
returns-then-self-packed-clause-name c = λ t.
    let it : c.args.self.now ≡ c.args.word.now = (bytes_eq-Decides c.args.self.now c.args.word.now).0 (sym (same c) ∙ t) in
    ap is_name (sym (c.self.view_is ∙ it)) ∙ is_a_name c.self.inside c.self.invariant

pub returns-else-self-packed-clause-same : goal.returns-else-self-packed-clause-same
returns-else-self-packed-clause-same c =
    let ws = c.self.inside.words in
    let word = c.args.word.now in
    other_words c.self.inside c.self.invariant word (nat_eq (slice_index_or ws 0 0) c.args.packed)
    (ap (nat_eq (slice_index_or ws 0 0)) c.requires.packed
    ∙ short_words c.self.inside c.self.invariant word (λ i. omega (arith, c.type_inv.word i)) c.requires.short)
    (not_true (nat_eq (slice_index_or ws 0 0) c.args.packed)
    (λ t. c.if-self-packed.false ((unsigned_Decides (slice_index_or ws 0 0) c.args.packed).0 t)))
    ∙ ap (λ k. bytes_eq k word) c.self.view_is
