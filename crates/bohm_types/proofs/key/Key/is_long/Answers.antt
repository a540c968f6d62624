use Rattle.std.proofs.Common.{arith, ap, sym, true, ◌≡◌, ◌∙◌, length, take}
use Rattle.std.specs.Prelude.{nat_eq}
use Rattle.std.specs.Str.{bytes_eq}
use Rattle.std.proofs.lemmas.List.{length-take}
use Rattle.std.proofs.lemmas.Slice.Eq.{bytes_eq-Decides}
use Rattle.bohm_types.specs.Name.{is_name}
use Rattle.bohm_types.specs.Spreading.{bytes-take}
use Rattle.bohm_types.specs.Words.{words_of}
use Rattle.bohm_types.proofs.Words.{is_a_name, other_words, same_size}
use Rattle.bohm_types.proofs.key.Key.is_long.Goals as goal

same : (c : goal.After-size_of) → nat_eq c.args.size c.size_of.result ≡ bytes_eq c.args.self.now (take c.args.size c.args.text.now)
same c =
    let h = c.self.invariant in
    let name = take c.args.size c.args.text.now in
    let many : c.args.size ≡ length name = omega (arith, c.requires, length-take c.args.size c.args.text.now) in
    let size : c.size_of.result ≡ length h.name = c.size_of.ensures.size h.name h.is h.made in
    let words : bytes_eq c.self.inside.words (words_of name) ≡ true =
    sym (c.eq.ensures ∙ ap (bytes_eq c.self.inside.words) c.words_at-words.ensures) ∙ c.if-eq.true in
    ap (λ n. nat_eq n c.size_of.result) many
    ∙ same_size c.self.inside h name c.size_of.result (bytes-take c.args.size c.args.text.now (λ i. omega (arith, c.type_inv.text i))) size words
    ∙ ap (λ k. bytes_eq k name) c.self.view_is

pub returns-then-eq-clause-same : goal.returns-then-eq-clause-same
returns-then-eq-clause-same c = same c

pub returns-then-eq-clause-name : goal.returns-then-eq-clause-name
returns-then-eq-clause-name c = λ t.
    let name = take c.args.size c.args.text.now in
    let it : c.args.self.now ≡ name = (bytes_eq-Decides c.args.self.now name).0 (sym (same c) ∙ t) in
    ap is_name (sym (c.self.view_is ∙ it)) ∙ is_a_name c.self.inside c.self.invariant

pub returns-else-eq-clause-same : goal.returns-else-eq-clause-same
returns-else-eq-clause-same c =
    let name = take c.args.size c.args.text.now in
    other_words c.self.inside c.self.invariant name c.eq.result
    (c.eq.ensures ∙ ap (bytes_eq c.self.inside.words) c.words_at-words.ensures) c.if-eq.false
    ∙ ap (λ k. bytes_eq k name) c.self.view_is
