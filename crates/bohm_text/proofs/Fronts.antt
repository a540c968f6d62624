-- A line that begins with a word and a space splits into this word and the words of the rest.
use Rattle.std.proofs.Common.{◌≡◌, ◌≢◌, ℕ, ◌+◌, Bool, true, false, List, [], ◌∷◌, ◌++◌, length, take, drop, Some, None, refl, ap, sym, ◌∙◌, arith}
use Rattle.std.proofs.Common.{length-append}
use Rattle.std.specs.Prelude.{Option, MatchOption, IfSome, IfNone, codes, nat_eq}
use Rattle.std.specs.Borrow.{Bor}
use Rattle.std.specs.Cmp.Lexicographic.{pointwise}
use Rattle.std.proofs.lemmas.Bool.Decides.{Decides-eqb}
use Rattle.std.specs.Cmp.{unsigned_Decides}
use Rattle.std.specs.Str.{bytes_eq}
use Rattle.std.proofs.lemmas.Bool.Decides.{same_from_decides}
use Rattle.std.proofs.lemmas.List.{append-nil, nil_from_length}
use Rattle.std.proofs.lemmas.Slice.Eq.{bytes_eq-Decides, strip_prefix_is}
use Rattle.bohm_text.specs.Cut.{split}

-- the result of stripping the prefix `front` from a line
abbrev IsStripped : List ℕ → List ℕ → Option (Bor (List ℕ)) → Type 0
IsStripped line front r = MatchOption r (pointwise nat_eq (take (length front) line) front ≡ false)
    (λ x. (pointwise nat_eq (take (length front) line) front ≡ true) × (x.now ≡ drop (length front) line) × (length x.now + length front ≡ length line))

pub behind_front : (line front : List ℕ) (r : Option (Bor (List ℕ))) → IsStripped line front r → IfSome r (λ rest. line ≡ front ++ rest.now)
behind_front line front None h = tt
behind_front line front (Some rest) h = strip_prefix_is Decides-eqb line front (Some rest) h

pub not_front : (line front : List ℕ) (r : Option (Bor (List ℕ))) → IsStripped line front r → IfNone r ((rest : List ℕ) → line ≢ front ++ rest)
not_front line front None h = strip_prefix_is Decides-eqb line front None h
not_front line front (Some rest) h = tt

pub split_equals : (line : List ℕ) (r : Option (Bor (List ℕ))) → IfSome r (λ rest. line ≡ codes "= " ++ rest.now)
    → IfSome r (λ rest. split 32 line ≡ codes "=" ∷ split 32 rest.now)
unfolding split
split_equals line None h = tt
split_equals line (Some rest) h = rw h refl

split_reads : (line rest words : List ℕ) → line ≡ codes "read" ++ rest → rest ≡ codes "s " ++ words → split 32 line ≡ codes "reads" ∷ split 32 words
unfolding split
split_reads line rest words e h = rw (e, h) refl

split_writes : (line rest words : List ℕ) → line ≡ codes "writ" ++ rest → rest ≡ codes "es " ++ words → split 32 line ≡ codes "writes" ∷ split 32 words
unfolding split
split_writes line rest words e h = rw (e, h) refl

module _ (line rest : List ℕ) where
  pub of_reads : line ≡ codes "read" ++ rest → (r : Option (Bor (List ℕ))) → IfSome r (λ words. rest ≡ codes "s " ++ words.now)
      → IfSome r (λ words. split 32 line ≡ codes "reads" ∷ split 32 words.now)
  of_reads e None h = tt
  of_reads e (Some words) h = split_reads line rest words.now e h

  pub of_writes : line ≡ codes "writ" ++ rest → (r : Option (Bor (List ℕ))) → IfSome r (λ words. rest ≡ codes "es " ++ words.now)
      → IfSome r (λ words. split 32 line ≡ codes "writes" ∷ split 32 words.now)
  of_writes e None h = tt
  of_writes e (Some words) h = split_writes line rest words.now e h

-- a word that begins with a text is this text exactly if no bytes follow
pub whole_word : (word text rest : List ℕ) (none : Bool) → word ≡ text ++ rest → none ≡ nat_eq (length rest) 0 → none ≡ bytes_eq word text
whole_word word text rest none e h = same_from_decides none (bytes_eq word text) (there, back) (bytes_eq-Decides word text)
  where
    there : none ≡ true → word ≡ text
    there t = e ∙ ap (λ r. text ++ r) (nil_from_length rest ((unsigned_Decides (length rest) 0).0 (sym h ∙ t))) ∙ append-nil text

    back : word ≡ text → none ≡ true
    back q = h ∙ (unsigned_Decides (length rest) 0).1 (omega (arith, length-append text rest, ap length e, ap length q))

pub other_word : (word text : List ℕ) → ((rest : List ℕ) → word ≢ text ++ rest) → false ≡ bytes_eq word text
other_word word text h = same_from_decides false (bytes_eq word text) (there, back) (bytes_eq-Decides word text)
  where
    there : false ≡ true → word ≡ text
    there t = absurd cc

    back : word ≡ text → false ≡ true
    back q = absurd (h [] (q ∙ sym (append-nil text)))
