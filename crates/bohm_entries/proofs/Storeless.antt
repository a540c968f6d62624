-- A log whose first lines are its head and `txn` has no store.
use Rattle.std.proofs.Common.{◌≡◌, ℕ, ℤ, List, [], ◌∷◌, ◌++◌, length, map, refl, ap, sym, ◌∙◌, arith, length-append}
use Rattle.std.specs.Prelude.{codes, flat_map}
use Rattle.bohm_types.specs.declared.edition.Edition.{Edition}
use Rattle.bohm_types.specs.Document.{Document}
use Rattle.bohm_types.specs.Sound.{IsDocument}
use Rattle.bohm_text.specs.Cut.{whole_lines}
use Rattle.bohm_text.specs.Front.{text_lines}
use Rattle.bohm_text.specs.Print.{head_words, line_text, print_doc, spaced, store_words, txn_lines}
use Rattle.bohm_text.specs.Windows.{head_line}
use Rattle.bohm_text.proofs.ForCallers.{lines_of_text}
use Rattle.bohm_entries.specs.Batches.{behind_opening}
use Rattle.bohm_entries.proofs.Reading.{opening_lines}

first_byte : List ℕ → ℕ
first_byte [] = 0
first_byte (b ∷ bs) = b

second_byte : List ℕ → ℕ
second_byte [] = 0
second_byte (b ∷ bs) = first_byte bs

third_byte : List ℕ → ℕ
third_byte [] = 0
third_byte (b ∷ bs) = second_byte bs

no_space : (front rest : List ℕ) → front ++ 32 ∷ rest ≡ codes "txn" → ⊥
unfolding first_byte second_byte third_byte
no_space [] rest h = absurd (let e : 32 ≡ 116 = ap first_byte h in omega arith)
no_space (a ∷ []) rest h = absurd (let e : 32 ≡ 120 = ap second_byte h in omega arith)
no_space (a ∷ b ∷ []) rest h = absurd (let e : 32 ≡ 110 = ap third_byte h in omega arith)
no_space (a ∷ b ∷ c ∷ front) rest h =
    absurd (omega (arith, ap length h, length-append front (32 ∷ rest)))

second_line : List (List ℕ) → List ℕ
second_line [] = []
second_line (l ∷ []) = []
second_line (l ∷ m ∷ ls) = m

pub no_store : (e : Edition) (lines : List ℕ) (d : Document) → IsDocument d → print_doc d ≡ behind_opening e lines → d.store ≡ []
unfolding second_line
no_store e lines d sound print = from d.store refl
  where
    all : text_lines d ≡ head_line e ∷ codes "txn" ∷ whole_lines lines
    all = sym (lines_of_text d sound) ∙ (ap whole_lines print ∙ opening_lines e lines)

    from : (store : List (List ℕ × ℤ)) → d.store ≡ store → store ≡ []
    from [] is = refl
    from (entry ∷ es) is =
        let second : line_text (store_words entry) ≡ codes "txn" =
        ap (λ (st : List (List ℕ × ℤ)). second_line (line_text (head_words d.edition) ∷ map line_text (map store_words st ++ flat_map txn_lines d.log))) (sym is)
        ∙ ap second_line all in
        absurd (no_space entry.0 _ second)
