-- A state has only one digest, and two states with one digest are equal unless their texts collide.
use Rattle.std.proofs.Common.{◌≡◌, ◌⊎◌, ℕ, ℤ, Bool, true, false, List, [], ◌∷◌, ◌++◌, map, append-nil, Decides, inl, inr, refl, ap, sym, ◌∙◌}
use Rattle.std.specs.Prelude.{codes}
use Rattle.std.specs.List.{AllByRecursion}
use Rattle.std.specs.Str.{bytes_eq}
use Rattle.std.proofs.lemmas.Bool.{false≢true}
use Rattle.std.proofs.lemmas.Slice.Eq.{bytes_eq-Decides}
use Rattle.std.specs.FinMap.{entries}
use Rattle.sha2.specs.Sha256.{sha256}
use Rattle.bohm_types.specs.Document.{Document}
use Rattle.bohm_types.specs.Sound.{IsDocument, IsEntry}
use Rattle.bohm_types.specs.declared.edition.Edition.TheVariants.{One}
use Rattle.bohm_text.specs.Print.{Words, lines_text, print_doc, print_store, store_words}
use Rattle.bohm_txn.specs.Meaning.{Look}
use Rattle.bohm_txn.specs.Stores.{Store, cell_in, store_of}
use Rattle.bohm_txn.proofs.ForCallers.{same_store}
use Rattle.bohm_machine.specs.Digests.{Collide, IsDigest}

pub one_digest : (look : Look) (d e : List ℕ) → IsDigest look d → IsDigest look e → d ≡ e
one_digest look d e one other =
    let stores : store_of one.listed ≡ store_of other.listed =
    same_store (store_of one.listed) (store_of other.listed) (λ k i. (one.cells ∙ sym other.cells) i k) in
    let lists : one.listed ≡ other.listed = one.ordered ∙ ap (λ (s : Store). entries s) stores ∙ sym other.ordered in
    one.same ∙ ap (λ (l : List (List ℕ × ℤ)). sha256 (print_store l)) lists ∙ sym other.same

-- ---- one store text, one store

-- the document without transactions that has a store
holder : List (List ℕ × ℤ) → Document
holder listed = record { edition = One; store = listed; log = [] }

holder_text : (listed : List (List ℕ × ℤ)) → print_doc (holder listed) ≡ codes "log 1" ++ 10 ∷ lines_text (map store_words listed)
unfolding holder
holder_text listed = ap (λ (lines : List Words). codes "log 1" ++ 10 ∷ lines_text lines) (append-nil (map store_words listed))

same_lines : (one other : List (List ℕ × ℤ)) → print_store one ≡ print_store other → lines_text (map store_words one) ≡ lines_text (map store_words other)
same_lines one other same = cc

pub one_store : ((d e : Document) → IsDocument d → IsDocument e → print_doc d ≡ print_doc e → d ≡ e) → (one other : List (List ℕ × ℤ))
    → AllByRecursion IsEntry one → AllByRecursion IsEntry other → print_store one ≡ print_store other → one ≡ other
unfolding holder
one_store one_text one other sound sound' same =
    let texts : print_doc (holder one) ≡ print_doc (holder other) =
    holder_text one ∙ ap (λ (lines : List ℕ). codes "log 1" ++ 10 ∷ lines) (same_lines one other same) ∙ sym (holder_text other) in
    ap (λ (d : Document). d.store) (one_text (holder one) (holder other) (record { store = sound; log = tt }) (record { store = sound'; log = tt }) texts)

same_or_collide : (text : (d e : Document) → IsDocument d → IsDocument e → print_doc d ≡ print_doc e → d ≡ e) (look other : Look) (d : List ℕ)
    (a : IsDigest look d) (b : IsDigest other d) (r : Bool) → Decides r (print_store a.listed ≡ print_store b.listed)
    → (look ≡ other) ⊎ Collide (print_store a.listed) (print_store b.listed)
same_or_collide text look other d a b true says =
    let lists : a.listed ≡ b.listed = one_store text a.listed b.listed a.sound b.sound (says.0 refl) in
    inl (sym a.cells ∙ ap (λ (l : List (List ℕ × ℤ)). cell_in (store_of l)) lists ∙ b.cells)
same_or_collide text look other d a b false says =
    inr (record { differ = λ e. absurd (false≢true (says.1 e)); same = sym a.same ∙ b.same })

pub same_digest : ((d e : Document) → IsDocument d → IsDocument e → print_doc d ≡ print_doc e → d ≡ e) → (look other : Look) (d : List ℕ)
    (a : IsDigest look d) (b : IsDigest other d) → (look ≡ other) ⊎ Collide (print_store a.listed) (print_store b.listed)
same_digest text look other d a b = same_or_collide text look other d a b (bytes_eq (print_store a.listed) (print_store b.listed))
    (bytes_eq-Decides (print_store a.listed) (print_store b.listed))
