-- Lines that are put one after another.
use Rattle.std.proofs.Common.{◌≡◌, ℕ, List, [], ◌∷◌, ◌++◌, refl, ap, sym, ◌∙◌, subst, append_assoc, length, arith}
use Rattle.std.proofs.lemmas.List.{append-nil}
use Rattle.std.specs.Prelude.{OnOk, Result, Ok, Err}
use Rattle.bohm_store.specs.Versions.{Timeline}
use Rattle.bohm_requests.specs.declared.turn.Turn.{Turn}
use Rattle.bohm_requests.specs.Lines.{AreLines, IsLine, left_behind}

-- the lines of some requests were put, and those of the rest are left, with these answers
pub record IsWalked (m : Timeline) (last : ℕ) (all left : List (List ℕ)) (turns rest : List Turn) (before now : List ℕ) : Type 0 where
  pub text : List ℕ
  pub bytes : now ≡ before ++ text
  pub more : (others : List ℕ) → AreLines m last all left rest others → AreLines m last all all turns (text ++ others)

pub none_put : (m : Timeline) (last : ℕ) (all : List (List ℕ)) (turns : List Turn) (before : List ℕ) → IsWalked m last all all turns turns before before
none_put m last all turns before = record { text = []; bytes = sym (append-nil before); more = λ others lines. lines }

pub one_put : (m : Timeline) (last : ℕ) (all left now_left : List (List ℕ)) (turns : List Turn) (t : Turn) (rest : List Turn) (before was now line : List ℕ)
    → IsWalked m last all left turns (t ∷ rest) before was → now ≡ was ++ line → IsLine m last all left t line → now_left ≡ left_behind t left
    → IsWalked m last all now_left turns rest before now
one_put m last all left now_left turns t rest before was now line w put is behind = record {
  text = w.text ++ line;
  bytes = put ∙ (ap (λ (xs : List ℕ). xs ++ line) w.bytes ∙ append_assoc before w.text line);
  more = λ others lines. subst (AreLines m last all all turns) (sym (append_assoc w.text line others))
      (w.more (line ++ others) (line, others, refl, is, subst (λ (ls : List (List ℕ)). AreLines m last all ls rest others) behind lines));
}

pub all_put : (m : Timeline) (last : ℕ) (all left : List (List ℕ)) (turns rest : List Turn) (before now : List ℕ)
    → IsWalked m last all left turns rest before now → rest ≡ [] → (text : List ℕ) × (now ≡ before ++ text) × AreLines m last all all turns text
all_put m last all left turns rest before now w none = (
  w.text,
  w.bytes,
  subst (AreLines m last all all turns) (append-nil w.text)
      (w.more [] (subst (λ (ts : List Turn). AreLines m last all left ts []) (sym none) refl)),
)

pub all_done : (m : Timeline) (last : ℕ) (all left : List (List ℕ)) (turns rest : List Turn) (before now : List ℕ)
    → IsWalked m last all left turns rest before now → length rest ≡ 0 → (text : List ℕ) × (now ≡ before ++ text) × AreLines m last all all turns text
all_done m last all left turns [] before now w none = all_put m last all left turns [] before now w refl
all_done m last all left turns (t ∷ rest) before now w none = absurd (omega (arith, none))

-- what a clause says at `Ok`
pub on_ok : {T E : Type 0} (A B : Type 0) (r : Result T E) → (A → B) → OnOk r A → OnOk r B
on_ok A B (Ok x) f a = f a
on_ok A B (Err e) f a = tt
