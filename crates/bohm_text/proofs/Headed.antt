-- Lines that are read after a head line.
use Rattle.std.proofs.Common.{◌≡◌, ℕ, ◌+◌, List, [], ◌∷◌, ◌++◌, length, Some, refl, ap, sym, ◌∙◌, arith, append_assoc}
use Rattle.bohm_types.specs.declared.edition.Edition.{Edition}
use Rattle.bohm_types.specs.declared.edition.Edition.TheVariants.{One, Two}
use Rattle.bohm_text.specs.Cut.{whole_lines}
use Rattle.bohm_text.specs.Step.{Nothing, begun, head_of, step}
use Rattle.bohm_text.specs.Windows.{head_line, headed}
use Rattle.bohm_text.proofs.Lines.{step-head}
use Rattle.bohm_text.proofs.Stepping.{IsReadTo, read_none, read_more}
use Rattle.bohm_text.proofs.StepTakes.{head_takes}
use Rattle.bohm_text.proofs.WindowLaws.{headed_lines}

head_read : (e : Edition) → head_of (head_line e) ≡ Some e
unfolding head_of
head_read One = refl
head_read Two = refl

-- after the head line is read, the text itself is left to read
pub read_head : (e : Edition) (text : List ℕ) → IsReadTo step Nothing (headed e text) 1 text (begun e)
read_head e text = read_more (read_none step Nothing (headed e text)) (head_line e) text (headed_lines e text)
    (append_assoc (head_line e) (10 ∷ []) text) (begun e) (step-head (head_line e) e (head_read e))

-- a text that begins with a head line is the headed text of its rest
pub is_headed : (e : Edition) (text head others : List ℕ) → text ≡ head ++ 10 ∷ others → head_of head ≡ Some e → headed e others ≡ text
is_headed e text head others bytes is = append_assoc (head_line e) (10 ∷ []) others
    ∙ (ap (λ (line : List ℕ). line ++ 10 ∷ others) (sym (head_takes head e is)) ∙ sym bytes)

pub lines_behind : (e : Edition) (text : List ℕ) (count : ℕ) → length (whole_lines (headed e text)) ≡ count + 1 → count ≡ length (whole_lines text)
lines_behind e text count same = omega (arith, ap length (headed_lines e text), same)

pub lines_headed : (e : Edition) (text : List ℕ) → length (whole_lines (headed e text)) ≡ length (whole_lines text) + 1
lines_headed e text = omega (arith, ap length (headed_lines e text))
