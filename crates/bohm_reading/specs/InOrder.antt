-- Windows that follow one another, and the results of parsing them.
use Rattle.std.specs.Prelude.{◌≡◌, ◌⊎◌, ℕ, ◌+◌, List, [], ◌∷◌, ◌++◌, Bool, true, false}
use Rattle.std.specs.List.{flat_map}
use Rattle.bohm_types.specs.declared.edition.Edition.{Edition}
use Rattle.bohm_types.specs.Txn.{Txn}
use Rattle.bohm_text.specs.declared.windows.Chunk.{Chunk}
use Rattle.bohm_text.specs.Cut.{whole_lines}
use Rattle.bohm_text.specs.Faults.{IsFirstBadLine, IsShort}
use Rattle.bohm_text.specs.Windows.{IsWindow}
use Rattle.bohm_text.specs.Windowing.{IsWhole, ReadsWindow, IsBadWindow, IsOpenWindow}
use Rattle.bohm_reading.specs.declared.fault.ReadingFault.{ReadingFault}
use Rattle.bohm_reading.specs.declared.fault.ReadingFault.TheVariants.{Read, TooLong, Line, Short, NoMemory}
use Rattle.bohm_reading.specs.declared.window.Parsed.{Parsed}
use Rattle.bohm_reading.specs.declared.window.Window.{Window}

-- it has the window, and the result of parsing it
pub record IsParsed (e : Edition) (w : Window) (p : Parsed) : Type 0 where
  pub window : p.window ≡ w
  pub read : ReadsWindow e p.window.text.items p.result

-- the windows' bytes
abbrev pub bytes_of : List Window → List ℕ
bytes_of ws = flat_map (λ w. w.text.items) ws

-- each window begins with the line `txn`; another window follows it, or the text ends after it; `tail` follows all the windows
abbrev pub AreInOrder : List Window → List ℕ → Type 0
AreInOrder [] tail = Unit {0}
AreInOrder (w ∷ ws) tail = IsWindow w.text.items × (w.last ≡ false → IsWhole w.text.items × IsWindow (bytes_of ws ++ tail))
    × (w.last ≡ true → bytes_of ws ++ tail ≡ []) × AreInOrder ws tail

-- the transactions of chunks
abbrev pub logs_of : List Chunk → List Txn
logs_of chunks = flat_map (λ c. c.log) chunks

pub record IsBadAt (e : Edition) (window : List ℕ) (before n : ℕ) : Type 0 where
  pub line : ℕ
  pub same : n ≡ before + line
  pub bad : IsBadWindow e window line

pub record IsOpenAt (e : Edition) (window : List ℕ) (before n : ℕ) : Type 0 where
  pub lines : ℕ
  pub same : n ≡ before + (lines + 1)
  pub opened : IsOpenWindow e window lines

pub record IsOpenEnd (e : Edition) (window : List ℕ) : Type 0 where
  pub lines : ℕ
  pub opened : IsOpenWindow e window lines

-- why a window is refused, with `before` lines before it
abbrev pub RefusesWindow : Edition → List ℕ → Bool → ℕ → ReadingFault → Type 0
RefusesWindow e window last before (Line n) = IsBadAt e window before n ⊎ ((last ≡ false) × IsOpenAt e window before n)
RefusesWindow e window last before Short = (last ≡ true) × IsOpenEnd e window
RefusesWindow e window last before Read = ⊥
RefusesWindow e window last before TooLong = ⊥
RefusesWindow e window last before NoMemory = Unit {0}

-- why a text isn't a document's
abbrev pub RefusesText : List ℕ → ReadingFault → Type 0
RefusesText text (Line n) = IsFirstBadLine (whole_lines text) n
RefusesText text Short = IsShort text
RefusesText text Read = ⊥
RefusesText text TooLong = ⊥
RefusesText text NoMemory = Unit {0}
