-- Windows that are being parsed.
use Rattle.std.specs.Prelude.{◌≡◌, List, [], ◌∷◌, map, IfOk, IfSome}
use Rattle.bohm_types.specs.declared.edition.Edition.{Edition}
use Rattle.bohm_text.specs.Windows.{IsWindow}
use Rattle.bohm_txn.specs.Chunked.{IsLogCheckedTo}
use Rattle.bohm_handoff.specs.Ends.{awaited}
use Rattle.bohm_reading.specs.InOrder.{IsParsed}
use Rattle.bohm_reading.specs.declared.window.Window.{Window}
use Rattle.bohm_read_ahead.specs.declared.checked_window.CheckedWindow.{CheckedWindow}
use Rattle.bohm_read_ahead.specs.declared.parsing.Parsing.{Parsing}
use Rattle.bohm_read_ahead.specs.declared.parsing.Parsing.TheVariants.{There, Here}

-- the result of parsing the window of a text of this edition; if its transactions were checked, its fault is their first one
pub record IsChecked (e : Edition) (w : Window) (c : CheckedWindow) : Type 0 where
  pub parsed : IsParsed e w c.parsed
  pub checked : IfOk c.parsed.result (λ chunk. IfSome c.fault (IsLogCheckedTo chunk.log))

abbrev pub window_of : Parsing → Window
window_of (There taker) = (awaited taker).window.value
window_of (Here checked) = checked.parsed.window

-- the result of parsing it, present or future, is right for a text of this edition
abbrev pub IsParsing : Edition → Parsing → Type 0
IsParsing e (There taker) = IsWindow (awaited taker).window.value.text.items × ((awaited taker).edition ≡ e)
IsParsing e (Here checked) = IsWindow checked.parsed.window.text.items × IsChecked e checked.parsed.window checked

abbrev pub windows_of : List Parsing → List Window
windows_of ahead = map window_of ahead

abbrev pub AreParsing : Edition → List Parsing → Type 0
AreParsing e [] = Unit {0}
AreParsing e (p ∷ ahead) = IsParsing e p × AreParsing e ahead
