-- The statements whose verb is neither `set` nor `need`.
use Rattle.std.specs.Prelude.{[], ◌∷◌, Option, None, if◌then◌else◌, codes}
use Rattle.std.specs.Option.{option_map}
use Rattle.std.specs.Str.{bytes_eq}
use Rattle.bohm_types.specs.Stmt.{Show, Stmt}
use Rattle.bohm_text.specs.Print.{Words}
use Rattle.bohm_text.specs.Reading.{last_sum, bind_of, remove_of, fail_of}

-- `stmt_of` for the other verbs
unfoldable pub other_of : Words → Option Stmt
other_of [] = None
other_of (verb ∷ words) =
    if bytes_eq verb (codes "let") then bind_of words else (
    if bytes_eq verb (codes "show") then option_map Show (last_sum words) else (
    if bytes_eq verb (codes "drop") then remove_of words else (
    if bytes_eq verb (codes "fail") then fail_of words else None)))
