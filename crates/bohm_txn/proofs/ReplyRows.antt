-- The replies that rows represent, when rows and values are appended or removed.
use Rattle.std.proofs.Common.{◌≡◌, ℕ, ◌-◌, List, [], ◌∷◌, ◌++◌, length, take, map, refl, ap, sym, ◌∙◌, arith, length-append}
use Rattle.std.specs.Prelude.{ℤ}
use Rattle.std.specs.List.{All, AllByRecursion, between}
use Rattle.std.proofs.lemmas.List.{drop_at, map-append, take-map}
use Rattle.std.proofs.lemmas.List.Elements.{All-push, All-weaker, recursion_from_All}
use Rattle.std.proofs.lemmas.Slice.{between_to_end}
use Rattle.bohm_txn.specs.declared.outcome.Reply.{Reply}
use Rattle.bohm_txn.specs.declared.outcome.Reply.TheVariants as replies_are
use Rattle.bohm_txn.specs.declared.replies.ReplyRow.{ReplyRow}
use Rattle.bohm_txn.specs.declared.replies.ReplyRow.TheVariants.{Commit, Abort}
use Rattle.bohm_txn.specs.ReplyRows.{Adds, IsInside, reply_by}
use Rattle.bohm_log.proofs.ForCallers.{between-front}

-- a row within the values has the same reply after values are appended
same_reply : (values more : List ℤ) (row : ReplyRow) → IsInside values row → reply_by (values ++ more) row ≡ reply_by values row
same_reply values more (Commit start end) h = ap replies_are.Commit (between-front values more start end h.1 h.0)
same_reply values more (Abort reason stmt) h = refl

still_inside : (values more : List ℤ) (row : ReplyRow) → IsInside values row → IsInside (values ++ more) row
still_inside values more (Commit start end) h = (h.0, omega (arith, h.1, length-append values more))
still_inside values more (Abort reason stmt) h = h

same_replies : (values more : List ℤ) (rows : List ReplyRow) → AllByRecursion (IsInside values) rows
    → map (reply_by (values ++ more)) rows ≡ map (reply_by values) rows
same_replies values more [] h = refl
same_replies values more (r ∷ rs) h = rw (same_reply values more r h.0, same_replies values more rs h.1) refl

-- ---- a commit is appended

last_shows : (values shows : List ℤ) → between (length values) (length (values ++ shows)) (values ++ shows) ≡ shows
last_shows values shows = between_to_end (values ++ shows) (length values) (length (values ++ shows)) (omega arith) ∙ drop_at values shows (length values) refl

pub commit_pushed : (rows : List ReplyRow) (values shows : List ℤ) (new_rows : List ReplyRow) (new_values : List ℤ)
    → Adds rows values shows new_rows new_values → All (IsInside values) rows
    → map (reply_by new_values) new_rows ≡ map (reply_by values) rows ++ replies_are.Commit shows ∷ []
commit_pushed rows values shows new_rows new_values a inside = rw (a.row, a.shown) (
    let all = values ++ shows in
    map-append (reply_by all) rows (Commit (length values) (length all) ∷ [])
    ∙ ap (λ (rs : List Reply). rs ++ replies_are.Commit (between (length values) (length all) all) ∷ [])
    (same_replies values shows rows (recursion_from_All (IsInside values) rows inside))
    ∙ ap (λ (zs : List ℤ). map (reply_by values) rows ++ replies_are.Commit zs ∷ []) (last_shows values shows))

pub commit_inside : (rows : List ReplyRow) (values shows : List ℤ) (new_rows : List ReplyRow) (new_values : List ℤ)
    → Adds rows values shows new_rows new_values → All (IsInside values) rows → All (IsInside new_values) new_rows
commit_inside rows values shows new_rows new_values a inside = rw (a.row, a.shown) (
    let all = values ++ shows in
    All-push (IsInside all) rows (Commit (length values) (length all)) (All-weaker (IsInside values) (IsInside all) (still_inside values shows) rows inside)
    (omega (arith, length-append values shows), omega arith))

-- ---- the last rows are removed

pub replies_taken : (values : List ℤ) (rows some : List ReplyRow) (n : ℕ) → some ≡ take n rows
    → map (reply_by values) some ≡ take n (map (reply_by values) rows)
replies_taken values rows some n e = rw e (sym (take-map (reply_by values) n rows))
