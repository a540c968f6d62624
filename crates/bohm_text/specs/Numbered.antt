-- The text of joined replies is the text of the first replies, then of the others, with numbers that continue.
use Rattle.std.proofs.Common.{◌≡◌, ℕ, ◌+◌, ◌++◌, List, [], ◌∷◌, length, map, refl, ap, sym, ◌∙◌, append_assoc, arith}
use Rattle.std.proofs.lemmas.List.{map-append}
use Rattle.std.proofs.lemmas.List.Concat.{flat_map-append}
use Rattle.bohm_txn.specs.declared.outcome.Reply.{Reply}
use Rattle.bohm_text.specs.Print.{line_text, lines_text, print_numbered, reply_lines, reply_words, text_of, Words}

reply_lines-append : (t : ℕ) (a b : List Reply) → reply_lines t (a ++ b) ≡ reply_lines t a ++ reply_lines (t + length a) b
reply_lines-append t [] b = let e : t + 0 ≡ t = omega arith in rw e refl
reply_lines-append t (r ∷ rs) b =
    let e : (t + 1) + length rs ≡ t + length (r ∷ rs) = omega arith in
    let more : reply_lines (t + 1) (rs ++ b) ≡ reply_lines (t + 1) rs ++ reply_lines (t + length (r ∷ rs)) b =
    reply_lines-append (t + 1) rs b ∙ ap (λ (n : ℕ). reply_lines (t + 1) rs ++ reply_lines n b) e in
    ap (λ (ls : List Words). reply_words t r ∷ ls) more

lines_text-append : (xs ys : List Words) → lines_text (xs ++ ys) ≡ lines_text xs ++ lines_text ys
lines_text-append xs ys =
    ap text_of (map-append line_text xs ys) ∙ flat_map-append (λ (line : List ℕ). line ++ 10 ∷ []) (map line_text xs) (map line_text ys)

pub numbered-append : (t : ℕ) (a b : List Reply) → print_numbered t (a ++ b) ≡ print_numbered t a ++ print_numbered (t + length a) b
numbered-append t a b =
    ap lines_text (reply_lines-append t a b) ∙ lines_text-append (reply_lines t a) (reply_lines (t + length a) b)

-- replies, followed by the next ones, are printed as a whole
pub printed_on : (first : ℕ) (a b c : List ℕ) (xs ys : List Reply) → b ≡ a ++ print_numbered first xs → c ≡ b ++ print_numbered (first + length xs) ys
    → c ≡ a ++ print_numbered first (xs ++ ys)
printed_on first a b c xs ys one two =
    two ∙ ap (λ (text : List ℕ). text ++ print_numbered (first + length xs) ys) one
    ∙ append_assoc a (print_numbered first xs) (print_numbered (first + length xs) ys) ∙ ap (λ (text : List ℕ). a ++ text) (sym (numbered-append first xs ys))
