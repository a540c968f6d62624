-- No word has a space or a newline.
use Rattle.std.proofs.Common.{◌≡◌, ℕ, suc, ◌^◌, ◌<◌, ◌≤◌, Bool, true, false, cond, List, [], ◌∷◌, length, map, Some, None, refl, arith}
use Rattle.std.specs.Prelude.{Option, ℤ, pos, negsuc, ◌&&◌, ◌||◌, ◌==◌, nat_le, codes}
use Rattle.std.specs.List.{flat_map, list_all, AllByRecursion}
use Rattle.std.specs.Char.{is_ascii_lowercase, is_ascii_digit}
use Rattle.std.specs.Str.Parse.{AllDigits}
use Rattle.std.specs.Fmt.{decimal, signed_decimal}
use Rattle.std.proofs.lemmas.Bool.{and_parts}
use Rattle.std.proofs.lemmas.Bool.Decides.{nat_tests}
use Rattle.std.proofs.lemmas.Str.Parse.{digit_from_value}
use Rattle.std.proofs.lemmas.Fmt.{decimal_is_IsNumeral}
use Rattle.bohm_types.specs.Name.{is_name_byte}
use Rattle.bohm_types.specs.Term.{Atom, Lit, Read, Local}
use Rattle.bohm_types.specs.declared.cmp.Cmp.{Cmp}
use Rattle.bohm_types.specs.declared.cmp.Cmp.TheVariants.{Lt, Le, Eq, Ge, Gt}
use Rattle.bohm_types.specs.Stmt.{Cond, Stmt, Bind, Need, Has, Lacks, Put, Remove, Show, Fail}
use Rattle.bohm_types.specs.Txn.{Txn}
use Rattle.bohm_types.specs.declared.edition.Edition.{Edition}
use Rattle.bohm_types.specs.declared.edition.Edition.TheVariants.{One, Two}
use Rattle.bohm_types.specs.Document.{Document}
use Rattle.bohm_types.specs.Sound.{IsName, IsAtom, IsTerm, IsCond, IsGuard, IsStmt, IsNumber, IsEntry, IsTxn, IsDocument}
use Rattle.bohm_text.specs.Print.{Words, atom_word, first_word, further_words, sum_words, cmp_word, cond_words}
use Rattle.bohm_text.specs.Print.{guard_words, stmt_words, store_words, txn_lines, head_words, doc_lines}
use Rattle.bohm_text.specs.Tidy.{is_word_byte}
use Rattle.bohm_text.proofs.Cutting.{IsWithout}
use Rattle.bohm_log.proofs.ForCallers.{each_append, each_map}

-- ---- lists

pub All-flat_map : {A B : Type 0} (P : A → Type 0) (Q : B → Type 0) (f : A → List B) (h : (x : A) → P x → AllByRecursion Q (f x)) (xs : List A)
    → AllByRecursion P xs → AllByRecursion Q (flat_map f xs)
All-flat_map P Q f h [] all = tt
All-flat_map P Q f h (x ∷ xs) all = each_append Q (f x) (flat_map f xs) (h x all.0) (All-flat_map P Q f h xs all.1)

-- ---- words

-- a word: at least one byte, and only bytes that words may have
abbrev pub is_word : List ℕ → Bool
is_word [] = false
is_word (c ∷ cs) = is_word_byte c && list_all is_word_byte cs

abbrev pub IsWord : List ℕ → Type 0
IsWord w = is_word w ≡ true

abbrev pub IsWordByte : ℕ → Type 0
IsWordByte b = is_word_byte b ≡ true

all_bytes : (w : List ℕ) → list_all is_word_byte w ≡ true → AllByRecursion IsWordByte w
all_bytes [] e = tt
all_bytes (c ∷ cs) e = let p = and_parts (is_word_byte c) (list_all is_word_byte cs) e in (p.0, all_bytes cs p.1)

word_all : (w : List ℕ) → IsWord w → list_all is_word_byte w ≡ true
word_all [] e = absurd cc
word_all (c ∷ cs) e = e

pub word_bytes : (w : List ℕ) → IsWord w → AllByRecursion IsWordByte w
word_bytes w e = all_bytes w (word_all w e)

pub word_byte-above : (b : ℕ) → IsWordByte b → 32 < b
word_byte-above b e = grind (arith, nat_tests)

apart_from : (c b : ℕ) → c ≤ 32 → 32 < b → b == c ≡ false
apart_from c b small large = grind (arith, nat_tests)

bytes_lack : (c : ℕ) (w : List ℕ) → c ≤ 32 → AllByRecursion IsWordByte w → IsWithout c w
bytes_lack c [] small all = tt
bytes_lack c (b ∷ bs) small all = (apart_from c b small (word_byte-above b all.0), bytes_lack c bs small all.1)

pub word_lacks : (c : ℕ) (w : List ℕ) → c ≤ 32 → IsWord w → IsWithout c w
word_lacks c w small word = bytes_lack c w small (word_bytes w word)

pub words_lack : (c : ℕ) (ws : Words) → c ≤ 32 → AllByRecursion IsWord ws → AllByRecursion (IsWithout c) ws
words_lack c [] small words = tt
words_lack c (w ∷ ws) small words = (word_lacks c w small words.0, words_lack c ws small words.1)

-- ---- the words of a document

name_byte : (c : ℕ) → is_name_byte c ≡ true → is_word_byte c ≡ true
name_byte c e = rw e refl

lowercase_byte : (c : ℕ) → is_ascii_lowercase c ≡ true → is_word_byte c ≡ true
lowercase_byte c e = rw e refl

digit_test : (c : ℕ) → 48 ≤ c → c ≤ 57 → is_ascii_digit c ≡ true
digit_test c low high = grind (arith, nat_tests)

digit_byte : (c : ℕ) → is_ascii_digit c ≡ true → is_word_byte c ≡ true
digit_byte c e =
    let P : Bool → Type 0 = λ (t : Bool). (t || is_ascii_digit c || (c == 95) || (c == 36) || (c == 43) || (c == 45) || (c == 60) || (c == 61) || (c == 62))
    ≡ true in
    elim (is_ascii_lowercase c) as P [ true ↦ refl | false ↦ rw e refl ]

name_bytes : (cs : List ℕ) → list_all is_name_byte cs ≡ true → list_all is_word_byte cs ≡ true
name_bytes [] e = refl
name_bytes (c ∷ cs) e = let p = and_parts (is_name_byte c) (list_all is_name_byte cs) e in rw (name_byte c p.0, name_bytes cs p.1) refl

pub name_word : (w : List ℕ) → IsName w → IsWord w
name_word [] e = absurd cc
name_word (c ∷ cs) e =
    let p = and_parts (nat_le (length cs) 31 && is_ascii_lowercase c) (list_all is_name_byte cs) e in
    let q = and_parts (nat_le (length cs) 31) (is_ascii_lowercase c) p.0 in
    rw (lowercase_byte c q.1, name_bytes cs p.1) refl

local_is_word : (x : List ℕ) → IsName x → IsWord (36 ∷ x)
local_is_word x name = word_all x (name_word x name)

digits_all : (ds : List ℕ) → AllDigits 10 ds → list_all is_word_byte ds ≡ true
digits_all [] digits = refl
digits_all (d ∷ ds) digits = let range = digit_from_value d digits.0 in rw (digit_byte d (digit_test d range.0 range.1), digits_all ds digits.1) refl

some_word : (w : List ℕ) → 0 < length w → list_all is_word_byte w ≡ true → IsWord w
some_word [] some all = absurd (omega arith)
some_word (c ∷ cs) some all = all

decimal_all : (n : ℕ) → n < 2 ^ 64 → list_all is_word_byte (decimal n) ≡ true
decimal_all n small = digits_all (decimal n) (decimal_is_IsNumeral n small).0.1

decimal_word : (n : ℕ) → n < 2 ^ 64 → IsWord (decimal n)
decimal_word n small = some_word (decimal n) (decimal_is_IsNumeral n small).0.0 (decimal_all n small)

number_word : (z : ℤ) → IsNumber z → IsWord (signed_decimal z)
number_word (pos n) small = decimal_word n (omega arith)
number_word (negsuc n) small = decimal_all (suc n) (omega arith)

atom_is_word : (a : Atom) → IsAtom a → IsWord (atom_word a)
atom_is_word (Lit n) sound = decimal_word n (omega arith)
atom_is_word (Read k) sound = name_word k sound
atom_is_word (Local x) sound = local_is_word x sound

first_is_word : (m : Bool) (a : Atom) → IsAtom a → IsWord (first_word (m, a))
first_is_word true a sound = word_all (atom_word a) (atom_is_word a sound)
first_is_word false a sound = atom_is_word a sound

sign_is_word : (m : Bool) → IsWord (cond m (codes "-") (codes "+"))
sign_is_word true = refl
sign_is_word false = refl

further_are_words : (ts : List (Bool × Atom)) → AllByRecursion IsTerm ts → AllByRecursion IsWord (flat_map further_words ts)
further_are_words [] all = tt
further_are_words (t ∷ ts) all = (sign_is_word t.0, (atom_is_word t.1 all.0.1, further_are_words ts all.1))

sum_are_words : (ts : List (Bool × Atom)) → AllByRecursion IsTerm ts → AllByRecursion IsWord (sum_words ts)
sum_are_words [] all = tt
sum_are_words (t ∷ ts) all = (first_is_word t.0 t.1 all.0.1, further_are_words ts all.1)

cmp_is_word : (cmp : Cmp) → IsWord (cmp_word cmp)
cmp_is_word Lt = refl
cmp_is_word Le = refl
cmp_is_word Eq = refl
cmp_is_word Ge = refl
cmp_is_word Gt = refl

cond_are_words : (c : Cond) → IsCond c → AllByRecursion IsWord (cond_words c)
cond_are_words c sound = each_append IsWord (sum_words c.left) (cmp_word c.cmp ∷ sum_words c.right) (sum_are_words c.left sound.0.1)
    (cmp_is_word c.cmp, sum_are_words c.right sound.1.1)

guard_are_words : (guard : Option Cond) → IsGuard guard → AllByRecursion IsWord (guard_words guard)
guard_are_words None sound = tt
guard_are_words (Some c) sound = (refl, cond_are_words c sound)

pub stmt_are_words : (s : Stmt) → IsStmt s → AllByRecursion IsWord (stmt_words s)
stmt_are_words (Bind x sum) sound = (refl, (local_is_word x sound.0, (refl, sum_are_words sum sound.1.1)))
stmt_are_words (Need c) sound = (refl, cond_are_words c sound)
stmt_are_words (Has k) sound = (refl, (refl, (name_word k sound, tt)))
stmt_are_words (Lacks k) sound = (refl, (refl, (name_word k sound, tt)))
stmt_are_words (Put k sum guard) sound = (
  refl,
  (
    name_word k sound.0,
    (
      refl,
      each_append IsWord (sum_words sum) (guard_words guard) (sum_are_words sum sound.1.1)
          (guard_are_words guard sound.2),
    ),
  ),
)
stmt_are_words (Remove k) sound = (refl, (name_word k sound, tt))
stmt_are_words (Show sum) sound = (refl, sum_are_words sum sound.1)
stmt_are_words Fail sound = (refl, tt)

pub entry_are_words : (entry : List ℕ × ℤ) → IsEntry entry → AllByRecursion IsWord (store_words entry)
entry_are_words entry sound = (name_word entry.0 sound.0, (number_word entry.1 sound.1, tt))

pub names_are_words : (ks : Words) → AllByRecursion IsName ks → AllByRecursion IsWord ks
names_are_words [] all = tt
names_are_words (k ∷ ks) all = (name_word k all.0, names_are_words ks all.1)

-- a line is one or more valid words
abbrev pub IsLine : Words → Type 0
IsLine ws = (0 < length ws) × AllByRecursion IsWord ws

head_is_line : (edition : Edition) → IsLine (head_words edition)
head_is_line One = (omega arith, (refl, (refl, tt)))
head_is_line Two = (omega arith, (refl, (refl, tt)))

stmt_some : (s : Stmt) → 0 < length (stmt_words s)
stmt_some (Bind x sum) = omega arith
stmt_some (Need c) = omega arith
stmt_some (Has k) = omega arith
stmt_some (Lacks k) = omega arith
stmt_some (Put k sum guard) = omega arith
stmt_some (Remove k) = omega arith
stmt_some (Show sum) = omega arith
stmt_some Fail = omega arith

txn_are_lines : (edition : Edition) (t : Txn) → IsTxn edition t → AllByRecursion IsLine (txn_lines t)
txn_are_lines edition t sound =
    let statements : AllByRecursion IsLine (map stmt_words t.body) =
    each_map IsStmt IsLine stmt_words (λ s h. (stmt_some s, stmt_are_words s h)) t.body sound.body in
    let reads : IsLine (codes "reads" ∷ t.reads) = (omega arith, (refl, names_are_words t.reads sound.reads)) in
    let writes : IsLine (codes "writes" ∷ t.writes) = (omega arith, (refl, names_are_words t.writes sound.writes)) in
    let opening : IsLine (codes "txn" ∷ []) = (omega arith, (refl, tt)) in
    let closing : IsLine (codes "end" ∷ []) = (omega arith, (refl, tt)) in
    (opening, (reads, (writes, each_append IsLine (map stmt_words t.body) ((codes "end" ∷ []) ∷ []) statements (closing, tt))))

pub doc_are_lines : (d : Document) → IsDocument d → AllByRecursion IsLine (doc_lines d)
doc_are_lines d sound = (
  head_is_line d.edition,
  each_append IsLine (map store_words d.store) (flat_map txn_lines d.log)
      (each_map IsEntry IsLine store_words (λ entry h. (omega arith, entry_are_words entry h)) d.store sound.store)
      (All-flat_map (IsTxn d.edition) IsLine txn_lines (txn_are_lines d.edition) d.log sound.log),
)
