-- Indices denote the same names, terms and statements when parts grow.
use Rattle.std.proofs.Common.{◌≡◌, ℕ, ◌-◌, ◌<◌, ◌≤◌, Bool, true, false, List, [], ◌∷◌, ◌++◌, length, get_or}
use Rattle.std.proofs.Common.{drop, map, refl, ap, sym, ◌∙◌, subst, arith, length-append, append-nil}
use Rattle.std.specs.List.{All, AllByRecursion, between}
use Rattle.std.proofs.lemmas.List.{take-append-le, drop-append-le, get_or_append_left, length-drop}
use Rattle.std.proofs.lemmas.List.Elements.{All-take, All-drop, recursion_from_All}
use Rattle.bohm_log.specs.declared.row.AtomKind.{AtomKind}
use Rattle.bohm_log.specs.declared.row.AtomKind.TheVariants.{Small, Large, Read, Unread, Local}
use Rattle.bohm_log.specs.declared.row.TermRow.{TermRow}
use Rattle.bohm_log.specs.declared.row.Action.{Action}
use Rattle.bohm_log.specs.declared.row.Action.TheVariants.{Bind, Need, Has, Lacks, Put, PutWhen, Remove, Show, Fail}
use Rattle.bohm_log.specs.declared.row.StmtRow.{StmtRow}
use Rattle.bohm_log.specs.Parts.{Parts, atom_at, term_of, sum_between, name_at, key_at, named_by, stmt_made, stmt_of}
use Rattle.bohm_log.specs.Parts.{IsApart, OtherIn, KeyIn, PlaceIn, TermIn, NameIn, RowIn, IsWithin, Begins, Grows}

-- ---- lists

pub Begins-itself : {A : Type 0} (xs : List A) → Begins xs xs
Begins-itself xs = ([], sym (append-nil xs))

pub length-begins : {A : Type 0} (xs ys : List A) → Begins xs ys → length xs ≤ length ys
length-begins xs ys b = omega (arith, ap length b.1, length-append xs b.0)

pub get_or-begins : {A : Type 0} (xs ys : List A) (d : A) (i : ℕ) → Begins xs ys → i < length xs → get_or ys i d ≡ get_or xs i d
get_or-begins xs ys d i b h = ap (λ zs. get_or zs i d) b.1 ∙ get_or_append_left xs b.0 d i h

-- a range within the first of two appended lists is the same range of that list
pub between-front : {A : Type 0} (xs more : List A) (i j : ℕ) → j ≤ length xs → i ≤ j → between i j (xs ++ more) ≡ between i j xs
between-front xs more i j within rises =
    let short : i ≤ length xs = omega arith in
    let room : j - i ≤ length (drop i xs) = omega (arith, length-drop i xs) in
    rw (drop-append-le i xs more short) (take-append-le (j - i) (drop i xs) more room)

pub between-begins : {A : Type 0} (xs ys : List A) (i j : ℕ) → Begins xs ys → j ≤ length xs → i ≤ j → between i j ys ≡ between i j xs
between-begins xs ys i j b within rises = ap (between i j) b.1 ∙ between-front xs b.0 i j within rises

pub map-agree : {A B : Type 0} (f g : A → B) (P : A → Type 0) → ((x : A) → P x → f x ≡ g x) → (xs : List A) → AllByRecursion P xs → map f xs ≡ map g xs
map-agree f g P same [] h = refl
map-agree f g P same (x ∷ xs) h = rw (same x h.0, map-agree f g P same xs h.1) refl

pub map-all : {A B : Type 0} (f g : A → B) (P : A → Type 0) → ((x : A) → P x → f x ≡ g x) → (xs : List A) → All P xs → map f xs ≡ map g xs
map-all f g P same xs h = map-agree f g P same xs (recursion_from_All P xs h)

-- ---- names

pub OtherIn-grows : (ks ls xs ys : List (List ℕ)) (i : ℕ) → ls ≡ ks → Begins xs ys → OtherIn ks xs i → OtherIn ls ys i
OtherIn-grows ks ls xs ys i e b h = record {
  within = omega (arith, h.within, length-begins xs ys b);
  apart = subst (IsApart ls) (sym (get_or-begins xs ys [] i b h.within)) (subst (λ zs. IsApart zs (name_at xs i)) (sym e) h.apart);
}

key_grows : (ks ls xs ys : List (List ℕ)) (b : Bool) (i : ℕ) → ls ≡ ks → Begins xs ys → KeyIn ks xs b i → key_at ls ys b i ≡ key_at ks xs b i
key_grows ks ls xs ys true i e g h = ap (λ zs. name_at zs i) e
key_grows ks ls xs ys false i e g h = get_or-begins xs ys [] i g h.within

KeyIn-grows : (ks ls xs ys : List (List ℕ)) (b : Bool) (i : ℕ) → ls ≡ ks → Begins xs ys → KeyIn ks xs b i → KeyIn ls ys b i
KeyIn-grows ks ls xs ys true i e g h = omega (arith, h, ap length e)
KeyIn-grows ks ls xs ys false i e g h = OtherIn-grows ks ls xs ys i e g h

-- ---- terms

pub atom_grows : (p q : Parts) → Grows p q → (k : AtomKind) (i : ℕ) → PlaceIn p k i → atom_at q k i ≡ atom_at p k i
atom_grows p q g Small i h = refl
atom_grows p q g Large i h = rw (get_or-begins p.large q.large 0 i g.large h) refl
atom_grows p q g Read i h = rw g.reads refl
atom_grows p q g Unread i h = rw (get_or-begins p.others q.others [] i g.others h.within) refl
atom_grows p q g Local i h = rw (get_or-begins p.others q.others [] i g.others h) refl

pub term_grows : (p q : Parts) → Grows p q → (t : TermRow) → TermIn p t → term_of q t ≡ term_of p t
term_grows p q g t h = rw (atom_grows p q g t.kind t.place h) refl

pub PlaceIn-grows : (p q : Parts) → Grows p q → (k : AtomKind) (i : ℕ) → PlaceIn p k i → PlaceIn q k i
PlaceIn-grows p q g Small i h = h
PlaceIn-grows p q g Large i h = omega (arith, h, length-begins p.large q.large g.large)
PlaceIn-grows p q g Read i h = omega (arith, h, ap length g.reads)
PlaceIn-grows p q g Unread i h = OtherIn-grows p.reads q.reads p.others q.others i g.reads g.others h
PlaceIn-grows p q g Local i h = omega (arith, h, length-begins p.others q.others g.others)

pub TermIn-grows : (p q : Parts) → Grows p q → (t : TermRow) → TermIn p t → TermIn q t
TermIn-grows p q g t h = PlaceIn-grows p q g t.kind t.place h

pub sum_grows : (p q : Parts) → Grows p q → All (TermIn p) p.terms → (i j : ℕ) → i ≤ j → j ≤ length p.terms → sum_between q i j ≡ sum_between p i j
sum_grows p q g h i j rises within =
    ap (map (term_of q)) (between-begins p.terms q.terms i j g.terms within rises)
    ∙ map-all (term_of q) (term_of p) (TermIn p) (term_grows p q g) (between i j p.terms)
    (All-take (TermIn p) (j - i) (drop i p.terms) (All-drop (TermIn p) i p.terms h))

-- ---- statements

named_grows : (p q : Parts) → Grows p q → (a : Action) (b : Bool) (i : ℕ) → NameIn p a b i → named_by q a b i ≡ named_by p a b i
named_grows p q g Bind b i h = get_or-begins p.others q.others [] i g.others h
named_grows p q g (Need c) b i h = refl
named_grows p q g Has b i h = key_grows p.reads q.reads p.others q.others b i g.reads g.others h
named_grows p q g Lacks b i h = key_grows p.reads q.reads p.others q.others b i g.reads g.others h
named_grows p q g Put b i h = key_grows p.writes q.writes p.others q.others b i g.writes g.others h
named_grows p q g (PutWhen c) b i h = key_grows p.writes q.writes p.others q.others b i g.writes g.others h
named_grows p q g Remove b i h = key_grows p.writes q.writes p.others q.others b i g.writes g.others h
named_grows p q g Show b i h = refl
named_grows p q g Fail b i h = refl

NameIn-grows : (p q : Parts) → Grows p q → (a : Action) (b : Bool) (i : ℕ) → NameIn p a b i → NameIn q a b i
NameIn-grows p q g Bind b i h = omega (arith, h, length-begins p.others q.others g.others)
NameIn-grows p q g (Need c) b i h = h
NameIn-grows p q g Has b i h = KeyIn-grows p.reads q.reads p.others q.others b i g.reads g.others h
NameIn-grows p q g Lacks b i h = KeyIn-grows p.reads q.reads p.others q.others b i g.reads g.others h
NameIn-grows p q g Put b i h = KeyIn-grows p.writes q.writes p.others q.others b i g.writes g.others h
NameIn-grows p q g (PutWhen c) b i h = KeyIn-grows p.writes q.writes p.others q.others b i g.writes g.others h
NameIn-grows p q g Remove b i h = KeyIn-grows p.writes q.writes p.others q.others b i g.writes g.others h
NameIn-grows p q g Show b i h = h
NameIn-grows p q g Fail b i h = h

pub RowIn-grows : (p q : Parts) → Grows p q → (r : StmtRow) → RowIn p r → RowIn q r
RowIn-grows p q g r h = record {
  first = h.first;
  second = h.second;
  third = h.third;
  end = omega (arith, h.end, length-begins p.terms q.terms g.terms);
  name = NameIn-grows p q g r.action r.declared r.name h.name;
}

pub stmt_grows : (p q : Parts) → Grows p q → IsWithin p → (r : StmtRow) → RowIn p r → stmt_of q r ≡ stmt_of p r
stmt_grows p q g h r w =
    let name = named_grows p q g r.action r.declared r.name w.name in
    let a = sum_grows p q g h.terms r.start r.first w.first (omega (arith, w.second, w.third, w.end)) in
    let b = sum_grows p q g h.terms r.first r.second w.second (omega (arith, w.third, w.end)) in
    let c = sum_grows p q g h.terms r.second r.third w.third w.end in
    λ i. stmt_made r.action (name i) (a i) (b i) (c i)

-- the earlier rows represent the same statements in the extended parts
pub body_grows : (p q : Parts) → Grows p q → IsWithin p → map (stmt_of q) p.rows ≡ map (stmt_of p) p.rows
body_grows p q g h = map-all (stmt_of q) (stmt_of p) (RowIn p) (stmt_grows p q g h) p.rows h.rows
