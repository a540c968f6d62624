-- The names and literals that the indices of terms and statements denote.
use Rattle.std.proofs.Common.{true, ◌≡◌, ℕ, Bool, false, List, [], ◌∷◌, ◌++◌, Some, refl, sym, ◌∙◌, subst, arith, append-nil, slice_get}
use Rattle.std.proofs.lemmas.Option.{get_or_from_slice_get, slice_get_within}
use Rattle.bohm_types.specs.Term as atoms
use Rattle.bohm_log.specs.declared.row.AtomKind.TheVariants.{Large, Read, Unread, Local}
use Rattle.bohm_log.specs.declared.row.Action.{Action}
use Rattle.bohm_log.specs.declared.row.Action.TheVariants as actions
use Rattle.bohm_log.specs.declared.row.StmtRow.{StmtRow}
use Rattle.bohm_log.specs.Parts.{IsApart, OtherIn, Parts, Begins}
use Rattle.bohm_log.specs.declared.row.TermRow.{TermRow}
use Rattle.bohm_log.specs.Drafting.{AddsTerm, NamesGrow, with_row, AddsRow, IsNamed, IsNameless, keys_of, NameStands, KeyStands, Stands, IsWriting}
use Rattle.bohm_log.proofs.Growth.{Begins-itself}
use Rattle.bohm_log.proofs.Drafts.{itself}

pub nameless_came : (p q : Parts) (action : Action) (s a b t : ℕ) → IsNameless action
    → q ≡ with_row p (record { action = action; declared = false; name = 0; start = s; first = a; second = b; third = t }) → AddsRow p q action [] s a b t
nameless_came p q action s a b t h made = record {
  mid = p;
  grows = itself p;
  declared = false;
  place = 0;
  names = stands action h;
  made = made;
}
  where
    stands : (x : Action) → IsNameless x → NameStands p x false 0 []
    stands actions.Bind n = absurd n
    stands (actions.Need c) n = record { within = tt; same = refl }
    stands actions.Has n = absurd n
    stands actions.Lacks n = absurd n
    stands actions.Put n = absurd n
    stands (actions.PutWhen c) n = absurd n
    stands actions.Remove n = absurd n
    stands actions.Show n = record { within = tt; same = refl }
    stands actions.Fail n = record { within = tt; same = refl }

-- ---- adding names and literals

pub large_grows : (p : Parts) (xs : List ℕ) → Begins p.large xs
    → NamesGrow p (record { reads = p.reads; writes = p.writes; others = p.others; large = xs; terms = p.terms; rows = p.rows })
large_grows p xs b = record {
  grows = record { reads = refl; writes = refl; others = Begins-itself p.others; large = b; terms = Begins-itself p.terms; rows = Begins-itself p.rows };
  terms = refl;
  rows = refl;
}

pub large_stands : (p : Parts) (i n : ℕ) (minus : Bool) → slice_get p.large i ≡ Some n
    → Stands p (record { kind = Large; minus = minus; place = i }) minus (atoms.Lit n)
large_stands p i n minus e = record {
  within = slice_get_within p.large i n e;
  same = rw (get_or_from_slice_get p.large i n 0 e) refl;
}

pub others_grow : (p : Parts) (xs : List (List ℕ)) → Begins p.others xs
    → NamesGrow p (record { reads = p.reads; writes = p.writes; others = xs; large = p.large; terms = p.terms; rows = p.rows })
others_grow p xs b = record {
  grows = record { reads = refl; writes = refl; others = b; large = Begins-itself p.large; terms = Begins-itself p.terms; rows = Begins-itself p.rows };
  terms = refl;
  rows = refl;
}

-- an index found for a statement's name denotes this name, where a local is sought only among the other names
pub name_stands : (p : Parts) (action : Action) (declared : Bool) (i : ℕ) (k : List ℕ) → IsNamed action
    → KeyStands (keys_of action p.reads p.writes) p.others declared i k → NameStands p action declared i k
name_stands p actions.Bind true i k n h = absurd (omega (arith, h.within))
name_stands p actions.Bind false i k n h = record { within = h.within.within; same = h.same }
name_stands p (actions.Need c) b i k n h = absurd n
name_stands p actions.Has b i k n h = record { within = h.within; same = h.same }
name_stands p actions.Lacks b i k n h = record { within = h.within; same = h.same }
name_stands p actions.Put b i k n h = record { within = h.within; same = h.same }
name_stands p (actions.PutWhen c) b i k n h = record { within = h.within; same = h.same }
name_stands p actions.Remove b i k n h = record { within = h.within; same = h.same }
name_stands p actions.Show b i k n h = absurd n
name_stands p actions.Fail b i k n h = absurd n

abbrev pub with_others : Parts → List (List ℕ) → Parts
with_others p others = record { reads = p.reads; writes = p.writes; others = others; large = p.large; terms = p.terms; rows = p.rows }

-- names were added, and no row
pub row_unseen : (p : Parts) (others : List (List ℕ)) (rows : List StmtRow) → Begins p.others others → rows ≡ p.rows
    → NamesGrow p (record { reads = p.reads; writes = p.writes; others = others; large = p.large; terms = p.terms; rows = rows })
row_unseen p others rows b e = record {
  grows = record {
    reads = refl;
    writes = refl;
    others = b;
    large = Begins-itself p.large;
    terms = Begins-itself p.terms;
    rows = ([], e ∙ sym (append-nil p.rows));
  };
  terms = refl;
  rows = e;
}

-- names and literals were added, and no term
pub term_unseen : (p q : Parts) (terms : List TermRow) → NamesGrow p q → terms ≡ q.terms
    → NamesGrow p (record { reads = q.reads; writes = q.writes; others = q.others; large = q.large; terms = terms; rows = q.rows })
term_unseen p q terms g e = record {
  grows = record {
    reads = g.grows.reads;
    writes = g.grows.writes;
    others = g.grows.others;
    large = g.grows.large;
    terms = subst (Begins p.terms) (sym e) g.grows.terms;
    rows = g.grows.rows;
  };
  terms = e ∙ g.terms;
  rows = g.rows;
}

-- a row and the names that the row needs were added
pub named_came : (p : Parts) (others : List (List ℕ)) (rows : List StmtRow) (action : Action) (name : List ℕ) (declared : Bool) (place s a b t : ℕ)
    → Begins p.others others
    → NameStands (with_others p others) action declared place name
    → rows ≡ p.rows ++ record { action = action; declared = declared; name = place; start = s; first = a; second = b; third = t } ∷ []
    → AddsRow p (record { reads = p.reads; writes = p.writes; others = others; large = p.large; terms = p.terms; rows = rows }) action name s a b t
named_came p others rows action name declared place s a b t grow stands made = record {
  mid = with_others p others;
  grows = others_grow p others grow;
  declared = declared;
  place = place;
  names = stands;
  made = λ i. record { reads = p.reads; writes = p.writes; others = others; large = p.large; terms = p.terms; rows = made i };
}

-- ---- names and their indices

pub key_declared : (keys others : List (List ℕ)) (i : ℕ) (k : List ℕ) → slice_get keys i ≡ Some k → KeyStands keys others true i k
key_declared keys others i k e = record { within = slice_get_within keys i k e; same = get_or_from_slice_get keys i k [] e }

other_in : (keys others : List (List ℕ)) (i : ℕ) (k : List ℕ) → slice_get others i ≡ Some k → IsApart keys k → OtherIn keys others i
other_in keys others i k e apart = record {
  within = slice_get_within others i k e;
  apart = subst (IsApart keys) (sym (get_or_from_slice_get others i k [] e)) apart;
}

pub key_other : (keys others : List (List ℕ)) (i : ℕ) (k : List ℕ) → slice_get others i ≡ Some k → IsApart keys k → KeyStands keys others false i k
key_other keys others i k e apart = record { within = other_in keys others i k e apart; same = get_or_from_slice_get others i k [] e }

-- a row that writes the declared key at an index was added
pub written_came : (p : Parts) (rows : List StmtRow) (action : Action) (name : List ℕ) (place s a b t : ℕ) → IsWriting action
    → slice_get p.writes place ≡ Some name
    → rows ≡ p.rows ++ record { action = action; declared = true; name = place; start = s; first = a; second = b; third = t } ∷ []
    → AddsRow p (record { reads = p.reads; writes = p.writes; others = p.others; large = p.large; terms = p.terms; rows = rows }) action name s a b t
written_came p rows action name place s a b t writes at made = record {
  mid = p;
  grows = itself p;
  declared = true;
  place = place;
  names = stands action writes;
  made = λ i. record { reads = p.reads; writes = p.writes; others = p.others; large = p.large; terms = p.terms; rows = made i };
}
  where
    there : KeyStands p.writes p.others true place name
    there = key_declared p.writes p.others place name at

    stands : (x : Action) → IsWriting x → NameStands p x true place name
    stands actions.Bind n = absurd n
    stands (actions.Need c) n = absurd n
    stands actions.Has n = absurd n
    stands actions.Lacks n = absurd n
    stands actions.Put n = record { within = there.within; same = there.same }
    stands (actions.PutWhen c) n = record { within = there.within; same = there.same }
    stands actions.Remove n = record { within = there.within; same = there.same }
    stands actions.Show n = absurd n
    stands actions.Fail n = absurd n

pub read_stands : (p : Parts) (i : ℕ) (k : List ℕ) (minus : Bool) → slice_get p.reads i ≡ Some k
    → Stands p (record { kind = Read; minus = minus; place = i }) minus (atoms.Read k)
read_stands p i k minus e = record {
  within = slice_get_within p.reads i k e;
  same = rw (get_or_from_slice_get p.reads i k [] e) refl;
}

pub read_came : (p : Parts) (terms : List TermRow) (i : ℕ) (k : List ℕ) (minus : Bool) → slice_get p.reads i ≡ Some k
    → terms ≡ p.terms ++ record { kind = Read; minus = minus; place = i } ∷ []
    → AddsTerm p (record { reads = p.reads; writes = p.writes; others = p.others; large = p.large; terms = terms; rows = p.rows }) minus (atoms.Read k)
read_came p terms i k minus e made = record {
  grows = record {
    reads = refl;
    writes = refl;
    others = Begins-itself p.others;
    large = Begins-itself p.large;
    terms = (record { kind = Read; minus = minus; place = i } ∷ [], made);
    rows = Begins-itself p.rows;
  };
  rows = refl;
  term = record { kind = Read; minus = minus; place = i };
  terms = made;
  stands = read_stands (record { reads = p.reads; writes = p.writes; others = p.others; large = p.large; terms = terms; rows = p.rows }) i k minus e;
}

pub unread_stands : (p : Parts) (i : ℕ) (k : List ℕ) (minus : Bool) → slice_get p.others i ≡ Some k → IsApart p.reads k
    → Stands p (record { kind = Unread; minus = minus; place = i }) minus (atoms.Read k)
unread_stands p i k minus e apart = record {
  within = other_in p.reads p.others i k e apart;
  same = rw (get_or_from_slice_get p.others i k [] e) refl;
}

pub local_stands : (p : Parts) (i : ℕ) (k : List ℕ) (minus : Bool) → slice_get p.others i ≡ Some k
    → Stands p (record { kind = Local; minus = minus; place = i }) minus (atoms.Local k)
local_stands p i k minus e = record {
  within = slice_get_within p.others i k e;
  same = rw (get_or_from_slice_get p.others i k [] e) refl;
}
