-- Words that were read as a value are that value's own words.
use Rattle.std.proofs.Common.{◌≡◌, ℕ, zero, suc, ◌-◌, ◌^◌, Bool, cond, List, [], ◌∷◌, ◌++◌, Some, None, refl, ap, sym, subst, ◌∙◌, lit<, inl, inr}
use Rattle.std.specs.Prelude.{Option, ℤ, pos, negsuc, ◌==◌, codes}
use Rattle.std.specs.Option.{option_map}
use Rattle.std.specs.List.{flat_map}
use Rattle.std.specs.Str.{bytes_eq}
use Rattle.std.specs.Fmt.{decimal, signed_decimal}
use Rattle.std.proofs.lemmas.List.{append-nil}
use Rattle.std.proofs.lemmas.Bool.{eqb-true}
use Rattle.std.proofs.lemmas.Option.{same_Some}
use Rattle.bohm_types.specs.Name.{key_of}
use Rattle.bohm_types.specs.Term.{Atom}
use Rattle.bohm_types.specs.declared.cmp.Cmp.{Cmp}
use Rattle.bohm_types.specs.declared.cmp.Cmp.TheVariants.{Lt, Le, Eq, Ge, Gt}
use Rattle.bohm_types.specs.Stmt.{Cond, Stmt, Bind, Need, Has, Lacks, Put, Remove, Show, Fail}
use Rattle.bohm_txn.proofs.ForCallers.{same_key}
use Rattle.bohm_text.specs.declared.stops.Stop.{Stop}
use Rattle.bohm_text.specs.declared.stops.Stop.TheVariants as stops
use Rattle.bohm_text.specs.Print.{Words, further_words, sum_words, cmp_word, cond_words, stmt_words, store_words}
use Rattle.bohm_text.specs.Reading.{◌>>=◌, whole_of, lit_of, negative, number_of, first_of, sign_of, further_of, cmp_of, stop_of, Ending, End, When}
use Rattle.bohm_text.specs.Reading.{Compared, ending, Terms, stopped, longer, one_more, terms_of, sum_from, at_end, last_sum, keys_of, local_of, after}
use Rattle.bohm_text.specs.Reading.{right_side, cond_of, guarded, assigned_of, bind_of, put_of, presence_of, need_of, remove_of, fail_of, stmt_of, entry_of}
use Rattle.bohm_text.proofs.WordTakes.{bind_some, map_some, chosen, if_some, key_takes, local_takes, whole_takes, first_takes, sign_takes, further_takes}

-- ---- sums

-- the words from the end of a sum on
abbrev pub ending_words : Ending → Words
ending_words End = []
ending_words (When words) = codes "when" ∷ words
ending_words (Compared cmp words) = cmp_word cmp ∷ words

-- a case distinction on whether a word is this keyword
pub by_word : {X : Type 0} (P : List ℕ → Type 0) (w word : List ℕ) (x rest : Option X) (r : X) → cond (bytes_eq w word) x rest ≡ Some r
    → (x ≡ Some r → P word) → (rest ≡ Some r → P w) → P w
by_word P w word x rest r e here elsewhere =
    elim (chosen (bytes_eq w word) x rest (Some r) e) [ inl p ↦ subst P (sym (same_key w word p.0)) (here p.1) | inr p ↦ elsewhere p.1 ]

pub cmp_takes : (w : List ℕ) (cmp : Cmp) → cmp_of w ≡ Some cmp → w ≡ cmp_word cmp
unfolding cmp_of
cmp_takes w cmp e =
    let P : List ℕ → Type 0 = λ (v : List ℕ). v ≡ cmp_word cmp in
    by_word P w (codes "<") (Some Lt) _ cmp e (λ h. ap cmp_word (same_Some Lt cmp h)) (λ e.
    by_word P w (codes "<=") (Some Le) _ cmp e (λ h. ap cmp_word (same_Some Le cmp h)) (λ e.
    by_word P w (codes "=") (Some Eq) _ cmp e (λ h. ap cmp_word (same_Some Eq cmp h)) (λ e.
    by_word P w (codes ">=") (Some Ge) _ cmp e (λ h. ap cmp_word (same_Some Ge cmp h)) (λ e.
    by_word P w (codes ">") (Some Gt) None cmp e (λ h. ap cmp_word (same_Some Gt cmp h)) (λ none. absurd cc)))))

stop_takes : (w : List ℕ) (stop : Stop) (words : Words) → stop_of w ≡ Some stop → w ∷ words ≡ ending_words (ending stop words)
unfolding stop_of
stop_takes w stop words e =
    let P : List ℕ → Type 0 = λ (v : List ℕ). v ∷ words ≡ ending_words (ending stop words) in
    by_word P w (codes "when") (Some stops.When) _ stop e (λ h. ap (λ (s : Stop). ending_words (ending s words)) (same_Some stops.When stop h)) (λ h.
    let m = map_some stops.Compared (cmp_of w) stop h in
    subst (λ (s : Stop). w ∷ words ≡ ending_words (ending s words)) m.2 (ap (λ (v : List ℕ). v ∷ words) (cmp_takes w m.0 m.1)))

-- the words of further terms, and the words from the end of the sum on
abbrev pub further_text : Terms → Words
further_text p = flat_map further_words p.0 ++ ending_words p.1

abbrev pub sum_text : Terms → Words
sum_text p = sum_words p.0 ++ ending_words p.1

stopped_takes : (w : List ℕ) (words : Words) (p : Terms) → stopped w words ≡ Some p → w ∷ words ≡ further_text p
stopped_takes w words p e =
    let b = bind_some (stop_of w) (λ stop. Some ([], ending stop words)) p e in
    subst (λ (q : Terms). w ∷ words ≡ further_text q) (same_Some ([], ending b.0 words) p b.2) (stop_takes w b.0 words b.1)

pub longer_some : (t : Bool × Atom) (read : Option Terms) (p : Terms) → longer t read ≡ Some p → (q : Terms) × (read ≡ Some q) × ((t ∷ q.0, q.1) ≡ p)
longer_some t read p e = let b = bind_some read (λ q. Some (t ∷ q.0, q.1)) p e in (b.0, b.1, same_Some (t ∷ b.0.0, b.0.1) p b.2)

-- words that are read as a sign, a term and further terms are the words of these terms
more_takes : (sign word : List ℕ) (minus : Bool) (ws : Words) (p : Terms) → sign_of sign ≡ Some minus
    → ((q : Terms) → terms_of ws ≡ Some q → ws ≡ further_text q)
    → (further_of minus word >>= λ term. longer term (terms_of ws)) ≡ Some p → sign ∷ word ∷ ws ≡ further_text p
more_takes sign word minus ws p s rest e =
    let b = bind_some (further_of minus word) (λ term. longer term (terms_of ws)) p e in
    let t = further_takes minus word b.0 b.1 in
    let l = longer_some b.0 (terms_of ws) p b.2 in
    let signed : sign ≡ cond b.0.0 (codes "-") (codes "+") = sign_takes sign minus s ∙ ap (λ (m : Bool). cond m (codes "-") (codes "+")) (sym t.0) in
    let whole : sign ∷ word ∷ ws ≡ further_text (b.0 ∷ l.0.0, l.0.1) = λ i. signed i ∷ t.1 i ∷ rest l.0 l.1 i in
    subst (λ (q : Terms). sign ∷ word ∷ ws ≡ further_text q) l.2 whole

pub terms_take : (ws : Words) (p : Terms) → terms_of ws ≡ Some p → ws ≡ further_text p
unfolding terms_of
terms_take [] p e = subst (λ (q : Terms). [] ≡ further_text q) (same_Some ([], End) p e) refl
terms_take (word ∷ []) p e = stopped_takes word [] p e
terms_take (sign ∷ word ∷ ws) p e =
    let P : Option Bool → Type 0 = λ (o : Option Bool). sign_of sign ≡ o → one_more o word (terms_of ws) (stopped sign (word ∷ ws)) ≡ Some p
    → sign ∷ word ∷ ws ≡ further_text p in
    elim (sign_of sign) as P [
      | None ↦ λ _ h. stopped_takes sign (word ∷ ws) p h
      | Some minus ↦ λ s h. more_takes sign word minus ws p s (terms_take ws) h
    ] refl e

pub sum_takes : (ws : Words) (p : Terms) → sum_from ws ≡ Some p → ws ≡ sum_text p
unfolding sum_from
sum_takes [] p e = absurd cc
sum_takes (word ∷ ws) p e =
    let b = bind_some (first_of word) (λ term. longer term (terms_of ws)) p e in
    let l = longer_some b.0 (terms_of ws) p b.2 in
    let whole : word ∷ ws ≡ sum_text (b.0 ∷ l.0.0, l.0.1) = λ i. first_takes word b.0 b.1 i ∷ terms_take ws l.0 l.1 i in
    subst (λ (q : Terms). word ∷ ws ≡ sum_text q) l.2 whole

pub at_end_takes : (p : Terms) (sum : List (Bool × Atom)) → at_end p ≡ Some sum → (sum, End) ≡ p
at_end_takes (ts, End) sum e = let same : ts ≡ sum = same_Some ts sum e in ap (λ (x : List (Bool × Atom)). (x, End)) (sym same)
at_end_takes (ts, When words) sum e = absurd cc
at_end_takes (ts, Compared cmp words) sum e = absurd cc

pub last_takes : (ws : Words) (sum : List (Bool × Atom)) → last_sum ws ≡ Some sum → ws ≡ sum_words sum
unfolding last_sum
last_takes ws sum e =
    let b = bind_some (sum_from ws) at_end sum e in
    sum_takes ws b.0 b.1 ∙ (ap sum_text (sym (at_end_takes b.0 sum b.2)) ∙ append-nil (sum_words sum))

right_takes : (p : Terms) (c : Cond) → right_side p ≡ Some c → sum_text p ≡ cond_words c
right_takes (sum, End) c e = absurd cc
right_takes (sum, When words) c e = absurd cc
right_takes (sum, Compared cmp words) c e =
    let made : List (Bool × Atom) → Cond = λ (right : List (Bool × Atom)). record { left = sum; cmp = cmp; right = right } in
    let b = bind_some (last_sum words) (λ right. Some (made right)) c e in
    let whole : sum_words sum ++ cmp_word cmp ∷ words ≡ cond_words (made b.0) =
    ap (λ (r : Words). sum_words sum ++ cmp_word cmp ∷ r) (last_takes words b.0 b.1) in
    subst (λ (x : Cond). sum_words sum ++ cmp_word cmp ∷ words ≡ cond_words x) (same_Some (made b.0) c b.2) whole

pub cond_takes : (ws : Words) (c : Cond) → cond_of ws ≡ Some c → ws ≡ cond_words c
unfolding cond_of
cond_takes ws c e =
    let b = bind_some (sum_from ws) right_side c e in
    sum_takes ws b.0 b.1 ∙ right_takes b.0 c b.2

-- ---- declared keys, statements and entries

pub keys_take : (ws ks : List (List ℕ)) → keys_of ws ≡ Some ks → ws ≡ ks
unfolding keys_of
keys_take [] ks e = same_Some [] ks e
keys_take (word ∷ ws) ks e =
    let b1 = bind_some (key_of word) (λ key. keys_of ws >>= λ keys. Some (key ∷ keys)) ks e in
    let b2 = bind_some (keys_of ws) (λ keys. Some (b1.0 ∷ keys)) ks b1.2 in
    let whole : word ∷ ws ≡ b1.0 ∷ b2.0 = λ i. (key_takes word b1.0 b1.1).0 i ∷ keys_take ws b2.0 b2.1 i in
    whole ∙ same_Some (b1.0 ∷ b2.0) ks b2.2

pub after_takes : {X : Type 0} (word : List ℕ) (read : List (List ℕ) → Option X) (ws : List (List ℕ)) (x : X) → after word read ws ≡ Some x
    → (rest : List (List ℕ)) × (ws ≡ word ∷ rest) × (read rest ≡ Some x)
after_takes word read [] x e = absurd cc
after_takes word read (w ∷ ws) x e =
    let p = if_some (bytes_eq w word) (read ws) x e in
    (ws, ap (λ (v : List ℕ). v ∷ ws) (same_key w word p.0), p.1)

bound_takes : (ws : Words) (sum : List (Bool × Atom)) → after (codes "=") last_sum ws ≡ Some sum → ws ≡ codes "=" ∷ sum_words sum
bound_takes ws sum e =
    let a = after_takes (codes "=") last_sum ws sum e in
    a.1 ∙ ap (λ (r : Words). codes "=" ∷ r) (last_takes a.0 sum a.2)

bind_takes : (ws : Words) (s : Stmt) → bind_of ws ≡ Some s → codes "let" ∷ ws ≡ stmt_words s
unfolding bind_of
bind_takes [] s e = absurd cc
bind_takes (word ∷ ws) s e =
    let b1 = bind_some (local_of word) (λ name. after (codes "=") last_sum ws >>= λ sum. Some (Bind name sum)) s e in
    let b2 = bind_some (after (codes "=") last_sum ws) (λ sum. Some (Bind b1.0 sum)) s b1.2 in
    let whole : codes "let" ∷ word ∷ ws ≡ stmt_words (Bind b1.0 b2.0) = λ i. codes "let" ∷ (local_takes word b1.0 b1.1).0 i ∷ bound_takes ws b2.0 b2.1 i in
    subst (λ (t : Stmt). codes "let" ∷ word ∷ ws ≡ stmt_words t) (same_Some (Bind b1.0 b2.0) s b2.2) whole

guarded_takes : (key : List ℕ) (p : Terms) (s : Stmt) → guarded key p ≡ Some s → codes "set" ∷ key ∷ codes "=" ∷ sum_text p ≡ stmt_words s
guarded_takes key (sum, End) s e = subst (λ (t : Stmt). codes "set" ∷ key ∷ codes "=" ∷ (sum_words sum ++ []) ≡ stmt_words t)
    (same_Some (Put key sum None) s e) refl
guarded_takes key (sum, When words) s e =
    let b = bind_some (cond_of words) (λ c. Some (Put key sum (Some c))) s e in
    let whole : codes "set" ∷ key ∷ codes "=" ∷ (sum_words sum ++ codes "when" ∷ words) ≡ stmt_words (Put key sum (Some b.0)) =
    ap (λ (r : Words). codes "set" ∷ key ∷ codes "=" ∷ (sum_words sum ++ codes "when" ∷ r)) (cond_takes words b.0 b.1) in
    subst (λ (t : Stmt). codes "set" ∷ key ∷ codes "=" ∷ (sum_words sum ++ codes "when" ∷ words) ≡ stmt_words t)
    (same_Some (Put key sum (Some b.0)) s b.2) whole
guarded_takes key (sum, Compared cmp words) s e = absurd cc

put_takes : (ws : Words) (s : Stmt) → put_of ws ≡ Some s → codes "set" ∷ ws ≡ stmt_words s
unfolding put_of
put_takes [] s e = absurd cc
put_takes (word ∷ ws) s e =
    let b1 = bind_some (key_of word) (λ key. after (codes "=") (assigned_of key) ws) s e in
    let a = after_takes (codes "=") (assigned_of b1.0) ws s b1.2 in
    let b2 = bind_some (sum_from a.0) (guarded b1.0) s a.2 in
    let whole : codes "set" ∷ word ∷ ws ≡ codes "set" ∷ b1.0 ∷ codes "=" ∷ sum_text b2.0 =
    λ i. codes "set" ∷ (key_takes word b1.0 b1.1).0 i ∷ (a.1 ∙ ap (λ (r : Words). codes "=" ∷ r) (sum_takes a.0 b2.0 b2.1)) i in
    whole ∙ guarded_takes b1.0 b2.0 s b2.2

presence_takes : (word name : List ℕ) (s : Stmt) → presence_of word name ≡ Some s → codes "need" ∷ word ∷ name ∷ [] ≡ stmt_words s
unfolding presence_of
presence_takes word name s e =
    let P : List ℕ → Type 0 = λ (w : List ℕ). codes "need" ∷ w ∷ name ∷ [] ≡ stmt_words s in
    let named : (k : List ℕ) → key_of name ≡ Some k → name ≡ k = λ k h. (key_takes name k h).0 in
    by_word P word (codes "has") (option_map Has (key_of name)) _ s e (λ h.
    let m = map_some Has (key_of name) s h in
    ap (λ (k : List ℕ). codes "need" ∷ codes "has" ∷ k ∷ []) (named m.0 m.1) ∙ ap stmt_words m.2) (λ e.
    by_word P word (codes "no") (option_map Lacks (key_of name)) None s e (λ h.
    let m = map_some Lacks (key_of name) s h in
    ap (λ (k : List ℕ). codes "need" ∷ codes "no" ∷ k ∷ []) (named m.0 m.1) ∙ ap stmt_words m.2) (λ none. absurd cc))

need_takes : (ws : Words) (s : Stmt) → need_of ws ≡ Some s → codes "need" ∷ ws ≡ stmt_words s
unfolding need_of
need_takes [] s e = absurd cc
need_takes (word ∷ []) s e = absurd cc
need_takes (word ∷ name ∷ []) s e = presence_takes word name s e
need_takes (left ∷ cmp ∷ right ∷ ws) s e =
    let m = map_some Need (cond_of (left ∷ cmp ∷ right ∷ ws)) s e in
    let whole : codes "need" ∷ left ∷ cmp ∷ right ∷ ws ≡ stmt_words (Need m.0) =
    ap (λ (r : Words). codes "need" ∷ r) (cond_takes (left ∷ cmp ∷ right ∷ ws) m.0 m.1) in
    subst (λ (t : Stmt). codes "need" ∷ left ∷ cmp ∷ right ∷ ws ≡ stmt_words t) m.2 whole

show_takes : (ws : Words) (s : Stmt) → option_map Show (last_sum ws) ≡ Some s → codes "show" ∷ ws ≡ stmt_words s
show_takes ws s e =
    let m = map_some Show (last_sum ws) s e in
    let whole : codes "show" ∷ ws ≡ stmt_words (Show m.0) = ap (λ (r : Words). codes "show" ∷ r) (last_takes ws m.0 m.1) in
    subst (λ (t : Stmt). codes "show" ∷ ws ≡ stmt_words t) m.2 whole

remove_takes : (ws : Words) (s : Stmt) → remove_of ws ≡ Some s → codes "drop" ∷ ws ≡ stmt_words s
unfolding remove_of
remove_takes [] s e = absurd cc
remove_takes (name ∷ []) s e =
    let m = map_some Remove (key_of name) s e in
    let whole : codes "drop" ∷ name ∷ [] ≡ stmt_words (Remove m.0) = λ i. codes "drop" ∷ (key_takes name m.0 m.1).0 i ∷ [] in
    subst (λ (t : Stmt). codes "drop" ∷ name ∷ [] ≡ stmt_words t) m.2 whole
remove_takes (name ∷ w ∷ ws) s e = absurd cc

fail_takes : (ws : Words) (s : Stmt) → fail_of ws ≡ Some s → codes "fail" ∷ ws ≡ stmt_words s
unfolding fail_of
fail_takes [] s e = subst (λ (t : Stmt). codes "fail" ∷ [] ≡ stmt_words t) (same_Some Fail s e) refl
fail_takes (w ∷ ws) s e = absurd cc

-- a case distinction on the verb of a statement
pub by_verb : (P : List ℕ → Type 0) (verb : List ℕ) (ws : Words) (s : Stmt) → stmt_of (verb ∷ ws) ≡ Some s → (put_of ws ≡ Some s → P (codes "set"))
    → (bind_of ws ≡ Some s → P (codes "let")) → (need_of ws ≡ Some s → P (codes "need")) → (option_map Show (last_sum ws) ≡ Some s → P (codes "show"))
    → (remove_of ws ≡ Some s → P (codes "drop")) → (fail_of ws ≡ Some s → P (codes "fail")) → P verb
unfolding stmt_of
by_verb P verb ws s e put bind need show remove fail =
    by_word P verb (codes "set") (put_of ws) _ s e put (λ e.
    by_word P verb (codes "let") (bind_of ws) _ s e bind (λ e.
    by_word P verb (codes "need") (need_of ws) _ s e need (λ e.
    by_word P verb (codes "show") (option_map Show (last_sum ws)) _ s e show (λ e.
    by_word P verb (codes "drop") (remove_of ws) _ s e remove (λ e.
    by_word P verb (codes "fail") (fail_of ws) None s e fail (λ none. absurd cc))))))

pub stmt_takes : (ws : Words) (s : Stmt) → stmt_of ws ≡ Some s → ws ≡ stmt_words s
unfolding stmt_of
stmt_takes [] s e = absurd cc
stmt_takes (verb ∷ ws) s e = by_verb (λ (v : List ℕ). v ∷ ws ≡ stmt_words s) verb ws s e
    (put_takes ws s) (bind_takes ws s) (need_takes ws s) (show_takes ws s) (remove_takes ws s) (fail_takes ws s)

negative_takes : (n : ℕ) (z : ℤ) → negative n ≡ Some z → 45 ∷ decimal n ≡ signed_decimal z
negative_takes zero z e = absurd cc
negative_takes (suc n) z e = subst (λ (y : ℤ). 45 ∷ decimal (suc n) ≡ signed_decimal y) (same_Some (negsuc n) z e) refl

pub number_takes : (w : List ℕ) (z : ℤ) → number_of w ≡ Some z → w ≡ signed_decimal z
unfolding number_of
number_takes [] z e = absurd cc
number_takes (c ∷ cs) z e =
    elim (chosen (c == 45) (whole_of (2 ^ 63) cs >>= negative) (option_map pos (lit_of (c ∷ cs))) (Some z) e) [
      | inl p ↦
          let b = bind_some (whole_of (2 ^ 63) cs) negative z p.1 in
          let whole : c ∷ cs ≡ 45 ∷ decimal b.0 = λ i. eqb-true c 45 p.0 i ∷ (whole_takes (2 ^ 63) cs b.0 (lit< tt) b.1).0 i in
          whole ∙ negative_takes b.0 z b.2
      | inr p ↦
          let m = map_some pos (lit_of (c ∷ cs)) z p.1 in
          subst (λ (y : ℤ). c ∷ cs ≡ signed_decimal y) m.2 (whole_takes (2 ^ 63 - 1) (c ∷ cs) m.0 (lit< tt) m.1).0
    ]

pub entry_takes : (ws : List (List ℕ)) (entry : List ℕ × ℤ) → entry_of ws ≡ Some entry → ws ≡ store_words entry
unfolding entry_of
entry_takes [] entry e = absurd cc
entry_takes (name ∷ []) entry e = absurd cc
entry_takes (name ∷ digits ∷ []) entry e =
    let b1 = bind_some (key_of name) (λ key. number_of digits >>= λ number. Some (key, number)) entry e in
    let b2 = bind_some (number_of digits) (λ number. Some (b1.0, number)) entry b1.2 in
    let whole : name ∷ digits ∷ [] ≡ store_words (b1.0, b2.0) = λ i. (key_takes name b1.0 b1.1).0 i ∷ number_takes digits b2.0 b2.1 i ∷ [] in
    subst (λ (x : List ℕ × ℤ). name ∷ digits ∷ [] ≡ store_words x) (same_Some (b1.0, b2.0) entry b2.2) whole
entry_takes (name ∷ digits ∷ w ∷ ws) entry e = absurd cc
