-- An option that was parsed has the number of its arguments, within its range.
use Rattle.std.proofs.Common.{◌≡◌, ◌∙◌, ◌<◌, ◌^◌, ap, cond, ℕ, Bool, true, false, List, [], ◌∷◌, length, map, filter, Option, Some}
use Rattle.std.proofs.Common.{None, refl, sym, subst, inl, inr, arith, zero, suc, codes, is_some, true≢false, le-ltb, lt-ltb}
use Rattle.std.specs.List.{All, list_any, slice_index_or}
use Rattle.std.specs.Str.{bytes_eq}
use Rattle.std.specs.Str.Parse.{ExplainsUnsignedError, HasUnsignedDigitsIfOk, ParsesUnsigned, digits_value, without_leading_plus}
use Rattle.std.specs.Prelude.{IfSome, Ok, Result, ℤ, option_map, pos, slice_get, unwrap_or}
use Rattle.std.specs.Borrow.{Bor}
use Rattle.std.specs.declared.num.ParseIntError.{ParseIntError}
use Rattle.std.proofs.lemmas.Bool.{cases_lt}
use Rattle.std.proofs.lemmas.Slice.Eq.{bytes_eq-Decides}
use Rattle.std.proofs.lemmas.List.Folds.{list_any_at}
use Rattle.clap.specs.Facts.{Entry, EntryPasses, IsParsed, HasReading, PassesArg, args_of, groups_of, parser_of, parser_of_value}
use Rattle.clap.specs.Built.{IsAuto, IsParsedFrom, SameRules}
use Rattle.clap.specs.Matches.{ReadsOne, found_of, matched_of, has_subcommand, one_text}
use Rattle.clap.specs.Lexer.{without_minus}
use Rattle.clap.specs.Values.{Accepts, IsSignedIn, NarrowsTo, read_as, reading_of}
use Rattle.clap.specs.Simple.{app_of, App}
use Rattle.clap.specs.Walk.{Row, Rule, Text, rows_of, rule_of}
use Rattle.clap.specs.declared.builder.arg.Arg.{Arg}
use Rattle.clap.specs.declared.builder.command.Command.{Command}
use Rattle.clap.specs.declared.builder.value_parser.Reading.{Reading}
use Rattle.clap.specs.declared.builder.value_parser.Reading.TheVariants.{WithoutMinus}
use Rattle.clap.specs.declared.builder.value_parser.ValueParser.{ValueParser}
use Rattle.clap.specs.declared.builder.value_parser.ValueParser.TheVariants as parser
use Rattle.clap.specs.declared.parser.matches.ArgMatches.{ArgMatches}
use Rattle.clap.specs.declared.parser.matches.MatchedArg.{MatchedArg}
use Rattle.clap.proofs.CallerLemmas.{entry_by_id}
use Rattle.clap.proofs.CallerReads.{signed_reads}
use Rattle.clap.proofs.SimpleLemmas.{all_simple, plain_fields, simple_groups}
use Rattle.clap.proofs.WalkLemmas.{one_text-rows}
use Rattle.bohm_settings.specs.Given.{IsBetween}
use Rattle.bohm_command.specs.Options.{number_in, number_rule}

-- the option's number is that of the rows, and is within the range
abbrev pub IsNumber : List Row → Text → ℕ → ℕ → Option ℕ → Type 0
IsNumber rows name least most number = (number ≡ number_in rows name) × IfSome number (IsBetween least most)

-- the same, with the default if the rows have no number
abbrev pub IsNumberOr : ℕ → List Row → Text → ℕ → ℕ → ℕ → Type 0
IsNumberOr default rows name least most number = (number ≡ unwrap_or (number_in rows name) default) × IsBetween least most number

-- the range of a parser for `u32` that was narrowed
pub narrowed : (p q : ValueParser) (low high : Option ℤ) (least most : ℕ) → p ≡ parser.Signed (pos 0) (pos 4294967295) → low ≡ Some (pos least)
    → high ≡ Some (pos most)
    → least < 2 ^ 32 → most < 2 ^ 32 → NarrowsTo p low high q → q ≡ parser.Signed (pos least) (pos most)
narrowed p q low high least most is lo hi a b h =
    let cut : NarrowsTo (parser.Signed (pos 0) (pos 4294967295)) (Some (pos least)) (Some (pos most)) q = rw (is, lo, hi) at h in
    elim (cases_lt most 4294967295) [
      | inl under ↦ rw (le-ltb least 0 (omega arith), lt-ltb most 4294967295 under, le-ltb 9223372036854775807 least (omega arith)) at cut
      | inr over ↦
          let top : most ≡ 4294967295 = omega arith in
          rw top (rw (le-ltb least 0 (omega arith), top, le-ltb 9223372036854775807 least (omega arith)) at cut)
    ]

-- the contract of `u32::from_str`
abbrev pub GivesU32 : Text → Result ℕ ParseIntError → Type 0
GivesU32 bs r = ParsesUnsigned 32 10 bs r × ExplainsUnsignedError 10 bs r × HasUnsignedDigitsIfOk bs r

-- the rules with this id
abbrev pub rules_of : Text → List Rule → List Rule
rules_of id = filter (λ r. bytes_eq r.id id)

-- if only one rule has an id, an argument with that id has that rule
one_rule : (id : Text) (rule : Rule) (xs : List Arg) → All (λ r. r ≡ rule) (rules_of id (map rule_of xs))
    → (j : ℕ) (d : Arg) → j < length xs → bytes_eq (slice_index_or xs j d).id.now id ≡ true → rule_of (slice_index_or xs j d) ≡ rule
one_rule id rule [] all j d lt same = absurd (omega arith)
one_rule id rule (x ∷ xs) all j d lt same = go (bytes_eq x.id.now id) refl (λ every i l s. one_rule id rule xs every i d l s) j lt same all
  where
    go : (b : Bool) → bytes_eq x.id.now id ≡ b
        → (All (λ r. r ≡ rule) (rules_of id (map rule_of xs)) → (i : ℕ) → i < length xs → bytes_eq (slice_index_or xs i d).id.now id ≡ true
        → rule_of (slice_index_or xs i d) ≡ rule)
        → (i : ℕ) → i < length (x ∷ xs) → bytes_eq (slice_index_or (x ∷ xs) i d).id.now id ≡ true
        → All (λ r. r ≡ rule) (cond b (rule_of x ∷ rules_of id (map rule_of xs)) (rules_of id (map rule_of xs)))
        → rule_of (slice_index_or (x ∷ xs) i d) ≡ rule
    go true is rest zero l s every = every 0 rule (omega arith)
    go false is rest zero l s every = absurd (true≢false (sym s ∙ is))
    go true is rest (suc i) l s every = rest (λ k e low. every (suc k) e (omega arith)) i (omega arith) s
    go false is rest (suc i) l s every = rest every i (omega arith) s

-- the ids that clap adds
abbrev pub other_ids : List Text
other_ids = [] ∷ codes "help" ∷ codes "version" ∷ []

not_other : (id : Text) → list_any (λ w. bytes_eq w id) other_ids ≡ false → (k : ℕ) → k < 3 → bytes_eq (slice_index_or other_ids k []) id ≡ true → ⊥
not_other id own k lt same = true≢false (sym (list_any_at (λ w. bytes_eq w id) other_ids k [] lt same) ∙ own)

-- the text of the first value
head : (P : Bor Text → Type 0) (how : Reading) (vs : List (Bor Text)) (t : Text) → All P vs → option_map (λ s. read_as how s.now) (slice_get vs 0) ≡ Some t
    → (v : Bor Text) × (t ≡ read_as how v.now) × P v
head P how [] t all found = absurd (true≢false (sym (ap is_some found)))
head P how (v ∷ vs) t all found = (v, sym (ap (λ o. unwrap_or o t) found), all 0 v (omega arith))

-- an option of a command with plain settings and simple rules: its id has one rule, which takes a number,
-- and clap adds no argument with that id
module _ (app : App) (old : Command) (m : ArgMatches) (p : IsParsedFrom old m) (is : app_of old ≡ app) (plain : app.top.is_plain ≡ true)
    (simple : all_simple app.top.rules ≡ true)
    (id : Text) (least most : ℕ) (fits : most < 2 ^ 32) (one : rules_of id app.top.rules ≡ number_rule id least most ∷ [])
    (own : list_any (λ w. bytes_eq w id) other_ids ≡ false) where
  -- each built argument with the option's id has its parser
  its_parser : (j : ℕ) (x : Arg) → j < length (args_of p.built) → slice_index_or (args_of p.built) j x ≡ x → bytes_eq x.id.now id ≡ true
      → parser_of x ≡ parser.Signed (pos least) (pos most)
  its_parser j x lt at same = elim (cases_lt j (length (args_of old))) [
    | inl under ↦
        let rules = subst (λ (y : Arg). SameRules (slice_index_or (args_of old) j x) y) at (p.from.kept j x under).1 in
        let single : rules_of id (map rule_of (args_of old)) ≡ number_rule id least most ∷ [] = ap (λ (a : App). rules_of id a.top.rules) is ∙ one in
        let all : All (λ r. r ≡ number_rule id least most) (rules_of id (map rule_of (args_of old))) =
        subst (λ rs. All (λ r. r ≡ number_rule id least most) rs) (sym single) single_rule in
        let rule = one_rule id (number_rule id least most) (args_of old) all j x under (subst (λ (w : Bor Text). bytes_eq w.now id ≡ true) rules.id same) in
        ap parser_of_value (rules.parser _ (ap (λ (r : Rule). r.parser) rule))
    | inr over ↦ absurd (auto (subst IsAuto at (p.from.extra j x over lt)))
  ]
    where
      single_rule : All (λ r. r ≡ number_rule id least most) (number_rule id least most ∷ [])
      single_rule zero d low = refl
      single_rule (suc k) d low = absurd (omega arith)

      auto : IsAuto x → ⊥
      auto (inl h) = not_other id own 1 (omega arith) (subst (λ (w : Text). bytes_eq w id ≡ true) h same)
      auto (inr h) = not_other id own 2 (omega arith) (subst (λ (w : Text). bytes_eq w id ≡ true) h same)

  -- the text of the option is a number within its range
  text : (t : Text) → one_text (found_of m) id ≡ Some t → (v : Text) × (t ≡ without_minus v) × IsSignedIn (pos least) (pos most) v
  text t found = go (matched_of (found_of m) id) refl found
    where
      no_groups : groups_of p.built ≡ []
      no_groups = (p.from.same_groups (simple_groups old (ap (λ (a : App). all_simple a.top.rules) is ∙ simple))).1
          ∙ (plain_fields old (ap (λ (a : App). a.top.is_plain) is ∙ plain)).groups

      parsed : IsParsed p.built (found_of m) (has_subcommand m)
      parsed = p.parsed (p.from.globals ∙ (plain_fields old (ap (λ (a : App). a.top.is_plain) is ∙ plain)).globals)

      no_group : (e : Entry) → e.0.now ≡ id → EntryPasses p.built e → e.1.is_group ≡ true → ⊥
      no_group e key pass g = elim (pass.3 g) [
        | inl empty ↦ not_other id own 0 (omega arith) (subst (λ (w : Text). bytes_eq w id ≡ true) (sym key ∙ empty) ((bytes_eq-Decides id id).1 refl))
        | inr lots ↦
            let bad : 0 < 0 = rw no_groups at lots in
            absurd (omega arith)
      ]

      of_entry : (x : MatchedArg) → option_map (λ s. read_as x.reading s.now) (slice_get x.vals.items 0) ≡ Some t
          → ((e : Entry) × (e.1 ≡ x) × (bytes_eq e.0.now id ≡ true) × EntryPasses p.built e)
          → (v : Text) × (t ≡ without_minus v) × IsSignedIn (pos least) (pos most) v
      of_entry x read got =
          let e = got.0 in
          let key : e.0.now ≡ id = (bytes_eq-Decides e.0.now id).0 got.2 in
          let here : option_map (λ s. read_as e.1.reading s.now) (slice_get e.1.vals.items 0) ≡ Some t =
          subst (λ (y : MatchedArg). option_map (λ s. read_as y.reading s.now) (slice_get y.vals.items 0) ≡ Some t) (sym got.1) read in
          let all : All (λ v. PassesArg p.built e.0.now v.now) e.1.vals.items = elim got.3.0 [ inl g ↦ absurd (no_group e key got.3 g) | inr vals ↦ vals ] in
          let how : HasReading p.built e.0.now e.1.reading = elim got.3.4 [ inl g ↦ absurd (no_group e key got.3 g) | inr h ↦ h ] in
          let first = head (λ v. PassesArg p.built e.0.now v.now) e.1.reading e.1.vals.items t all here in
          let any = first.2 in
          let reading : e.1.reading ≡ WithoutMinus =
          sym how.4.1 ∙ ap reading_of (its_parser how.0 how.1 how.2 how.3 (subst (λ (w : Text). bytes_eq how.1.id.now w ≡ true) key how.4.0)) in
          let q = its_parser any.0 any.1 any.2 any.3 (subst (λ (w : Text). bytes_eq any.1.id.now w ≡ true) key any.4.0) in (
            first.0.now,
            first.1 ∙ ap (λ (r : Reading). read_as r first.0.now) reading,
            subst (λ (w : ValueParser). Accepts any.1.ignore_case w first.0.now) q any.4.1,
          )

      go : (o : Option MatchedArg) → matched_of (found_of m) id ≡ o → one_text (found_of m) id ≡ Some t
          → (v : Text) × (t ≡ without_minus v) × IsSignedIn (pos least) (pos most) v
      go None e read =
          let bad : None ≡ Some t = rw e at read in
          absurd (true≢false (sym (ap is_some bad)))
      go (Some x) e read = of_entry x (rw e at read) (entry_by_id (EntryPasses p.built) (found_of m).entries.items id x parsed.values e)

  -- `get_one` returns the number that the rows have
  pub number : (r : Option ℕ) → (one_text (found_of m) id ≡ None → r ≡ None) → ((t : Text) → one_text (found_of m) id ≡ Some t → ReadsOne GivesU32 t r)
      → IsNumber (rows_of (found_of m)) id least most r
  number r none value = go (one_text (found_of m) id) refl
    where
      as_rows : (o : Option Text) → one_text (found_of m) id ≡ o
          → number_in (rows_of (found_of m)) id ≡ option_map (λ t. digits_value 10 (without_leading_plus t)) o
      as_rows o e = ap (option_map (λ t. digits_value 10 (without_leading_plus t))) (sym (one_text-rows (found_of m) id) ∙ e)

      go : (o : Option Text) → one_text (found_of m) id ≡ o → IsNumber (rows_of (found_of m)) id least most r
      go None e = subst (λ (x : Option ℕ). IsNumber (rows_of (found_of m)) id least most x) (sym (none e)) (sym (as_rows None e), tt)
      go (Some t) e =
          let v = text t e in
          let got = signed_reads _ GivesU32 32 least most v.0 r (subst (λ (u : Text). ReadsOne GivesU32 u r) v.1 (value t e)) (λ u x g. g.0) fits v.2 in
          let parsed : GivesU32 t (Ok got.0) = subst (λ (x : Option ℕ). ReadsOne GivesU32 t x) got.1 (value t e) in
          subst (λ (x : Option ℕ). IsNumber (rows_of (found_of m)) id least most x) (sym got.1) (ap Some parsed.0.1 ∙ sym (as_rows (Some t) e), (got.2, got.3))

  -- the same, with a default
  pub number_or : (default given n : ℕ) (r : Option ℕ) → given ≡ default → IsBetween least most given → n ≡ unwrap_or r given
      → (one_text (found_of m) id ≡ None → r ≡ None) → ((t : Text) → one_text (found_of m) id ≡ Some t → ReadsOne GivesU32 t r)
      → IsNumberOr default (rows_of (found_of m)) id least most n
  number_or default given n r same within is_n none value = go r (is_n ∙ ap (unwrap_or r) same) (number r none value)
    where
      go : (o : Option ℕ) → n ≡ unwrap_or o default → IsNumber (rows_of (found_of m)) id least most o
          → IsNumberOr default (rows_of (found_of m)) id least most n
      go None e h = (e ∙ ap (λ x. unwrap_or x default) h.0, subst (IsBetween least most) (same ∙ sym e) within)
      go (Some k) e h = (e ∙ ap (λ x. unwrap_or x default) h.0, subst (IsBetween least most) (sym e) h.1)
