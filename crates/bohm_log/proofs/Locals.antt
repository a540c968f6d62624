-- The next name's index among the other names, and a procedure made of an own instance that was read.
use Rattle.std.proofs.Common.{◌≡◌, ℕ, ◌+◌, ◌<◌, ◌≤◌, List, [], ◌∷◌, ◌++◌, length, get_or, take, drop, map, Some, refl, ap, sym, ◌∙◌, subst, arith}
use Rattle.std.specs.Prelude.{slice_get}
use Rattle.std.specs.List.{AllByRecursion, IsDistinct}
use Rattle.std.specs.Str.{bytes_eq}
use Rattle.std.proofs.lemmas.List.{map-append, take_more, length-map, drop-map}
use Rattle.std.proofs.lemmas.List.Elements.{All-push, All-same}
use Rattle.std.proofs.lemmas.Option.{get_or_from_slice_get, slice_get_within}
use Rattle.bohm_types.specs.declared.edition.Edition.{Edition}
use Rattle.bohm_types.specs.Keys.{IsAmong}
use Rattle.bohm_types.specs.Stmt.{Stmt}
use Rattle.bohm_types.specs.Txn.{Txn}
use Rattle.bohm_log.specs.Parts.{Parts, Begins, IsWithin, name_at, stmt_of, txn_of}
use Rattle.bohm_log.specs.Columns.{AllNamed}
use Rattle.bohm_types.specs.Accesses.{StmtReads, StmtWrites}
use Rattle.bohm_log.specs.Locals.{ArePlacesOf}
use Rattle.bohm_types.specs.Procedure.{procedure_with}
use Rattle.bohm_log.specs.Calling.{procedure_of, IsOwn}
use Rattle.bohm_log.proofs.Widening.{Begins-trans, named_more, same_names}
use Rattle.bohm_log.proofs.Standing.{with_others, others_grow}
use Rattle.bohm_log.proofs.Drafts.{within_steady, body_steady}

pub place_next : (a b c names : List (List ℕ)) (places new : List ℕ) (i id : ℕ) (k : List ℕ)
    → Begins a b × (length b ≤ length a + i) × ArePlacesOf b (take i names) places → i < length names → k ≡ get_or names i k → Begins b c
    → length c ≤ length b + 1 → slice_get c id ≡ Some k → new ≡ places ++ id ∷ []
    → Begins a c × (length c ≤ length a + (i + 1)) × ArePlacesOf c (take (i + 1) names) new
place_next a b c names places new i id k h inside is more longer at e =
    let stay : AllNamed c places = named_more b c places more h.2.named in
    let here : id < length c = slice_get_within c id k at in
    let name : name_at c id ≡ k = get_or_from_slice_get c id k [] at in
    let front : map (name_at c) places ≡ take i names = same_names b c places more h.2.named ∙ h.2.same in (
      Begins-trans a b c h.0 more,
      omega (arith, h.1, longer),
      record {
        named = All-same (λ n. n < length c) new (places ++ id ∷ []) e (All-push (λ n. n < length c) places id stay here);
        same =
            ap (map (name_at c)) e ∙ map-append (name_at c) places (id ∷ [])
            ∙ (λ j. front j ++ name j ∷ [])
            ∙ ap (λ x. take i names ++ x ∷ []) is ∙ sym (take_more names i k inside);
      },
    )

pub made : (e : Edition) (p q : Parts) (others : List (List ℕ)) (t : Txn) (keys values : List (List ℕ)) (places : List ℕ) → q ≡ with_others p others
    → txn_of e p ≡ t → IsWithin p → Begins p.others others → ArePlacesOf others values places → procedure_of e keys places q ≡ procedure_with t keys values
made e p q others t keys values places parts same within grow at =
    let body : map (stmt_of (with_others p others)) p.rows
    ≡ map (stmt_of p) p.rows = body_steady p (with_others p others) (others_grow p others grow).grows refl within in
    let count : length places ≡ length values = sym (length-map places (name_at others)) ∙ ap length at.same in
    let rest : map (stmt_of (with_others p others)) (drop (length places) p.rows) ≡ drop (length values) (map (stmt_of p) p.rows) =
    sym (drop-map (stmt_of (with_others p others)) (length places) p.rows) ∙ (λ j. drop (count j) (body j)) in
    ap (procedure_of e keys places) parts
    ∙ (λ j. record { edition = e; keys = keys; values = at.same j; reads = p.reads; writes = p.writes; body = rest j })
    ∙ ap (λ (u : Txn). procedure_with u keys values) same

pub made_well : (e : Edition) (p : Parts) (others : List (List ℕ)) (t : Txn) (values : List (List ℕ)) (places : List ℕ) → txn_of e p ≡ t
    → IsWithin p → Begins p.others others → ArePlacesOf others values places → IsDistinct bytes_eq others
    → length values ≤ length t.body → length t.reads ≤ 16 → length t.writes ≤ 16 → AllByRecursion (StmtReads (IsAmong t.reads)) t.body
    → AllByRecursion (StmtWrites (IsAmong t.writes)) t.body
    → IsOwn (with_others p others) places
made_well e p others t values places same within grow at apart lets few_r few_w reads writes =
    let q : Parts = with_others p others in
    let body : map (stmt_of q) p.rows ≡ map (stmt_of p) p.rows = body_steady p q (others_grow p others grow).grows refl within in
    let here_r : AllByRecursion (StmtReads (IsAmong p.reads)) (map (stmt_of p) p.rows) = subst
    (λ (u : Txn). AllByRecursion (StmtReads (IsAmong u.reads)) u.body) (sym same) reads in
    let here_w : AllByRecursion (StmtWrites (IsAmong p.writes)) (map (stmt_of p) p.rows) = subst
    (λ (u : Txn). AllByRecursion (StmtWrites (IsAmong u.writes)) u.body) (sym same) writes in
    record {
      within = within_steady p q (others_grow p others grow) within;
      apart = apart;
      values = at.named;
      lets = omega (
        arith,
        lets,
        sym (length-map places (name_at others)),
        ap length at.same,
        ap (λ (u : Txn). length u.body) same,
        length-map
            p.rows (stmt_of p),
      );
      few_reads = omega (arith, few_r, ap (λ (u : Txn). length u.reads) same);
      few_writes = omega (arith, few_w, ap (λ (u : Txn). length u.writes) same);
      reads = subst (λ (ss : List Stmt). AllByRecursion (StmtReads (IsAmong p.reads)) ss) (sym body) here_r;
      writes = subst (λ (ss : List Stmt). AllByRecursion (StmtWrites (IsAmong p.writes)) ss) (sym body) here_w;
    }
