-- The invariant of a draft, which each step keeps.
use Rattle.std.proofs.Common.{◌≡◌, ℕ, ◌+◌, ◌^◌, ◌<◌, Bool, List, length, ap, sym, subst, ◌∙◌}
use Rattle.bohm_types.specs.Sound.{IsTerm, IsStmt}
use Rattle.bohm_types.specs.Term.{Atom}
use Rattle.bohm_types.specs.declared.edition.Edition.{Edition}
use Rattle.bohm_log.specs.declared.row.Action.{Action}
use Rattle.bohm_log.specs.declared.row.Pending.{Pending}
use Rattle.bohm_log.specs.Parts.{Parts}
use Rattle.bohm_log.specs.Drafting.{Drafted, NamesGrow, AddsTerm, AddsRow, IsBare, IsDrafted, drafted_of, first_end, second_end, made_of, opened}
use Rattle.bohm_log.specs.Sizes.{stmt_terms, open_terms, terms_in, IsCompact, IsCounted}
use Rattle.bohm_log.specs.SoundLogs.{IsSoundDraft}
use Rattle.bohm_log.proofs.Counting.{counted_term, counted_stmt}
use Rattle.bohm_log.proofs.Drafts.{names_unseen, names_within, term_added, term_within, with_keys, declared, declared_within}
use Rattle.bohm_log.proofs.SoundDrafts.{sound_term, sound_stmt}
use Rattle.bohm_log.proofs.Statements.{stmt_added, stmt_within}

abbrev pub KeepsTo : Edition → Parts → Pending → Type 0
KeepsTo e p o = IsDrafted p o × IsSoundDraft (drafted_of e p o) × IsCounted p (drafted_of e p o)

-- adding names and literals keeps the invariant
pub unseen_keeps : (e : Edition) (p q : Parts) (o : Pending) → NamesGrow p q → IsCompact q → KeepsTo e p o → KeepsTo e q o
unseen_keeps e p q o g compact h =
    let same = names_unseen e p q o g h.0 in (
      names_within p q o g h.0,
      subst IsSoundDraft (sym same) h.1,
      record {
        terms = ap length g.terms ∙ h.2.terms ∙ sym (ap terms_in same);
        rows = ap length g.rows ∙ h.2.rows ∙ sym (ap (λ (x : Drafted). length x.txn.body) same);
        compact = compact;
      },
    )

-- declaring keys while the body is empty keeps the invariant
pub declared_keeps : (e : Edition) (p q : Parts) (o : Pending) (reads writes : List (List ℕ)) → q ≡ with_keys p reads writes → IsBare (drafted_of e p o)
    → IsSoundDraft (record (drafted_of e p o) { txn = record (drafted_of e p o).txn { reads = reads; writes = writes } }) → KeepsTo e p o → KeepsTo e q o
declared_keeps e p q o reads writes is bare sound h =
    let same = declared e p o reads writes h.0 bare in
    subst (λ x. KeepsTo e x o) (sym is) (
      declared_within e p o reads writes h.0 bare,
      subst IsSoundDraft (sym same) sound,
      record {
        terms = h.2.terms ∙ sym (ap terms_in same);
        rows = h.2.rows ∙ sym (ap (λ (x : Drafted). length x.txn.body) same);
        compact = record { others = h.2.compact.others; large = h.2.compact.large };
      },
    )

-- adding a term keeps the invariant
pub term_keeps : (e : Edition) (p q : Parts) (o : Pending) (minus : Bool) (atom : Atom) → AddsTerm p q minus atom → IsCompact q → IsTerm (minus, atom)
    → length p.terms + 1 < 2 ^ 32 → KeepsTo e p o → KeepsTo e q o
term_keeps e p q o minus atom g compact term few h =
    let is = term_added e p q o minus atom g h.0 in (
      term_within p q o minus atom g h.0 few,
      subst IsSoundDraft (sym is) (sound_term (drafted_of e p o) minus atom h.1 term),
      counted_term p q (drafted_of e p o) (drafted_of e q o) minus atom is g compact h.2,
    )

-- adding the statement of all sums that were read keeps the invariant
pub stmt_keeps : (e : Edition) (p q : Parts) (action : Action) (name : List ℕ) (o : Pending) (a b t : ℕ) (d : Drafted) → AddsRow p q action name o.start a b t
    → a ≡ first_end o.first t o.step → b ≡ second_end o.second t o.step → t ≡ length p.terms → IsCompact q → drafted_of e p o ≡ d
    → IsStmt (made_of d action name) → stmt_terms (made_of d action name) ≡ open_terms d → KeepsTo e p o → KeepsTo e q (opened t)
stmt_keeps e p q action name o a b t d g first second end compact view sound all h =
    let is = stmt_added p q action name o a b t g first second h.0 end e in
    let stmt = made_of (drafted_of e p o) action name in (
      stmt_within p q action name o a b t g first second h.0 end,
      subst IsSoundDraft (sym is) (sound_stmt (drafted_of e p o) stmt h.1 (rw (← view) at sound)),
      counted_stmt p q (drafted_of e p o) (drafted_of e q (opened t)) stmt action name o.start a b t is (rw (← view) at all) g compact h.2,
    )
