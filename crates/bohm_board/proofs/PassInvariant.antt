-- Each step preserves the invariant of a pass and its view.
use Rattle.std.proofs.Common.{◌≡◌, ℕ, ◌+◌, ◌<◌, ◌^◌, [], ◌∷◌, ◌++◌, Option, None, Some, refl, sym, subst, ⊎_elim, arith}
use Rattle.std.specs.Prelude.{Contains}
use Rattle.std.proofs.lemmas.List.Elements.{Contains-append_left, Contains-push, Contains-push_cases}
use Rattle.std.proofs.lemmas.Option.{same_Some}
use Rattle.bohm_types.specs.declared.cell.Cell.{Cell}
use Rattle.bohm_types.specs.declared.cell.Cell.TheVariants.{Absent, Present}
use Rattle.bohm_board.specs.declared.slot.Slot.{Slot}
use Rattle.bohm_board.specs.declared.status.Status.{Status}
use Rattle.bohm_board.specs.declared.status.Status.TheVariants.{Open, Busy, Done}
use Rattle.bohm_board.specs.declared.knowledge.View.{View}
use Rattle.bohm_board.specs.Views.{Presence, IsKept, after_status, after_claim, after_presence_look, after_fill, after_split, after_join}
use Rattle.bohm_board.specs.Views as views
use Rattle.bohm_board.proofs.BoardLaw.{nothing_in}

pub kept_saw : (v : View) (i : ℕ) (s : Status) (first : ℕ) (held : Option ℕ) → IsKept v first held → IsKept (after_status v i s) first held
kept_saw v i Open first held k = k
kept_saw v i Busy first held k = record { holds = k.holds; timestamp = k.timestamp; whole = k.whole }
kept_saw v i Done first held k = record { holds = k.holds; timestamp = k.timestamp; whole = k.whole }

pub kept_claimed : (v : View) (i : ℕ) (first : ℕ) → first + i < 2 ^ 32 → IsKept (after_claim v (first + i) Open) first (Some i)
kept_claimed v i first fits = record {
  holds = refl;
  timestamp = λ j e. let same : i ≡ j = same_Some i j e in omega (arith, same, fits);
  whole = λ k _ c. nothing_in k c;
}

pub kept_learnt : (v : View) (k : Slot) (answer : Option Presence) (first : ℕ) (held : Option ℕ) → IsKept v first held
    → IsKept (after_presence_look v k answer) first held
kept_learnt v k None first held h = h
kept_learnt v k (Some views.Absent) first held h = record { holds = h.holds; timestamp = h.timestamp; whole = h.whole }
kept_learnt v k (Some views.Present) first held h = record { holds = h.holds; timestamp = h.timestamp; whole = h.whole }

pub kept_filled : (v : View) (k : Slot) (c : Cell) (first : ℕ) (held : Option ℕ) → IsKept v first held → IsKept (after_fill v k c) first held
kept_filled v k Absent first held h = record {
  holds = h.holds;
  timestamp = h.timestamp;
  whole = λ j not. h.whole j (λ c. not (Contains-append_left v.filled (k ∷ []) j c));
}
kept_filled v k (Present z) first held h = record {
  holds = h.holds;
  timestamp = h.timestamp;
  whole = λ j not c. ⊎_elim (h.whole j (λ d. not (Contains-append_left v.filled (k ∷ []) j d)))
      (λ (e : k ≡ j). not (subst (λ (y : Slot). Contains (v.filled ++ k ∷ []) y) e (Contains-push v.filled k))) (Contains-push_cases v.stored k j c);
}

pub kept_split : (v : View) (first : ℕ) (held : Option ℕ) → IsKept v first held → IsKept (after_split v) first held
kept_split v first held k = record { holds = k.holds; timestamp = k.timestamp; whole = k.whole }

pub kept_joined : (v w : View) (first : ℕ) (held : Option ℕ) → IsKept v first held → IsKept (after_join v w) first held
kept_joined v w first held k = record { holds = k.holds; timestamp = k.timestamp; whole = k.whole }

-- the view may be replaced by an equal view
pub kept_along : (v w : View) (first : ℕ) (held : Option ℕ) → w ≡ v → IsKept v first held → IsKept w first held
kept_along v w first held e k = subst (λ (z : View). IsKept z first held) (sym e) k
