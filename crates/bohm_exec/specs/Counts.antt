-- How many evaluations were made.
use Rattle.std.specs.Prelude.{◌≡◌, ℕ, zero, suc, ◌+◌, ◌-◌, ◌^◌, length, min}
use Rattle.bohm_board.specs.declared.knowledge.View.{View}

-- a number of evaluations after some more: it stays at the greatest `u64`
abbrev pub counted_on : ℕ → ℕ → ℕ
counted_on was zero = was
counted_on was (suc more) = min (was + suc more) (2 ^ 64 - 1)

-- between the two views the pass finished as many positions as evaluations were counted
pub record AreCounted (was : ℕ) (v : View) (now : ℕ) (w : View) : Type 0 where
  pub more : ℕ
  pub finished : length w.finished ≡ length v.finished + more
  pub counted : now ≡ counted_on was more
