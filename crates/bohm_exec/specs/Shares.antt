-- The share of a worker.
use Rattle.std.specs.Prelude.{ℕ, ◌-◌, ◌%◌, ◌==◌, List}
use Rattle.std.specs.List.{filter, range_with_len}

-- of the `len` positions from `first` on, those whose distance from the first is `worker` modulo
-- `workers`
abbrev pub share : ℕ → ℕ → ℕ → ℕ → List ℕ
share first len worker workers =
    filter (λ t. (t - first) % workers == worker) (range_with_len first len)
