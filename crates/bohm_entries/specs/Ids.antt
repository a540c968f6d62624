-- The ids that entries may carry.
use Rattle.std.specs.Prelude.{ℕ, Bool, ◌&&◌, List, nat_le, length}
use Rattle.std.specs.List.{list_all}

-- `!` to `~`
abbrev pub is_id_byte : ℕ → Bool
is_id_byte b = nat_le 33 b && nat_le b 126

-- 1 to 64 such bytes
abbrev pub is_id : List ℕ → Bool
is_id id = nat_le 1 (length id) && nat_le (length id) 64 && list_all is_id_byte id
