-- Handles of keys.
use Rattle.std.specs.Prelude.{ℕ, List, map}
use Rattle.bohm_log.specs.declared.key_handle.KeyHandle.{KeyHandle}

-- the keys that handles name
abbrev pub keys_named : List KeyHandle → List (List ℕ)
keys_named handles = map (λ h. h.key) handles
