-- Adding declared keys to a draft, one after another.
use Rattle.std.proofs.Common.{◌≡◌, ℕ, List, [], ◌∷◌, Some, None, refl, ap, sym, ◌∙◌, append_assoc}
use Rattle.std.specs.Prelude.{Option}
use Rattle.std.specs.Option.{option_map}
use Rattle.std.proofs.lemmas.List.{append-nil}
use Rattle.bohm_types.specs.Name.{key_of}
use Rattle.bohm_log.specs.Drafting.{Drafted, with_read, with_write}
use Rattle.bohm_text.specs.Print.{Words}
use Rattle.bohm_text.specs.Reading.{◌>>=◌, keys_of}
use Rattle.bohm_text.specs.Taking.{with_reads, with_writes}

keys_of-cons : (words rest : Words) (word key : List ℕ) → words ≡ word ∷ rest → key_of word ≡ Some key
    → keys_of words ≡ (keys_of rest >>= λ keys. Some (key ∷ keys))
unfolding keys_of
keys_of-cons words rest word key e k = rw (e, k) refl

keys_of-bad : (words rest : Words) (word : List ℕ) → words ≡ word ∷ rest → key_of word ≡ None → keys_of words ≡ None
unfolding keys_of
keys_of-bad words rest word e k = rw (e, k) refl

keys_of-nil : (words : Words) → words ≡ [] → keys_of words ≡ Some []
unfolding keys_of
keys_of-nil words e = rw e refl

map-none : {X Y : Type 0} (f : X → Y) (read : Option X) → option_map f read ≡ None → read ≡ None
map-none f None e = refl
map-none f (Some x) e = absurd cc

-- a declared set of a draft: adding keys one by one is the same as adding all keys at once
module _ (one : Drafted → List ℕ → Drafted) (all : Drafted → Words → Drafted)
    (steps : (d : Drafted) (key : List ℕ) (keys : Words) → all d (key ∷ keys) ≡ all (one d key) keys) (stays : (d : Drafted) → all d [] ≡ d) where
  regroup : (d : Drafted) (key : List ℕ) (read : Option Words) → option_map (all d) (read >>= λ keys. Some (key ∷ keys)) ≡ option_map (all (one d key)) read
  regroup d key None = refl
  regroup d key (Some keys) = ap Some (steps d key keys)

  module _ (before now : Drafted) (old words : Words) (so_far : option_map (all now) (keys_of words) ≡ option_map (all before) (keys_of old)) where
    pub keys_more : (rest : Words) (word key : List ℕ) → words ≡ word ∷ rest → key_of word ≡ Some key
        → option_map (all (one now key)) (keys_of rest) ≡ option_map (all before) (keys_of old)
    keys_more rest word key e k = sym (regroup now key (keys_of rest)) ∙ (sym (ap (option_map (all now)) (keys_of-cons words rest word key e k)) ∙ so_far)

    pub keys_bad : (rest : Words) (word : List ℕ) → words ≡ word ∷ rest → key_of word ≡ None → keys_of old ≡ None
    keys_bad rest word e k = map-none (all before) (keys_of old) (sym so_far ∙ ap (option_map (all now)) (keys_of-bad words rest word e k))

    pub keys_end : words ≡ [] → option_map (all before) (keys_of old) ≡ Some now
    keys_end e = sym so_far ∙ (ap (option_map (all now)) (keys_of-nil words e) ∙ ap Some (stays now))

pub reads_step : (d : Drafted) (key : List ℕ) (keys : Words) → with_reads d (key ∷ keys) ≡ with_reads (with_read d key) keys
reads_step d key keys = ap (λ (ks : Words). record d { txn = record d.txn { reads = ks } }) (sym (append_assoc d.txn.reads (key ∷ []) keys))

pub reads_stay : (d : Drafted) → with_reads d [] ≡ d
reads_stay d = ap (λ (ks : Words). record d { txn = record d.txn { reads = ks } }) (append-nil d.txn.reads)

pub writes_step : (d : Drafted) (key : List ℕ) (keys : Words) → with_writes d (key ∷ keys) ≡ with_writes (with_write d key) keys
writes_step d key keys = ap (λ (ks : Words). record d { txn = record d.txn { writes = ks } }) (sym (append_assoc d.txn.writes (key ∷ []) keys))

pub writes_stay : (d : Drafted) → with_writes d [] ≡ d
writes_stay d = ap (λ (ks : Words). record d { txn = record d.txn { writes = ks } }) (append-nil d.txn.writes)
