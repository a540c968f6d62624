-- A settled document is sound, its keys ascend, and a document whose keys ascend is settled.
use Rattle.std.proofs.Common.{◌≡◌, ℕ, Bool, true, false, cond, List, [], ◌∷◌, ◌++◌, refl, ap, ◌∙◌}
use Rattle.std.specs.Prelude.{Some, None}
use Rattle.std.specs.Cmp.Lexicographic.{slice_cmp}
use Rattle.std.specs.List.{AllByRecursion, flat_map}
use Rattle.std.specs.Ordering.{nat_cmp}
use Rattle.std.specs.declared.cmp.Ordering.TheVariants.{Less, Equal, Greater}
use Rattle.bohm_types.specs.Document.{Document}
use Rattle.bohm_types.specs.KeySets.{inserted_by, inserted, key_set}
use Rattle.bohm_types.specs.Parts.{key_read, target}
use Rattle.bohm_types.specs.Sound.{IsName, IsTerm, IsSum, IsStmt, IsTxn, IsDocument}
use Rattle.bohm_types.specs.Stmt.{Stmt, Bind, Need, Has, Lacks, Put, Remove, Show, Fail}
use Rattle.bohm_types.specs.Term.{Atom, Lit, Read, Local}
use Rattle.bohm_types.specs.Txn.{Txn}
use Rattle.bohm_types.specs.declared.edition.Edition.{Edition}
use Rattle.bohm_txn.proofs.ForCallers.{each_append, key_set_rises, key_set_itself}
use Rattle.bohm_txn.specs.Stores.{store_of}
use Rattle.bohm_tidy.specs.Settled.{the_key, sum_reads, stmt_reads, body_reads}
use Rattle.bohm_tidy.specs.Settled.{body_writes, settled_txn, settled_log, settled, first_flag, other_flags}
use Rattle.bohm_tidy.specs.Tidied.{HasRisingSets, HasRisingKeys}
use Rattle.bohm_tidy.proofs.Stores.{entries_rise, rising_entries, entries_sound}

abbrev AreNames : List (List ℕ) → Type 0
AreNames ks = AllByRecursion IsName ks

-- ---- the keys of sets are names

insert_names : (k : List ℕ) (xs : List (List ℕ)) → IsName k → AreNames xs → AreNames (inserted k xs)
insert_names k [] name all = (name, tt)
insert_names k (x ∷ xs) name all =
    elim (slice_cmp nat_cmp k x) as (λ o. AreNames (inserted_by o k x xs (inserted k xs))) [
      | Less ↦ (name, (all.0, all.1))
      | Equal ↦ (all.0, all.1)
      | Greater ↦ (all.0, insert_names k xs name all.1)
    ]

set_names : (ks : List (List ℕ)) → AreNames ks → AreNames (key_set ks)
set_names [] all = tt
set_names (k ∷ ks) all = insert_names k (key_set ks) all.0 (set_names ks all.1)

atom_names : (t : Bool × Atom) → IsTerm t → AreNames (the_key (key_read t.1))
atom_names (m, Lit n) sound = tt
atom_names (m, Read k) sound = (sound.1, tt)
atom_names (m, Local x) sound = tt

sum_names : (sum : List (Bool × Atom)) → AllByRecursion IsTerm sum → AreNames (sum_reads sum)
sum_names [] all = tt
sum_names (t ∷ ts) all = each_append IsName (the_key (key_read t.1)) (sum_reads ts) (atom_names t all.0) (sum_names ts all.1)

one_sum : (sum : List (Bool × Atom)) (others : List (List ℕ)) → IsSum sum → AreNames others → AreNames (sum_reads sum ++ others)
one_sum sum others sound names = each_append IsName (sum_reads sum) others (sum_names sum sound.1) names

stmt_names : (s : Stmt) → IsStmt s → AreNames (stmt_reads s)
stmt_names (Bind x sum) sound = each_append IsName (flat_map sum_reads (sum ∷ [])) [] (one_sum sum [] sound.1 tt) tt
stmt_names (Need c) sound = each_append IsName (flat_map sum_reads (c.left ∷ c.right ∷ [])) [] (one_sum c.left _ sound.0 (one_sum c.right [] sound.1 tt)) tt
stmt_names (Has k) sound = (sound, tt)
stmt_names (Lacks k) sound = (sound, tt)
stmt_names (Put k sum None) sound = each_append IsName (flat_map sum_reads (sum ∷ [])) [] (one_sum sum [] sound.1 tt) tt
stmt_names (Put k sum (Some c)) sound = each_append IsName (flat_map sum_reads (sum ∷ c.left ∷ c.right ∷ [])) []
    (one_sum sum _ sound.1 (one_sum c.left _ sound.2.0 (one_sum c.right [] sound.2.1 tt))) tt
stmt_names (Remove k) sound = tt
stmt_names (Show sum) sound = each_append IsName (flat_map sum_reads (sum ∷ [])) [] (one_sum sum [] sound tt) tt
stmt_names Fail sound = tt

target_names : (s : Stmt) → IsStmt s → AreNames (the_key (target s))
target_names (Bind x sum) sound = tt
target_names (Need c) sound = tt
target_names (Has k) sound = tt
target_names (Lacks k) sound = tt
target_names (Put k sum guard) sound = (sound.0, tt)
target_names (Remove k) sound = (sound, tt)
target_names (Show sum) sound = tt
target_names Fail sound = tt

read_names : (body : List Stmt) → AllByRecursion IsStmt body → AreNames (body_reads body)
read_names [] all = tt
read_names (s ∷ ss) all = each_append IsName (stmt_reads s) (body_reads ss) (stmt_names s all.0) (read_names ss all.1)

written_names : (body : List Stmt) → AllByRecursion IsStmt body → AreNames (body_writes body)
written_names [] all = tt
written_names (s ∷ ss) all = each_append IsName (the_key (target s)) (body_writes ss) (target_names s all.0) (written_names ss all.1)

chosen_names : (b : Bool) (ks ns : List (List ℕ)) → AreNames ks → AreNames ns → AreNames (key_set (cond b ks ns))
chosen_names true ks ns all other = set_names ks all
chosen_names false ks ns all other = set_names ns other

-- ---- transactions

txn_sound : (edition : Edition) (r w : Bool) (t : Txn) → IsTxn edition t → IsTxn edition (settled_txn r w t)
txn_sound edition r w t sound = record {
  same = sound.same;
  reads = chosen_names r (body_reads t.body) t.reads (read_names t.body sound.body) sound.reads;
  writes = chosen_names w (body_writes t.body) t.writes (written_names t.body sound.body) sound.writes;
  body = sound.body;
}

log_sound : (edition : Edition) (rs ws : List Bool) (log : List Txn) → AllByRecursion (IsTxn edition) log
    → AllByRecursion (IsTxn edition) (settled_log rs ws log)
log_sound edition rs ws [] all = tt
log_sound edition rs ws (t ∷ ts) all = (txn_sound edition (first_flag rs) (first_flag ws) t all.0, log_sound edition (other_flags rs) (other_flags ws) ts all.1)

log_rises : (rs ws : List Bool) (log : List Txn) → AllByRecursion HasRisingSets (settled_log rs ws log)
log_rises rs ws [] = tt
log_rises rs ws (t ∷ ts) = (
  record {
    reads = key_set_rises (cond (first_flag rs) (body_reads t.body) t.reads);
    writes = key_set_rises (cond (first_flag ws) (body_writes t.body) t.writes);
  },
  log_rises (other_flags rs) (other_flags ws) ts,
)

txn_stays : (t : Txn) → HasRisingSets t → settled_txn false false t ≡ t
txn_stays t rises = λ i. record t { reads = key_set_itself t.reads rises.reads i; writes = key_set_itself t.writes rises.writes i }

log_stays : (log : List Txn) → AllByRecursion HasRisingSets log → settled_log [] [] log ≡ log
log_stays [] all = refl
log_stays (t ∷ ts) all = ap (λ (s : Txn). s ∷ settled_log [] [] ts) (txn_stays t all.0) ∙ ap (λ (ss : List Txn). t ∷ ss) (log_stays ts all.1)

-- ---- documents

pub settled_sound : (rs ws : List Bool) (d : Document) → IsDocument d → IsDocument (settled rs ws d)
settled_sound rs ws d sound = record { store = entries_sound d.store sound.store; log = log_sound d.edition rs ws d.log sound.log }

pub settled_rises : (rs ws : List Bool) (d : Document) → HasRisingKeys (settled rs ws d)
settled_rises rs ws d = record { store = entries_rise (store_of d.store); log = log_rises rs ws d.log }

pub settled_stays : (d : Document) → HasRisingKeys d → settled [] [] d ≡ d
settled_stays d rises = λ i. record d { store = rising_entries d.store rises.store i; log = log_stays d.log rises.log i }
