use Rattle.std.proofs.Common.{◌≡◌, ◌≤◌, List, ℕ, length}
use Rattle.sqlite_trees.specs.Tree.{Trees}
use Rattle.sqlite_trees.specs.View.{doubt, IsClean}
use Rattle.bohm_ledger.specs.Ledgers.{IsReady}
use Rattle.bohm_machine.specs.Machines.{floor_of, now_of, past_of}
use Rattle.bohm_replay.specs.Entries.{entry_rules, state_of}
use Rattle.bohm_requests.specs.Taking.{TakesFrom}
use Rattle.bohm_requests.proofs.desk.RequestDesk.collect.Given as goal

abbrev pub invariant-requests : goal.invariant-requests
invariant-requests g l =
    let was = l.fn.self.ledger in
    let now = l.self.ledger in
    let old = g.S.Store.view was.store in
    let new = g.S.Store.view now.store in
    record {
      taken : TakesFrom l.text l.rest l.self.waiting.turns.items l.self.waiting.batch.items;
      machine : now.machine ≡ was.machine;
      edition : now.edition ≡ was.edition;
      clean : doubt old.is_clean ≤ doubt new.is_clean;
      ready : IsClean new → (bs : List (List ℕ))
          → IsReady entry_rules was.edition bs old was.place was.checkpoint
          (state_of was.machine.edition was.machine.definitions (now_of was.machine.past.machine) was.machine.top)
          (past_of was.machine.past.machine (floor_of was.machine.past.machine))
          → IsReady entry_rules was.edition bs new now.place now.checkpoint
          (state_of now.machine.edition now.machine.definitions (now_of now.machine.past.machine) now.machine.top)
          (past_of now.machine.past.machine (floor_of now.machine.past.machine));
      any_moment : (db : Trees) → g.S.Store.recovers now.store db → g.S.Store.recovers was.store db;
    }

abbrev pub decreases-requests : goal.decreases-requests
decreases-requests g l = length l.rest
