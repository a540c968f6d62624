use Rattle.std.proofs.Common.{◌≡◌, ◌∙◌, ◌+◌, ◌++◌, ◌∷◌, [], List, ℕ, Some, ap, sym, arith, slice_get, subst}
use Rattle.bohm_log.proofs.ForCallers.{at_its_number}
use Rattle.bohm_store.specs.declared.listed_writes.FreshKey.{FreshKey}
use Rattle.bohm_store.specs.Writes.{names_with}
use Rattle.bohm_store.proofs.Shares.{last_there, names_long, names_push}
use Rattle.bohm_store.proofs.listed_writes.WriteLister.number_of.Goals as goal
use Rattle.bohm_board.proofs.ForCallers.{get_left}

pub returns-then-is_numbered-clause-named : goal.returns-then-is_numbered-clause-named
returns-then-is_numbered-clause-named c =
    let names = c.args.self.now.names.now in
    let there : slice_get names c.index-hint.result ≡ Some c.args.key.now = rw c.table.ensures.names at (c.is_numbered.ensures c.if-is_numbered.true) in
    get_left names _ c.index-hint.result c.args.key.now there

pub returns-in-Some-clause-named : goal.returns-in-Some-clause-named
returns-in-Some-clause-named c =
    let names = c.args.self.now.names.now in
    get_left names _ c.in-Some.number c.args.key.now
    (at_its_number names c.args.key.now c.in-Some.number (sym c.in-Some.is ∙ c.find.ensures))

pub returns-clause-longer : goal.returns-clause-longer
returns-clause-longer c =
    let names = c.args.self.now.names.now in
    let f : FreshKey = record { key = c.args.key.now; place = c.args.place } in
    (f.key ∷ [], ap (names_with names) c.in_ok-push.ensures.items ∙ names_push names c.args.fresh.now.items f)

pub returns-clause-named : goal.returns-clause-named
returns-clause-named c =
    let names = c.args.self.now.names.now in
    let fresh = c.args.fresh.now.items in
    let f : FreshKey = record { key = c.args.key.now; place = c.args.place } in
    let all : names_with names c.push.new.self.items ≡ names_with names fresh ++ f.key ∷ [] =
    ap (names_with names) c.in_ok-push.ensures.items ∙ names_push names fresh f in
    subst (λ (ks : List (List ℕ)). slice_get ks (c.len.result + c.len-2.result) ≡ Some c.args.key.now) (sym all)
    (last_there (names_with names fresh) c.args.key.now (c.len.result + c.len-2.result) (omega (arith, c.len.ensures, c.len-2.ensures, names_long names fresh)))
