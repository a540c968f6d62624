use Rattle.std.proofs.Common.{◌≡◌, ◌∙◌, List, [], ℕ, ◌<◌, sym, subst, ap, inr, refl}
use Rattle.std.proofs.lemmas.List.Elements.{All-nil}
use Rattle.bohm_store.specs.declared.version.Version.{Version}
use Rattle.bohm_store.specs.Numbered.{timeline, versions_at}
use Rattle.bohm_store.specs.Versions.{IsCellAt, versions}
use Rattle.bohm_store.proofs.Kept.{past_named, past_unnamed}
use Rattle.bohm_store.proofs.Names.{found_at, not_found, versions_named, versions_none}
use Rattle.bohm_store.proofs.base.cell_of.Goals as goal

pub returns-in-Some : goal.returns-in-Some
returns-in-Some c =
    let names = c.args.names.now in
    let h = c.args.numbered.now in
    let n = c.in-Some.number in
    let apart = c.table.ensures.apart in
    let (inside, is) = found_at names c.args.key.now n (sym c.find.ensures ∙ c.in-Some.is) in
    let here : versions (timeline names h) c.args.key.now ≡ versions_at h n =
    ap (λ (k : List ℕ). versions (timeline names h) k) (sym is) ∙ versions_named (versions_at h) names n apart inside in
    record {
      cell = c.cell_at.ensures.cell ∙ sym (past_named names h c.args.ts n _ apart inside is);
      newest = subst (λ (vs : List Version). IsCellAt c.args.ts vs c.cell_at.result) (sym here) c.cell_at.ensures.newest;
    }

pub returns-in-None : goal.returns-in-None
returns-in-None c =
    let names = c.args.names.now in
    let h = c.args.numbered.now in
    let k = c.args.key.now in
    let absent = not_found names k (sym c.find.ensures ∙ c.in-None.is) in
    let none : versions (timeline names h) k ≡ [] = versions_none (versions_at h) names k absent in
    record {
      cell = sym (past_unnamed names h c.args.ts k absent);
      newest = rw none (inr (All-nil (λ (v : Version). c.args.ts < v.begin), refl));
    }
