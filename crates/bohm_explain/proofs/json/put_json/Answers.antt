use Rattle.std.proofs.Common.{◌≡◌, ◌∙◌, ℕ, List, [], ◌∷◌, ◌++◌, ap, arith, codes, decimal, min, take}
use Rattle.std.proofs.lemmas.Result.{IfOk-weaker}
use Rattle.bohm_settings.specs.Given.{Given}
use Rattle.bohm_explain.specs.declared.figures.Totals.{Totals}
use Rattle.bohm_explain.specs.declared.heat.Heat.{Heat}
use Rattle.bohm_explain.specs.declared.layout.Layout.{Layout}
use Rattle.bohm_explain.specs.Figures.{totals_of}
use Rattle.bohm_explain.specs.Json.{figures_json, heat_json, parts_json}
use Rattle.bohm_explain.specs.Pieces.{hundredths_cell, joined, listed}
use Rattle.bohm_explain.specs.Table.{execution_limit, run_limit}
use Rattle.bohm_explain.proofs.Appended.{more, several}
use Rattle.bohm_explain.proofs.json.put_json.Goals as goal

pub returns : goal.returns
returns c =
    let asked = c.args.request in
    let ps = c.args.parts.now in
    let t = totals_of ps in
    let start = c.args.out.now.items in
    let given = c.settings-settings.ensures in
    let to_parts : List (List ℕ) = codes "{" ∷ parts_json asked.layout.summary ps ∷ [] in
    let to_figures : List (List ℕ) = to_parts ++ codes "\"all\":" ∷ figures_json t ∷ [] in
    let to_hottest : List (List ℕ) = to_figures ++ codes ",\n\"hottest\":[" ∷ listed heat_json (take asked.top c.args.ranked.now) ∷ [] in
    let to_chain : List (List ℕ) = to_hottest ++ codes "],\n\"longest_chain\":[" ∷ listed decimal c.args.longest.now ∷ [] in
    let parts = more start _ _ (codes "{" ∷ []) _ c.in_ok-put.ensures
    (c.in_ok-put_parts.ensures ∙ ap (λ (l : Layout). c.put.new.out.items ++ parts_json l.summary ps) c.layout.ensures) in
    let all = more start _ _ to_parts (codes "\"all\":") parts c.in_ok-put-2.ensures in
    let figures = more start _ _ (to_parts ++ codes "\"all\":" ∷ []) (figures_json t) all
    (c.in_ok-put_figures.ensures ∙ ap (λ (f : Totals). c.put-2.new.out.items ++ figures_json f) c.of-totals.ensures) in
    let head = more start _ _ to_figures (codes ",\n\"hottest\":[") figures c.in_ok-put-3.ensures in
    let heats = more start _ _ (to_figures ++ codes ",\n\"hottest\":[" ∷ []) (listed heat_json (take asked.top c.args.ranked.now)) head
    (c.in_ok-put_heats.ensures ∙ ap (λ (hs : List Heat). c.put-3.new.out.items ++ listed heat_json hs)
    (c.hottest.ensures ∙ ap (λ (n : ℕ). take n c.args.ranked.now) c.top.ensures.value)) in
    let line = more start _ _ to_hottest (codes "],\n\"longest_chain\":[") heats c.in_ok-put-4.ensures in
    let chain = more start _ _ (to_hottest ++ codes "],\n\"longest_chain\":[" ∷ []) (listed decimal c.args.longest.now) line c.in_ok-put_places.ensures in
    let execution : c.execution_limit.result ≡ execution_limit t = c.execution_limit.ensures ∙ ap execution_limit c.of-totals.ensures in
    let run : c.run_limit.result ≡ run_limit t = c.run_limit.ensures ∙ ap run_limit c.of-totals.ensures in
    let cut : c.parts-partitions.result ≡ asked.given.parts = c.parts-partitions.ensures.value ∙ ap (λ (g : Given). g.parts) given in
    let partitions : c.from.result ≡ asked.given.parts = c.from.ensures ∙ cut in
    let cc : c.count-workers.result ≡ asked.given.cc = c.count-workers.ensures.count ∙ (c.cc.ensures.value ∙ ap (λ (g : Given). g.cc) given) in
    let workers : c.from-2.result ≡ min asked.given.cc asked.given.parts = omega (arith, c.from-2.ensures, c.min.ensures, cc, cut) in
    IfOk-weaker c.put-5.result _ _ (λ x is. several start _ _ to_chain (codes "],\n\"execution_at_most\":" ∷ hundredths_cell 0 (execution_limit t)
    ∷ codes ",\"run_at_most\":" ∷ hundredths_cell 0 (run_limit t) ∷ codes ",\n\"partitions\":" ∷ decimal asked.given.parts
    ∷ codes ",\"planning_workers\":" ∷ decimal (min asked.given.cc asked.given.parts) ∷ codes "}\n" ∷ []) chain
    (is ∙ (λ i. c.put_places.new.out.items ++ joined (codes "],\n\"execution_at_most\":" ∷ hundredths_cell 0 (execution i)
    ∷ codes ",\"run_at_most\":" ∷ hundredths_cell 0 (run i) ∷ codes ",\n\"partitions\":" ∷ decimal (partitions i)
    ∷ codes ",\"planning_workers\":" ∷ decimal (workers i) ∷ codes "}\n" ∷ [])))) c.put-5.ensures
