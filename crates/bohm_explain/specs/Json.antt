-- Figures in JSON. A key needs no escapes: it has only lower-case letters, digits and underscores.
use Rattle.std.specs.Prelude.{min, Bool, ℕ, List, [], ◌∷◌, take, codes, decimal, if◌then◌else◌}
use Rattle.bohm_explain.specs.declared.figures.Totals.{Totals}
use Rattle.bohm_explain.specs.declared.heat.Heat.{Heat}
use Rattle.bohm_explain.specs.declared.parts.Part.{Part}
use Rattle.bohm_explain.specs.Asked.{Asked}
use Rattle.bohm_explain.specs.Figures.{alone, totals_of}
use Rattle.bohm_explain.specs.Pieces.{hundredths, hundredths_cell, joined, listed}
use Rattle.bohm_explain.specs.Table.{execution_limit, run_limit, word_for}

unfoldable pub figures_json : Totals → List ℕ
figures_json t =
    joined (codes "{\"transactions\":" ∷ decimal t.transactions ∷ codes ",\"keys\":" ∷ decimal t.keys ∷ codes ",\"sure\":" ∷ decimal t.sure
    ∷ codes ",\"taken\":" ∷ decimal t.taken ∷ codes ",\"depth\":" ∷ decimal t.depth
    ∷ codes ",\"width\":" ∷ hundredths_cell 0 (hundredths t.transactions t.depth) ∷ codes ",\"terms\":" ∷ decimal t.terms
    ∷ codes ",\"heaviest\":" ∷ decimal t.heaviest ∷ codes ",\"width_by_terms\":" ∷ hundredths_cell 0 (hundredths t.terms t.heaviest) ∷ codes "}" ∷ [])

unfoldable pub heat_json : Heat → List ℕ
heat_json h =
    joined (codes "\n{\"key\":\"" ∷ h.key ∷ codes "\",\"writers\":" ∷ decimal h.writers ∷ codes ",\"readers\":" ∷ decimal h.readers
    ∷ codes ",\"chain\":" ∷ decimal h.chain ∷ codes "}" ∷ [])

-- how it runs, and its figures
unfoldable pub part_json : Part → List ℕ
part_json p =
    joined (codes "\n{\"from\":" ∷ decimal p.first ∷ codes ",\"run\":\"" ∷ word_for p.sharing ∷ codes "\",\"figures\":"
    ∷ figures_json (alone p.figures) ∷ codes "}" ∷ [])

-- each part; a summary leaves them out
unfoldable pub parts_json : Bool → List Part → List ℕ
parts_json summary ps = if summary then [] else joined (codes "\"parts\":[" ∷ listed part_json ps ∷ codes "],\n" ∷ [])

-- the parts and the whole log, the first `top` keys, the transactions on the longest chain, the greatest speedups that all workers can give to the
-- execution and to a run, and the partitions of the keys in which a shared part is planned, with the workers that plan them
abbrev pub json_text : Asked → List Part → List Heat → List ℕ → List ℕ
json_text asked ps ranked longest =
    joined (codes "{" ∷ parts_json asked.layout.summary ps ∷ codes "\"all\":" ∷ figures_json (totals_of ps)
    ∷ codes ",\n\"hottest\":[" ∷ listed heat_json (take asked.top ranked) ∷ codes "],\n\"longest_chain\":[" ∷ listed decimal longest
    ∷ codes "],\n\"execution_at_most\":" ∷ hundredths_cell 0 (execution_limit (totals_of ps))
    ∷ codes ",\"run_at_most\":" ∷ hundredths_cell 0 (run_limit (totals_of ps))
    ∷ codes ",\n\"partitions\":" ∷ decimal asked.given.parts ∷ codes ",\"planning_workers\":" ∷ decimal (min asked.given.cc asked.given.parts)
    ∷ codes "}\n" ∷ [])
