-- What the calls of a procedure cost.
use Rattle.std.specs.Prelude.{◌≡◌, ℕ, ℤ, Bool, true, false, List, [], ◌∷◌, length, codes, decimal, if◌then◌else◌}
use Rattle.bohm_types.specs.Limits.{largest_batch}
use Rattle.bohm_types.specs.Procedure.{Procedure, instance}
use Rattle.bohm_types.specs.Txn.{Txn}
use Rattle.bohm_procedures.specs.Accepting.{own}
use Rattle.bohm_settings.specs.Given.{Given}
use Rattle.bohm_read_ahead.specs.Sharing.{is_shared, sharing_of}
use Rattle.bohm_explain.specs.declared.costs.Cost.{Cost}
use Rattle.bohm_explain.specs.Asked.{Asked, numbers}
use Rattle.bohm_explain.specs.Pieces.{cell, joined}
use Rattle.bohm_explain.specs.Table.{word_for}
use Rattle.bohm_explain.specs.Weighing.{declared_by, weight}

-- several executing workers, and the largest batches: they share only long bodies
abbrev pub several : Given
several = numbers 1 2 1 largest_batch

-- a transaction's own counts, how a run with these settings runs a list of such ones, and whether several workers run them faster than one
abbrev pub cost_of : Given → Txn → Cost
cost_of given t = record {
  statements = length t.body;
  terms = weight t;
  reads = length t.reads;
  writes = length t.writes;
  accesses = declared_by t;
  sharing = sharing_of given (t ∷ []);
  pays = is_shared several (t ∷ []);
}

-- a transaction for which a call of the procedure stands
pub record IsCallOf (p : Procedure) (t : Txn) : Type 0 where
  pub keys : List (List ℕ)
  pub values : List ℤ
  pub paired : length values ≡ length p.values
  pub is : t ≡ instance p keys values

abbrev pub pays_words : Bool → List ℕ
pays_words true = codes "several executing workers run such calls faster than one: a plan, a claim and an install take less time than a body\n"
pays_words false = codes "one executing worker runs such calls faster than several: a plan, a claim and an install take longer than a body\n"

abbrev pub cost_table : Cost → List ℕ
cost_table c =
    joined (codes "statements     terms     reads    writes  accesses     run\n" ∷ cell 10 (decimal c.statements) ∷ cell 10 (decimal c.terms)
    ∷ cell 10 (decimal c.reads) ∷ cell 10 (decimal c.writes) ∷ cell 10 (decimal c.accesses) ∷ cell 8 (word_for c.sharing) ∷ codes "\n\n"
    ∷ pays_words c.pays ∷ [])

abbrev pub truth : Bool → List ℕ
truth true = codes "true"
truth false = codes "false"

abbrev pub cost_json : Cost → List ℕ
cost_json c =
    joined (codes "{\"statements\":" ∷ decimal c.statements ∷ codes ",\"terms\":" ∷ decimal c.terms ∷ codes ",\"reads\":" ∷ decimal c.reads
    ∷ codes ",\"writes\":" ∷ decimal c.writes ∷ codes ",\"accesses\":" ∷ decimal c.accesses ∷ codes ",\"run\":\"" ∷ word_for c.sharing
    ∷ codes "\",\"workers_pay\":" ∷ truth c.pays ∷ codes "}\n" ∷ [])

-- what is printed for a procedure: what its own instance costs, in which each parameter stands for itself
abbrev pub costs_text : Asked → Procedure → List ℕ
costs_text asked p = if asked.layout.json then cost_json (cost_of asked.given (own p)) else cost_table (cost_of asked.given (own p))
