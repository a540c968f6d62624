use Rattle.std.proofs.Common.{◌≡◌, ℕ, List, sym, subst, ◌∙◌}
use Rattle.std.proofs.lemmas.Slice.Eq.{bytes_eq-Decides}
use Rattle.bohm.specs.Digests.{IsDigest}
use Rattle.bohm.specs.Machines.{now_of, past_of}
use Rattle.bohm_uses.proofs.Segments.{found_collision}
use Rattle.bohm_uses.proofs.replicas.agree.Goals as goal

pub returns-clause-same : goal.returns-clause-same
returns-clause-same c same =
    let one : IsDigest (now_of c.args.one.now) c.in_ok-first.first =
    subst (λ (ts : ℕ). IsDigest (past_of c.args.one.now ts) c.in_ok-first.first) c.top.ensures.top c.in_ok-first.ensures.digest in
    let other : IsDigest (now_of c.args.other.now) c.in_ok-second.second =
    subst (λ (ts : ℕ). IsDigest (past_of c.args.other.now ts) c.in_ok-second.second) c.top-2.ensures.top c.in_ok-second.ensures.digest in
    let bytes : c.in_ok-first.first ≡ c.in_ok-second.second =
    (bytes_eq-Decides c.in_ok-first.first c.in_ok-second.second).0 (sym c.eq.ensures ∙ same) in
    let moved : IsDigest (now_of c.args.other.now) c.in_ok-first.first =
    subst (λ (d : List ℕ). IsDigest (now_of c.args.other.now) d) (sym bytes) other in
    found_collision _ _ (c.same_digest.ensures (now_of c.args.one.now) (now_of c.args.other.now) c.in_ok-first.first one moved)
