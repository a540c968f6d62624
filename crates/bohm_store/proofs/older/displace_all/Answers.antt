use Rattle.std.proofs.Common.{◌≡◌, ◌++◌, ◌∷◌, [], ◌∙◌, ◌==◌, List, take, drop, get_or, ap, sym, arith, append-nil, append_assoc, if◌then◌else◌}
use Rattle.std.proofs.lemmas.List.{take_all}
use Rattle.bohm_store.specs.declared.version.Version.{Version}
use Rattle.bohm_store.specs.declared.numbered_write.NumberedWrite.{NumberedWrite}
use Rattle.bohm_store.specs.Held.{held_at}
use Rattle.bohm_store.specs.Numbered.{older_of}
use Rattle.bohm_store.specs.Writes.{listed_in, versions_by}
use Rattle.bohm_store.proofs.NumberedWrites.{by_more, climb_more, climb_end}
use Rattle.bohm_store.proofs.OlderVersions.{rise_higher}
use Rattle.bohm_store.proofs.older.displace_all.Goals as goal

pub loop-i-init : goal.loop-i-init
loop-i-init c = record {
  room = omega (arith, c.requires.room);
  places = c.requires.places;
  versions = λ n linked. (sym (append-nil (older_of c.args.older.now.items n ++ held_at c.args.newest.now n)), linked);
  climbs = λ n top rise climb. (n, omega arith, rise, climb, λ floor h lt. h);
}

pub displace-requires-clause-number : goal.displace-requires-clause-number
displace-requires-clause-number c =
    let w = c.at.result in
    let low = c.requires.numbers c.loop-i.i w (rw c.len-i-end.ensures at c.loop-i-test.true) in
    let here : w.number ≡ (get_or (listed_in c.args.writes) c.loop-i.i w).number = ap (λ (x : NumberedWrite). x.number) c.at.ensures in
    omega (arith, low, here)

pub loop-i-preserved : goal.loop-i-preserved
loop-i-preserved c =
    let w = c.at.result in
    let ws = (listed_in c.args.writes) in
    let i = c.loop-i.i in
    let lt = rw c.len-i-end.ensures at c.loop-i-test.true in
    let was = c.loop-i.invariant in
    let made = c.displace.ensures in
    record {
      room = omega (arith, was.room, made.room);
      places = omega (arith, was.places, made.places, c.displace.auto.newest);
      versions = λ n linked. (
          let (before, link) = was.versions n linked in
          let old : List Version = older_of c.args.older.now.items n ++ held_at c.args.newest.now n in (
            made.versions n link
                ∙ ap (λ (vs : List Version). vs ++ (if (w.number == n) then w.version ∷ [] else [])) before
                ∙ append_assoc old (versions_by (take i ws) n) (if (w.number == n) then w.version ∷ [] else [])
                ∙ ap (λ (vs : List Version). old ++ vs) (sym (by_more ws i w n lt c.at.ensures)),
            made.linked n link,
          ));
      climbs = λ n top rise climb. (
          let (m, le, risen, left, late) = was.climbs n top rise climb in
          let (low, more) = climb_more ws i m top w lt c.at.ensures left in
          (w.version.begin, omega arith, made.climbs m risen low, more, λ floor h above. made.due floor (late floor h above) (omega arith)));
    }

pub returns-clause-versions : goal.returns-clause-versions
returns-clause-versions c n linked =
    let ws = (listed_in c.args.writes) in
    let whole : take c.loop-i.i ws ≡ ws = take_all c.loop-i.i ws (rw c.len-i-end.ensures at c.loop-i-test.false) in
    (c.loop-i.invariant.versions n linked).0
    ∙ ap (λ (xs : List NumberedWrite). (older_of c.args.older.now.items n ++ held_at c.args.newest.now n) ++ versions_by xs n) whole

pub returns-clause-climbs : goal.returns-clause-climbs
returns-clause-climbs c n top rise climb =
    let (m, le, risen, left, late) = c.loop-i.invariant.climbs n top rise climb in
    rise_higher m top c.loop-i.older.items risen (climb_end m top (drop c.loop-i.i (listed_in c.args.writes)) left)

pub returns-clause-due : goal.returns-clause-due
returns-clause-due c floor n top rise climb h lt =
    let (m, le, risen, left, late) = c.loop-i.invariant.climbs n top rise climb in
    late floor h lt
