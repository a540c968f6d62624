use Rattle.std.proofs.Common.{◌≡◌, ◌∷◌, [], ◌++◌, ◌∙◌, ◌<◌, ◌==◌, ℕ, ap, refl, sym, arith, slice_set, if◌then◌else◌}
use Rattle.std.specs.Prelude.{option_to_list}
use Rattle.std.proofs.lemmas.List.Elements.{All-push}
use Rattle.bohm_store.specs.declared.older.Older.{Older}
use Rattle.bohm_store.specs.declared.version.Version.{Version}
use Rattle.bohm_store.specs.Held.{held_at}
use Rattle.bohm_store.specs.Numbered.{IsLinked, older_of, version_of}
use Rattle.bohm_store.specs.Places.{OlderList}
use Rattle.bohm_store.proofs.OlderVersions.{had, displaced_one, displaced_none, rise_higher, rise_push}
use Rattle.bohm_store.proofs.older.displace.Goals.{After-held_from, in-Some, in_default}
use Rattle.bohm_store.proofs.older.displace.Goals as goal

-- the written version is added to its number's versions, and each number's older versions stay linked
displaced : (c : After-held_from) (n : ℕ) → IsLinked c.args.older.now.items n (held_at c.args.newest.now n)
    → let more = c.match-version_of.older.items in let new = slice_set c.args.newest.now c.args.write.number c.held_from.result in
    (older_of more n ++ held_at new n ≡ (older_of c.args.older.now.items n ++ held_at c.args.newest.now n)
    ++ (if (c.args.write.number == n) then c.args.write.version ∷ [] else [])) × IsLinked more n (held_at new n)
displaced c n linked =
    let now = c.args.newest.now in
    let os = c.args.older.now.items in
    let number = c.args.write.number in
    let v = c.args.write.version in
    let olds = c.match-version_of.older.items in
    let held = had now number c.index-newest-number.result c.version_of.result c.index-newest-number.is c.requires.number c.version_of.ensures in
    elim c.match-version_of.branch [
      | in-Some w ↦
          let (o, pushed, own, ended, said) = w.push.ensures.items in
          let was : held_at now number ≡ version_of o ∷ [] = held ∙ ap option_to_list w.in-Some.is ∙ ap (λ (v : Version). v ∷ []) (sym said) in
          let more = ap (λ (l : OlderList). l.items) w.older-is ∙ pushed in
          displaced_one os olds now _ number v c.held_from.result c.requires.number refl c.held_from.ensures o was own ended more n linked
      | in_default w ↦
          let was : held_at now number ≡ [] = held ∙ ap option_to_list w.in_default.is in
          let more = ap (λ (l : OlderList). l.items) w.older-is in
          displaced_none os olds now _ number v c.held_from.result c.requires.number refl c.held_from.ensures was more n linked
    ]

pub returns-clause-versions : goal.returns-clause-versions
returns-clause-versions c n linked = (displaced c n linked).0

pub returns-clause-linked : goal.returns-clause-linked
returns-clause-linked c n linked = (displaced c n linked).1

pub returns-clause-climbs : goal.returns-clause-climbs
returns-clause-climbs c top rise le =
    let os = c.args.older.now.items in
    elim c.match-version_of.branch [
      | in-Some w ↦
          let (o, pushed, own, ended, said) = w.push.ensures.items in
          rw (w.older-is, pushed, ← ended) (rise_push top os o rise (omega (arith, le, ended)))
      | in_default w ↦ rw w.older-is (rise_higher top c.args.write.version.begin os rise le)
    ]

pub returns-clause-due : goal.returns-clause-due
returns-clause-due c floor h lt =
    let os = c.args.older.now.items in
    elim c.match-version_of.branch [
      | in-Some w ↦
          let (o, pushed, own, ended, said) = w.push.ensures.items in
          rw (w.older-is, pushed) (All-push (λ (p : Older). floor < p.end) os o h (omega (arith, lt, ended)))
      | in_default w ↦ rw w.older-is h
    ]
