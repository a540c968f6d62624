use Rattle.bohm_store.proofs.older.add.Goals as goal

pub returns-clause-due : goal.returns-clause-due
returns-clause-due c floor n top rise climb h lt =
    let same = c.in_ok-reserve.ensures.items in
    c.displace_all.ensures.due floor n top (rw same rise) climb (rw same h) lt
