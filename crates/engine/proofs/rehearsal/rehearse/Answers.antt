use Rattle.engine.proofs.rehearsal.rehearse.Goals as goal

pub returns-clause-law : goal.returns-clause-law
returns-clause-law g c = c.law.ensures _ _ _ _ c.hold.ensures.verdict c.hold.ensures.entries c.hold.ensures.stand
