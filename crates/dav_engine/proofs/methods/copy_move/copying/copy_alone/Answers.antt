use Rattle.std.proofs.lemmas.Bool.{false≢true}
use Rattle.std.proofs.Common.{◌∙◌, sym}
use Rattle.dav_engine.proofs.CopyLemmas.{alone_made, alone_there, alone_told}
use Rattle.dav_engine.proofs.methods.copy_move.copying.copy_alone.Goals as goal

pub returns-in-Ok : goal.returns-in-Ok
returns-in-Ok g c = alone_made c.args.moment c.args.destination.now c.in-Ok.ensures

pub returns-then-is_there : goal.returns-then-is_there
returns-then-is_there g c = alone_there c.args.moment c.args.destination.now c.in-Err.e (c.is_there.ensures.0 c.if-is_there.true) c.in-Err.ensures

pub returns-else-is_there : goal.returns-else-is_there
returns-else-is_there g c =
    alone_told c.args.moment c.args.destination.now c.in-Err.e c.refused.result _ _ (λ is. false≢true (sym c.if-is_there.false ∙ c.is_there.ensures.1 is)) c.in-Err.ensures c.refused.ensures.ok c.refused.ensures.err
