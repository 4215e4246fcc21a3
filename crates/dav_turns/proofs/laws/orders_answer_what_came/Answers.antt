use Rattle.dav_turns.specs.Turns.{keeping}
use Rattle.dav_turns.proofs.SlotLemmas.{turns_happen, orders_answer}
use Rattle.dav_turns.proofs.laws.orders_answer_what_came.Goals as goal

pub returns-clause-turns : goal.returns-clause-turns
returns-clause-turns g c =
    turns_happen (keeping g.K.Answerer.judges g.K.Answerer.answers g.K.Keeper.greeted g.K.Keeper.listed g.K.Keeper.placed g.K.Keeper.passed g.K.Keeper.marked g.K.Keeper.kept)

pub returns-clause-answers : goal.returns-clause-answers
returns-clause-answers g c =
    orders_answer (keeping g.K.Answerer.judges g.K.Answerer.answers g.K.Keeper.greeted g.K.Keeper.listed g.K.Keeper.placed g.K.Keeper.passed g.K.Keeper.marked g.K.Keeper.kept)
