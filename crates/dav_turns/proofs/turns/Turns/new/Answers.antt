use Rattle.dav_turns.proofs.turns.Turns.new.Goals as goal

pub returns : goal.returns
returns c = λ i. record { config = c.in_ok-new.ensures.config i; slots = c.in_ok-new.ensures.slots i }
