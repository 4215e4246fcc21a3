use Rattle.std.proofs.Common.{◌≡◌, Err, Ok, ap, ◌∙◌}
use Rattle.dav_turns.specs.declared.pipe.ReadError.{ReadError}
use Rattle.dav_turns.specs.declared.pipe.ReadError.TheVariants.{Ended}
use Rattle.dav_live.proofs.live.read_more.Goals as goal

pub returns-in-Ok-clause-still : goal.returns-in-Ok-clause-still
returns-in-Ok-clause-still g c t begins = (c.read_more.ensures.still t begins).0

pub returns-in-Err-Ended-clause-still : goal.returns-in-Err-Ended-clause-still
returns-in-Err-Ended-clause-still g c t begins = (c.read_more.ensures.still t begins).0

pub returns-in-Err-Failed-clause-still : goal.returns-in-Err-Failed-clause-still
returns-in-Err-Failed-clause-still g c t begins = (c.read_more.ensures.still t begins).0

pub returns-in-Err-Memory-clause-still : goal.returns-in-Err-Memory-clause-still
returns-in-Err-Memory-clause-still g c t begins = (c.read_more.ensures.still t begins).0

pub returns-in-Err-Ended-clause-ended : goal.returns-in-Err-Ended-clause-ended
returns-in-Err-Ended-clause-ended g c same =
    let is : c.read_more.result ≡ Err Ended = c.in-Err-Ended.is ∙ ap (λ (e : ReadError). Err e) c.in-Err-Ended.field-0-is in
    let ended = c.read_more.ensures.ended is in
    (ended.1, ended.2, λ t begins. let still : c.read_more.result ≡ Ok tt = (c.read_more.ensures.still t begins).1 in cc)
