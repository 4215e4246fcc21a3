use Rattle.dav_live.proofs.RejectionLemmas.{number_is_text}
use Rattle.dav_live.proofs.numbers.number.Goals as goal

pub returns-in-Err : goal.returns-in-Err
returns-in-Err c = λ n is. c.in-Err.ensures.cases.0 (number_is_text c.args.text.now n is)
