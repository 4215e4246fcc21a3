use Rattle.dav_saved.proofs.Texts.{text_ok, text_bad}
use Rattle.dav_saved.proofs.reading.text_of.Goals as goal

pub returns-in-Ok : goal.returns-in-Ok
returns-in-Ok c = text_ok c.args.bytes.now c.in_ok-text.text.now c.in-Ok.text.now c.in_ok-text.rest.now c.in_ok-text.ensures c.in-Ok.ensures.cases

pub returns-in-Err : goal.returns-in-Err
returns-in-Err c = text_bad c.args.bytes.now c.in_ok-text.text.now c.in_ok-text.rest.now c.in_ok-text.ensures c.in-Err.ensures.cases.0
