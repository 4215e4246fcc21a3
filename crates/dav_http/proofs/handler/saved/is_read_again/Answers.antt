use Rattle.std.proofs.Common.{◌∙◌}
use Rattle.dav_http.proofs.SavedCalls.{read_decides, unread_decides}
use Rattle.dav_http.proofs.handler.saved.is_read_again.Goals as goal

pub returns-in-Ok : goal.returns-in-Ok
returns-in-Ok c = read_decides c.eq.result c.args.element.now c.in-Ok.read c.deref.result.now c.eq.ensures c.in-Ok.ensures (c.deref.ensures.value ∙ c.in_ok-bytes.ensures)

pub returns-in-Err-Fault : goal.returns-in-Err-Fault
returns-in-Err-Fault c = unread_decides c.in-Err-Fault.field-0 c.in-Err-Fault.field-0-0 c.args.element.now c.deref.result.now c.in-Err-Fault.field-0-is c.in-Err-Fault.ensures (c.deref.ensures.value ∙ c.in_ok-bytes.ensures)
