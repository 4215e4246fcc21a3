use Rattle.std.proofs.Common.{◌∙◌, ◌++◌, ap, codes}
use Rattle.serde_json.specs.Written.{compact_text}
use Rattle.dav_engine.specs.Reply.{Reply}
use Rattle.dav_run.specs.Print.{body_data}
use Rattle.dav_run.proofs.Headers.{whole_line}
use Rattle.dav_run.proofs.print.reply_line.Goals as goal

pub returns : goal.returns
returns c =
    let begun = c.in_ok-line.ensures ∙ ap (λ (r : Reply). codes "{\"body\":" ++ compact_text (body_data r.body)) c.reply.view_is in
    c.in_ok-extend_from_slice.ensures.items ∙ whole_line c.args.reply.now c.in_ok-line.line.items c.as_bytes.result.now begun (c.as_bytes.ensures.value ∙ c.in_ok-rest_text.ensures)
