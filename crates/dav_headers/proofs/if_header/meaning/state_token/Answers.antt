use Rattle.std.proofs.Common.{refl, rules}
use Rattle.std.specs.Prelude.{IsUtf8}
use Rattle.dav_headers.specs.If.{state_token}
use Rattle.dav_headers.specs.IfView.{item_value}
use Rattle.dav_headers.specs.IfWritten.{written_token, SaysItem}
use Rattle.dav_headers.proofs.ReadingLemmas.{out_of_memory}
use Rattle.dav_headers.proofs.if_header.meaning.state_token.Goals as goal

pub returns-in_err-from_str : goal.returns-in_err-from_str
returns-in_err-from_str c =
    let utf8 : IsUtf8 c.args.bytes.now = search rules in
    out_of_memory item_value SaysItem (written_token c.args.bytes.now) _ c.from_residual.ensures.1 (state_token c.args.bytes.now, (utf8, refl))
