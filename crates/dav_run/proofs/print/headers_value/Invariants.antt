use Rattle.std.proofs.Common.{◌≡◌}
use Rattle.http_header.specs.HeaderMap.{pairs}
use Rattle.serde_json.specs.Data.{no_members}
use Rattle.serde_json.specs.View.{members_view}
use Rattle.dav_run.specs.Print.{headers_over}
use Rattle.dav_engine.specs.Reply.{header_pairs}
use Rattle.dav_run.proofs.print.headers_value.Given as goal

abbrev pub invariant-loop-name : goal.invariant-loop-name
invariant-loop-name l =
    headers_over (header_pairs l.name-iterator) (members_view l.members.entries) ≡ headers_over (header_pairs (pairs l.headers)) no_members
