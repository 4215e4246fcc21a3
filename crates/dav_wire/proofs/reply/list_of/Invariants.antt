use Rattle.std.proofs.Common.{◌≡◌, ◌++◌, drop}
use Rattle.http1.specs.Head.{pairs}
use Rattle.http_server.specs.Response.{fields}
use Rattle.dav_wire.proofs.reply.list_of.Given as goal

-- the fields that are listed and those that are left are all
abbrev pub invariant-loop-header : goal.invariant-loop-header
invariant-loop-header l = pairs l.list.items ++ fields (drop l.header-index l.headers) ≡ fields l.headers
