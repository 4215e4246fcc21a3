-- Which requests leave the server as it was (RFC 9110, sections 9.2.1, 15.5 and 15.6).
use Rattle.std.specs.Prelude.{◌≡◌, ℕ, true, List, Ok, Err}
use Rattle.dav_core.specs.declared.errors.DavError.{DavError}
use Rattle.dav_core.specs.declared.method.DavMethod.{DavMethod}
use Rattle.dav_engine.specs.Reply.{Reply}
use Rattle.dav_server.specs.Head.{IsHead, Request}
use Rattle.dav_server.specs.Leaving.{IsEarlyError}
use Rattle.dav_server.specs.Method.{GivesServed}
use Rattle.dav_server.specs.TagLaws.{is_safe}

-- A request with these bytes as its head, and which has this reply, is known to leave the server as it was: the bytes are no head; its
-- method only reads, or isn't served; or the reply is that to an error that only comes before its method changes something.
pub data Leaves (head : List ℕ) (reply : Reply) : Type 0 where
  no_head : ((r : Request) → ¬ IsHead head r) → Leaves head reply
  reading : (r : Request) (m : DavMethod) → IsHead head r → GivesServed r.method (Ok m) → is_safe m ≡ true → Leaves head reply
  unserved : (r : Request) (e : DavError) → IsHead head r → GivesServed r.method (Err e) → Leaves head reply
  early : (r : Request) (m : DavMethod) → IsHead head r → GivesServed r.method (Ok m) → IsEarlyError m reply → Leaves head reply
