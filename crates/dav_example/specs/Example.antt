-- What the example answers.
use Rattle.std.specs.Prelude.{ℕ, false, List, None, Some, codes}
use Rattle.http_server.specs.declared.response.Response.{Response}
use Rattle.dav_engine.specs.Caller.{Caller}
use Rattle.dav_engine.specs.Reply.{Reply}
use Rattle.dav_server.specs.Head.{IsHead, Request}
use Rattle.dav_server.specs.Server.{Server}
use Rattle.dav_http.specs.Presented.{IsShown}
use Rattle.dav_http.specs.Room.{room_of}
use Rattle.dav_http.specs.Sending.{IsSentAs}
use Rattle.dav_http.specs.Steps.{IsStepFor}

-- anna, in September 2001
abbrev pub anna : Caller
anna = record { principal = Some (codes "anna"); moment = 1000000000; token = None }

-- The response to anna's request of these bytes is what she is shown of the machine's reply to it, or, where its head is none, that reply as
-- it is (RFC 9110, section 15.5.1); and the server is as that request leaves it, with room for a million bytes more.
pub data IsAnswered (old : Server) (head body : List ℕ) (sent : Response) (new : Server) : Type 0 where
  shown : (reply : Reply) (r : Request) → IsStepFor head body anna old reply new → IsHead head r
      → IsShown r body 1000000000 (room_of new None 1000000) reply sent → IsAnswered old head body sent new
  headless : (reply : Reply) → IsStepFor head body anna old reply new → ((r : Request) → ¬ IsHead head r) → IsSentAs false reply sent
      → IsAnswered old head body sent new
