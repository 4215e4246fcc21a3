-- What the machine is asked for each request that comes, and what it replies (RFC 9110, section 3).
use Rattle.std.specs.Prelude.{◌≡◌, ◌≢◌, ◌⊎◌, ℕ, min, bytes_eq, if◌then◌else◌, List, [], codes, Option, Some, None, Result, Ok, Err, false}
use Rattle.dav_core.specs.Element.{ElementTree}
use Rattle.dav_core.specs.World.{empty_from, last_moment}
use Rattle.dav_engine.specs.declared.reply.ReplyBody.{ReplyBody}
use Rattle.dav_engine.specs.declared.reply.ReplyBody.TheVariants as reply
use Rattle.dav_engine.specs.declared.request.Body.{Body}
use Rattle.dav_engine.specs.declared.request.Body.TheVariants as body
use Rattle.dav_engine.specs.Caller.{Caller}
use Rattle.dav_engine.specs.Reply.{Reply}
use Rattle.dav_engine.specs.Taking.{IsHandedOn}
use Rattle.dav_server.specs.GrantToken.{IsGrantToken}
use Rattle.dav_server.specs.Head.{Request, IsHead}
use Rattle.dav_server.specs.Machine.{Exchange}
use Rattle.dav_server.specs.Server.{Server, Answers}
use Rattle.dav_presented.specs.Times.{find_as, patch_as}
use Rattle.dav_xml.specs.declared.error.Fault.{Fault}
use Rattle.dav_xml.specs.Namespaces.{document}
use Rattle.dav_xml.specs.Written.{document_of}
use Rattle.dav_http.specs.Owners.{prefixed_owners}
use Rattle.dav_http.specs.Sent.{HoldsSendable}

-- a method whose body is an element tree (RFC 4918, sections 9.1, 9.2 and 9.10)
abbrev pub TakesTree : List ℕ → Type 0
TakesTree method = (method ≡ codes "PROPFIND") ⊎ (method ≡ codes "PROPPATCH") ⊎ (method ≡ codes "LOCK")

-- an element tree with the times of files as the server keeps them: a PROPPATCH at this moment sets those, and a PROPFIND that asks for
-- a time asks for the one that is kept too (RFC 4918, section 15.7)
abbrev pub with_times : List ℕ → ℕ → ElementTree → ElementTree
with_times method moment tree =
    if bytes_eq method (codes "PROPPATCH") then patch_as moment tree
    else if bytes_eq method (codes "PROPFIND") then find_as tree
    else tree

-- the element tree that was read, with times as they are kept, and its owners with the prefix `D`; or that none was
abbrev pub read_as : List ℕ → ℕ → Result ElementTree Fault → Body
read_as method moment (Ok tree) = body.Tree (prefixed_owners (with_times method moment tree))
read_as method moment (Err fault) = body.Malformed

-- The body of a request that is run at this moment, as the machine takes it: nothing where it has no bytes; the element tree that they
-- encode, where its method takes one; or else the bytes (RFC 4918, section 8.2).
pub data IsBodyOf (method : List ℕ) (moment : ℕ) (bytes : List ℕ) : Body → Type 0 where
  nothing : bytes ≡ [] → IsBodyOf method moment bytes body.None
  as_tree : bytes ≢ [] → TakesTree method → IsBodyOf method moment bytes (read_as method moment (document bytes))
  as_bytes : bytes ≢ [] → ¬ TakesTree method → IsBodyOf method moment bytes (body.Bytes bytes)

-- the token for a lock that is handed in: the text, where a lock can be granted with it (RFC 4918, section 6.5)
pub data IsTokenOf : Option (List ℕ) → Option (List ℕ) → Type 0 where
  missing : IsTokenOf None None
  granted : {text : List ℕ} → IsGrantToken text → IsTokenOf (Some text) (Some text)
  refused : {text : List ℕ} → ¬ IsGrantToken text → IsTokenOf (Some text) None

-- The request that the machine gets: the bytes of its head, its body by these bytes and by the method of the head, who makes it, when,
-- at most at the end of the year 9999, and the token for a lock that it creates.
pub record IsExchangeOf (head bytes : List ℕ) (who : Caller) (x : Exchange) : Type 0 where
  pub head_is : x.head ≡ head
  pub method : List ℕ
  pub is_method : (request : Request) → IsHead head request → method ≡ request.method
  pub body : IsBodyOf method x.moment bytes x.body
  pub principal : x.principal ≡ who.principal
  pub moment : x.moment ≡ min who.moment last_moment
  pub token : IsTokenOf who.token x.token

-- A reply to a request with this head and a body of these bytes, and the server that is left: they are those of a step of the machine in
-- which memory lasts, and the element tree of the reply, if it has one, may be sent (RFC 4918, section 8.2).
pub record IsStepFor (head bytes : List ℕ) (who : Caller) (old : Server) (r : Reply) (new : Server) : Type 0 where
  pub exchange : Exchange
  pub is_exchange : IsExchangeOf head bytes who exchange
  pub answers : Answers old exchange r new
  pub same : new.settings ≡ old.settings
  pub ample : new.state.store.short ≡ false
  pub told : HoldsSendable r.body

-- The whole reply to a request that the machine gets, and the server that is left, are those of a step of it in which memory lasts; the
-- element tree of the reply, if it has one, may be sent; and the reply is told so, in parts.
pub record AnsweredInParts {T : Type 0} (opened taken : T → ElementTree → T) (to : T) (old : Server) (x : Exchange) (told : Reply) (after : Option T) (new : Server) : Type 0 where
  pub whole : Reply
  pub answers : Answers old x whole new
  pub same : new.settings ≡ old.settings
  pub ample : new.state.store.short ≡ false
  pub sendable : HoldsSendable whole.body
  pub handed : IsHandedOn opened taken to whole told after

-- The whole reply to a request is that of a step of the machine, and it is told so: as it is, or without its multistatus, which was handed
-- on to `to` in parts (RFC 4918, section 13).
pub record IsStepInParts {T : Type 0} (opened taken : T → ElementTree → T) (to : T) (head bytes : List ℕ) (who : Caller) (old : Server) (told : Reply) (after : Option T) (new : Server) : Type 0 where
  pub whole : Reply
  pub step : IsStepFor head bytes who old whole new
  pub handed : IsHandedOn opened taken to whole told after

-- A request has one answer: any two steps for it from one server have the same reply, and leave the same server.
abbrev pub StepsAreOne : Type 0
StepsAreOne =
    (head bytes : List ℕ) (who : Caller) (old new other : Server) (one another : Reply)
    → IsStepFor head bytes who old one new → IsStepFor head bytes who old another other → (one ≡ another) × (new ≡ other)

-- the bytes in which the body of a reply is sent: an element tree as its document (RFC 4918, section 8.2)
abbrev pub sent_bytes : ReplyBody → List ℕ
sent_bytes reply.Nothing = []
sent_bytes (reply.Bytes bytes) = bytes
sent_bytes (reply.Tree tree) = document_of tree

-- the new server of this prefix: it allows each method, its store is empty, and it has no locks
abbrev pub new_server : List ℕ → Server
new_server prefix = record {
  settings = record { prefix = prefix; allowed = 65535 };
  state = record { store = record { world = empty_from 1; refusals = []; short = false }; locks = Some [] };
}
