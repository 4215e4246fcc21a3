-- What a reply may hold that is read again by its client (RFC 4918, section 8.2).
use Rattle.std.specs.Prelude.{◌≡◌, ℕ, ◌≤◌, true, List, [], codes, length, Option, Some, None}
use Rattle.std.specs.List.{AllByRecursion}
use Rattle.dav_core.specs.Element.{ElementTree, attributes_of, depth_of, namespace_of}
use Rattle.dav_core.specs.Locks.{Lock}
use Rattle.dav_core.specs.Path.{is_nonempty}
use Rattle.dav_core.specs.World.{World}
use Rattle.dav_engine.specs.declared.reply.ReplyBody.{ReplyBody}
use Rattle.dav_engine.specs.declared.reply.ReplyBody.TheVariants as reply
use Rattle.dav_engine.specs.declared.request.Body.{Body}
use Rattle.dav_engine.specs.declared.request.Body.TheVariants as body
use Rattle.dav_engine.specs.LockInfo.{LockInfo, is_owner, lock_info}
use Rattle.dav_engine.specs.Plan.{Locks}
use Rattle.dav_xml.specs.Expanded.{IsFew}
use Rattle.dav_xml.specs.Legal.{IsLegal}
use Rattle.dav_xml.specs.Sendable.{IsSendable, IsReadAgain}
use Rattle.dav_xml.specs.Written.{written, document_of}

-- a text that may stand in a reply: it isn't empty, and it is of legal characters
pub record IsSendableText (bytes : List ℕ) : Type 0 where
  pub some : is_nonempty bytes ≡ true
  pub legal : IsLegal bytes

-- such a text, if there is one
abbrev pub IsSendableTextIfAny : Option (List ℕ) → Type 0
IsSendableTextIfAny None = Unit {0}
IsSendableTextIfAny (Some bytes) = IsSendableText bytes

-- an element that may be sent, if there is one
abbrev pub IsSendableIfAny : Option ElementTree → Type 0
IsSendableIfAny None = Unit {0}
IsSendableIfAny (Some tree) = IsSendable tree

-- each element that is kept as a property may be sent
abbrev pub KeepsSendable : World → Type 0
KeepsSendable w = AllByRecursion (λ e. AllByRecursion (λ property. IsSendableIfAny property.1) e.1.properties) w.nodes

-- The token of a lock may be sent, and the element in which its owner describes itself; and its path has bytes (RFC 4918, sections 14.14 and 14.17).
pub record IsSendableLock (l : Lock) : Type 0 where
  pub token : IsSendableText l.token
  pub path : is_nonempty l.path.bytes ≡ true
  pub owner : IsSendableIfAny l.owner

-- each lock of a list may be sent, if there is a list
abbrev pub AreSendableLocks : Locks → Type 0
AreSendableLocks None = Unit {0}
AreSendableLocks (Some ls) = AllByRecursion IsSendableLock ls

-- An element tree that a client sends may be sent, and so may the owner of the lock that it asks for, as the server keeps it: with the
-- prefix `D`.
abbrev pub IsSendableBody : Body → Type 0
IsSendableBody (body.Tree tree) = IsSendable tree × ((info : LockInfo) → lock_info (body.Tree tree) ≡ Some info → IsSendableIfAny info.owner)
IsSendableBody content = Unit {0}

-- an owner as the standard has it: of the namespace `DAV:`, without attributes (RFC 4918, section 14.17)
abbrev pub IsUsualOwner : ElementTree → Type 0
IsUsualOwner e = is_owner e ≡ true → (namespace_of e ≡ Some (codes "DAV:")) × (attributes_of e ≡ [])

-- the tree of a reply, if it has one, may be sent
abbrev pub HoldsSendable : ReplyBody → Type 0
HoldsSendable (reply.Tree tree) = IsSendable tree
HoldsSendable content = Unit {0}

-- The tree of a reply, if it has one, is read again as the tree that it means, where it has at most 64 levels, each element that is
-- written has at most 256 attributes and is within at most 256 declarations, and the whole has at most 1 MiB.
abbrev pub IsReadByClient : ReplyBody → Type 0
IsReadByClient (reply.Tree tree) = depth_of tree ≤ 64 → IsFew [] (written [] tree) → length (document_of tree) ≤ 0x10_0000 → IsReadAgain tree
IsReadByClient content = Unit {0}
