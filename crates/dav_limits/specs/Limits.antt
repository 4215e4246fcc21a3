-- Limits of how much there may be at a path and below it, and which requests would pass them (RFC 4331, section 6; RFC 4918, section 11.5).
use Rattle.std.specs.Prelude.{◌≡◌, ◌&&◌, ℕ, ◌-◌, nat_lt, Bool, true, false, not, List, Option, None, Some}
use Rattle.std.specs.List.{list_any}
use Rattle.dav_core.specs.declared.method.DavMethod.{DavMethod}
use Rattle.dav_core.specs.declared.method.DavMethod.TheVariants.{Move}
use Rattle.dav_core.specs.Path.{Path, PathText, is_at_or_under, names}
use Rattle.dav_core.specs.World.{Nodes}
use Rattle.dav_server.specs.Headers.{headers_of}
use Rattle.dav_server.specs.Machine.{Exchange}
use Rattle.dav_server.specs.Server.{Server}
use Rattle.dav_store.specs.declared.memfs.used.Amount.{Amount}
use Rattle.dav_store.specs.Used.{amount_at}
use Rattle.dav_access.specs.declared.limit.Limit.{Limit}
use Rattle.dav_access.specs.declared.limit.Measure.{Measure}
use Rattle.dav_access.specs.declared.limit.Measure.TheVariants.{Files, Space}
use Rattle.dav_confined.specs.Asked.{AskedView, IsAsked}
use Rattle.dav_http.specs.Placed.{AreFirsts}
use Rattle.dav_limits.specs.Added.{added_by, place_by}

-- of an amount what is measured
abbrev pub measured : Measure → Amount → ℕ
measured Files amount = amount.files
measured Space amount = amount.bytes

-- whether a path, if there is one, is at this one or below it
abbrev pub is_any_at_or_under : Option PathText → Path → Bool
is_any_at_or_under None p = false
is_any_at_or_under (Some q) p = is_at_or_under (names q) p

-- whether a method takes what it adds from a path at this one or below it: then a MOVE adds nothing there
abbrev pub moves_within : DavMethod → PathText → Path → Bool
moves_within Move q p = is_at_or_under (names q) p
moves_within _ q p = false

-- whether what is asked adds something that a limit counts
abbrev pub is_counted : AskedView → Limit → Bool
is_counted a l = is_any_at_or_under (place_by a.method a.path a.destination) (names l.path) && not (moves_within a.method a.path (names l.path))

-- whether this is more than a limit leaves: what is there already may pass it, and then it leaves nothing
abbrev pub is_too_much : Nodes → Amount → Limit → Bool
is_too_much ns added l = nat_lt (l.most - measured l.measure (amount_at (names l.path) ns)) (measured l.measure added)

-- whether what is asked adds this much past one of these limits
abbrev pub is_past : Nodes → AskedView → Amount → List Limit → Bool
is_past ns a added limits = list_any (λ l. is_counted a l && is_too_much ns added l) limits

-- A request with this head and body would add more to a server than these limits leave.
pub record IsPast (limits : List Limit) (s : Server) (head body : List ℕ) : Type 0 where
  pub exchange : Exchange
  pub here : exchange.head ≡ head
  pub asks : AskedView
  pub asked : IsAsked s.settings exchange asks
  pub firsts : Option ℕ × Option ℕ
  pub named : AreFirsts (headers_of asked.request.fields) firsts
  pub past : is_past s.state.store.world.nodes asks (added_by s.state.store.world.nodes asks.method asks.path body firsts) limits ≡ true
