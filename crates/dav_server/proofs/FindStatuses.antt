-- What statuses a PROPFIND results in.
use Rattle.std.proofs.Common.{◌&&◌, ◌++◌, Bool, true, false, List, Option, Some, None, Ok, arith}
use Rattle.dav_core.specs.declared.errors.DavError.TheVariants as dav
use Rattle.dav_core.specs.declared.fs.DavMetaData.{DavMetaData}
use Rattle.dav_core.specs.Path.{PathText}
use Rattle.dav_engine.specs.declared.request.Body.{Body}
use Rattle.dav_engine.specs.Caller.{Caller}
use Rattle.dav_engine.specs.Folder.{closed, location_found, room_at}
use Rattle.dav_engine.specs.Headers.{Headers}
use Rattle.dav_engine.specs.Method.{required, refused_as}
use Rattle.dav_engine.specs.Properties.{writer}
use Rattle.dav_engine.specs.Propfind.{Query, FindHeaders, query_in, tells_itself, tells_members, is_infinite, is_served_depth, propfind_reply, propfind_found, propfind_if, propfind}
use Rattle.dav_engine.specs.Reply.{Header}
use Rattle.dav_engine.proofs.Theorems.{answered_below, answered_itself}
use Rattle.dav_server.proofs.PlanStatuses.{Outcome, Any, Ends, ends_done, ends_ask, ends_bind, ends_then, gives_ends, IsFailure, AnswersOther, store_fails}

ends_read : (o : Option Query) → Outcome IsFailure Any (required o dav.XmlParseError)
ends_read None = omega arith
ends_read (Some query) = tt

module _ (h : FindHeaders) (headers : Headers) (content : Body) (who : Caller) where
  ends_found : (p : PathText) (location : List Header) (m : DavMetaData) → Ends IsFailure AnswersOther (propfind_found h headers p location content who m)
  ends_found p location m =
      ends_then (required (query_in content) dav.XmlParseError) _ (ends_read (query_in content)) (λ query any.
      ends_bind _ (gives_ends (answered_itself (writer query.0 headers who.principal query.1) (tells_itself h.depth) p m)) (λ itself one.
      ends_bind _ (gives_ends (answered_below (writer query.0 headers who.principal query.1) (is_infinite h.depth) (room_at p) p (m.dir && tells_members h.depth) itself.1)) (λ below more.
      ends_done {r = Ok (propfind_reply location (writer query.0 headers who.principal query.1) (itself.0 ++ below.0))} (λ same. absurd (omega (arith, same))))))

  ends_if : (p : PathText) (served : Bool) → Ends IsFailure AnswersOther (propfind_if served h headers p content who)
  ends_if p false = ends_done (λ same. absurd (omega (arith, same)))
  ends_if p true =
      ends_ask (λ answer. ends_then (refused_as dav.FsError answer) _ (store_fails answer) (λ found any.
      ends_found (closed found.dir p) (location_found (Some found) p) found))

  -- each error reports one, and no other reply is a 304
  pub ends_propfind : (p : PathText) → Ends IsFailure AnswersOther (propfind h headers p content who)
  ends_propfind p = ends_if p (is_served_depth h)
