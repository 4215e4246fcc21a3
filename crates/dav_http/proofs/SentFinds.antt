-- The reply to a PROPFIND may be sent.
use Rattle.std.proofs.Common.{◌≡◌, ℕ, zero, suc, Bool, true, false, ◌&&◌, List, [], ◌∷◌, ◌++◌, Some, None, Result, Ok, Err, subst}
use Rattle.dav_core.specs.declared.errors.FsError.{FsError}
use Rattle.dav_core.specs.declared.errors.DavError.TheVariants as dav
use Rattle.dav_core.specs.declared.fs.DavMetaData.{DavMetaData}
use Rattle.dav_core.specs.Asking.{Metadata, ReadDir, EntryMetadata}
use Rattle.dav_core.specs.CallLaws.{TimesAreDates}
use Rattle.dav_core.specs.Path.{Path, PathText, names}
use Rattle.dav_engine.specs.declared.request.Body.{Body}
use Rattle.dav_engine.specs.Caller.{Caller}
use Rattle.dav_engine.specs.Folder.{closed, child_of, location_found, room_at}
use Rattle.dav_engine.specs.Headers.{Headers}
use Rattle.dav_engine.specs.Method.{◌>>=◌, gives, required, refused_as}
use Rattle.dav_engine.specs.Properties.{Writer, writer, user_agent, QuotaKnown}
use Rattle.dav_engine.specs.Propfind.{Responses, Below, query_in, tell_member, tell_if_found, tell_members, tell_listed, tell_below, tell_itself, tells_itself, tells_members, is_infinite, is_served_depth, FindHeaders, propfind_reply, propfind_found, propfind_if, propfind}
use Rattle.dav_engine.specs.Reply.{Reply, Header}
use Rattle.dav_engine.proofs.LockPlans.{required_is}
use Rattle.dav_xml.specs.Sendable.{IsSendable}
use Rattle.dav_http.specs.Sent.{IsSendableTextIfAny, IsSendableBody, HoldsSendable}
use Rattle.dav_http.proofs.Each.{each_append}
use Rattle.dav_http.proofs.SentNames.{HasPath, closed_path, child_path}
use Rattle.dav_http.proofs.SentParts.{AllSendable, told_sendable, finite_sendable}
use Rattle.dav_http.proofs.SentPlans.{Says, Sends, sends_ok, sends_ask, sends_then, sends_bind}
use Rattle.dav_http.proofs.SentSources.{query_sendable, wanted_sendable, properties_sends}

-- a reply whose tree may be sent
abbrev pub IsSent : Reply → Type 0
IsSent r = HoldsSendable r.body

abbrev AllTold : Responses → Type 0
AllTold r = AllSendable r.0

module _ (w : Writer) (all : AllSendable w.properties) (principal : IsSendableTextIfAny w.principal) where
  module _ (below : Below) (more : (q : PathText) (dir : Bool) (known : QuotaKnown) → HasPath q → Sends AllTold (below q dir known)) where
    member_sends : (p : PathText) (m : DavMetaData) (known : QuotaKnown) → HasPath p → TimesAreDates m → Sends AllTold (tell_member below w p m known)
    member_sends p m known some shown =
        sends_bind _ (properties_sends w all principal p m known some shown) (λ one fits.
        sends_bind _ (more p m.dir one.1 some) (λ rest fit. sends_ok (fits, fit)))

    seen_sends : (p : PathText) (name : List ℕ) (known : QuotaKnown) (path : Path) (seen : Result DavMetaData FsError) → Says (EntryMetadata path) seen → Sends AllTold (tell_if_found below w p name known seen)
    seen_sends p name known path (Err e) says = sends_ok tt
    seen_sends p name known path (Ok m) says = member_sends (child_of p name m.dir) m known (child_path p name m.dir) says

    members_send : (p : PathText) (known : QuotaKnown) (entries : List (List ℕ × Bool)) → Sends AllTold (tell_members below w p known entries)
    members_send p known [] = sends_ok tt
    members_send p known (entry ∷ entries) = sends_ask {c = EntryMetadata (names p ++ entry.0 ∷ [])} tt (λ seen says.
        sends_bind _ (seen_sends p entry.0 known (names p ++ entry.0 ∷ []) seen says) (λ one fits.
        sends_bind _ (members_send p one.1 entries) (λ rest fit. sends_ok (each_append IsSendable one.0 rest.0 fits fit))))

    listed_sends : (p : PathText) (known : QuotaKnown) (listed : Result (List (List ℕ × Bool)) FsError) → Sends AllTold (tell_listed below w p known listed)
    listed_sends p known (Err e) = sends_ok tt
    listed_sends p known (Ok entries) = members_send p known entries

  below_sends : (deep : Bool) (room : ℕ) (p : PathText) (dir : Bool) (known : QuotaKnown) → HasPath p → Sends AllTold (tell_below deep room w p dir known)
  below_sends deep room p false known some = sends_ok tt
  below_sends deep zero p true known some = sends_ok tt
  below_sends deep (suc room) p true known some =
      sends_ask {c = ReadDir (names p)} tt (λ listed says. listed_sends (λ q dir now. tell_below deep room w q (dir && deep) now) (λ q dir now there. below_sends deep room q (dir && deep) now there) p known listed)

  itself_sends : (told : Bool) (p : PathText) (m : DavMetaData) → HasPath p → TimesAreDates m → Sends AllTold (tell_itself told w p m)
  itself_sends false p m some shown = sends_ok tt
  itself_sends true p m some shown = sends_bind _ (properties_sends w all principal p m None some shown) (λ one fits. sends_ok (fits, tt))

  told_sends : (h : FindHeaders) (p : PathText) (location : List Header) (m : DavMetaData) → HasPath p → TimesAreDates m
      → Sends IsSent (do
        itself ← tell_itself (tells_itself h.depth) w p m
        below ← tell_below (is_infinite h.depth) (room_at p) w p (m.dir && tells_members h.depth) itself.1
        gives (propfind_reply location w (itself.0 ++ below.0)))
  told_sends h p location m some shown =
      sends_bind _ (itself_sends (tells_itself h.depth) p m some shown) (λ itself fits.
      sends_bind _ (below_sends (is_infinite h.depth) (room_at p) p (m.dir && tells_members h.depth) itself.1 some) (λ below fit.
      sends_ok (told_sendable w (itself.0 ++ below.0) (each_append IsSendable itself.0 below.0 fits fit))))

module _ (h : FindHeaders) (headers : Headers) (content : Body) (who : Caller) (given : IsSendableBody content) (principal : IsSendableTextIfAny who.principal) where
  find_found_sends : (p : PathText) (location : List Header) (m : DavMetaData) → HasPath p → TimesAreDates m → Sends IsSent (propfind_found h headers p location content who m)
  find_found_sends p location m some shown =
      sends_then (required (query_in content) dav.XmlParseError) _ (λ query is.
      told_sends (writer query.0 headers who.principal query.1)
      (wanted_sendable query.0 (user_agent headers) query.1 (query_sendable content given query (required_is (query_in content) dav.XmlParseError query is))) principal h p location m some shown)

  find_answered : (p : PathText) (path : Path) (answer : Result DavMetaData FsError) → HasPath p → Says (Metadata path) answer
      → (found : DavMetaData) → refused_as dav.FsError answer ≡ Ok found → Sends IsSent (propfind_found h headers (closed found.dir p) (location_found (Some found) p) content who found)
  find_answered p path (Err e) some says found is = absurd cc
  find_answered p path (Ok m) some says found is =
      let same : m ≡ found = cc in
      find_found_sends (closed found.dir p) (location_found (Some found) p) found (closed_path found.dir p some) (subst TimesAreDates same says)

  find_if_sends : (p : PathText) (served : Bool) → HasPath p → Sends IsSent (propfind_if served h headers p content who)
  find_if_sends p false some = sends_ok finite_sendable
  find_if_sends p true some = sends_ask {c = Metadata (names p)} tt (λ answer says.
      sends_then (refused_as dav.FsError answer) _ (λ found is. find_answered p (names p) answer some says found is))

  pub propfind_sends : (p : PathText) → HasPath p → Sends IsSent (propfind h headers p content who)
  propfind_sends p some = find_if_sends p (is_served_depth h) some
