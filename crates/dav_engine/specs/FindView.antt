-- What contracts see of the parts of a PROPFIND.
use Rattle.std.specs.Prelude.{ℕ, ◌-◌, ◌++◌, ◌∷◌, [], ◌&&◌, Bool, List}
use Rattle.std.specs.declared.alloc.Global.{Global}
use Rattle.std.specs.declared.vec.Vec.{Vec}
use Rattle.dav_core.specs.declared.fs.DavMetaData.{DavMetaData}
use Rattle.dav_core.specs.Asking.{EntryMetadata}
use Rattle.dav_core.specs.Element.{ElementTree}
use Rattle.dav_core.specs.Path.{PathText, names}
use Rattle.dav_engine.specs.declared.methods.propfind.headers.FindHeaders.TheInside as headers
use Rattle.dav_engine.specs.Folder.{room_at}
use Rattle.dav_engine.specs.Method.{MethodPlan, ◌>>=◌, answer_of, gives}
use Rattle.dav_engine.specs.Propfind.{FindHeaders, Query, Below, Responses, tell_below, tell_if_found, tell_itself, tells_itself, tells_members, is_infinite}
use Rattle.dav_engine.specs.Properties.{Telling, Writer, QuotaKnown}

-- The headers of a PROPFIND as contracts see them.
abbrev pub find_headers_of : headers.Inside → FindHeaders
find_headers_of h = record { depth = h.depth; is_test = h.is_test }

-- What the body of a PROPFIND asks for, as contracts see it.
abbrev pub query_view : Telling × Vec ElementTree Global → Query
query_view query = (query.0, query.1.items)

-- The plan that reports what is below a member of the folder p, if that is a folder and the depth is infinite.
abbrev pub told_below : Bool → PathText → Writer → Below
told_below deep p w = λ q dir known. tell_below deep (room_at p - 1) w q (dir && deep) known

-- The plan that reports a member of the folder p, and what is below it.
abbrev pub told_entry : Bool → PathText → Writer → List ℕ → QuotaKnown → MethodPlan Responses
told_entry deep p w name known = do
  found ← answer_of (EntryMetadata (names p ++ name ∷ []))
  tell_if_found (told_below deep p w) w p name known found

-- The plan that reports what was found at the path of a PROPFIND, and what is below it.
abbrev pub response_at : FindHeaders → Writer → PathText → DavMetaData → MethodPlan Responses
response_at h w p m = do
  itself ← tell_itself (tells_itself h.depth) w p m
  below ← tell_below (is_infinite h.depth) (room_at p) w p (m.dir && tells_members h.depth) itself.1
  gives (itself.0 ++ below.0, below.1)
