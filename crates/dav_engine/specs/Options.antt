-- OPTIONS (RFC 9110, section 9.3.7; RFC 4918, section 10.1).
use Rattle.std.specs.Prelude.{ℕ, ◌++◌, ◌==◌, ◌&&◌, ◌||◌, bytes_eq, Bool, true, false, not, List, [], ◌∷◌, codes, if◌then◌else◌, Option, Some, None}
use Rattle.std.specs.Int.{bit_at}
use Rattle.std.specs.List.{filter, join_by}
use Rattle.std.specs.Result.{result_ok}
use Rattle.dav_core.specs.declared.fs.DavMetaData.{DavMetaData}
use Rattle.dav_core.specs.declared.method.DavMethod.{DavMethod}
use Rattle.dav_core.specs.declared.method.DavMethod.TheVariants as method
use Rattle.dav_core.specs.Asking.{Metadata}
use Rattle.dav_core.specs.Method.{place_of, method_name}
use Rattle.dav_core.specs.Path.{PathText, names, star}
use Rattle.dav_engine.specs.declared.reply.ReplyBody.TheVariants as reply
use Rattle.dav_engine.specs.Method.{MethodPlan, ◌>>=◌, has_locks, look, answer_of, gives}
use Rattle.dav_engine.specs.Reply.{Reply, content_length}

-- The methods that only a file allows, if it is one.
abbrev pub methods_of_file : Bool → List DavMethod
methods_of_file false = []
methods_of_file true = method.Head ∷ method.Get ∷ method.Patch ∷ method.Put ∷ []

-- The methods that what is there allows, if it may go away: the root may not.
abbrev pub methods_of_member : Bool → List DavMethod
methods_of_member false = []
methods_of_member true = method.Move ∷ method.Delete ∷ []

-- The methods that what is there allows, by whether it is a file, and whether it may go away. PROPPATCH, which is served, isn't
-- among them (RFC 9110, section 9.3.7).
abbrev pub methods_found : Bool → Bool → List DavMethod
methods_found file member =
    methods_of_file file ++ (method.Options ∷ method.PropFind ∷ method.Copy ∷ []) ++ methods_of_member member ++ (method.Lock ∷ method.Unlock ∷ [])

-- The methods that a path allows at which nothing is (RFC 9110, section 9.3.7).
abbrev pub methods_missing : List DavMethod
methods_missing = method.Options ∷ method.MkCol ∷ method.Put ∷ method.Lock ∷ []

-- Whether the path, after its prefix, is one slash.
abbrev pub is_root : PathText → Bool
is_root p = bytes_eq p.bytes (codes "/")

-- The methods that a path allows, by what was found there.
abbrev pub methods_at : PathText → Option DavMetaData → List DavMethod
methods_at p None = methods_missing
methods_at p (Some m) = methods_found (not m.dir) (not (is_root p))

-- The methods that a path allows, by what was found there; the whole server, `*`, allows those of a file, whatever was found
-- (RFC 9110, section 9.3.7).
abbrev pub methods_for : PathText → Option DavMetaData → List DavMethod
methods_for p found = if bytes_eq p.bytes star then methods_found true true else methods_at p found

-- Whether a method needs a lock system.
abbrev pub needs_locks : DavMethod → Bool
needs_locks method.Lock = true
needs_locks method.Unlock = true
needs_locks _ = false

-- whether a server with this set of allowed methods offers a method, by whether it has a lock system (RFC 9110, section 10.2.1)
abbrev pub is_offered : ℕ → Bool → DavMethod → Bool
is_offered allowed locks m = (bit_at allowed (place_of m) == 1) && (locks || not (needs_locks m))

-- the methods of a list that are offered, in order (RFC 9110, section 10.2.1)
abbrev pub offered : ℕ → Bool → List DavMethod → List DavMethod
offered allowed locks ms = filter (is_offered allowed locks) ms

-- the names of methods, with commas between them (RFC 9110, section 10.2.1)
abbrev pub listed : List DavMethod → List ℕ
listed ms = join_by method_name (codes ",") ms

-- The reply to an OPTIONS: 200, with the compliance classes in DAV, which are the same without a lock system
-- (RFC 4918, sections 10.1 and 18), and the methods in Allow (RFC 9110, section 10.2.1).
abbrev pub options_reply : List DavMethod → Reply
options_reply ms = record {
  status = 200;
  headers = (codes "dav", codes "1,2,3,sabredav-partialupdate") ∷ (codes "ms-author-via", codes "DAV") ∷ content_length 0 ∷ (codes "allow", listed ms) ∷ [];
  body = reply.Nothing;
}

-- The plan of an OPTIONS, on a server that allows these methods; a refusal of the store counts as nothing found
-- (RFC 9110, section 9.3.7; RFC 4918, section 10.1).
abbrev pub options : ℕ → PathText → MethodPlan Reply
options allowed p = do
  found ← answer_of (Metadata (names p))
  locks ← look
  gives (options_reply (offered allowed (has_locks locks) (methods_for p (result_ok found))))
