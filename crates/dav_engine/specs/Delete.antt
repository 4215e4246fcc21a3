-- DELETE (RFC 4918, section 9.6).
use Rattle.std.specs.Prelude.{Bool, true, false, List, [], ◌∷◌, map, codes, Option, Some, None, Result, Ok, Err}
use Rattle.http_header.specs.HeaderMap.{get_all}
use Rattle.dav_core.specs.declared.errors.DavError.{DavError}
use Rattle.dav_core.specs.declared.errors.DavError.TheVariants as dav
use Rattle.dav_core.specs.declared.fs.DavMetaData.{DavMetaData}
use Rattle.dav_core.specs.declared.method.DavMethod.TheVariants as method
use Rattle.dav_core.specs.Asking.{Metadata}
use Rattle.dav_core.specs.Path.{PathText, names}
use Rattle.dav_headers.specs.Depth.{IsDepth}
use Rattle.dav_headers.specs.declared.depth.Depth.{Depth}
use Rattle.dav_headers.specs.declared.depth.Depth.TheVariants.{Default, Zero, One, Infinity}
use Rattle.dav_engine.specs.Caller.{Caller, requester}
use Rattle.dav_engine.specs.Conditions.{Conditions, AreConditions, guarded}
use Rattle.dav_engine.specs.Folder.{closed}
use Rattle.dav_engine.specs.Headers.{Headers, Decodes}
use Rattle.dav_engine.specs.Method.{MethodPlan, ◌>>=◌, require_member, drop_locks, ask_for, gives}
use Rattle.dav_engine.specs.Multistatus.{status_reply, multi_reply}
use Rattle.dav_engine.specs.Plan.{Done}
use Rattle.dav_engine.specs.Removal.{Fault, report_of, removal}
use Rattle.dav_engine.specs.Reply.{Reply}

-- What the headers of a DELETE say: its conditions and its depth (RFC 4918, sections 9.6.1 and 10.2).
pub record DeleteHeaders : Type 0 where
  pub conditions : Conditions
  pub depth : Option Depth

-- What the headers of a DELETE of p say; a header that doesn't decode counts as absent (RFC 4918, sections 9.6.1 and 10.2).
pub record AreDeleteHeaders (headers : Headers) (p : PathText) (h : DeleteHeaders) : Type 0 where
  pub conditions : AreConditions headers p.prefix (names p) h.conditions
  pub depth : Decodes IsDepth (get_all headers (codes "depth")) h.depth

-- Whether a request is of everything below its path too: without Depth it is, and at Depth 0 it isn't. 400 for Depth 1
-- (RFC 4918, sections 9.6.1 and 10.2).
abbrev pub whole_depth : Option Depth → Result Bool DavError
whole_depth None = Ok true
whole_depth (Some Default) = Ok true
whole_depth (Some Zero) = Ok false
whole_depth (Some One) = Err (dav.Status 400)
whole_depth (Some Infinity) = Ok true

-- The checks before anything is removed: 412 where a condition fails, 423 where a lock at the path or below it conflicts, or
-- one on the folder above it (RFC 4918, sections 7.4 and 7.5).
abbrev pub delete_allowed : Conditions → PathText → Caller → DavMetaData → MethodPlan (Unit {0})
delete_allowed c p who found = do
  tokens ← guarded dav.Status method.Delete c (Some found)
  require_member true true (requester who tokens) (names p) (dav.Status 423)

-- Where nothing stays, the locks at the path and below it end (RFC 4918, section 9.6).
abbrev pub drop_if_gone : PathText → List Fault → MethodPlan (Unit {0})
drop_if_gone p (f ∷ faults) = gives tt
drop_if_gone p [] = drop_locks (names p)

-- The reply to a DELETE: 204 where nothing stays, else it reports what stays (RFC 4918, section 9.6.1).
abbrev pub delete_reply : PathText → List Fault → Result Reply DavError
delete_reply p [] = Ok (status_reply 204)
delete_reply p (f ∷ faults) = multi_reply p (map report_of (f ∷ faults))

-- a DELETE of what was found at a path
abbrev pub delete_found : Bool → Conditions → PathText → Caller → DavMetaData → MethodPlan Reply
delete_found deep c p who found = do
  _ ← delete_allowed c p who found
  faults ← removal deep who.moment p found.dir
  _ ← drop_if_gone p faults
  Done (delete_reply p faults)

-- DELETE, with its conditions and its depth: the path of a folder is taken with a slash at its end
abbrev pub deleting : Conditions → Option Depth → PathText → Caller → MethodPlan Reply
deleting c depth p who = do
  deep ← Done (whole_depth depth)
  found ← ask_for (Metadata (names p))
  delete_found deep c (closed found.dir p) who found

-- DELETE, with what its headers say (RFC 4918, section 9.6)
abbrev pub delete : DeleteHeaders → PathText → Caller → MethodPlan Reply
delete h p who = deleting h.conditions h.depth p who

-- the plan is that of a DELETE with these headers, of this path, by this client (RFC 4918, section 9.6)
pub data IsDelete (headers : Headers) (p : PathText) (who : Caller) : MethodPlan Reply → Type 0 where
  is_delete : (h : DeleteHeaders) → AreDeleteHeaders headers p h → IsDelete headers p who (delete h p who)
