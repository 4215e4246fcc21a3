-- Methods whose replies hold no tree.
use Rattle.std.proofs.Common.{ℕ, not, ◌==◌, List, length, Option, Some, None, Result, Ok, Err}
use Rattle.std.specs.declared.io.traits.SeekFrom.TheVariants.{Start}
use Rattle.dav_core.specs.declared.errors.FsError.{FsError}
use Rattle.dav_core.specs.declared.errors.DavError.TheVariants as dav
use Rattle.dav_core.specs.declared.fs.DavMetaData.{DavMetaData}
use Rattle.dav_core.specs.declared.method.DavMethod.{DavMethod}
use Rattle.dav_core.specs.declared.method.DavMethod.TheVariants.{Head}
use Rattle.dav_core.specs.Asking.{Metadata, Open, Read, Write, Seek, Flush, FileMetadata, CreateDir}
use Rattle.dav_core.specs.Handle.{Handle}
use Rattle.dav_core.specs.Path.{Path, PathText, names}
use Rattle.dav_engine.specs.Caller.{Caller}
use Rattle.dav_engine.specs.Conditions.{Conditions}
use Rattle.dav_engine.specs.Method.{MethodPlan, ask_for, gives, refused_as}
use Rattle.dav_engine.specs.Mkcol.{create_error, mkcol}
use Rattle.dav_engine.specs.Options.{options}
use Rattle.dav_engine.specs.Plan.{Done}
use Rattle.dav_engine.specs.Put.{PutHeaders, put_opening, open_error, unsatisfiable, sought, written, put_body}
use Rattle.dav_engine.specs.Reply.{Reply}
use Rattle.dav_engine.proofs.PutWorld.{only_put_allowed, only_mkcol_allowed, only_conditions}
use Rattle.dav_server.specs.Get.{reading, show, show_or_tell, unless_condition_status, get}
use Rattle.dav_http.proofs.SentFinds.{IsSent}
use Rattle.dav_http.proofs.SentLocks.{Any}
use Rattle.dav_http.proofs.SentPlans.{Sends, sends_ok, sends_err, sends_ask, sends_look, sends_then, sends_bind, sends_looked, sends_either, sends_required}

-- ---- PUT and PATCH

sought_sends : (place : Option ℕ) (file : Handle) → Sends Any (sought place file)
sought_sends None file = sends_ok tt
sought_sends (Some place) file = sends_ask {c = Seek file (Start place)} tt (λ answer says. sends_then (refused_as (λ _. unsatisfiable) answer) _ (λ moved is. sends_ok tt))

asked_any : {A : Type 0} (answer : Result A FsError) → Sends Any (Done (refused_as dav.FsError answer))
asked_any (Ok a) = sends_ok tt
asked_any (Err e) = sends_err

written_sends : (file : Handle) (bytes : List ℕ) (now : ℕ) → Sends Any (written file bytes now)
written_sends file bytes now = sends_either (length bytes == 0) (gives file) (ask_for (Write file bytes now)) (sends_ok tt) (sends_ask {c = Write file bytes now} tt (λ answer says. asked_any answer))

pub put_sends : (m : DavMethod) (h : PutHeaders) (p : Path) (who : Caller) (bytes : Option (List ℕ)) → Sends IsSent (put_body m h p who bytes)
put_sends m h p who None = sends_err
put_sends m h p who (Some bytes) =
    sends_looked _ (only_put_allowed m h p who bytes) (λ allowed.
    sends_ask {c = Open p (put_opening h allowed.0) who.moment} tt (λ answer says. sends_then (refused_as (open_error (put_opening h allowed.0)) answer) _ (λ file is.
    sends_bind _ (sought_sends allowed.0.from file) (λ file u.
    sends_bind _ (written_sends file bytes who.moment) (λ file u.
    sends_ask {c = Flush file} tt (λ answer says. sends_then (refused_as dav.FsError answer) _ (λ done is.
    sends_ask {c = FileMetadata file} tt (λ answer says. sends_ok tt))))))))

-- ---- MKCOL and OPTIONS

pub mkcol_sends : (c : Conditions) (p : PathText) (who : Caller) → Sends IsSent (mkcol c p who)
mkcol_sends c p who =
    sends_looked _ (only_mkcol_allowed c p who) (λ allowed.
    sends_ask {c = CreateDir (names p) who.moment} tt (λ answer says. sends_then (refused_as create_error answer) _ (λ done is. sends_ok tt)))

pub options_sends : (allowed : ℕ) (p : PathText) → Sends IsSent (options allowed p)
options_sends allowed p = sends_ask {c = Metadata (names p)} tt (λ answer says. sends_look (λ ls all. sends_ok tt))

-- ---- GET and HEAD

show_sends : (p : Path) (now : ℕ) (file : DavMetaData) → Sends IsSent (show p now file)
show_sends p now file =
    sends_ask {c = Open p reading now} tt (λ answer says. sends_then (refused_as dav.FsError answer) _ (λ handle is.
    sends_ask {c = Read handle file.len} tt (λ answer says. sends_then (refused_as dav.FsError answer) _ (λ bytes is. sends_ok tt))))

show_or_tell_sends : (m : DavMethod) (p : Path) (now : ℕ) (file : DavMetaData) → Sends IsSent (show_or_tell m p now file)
show_or_tell_sends Head p now file = sends_ok tt
show_or_tell_sends _ p now file = show_sends p now file

judged_sends : (verdict : Option ℕ) (found : DavMetaData) (next : MethodPlan Reply) → Sends IsSent next → Sends IsSent (unless_condition_status verdict found next)
judged_sends None found next is = is
judged_sends (Some status) found next is = sends_either (status == 304) _ _ (sends_ok tt) sends_err

pub get_sends : (m : DavMethod) (c : Conditions) (p : Path) (now : ℕ) → Sends IsSent (get m c p now)
get_sends m c p now =
    sends_ask {c = Metadata p} tt (λ answer says. sends_then (refused_as dav.FsError answer) _ (λ found is.
    sends_required (not found.dir) (dav.Status 405) _
    (sends_looked _ (only_conditions m c (Some found)) (λ verdict. judged_sends verdict found (show_or_tell m p now found) (show_or_tell_sends m p now found)))))
