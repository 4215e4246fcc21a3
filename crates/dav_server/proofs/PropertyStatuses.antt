-- What statuses a PROPPATCH results in.
use Rattle.std.proofs.Common.{◌≢◌, ℕ, Bool, true, false, List, [], ◌∷◌, Option, Some, None, Result, Ok, refl, arith}
use Rattle.dav_core.specs.declared.errors.FsError.{FsError}
use Rattle.dav_core.specs.declared.errors.DavError.{DavError}
use Rattle.dav_core.specs.declared.errors.DavError.TheVariants as dav
use Rattle.dav_core.specs.declared.fs.DavMetaData.{DavMetaData}
use Rattle.dav_core.specs.declared.method.DavMethod.TheVariants.{PropPatch}
use Rattle.dav_core.specs.Path.{PathText, names}
use Rattle.dav_engine.specs.declared.request.Body.{Body}
use Rattle.dav_engine.specs.Caller.{Caller, requester}
use Rattle.dav_engine.specs.Conditions.{Conditions, guarded}
use Rattle.dav_engine.specs.Folder.{closed, location_found}
use Rattle.dav_engine.specs.Method.{◌>>=◌, require_free, required, refused_as, gives}
use Rattle.dav_engine.specs.Properties.{has_properties}
use Rattle.dav_engine.specs.Proppatch.{Change, changes_in, answered_at_once, to_store, has_refused, store_changes, change_all, proppatch_reply, patch_properties, proppatch}
use Rattle.dav_engine.specs.Reply.{Reply, Header}
use Rattle.dav_server.proofs.PlanStatuses.{Outcome, Any, Ends, ends_done, ends_ask, ends_bind, ends_then, IsOther, AnswersOther, store_other, ends_guarded, ends_free}

-- ---- PROPPATCH

-- the reply to a PROPPATCH has one of these statuses, where its errors are such
module _ (E : DavError → Type 0) (P : ℕ → Type 0) (several : P 207) (store : (A : Type 0) (answer : Result A FsError) → Outcome E Any (refused_as dav.FsError answer)) (unread : E dav.XmlParseError) where
  abbrev Patched : Reply → Type 0
  Patched r = P r.status

  ends_has : (p : PathText) → Ends E Any (has_properties p)
  ends_has p = ends_ask (λ answer. ends_done tt)

  ends_stored : (p : PathText) (stored : List Change) → Ends E Any (store_changes p stored)
  ends_stored p [] = ends_done tt
  ends_stored p (c ∷ cs) = ends_ask (λ answer. ends_done (store _ answer))

  ends_changed : (p : PathText) (refused : Bool) (answers : List (ℕ × Change)) (stored : List Change) → Ends E Any (change_all p refused answers stored)
  ends_changed p true answers stored = ends_done tt
  ends_changed p false answers stored = ends_bind _ (ends_stored p stored) (λ done any. ends_done tt)

  ends_patch : (p : PathText) (location : List Header) (changes : List Change) → Ends E Patched (patch_properties p location changes)
  ends_patch p location changes =
      ends_bind (λ has. change_all p (has_refused (answered_at_once has changes)) (answered_at_once has changes) (to_store has changes) >>= (λ told. gives (proppatch_reply location p told))) (ends_has p) (λ has any.
      ends_bind (λ told. gives (proppatch_reply location p told)) (ends_changed p (has_refused (answered_at_once has changes)) (answered_at_once has changes) (to_store has changes)) (λ told any. ends_done {r = Ok (proppatch_reply location p told)} several))

  ends_read : (o : Option (List Change)) → Outcome E Any (required o dav.XmlParseError)
  ends_read None = unread
  ends_read (Some changes) = tt

  pub ends_patching : (c : Conditions) (p : PathText) (content : Body) (who : Caller) → ((found : DavMetaData) → Ends E Any (guarded dav.Status PropPatch c (Some found)))
      → ((tokens : List (List ℕ)) (q : PathText) → Ends E Any (require_free false (requester who tokens) (names q) (dav.Status 423))) → Ends E Patched (proppatch c p content who)
  ends_patching c p content who guards free =
      ends_ask (λ answer. ends_then (refused_as dav.FsError answer) _ (store _ answer) (λ found any.
      ends_bind _ (guards found) (λ tokens any.
      ends_bind _ (free tokens (closed found.dir p)) (λ u any.
      ends_then (required (changes_in content) dav.XmlParseError) _ (ends_read (changes_in content)) (λ changes any. ends_patch (closed found.dir p) (location_found (Some found) p) changes)))))

abbrev IsOtherStatus : ℕ → Type 0
IsOtherStatus status = status ≢ 304

pub ends_proppatch : (c : Conditions) (p : PathText) (content : Body) (who : Caller) → Ends IsOther AnswersOther (proppatch c p content who)
ends_proppatch c p content who =
    ends_patching IsOther IsOtherStatus (λ same. absurd (omega (arith, same))) (λ A answer. store_other answer) (λ same. absurd (omega (arith, same))) c p content who
    (λ found. ends_guarded dav.Status PropPatch c (Some found) (λ status other. other) refl)
    (λ tokens q. ends_free false (requester who tokens) (names q) (dav.Status 423) (λ same. absurd (omega (arith, same))))
