-- What a PROPFIND tells of is gathered without an error: only its depth, its target and its body may refuse it.
use Rattle.std.proofs.Common.{ℕ, zero, suc, ◌&&◌, Bool, true, false, List, [], ◌∷◌, Some, None, Result, Ok, Err}
use Rattle.std.specs.Prelude.{⊤}
use Rattle.dav_core.specs.declared.errors.FsError.{FsError}
use Rattle.dav_core.specs.declared.fs.DavMetaData.{DavMetaData}
use Rattle.dav_core.specs.Element.{ElementTree}
use Rattle.dav_core.specs.Path.{PathText}
use Rattle.dav_engine.specs.Folder.{child_of}
use Rattle.dav_engine.specs.Method.{MethodPlan}
use Rattle.dav_engine.specs.Properties.{Telling, Requested, AllProperties, NamesAlone, Outcomes, Others, Source, Here, Nowhere, AvailableQuota, UsedQuota, InStore, Writer, QuotaKnown, source, cached_quota, has_properties, kept_if, kept_property, found_in, found_property, found_properties, stored_properties, all_kept, properties_of}
use Rattle.dav_engine.specs.Propfind.{Below, tell_member, tell_if_found, tell_members, tell_listed, tell_below, tell_itself}
use Rattle.dav_engine.proofs.RemovalReports.{Gives, gives_done, gives_ask, gives_look, gives_bind}

-- no error ends the plan, whatever it gives
abbrev pub Answered : {A : Type 0} → MethodPlan A → Type 0
Answered plan = Gives (λ a. ⊤) plan

answered_quota : (known : QuotaKnown) → Answered (cached_quota known)
answered_quota (Some quota) = gives_done tt
answered_quota None = gives_ask (λ answer. gives_done tt)

answered_has : (p : PathText) → Answered (has_properties p)
answered_has p = gives_ask (λ answer. gives_done tt)

answered_kept_if : (p : PathText) (e : ElementTree) (has : Bool) → Answered (kept_if p e has)
answered_kept_if p e false = gives_done tt
answered_kept_if p e true = gives_ask (λ answer. gives_done tt)

answered_kept : (telling : Telling) (p : PathText) (e : ElementTree) → Answered (kept_property telling p e)
answered_kept Requested p e = gives_bind (has_properties p) _ (answered_has p) (λ has any. answered_kept_if p e has)
answered_kept AllProperties p e = gives_done tt
answered_kept NamesAlone p e = gives_done tt
answered_kept Outcomes p e = gives_done tt
answered_kept Others p e = gives_done tt

answered_all_if : (p : PathText) (has : Bool) → Answered (stored_properties p has)
answered_all_if p false = gives_done tt
answered_all_if p true = gives_ask (λ answer. gives_done tt)

answered_all_kept : (p : PathText) → Answered (all_kept p)
answered_all_kept p = gives_bind (has_properties p) _ (answered_has p) (λ has any. answered_all_if p has)

module _ (w : Writer) where
  answered_found_in : (e : ElementTree) (p : PathText) (m : DavMetaData) (known : QuotaKnown) (s : Source) → Answered (found_in w e p m known s)
  answered_found_in e p m known (Here told) = gives_done tt
  answered_found_in e p m known Nowhere = gives_done tt
  answered_found_in e p m known AvailableQuota = gives_bind (cached_quota known) _ (answered_quota known) (λ quota any. gives_done tt)
  answered_found_in e p m known UsedQuota = gives_bind (cached_quota known) _ (answered_quota known) (λ quota any. gives_done tt)
  answered_found_in e p m known InStore = gives_bind (kept_property w.telling p e) _ (answered_kept w.telling p e) (λ kept any. gives_done tt)

  answered_found : (p : PathText) (m : DavMetaData) (known : QuotaKnown) (e : ElementTree) → Answered (found_property w p m known e)
  answered_found p m known e = gives_look (λ ls. answered_found_in e p m known (source w e p m ls))

  answered_found_all : (p : PathText) (m : DavMetaData) (known : QuotaKnown) (es : List ElementTree) → Answered (found_properties w p m known es)
  answered_found_all p m known [] = gives_done tt
  answered_found_all p m known (e ∷ es) =
      gives_bind (found_property w p m known e) _ (answered_found p m known e) (λ one any.
      gives_bind (found_properties w p m one.1 es) _ (answered_found_all p m one.1 es) (λ more any. gives_done tt))

  answered_properties : (p : PathText) (m : DavMetaData) (known : QuotaKnown) → Answered (properties_of w p m known)
  answered_properties p m known =
      gives_bind (found_properties w p m known w.properties) _ (answered_found_all p m known w.properties) (λ found any.
      gives_bind (all_kept p) _ (answered_all_kept p) (λ kept any. gives_done tt))

  module _ (below : Below) (walk : (q : PathText) (dir : Bool) (known : QuotaKnown) → Answered (below q dir known)) where
    answered_member : (p : PathText) (m : DavMetaData) (known : QuotaKnown) → Answered (tell_member below w p m known)
    answered_member p m known =
        gives_bind (properties_of w p m known) _ (answered_properties p m known) (λ one any.
        gives_bind (below p m.dir one.1) _ (walk p m.dir one.1) (λ more any. gives_done tt))

    answered_seen : (p : PathText) (name : List ℕ) (known : QuotaKnown) (seen : Result DavMetaData FsError) → Answered (tell_if_found below w p name known seen)
    answered_seen p name known (Err e) = gives_done tt
    answered_seen p name known (Ok m) = answered_member (child_of p name m.dir) m known

    answered_members : (p : PathText) (known : QuotaKnown) (entries : List (List ℕ × Bool)) → Answered (tell_members below w p known entries)
    answered_members p known [] = gives_done tt
    answered_members p known (entry ∷ entries) = gives_ask (λ seen.
        gives_bind (tell_if_found below w p entry.0 known seen) _ (answered_seen p entry.0 known seen) (λ one any.
        gives_bind (tell_members below w p one.1 entries) _ (answered_members p one.1 entries) (λ more any. gives_done tt)))

    answered_listed : (p : PathText) (known : QuotaKnown) (listed : Result (List (List ℕ × Bool)) FsError) → Answered (tell_listed below w p known listed)
    answered_listed p known (Err e) = gives_done tt
    answered_listed p known (Ok entries) = answered_members p known entries

  -- what is below a path
  pub answered_below : (deep : Bool) (room : ℕ) (p : PathText) (dir : Bool) (known : QuotaKnown) → Answered (tell_below deep room w p dir known)
  answered_below deep room p false known = gives_done tt
  answered_below deep zero p true known = gives_done tt
  answered_below deep (suc room) p true known =
      gives_ask (λ listed. answered_listed (λ q dir now. tell_below deep room w q (dir && deep) now) (λ q dir now. answered_below deep room q (dir && deep) now) p known listed)

  -- the resource itself
  pub answered_itself : (told : Bool) (p : PathText) (m : DavMetaData) → Answered (tell_itself told w p m)
  answered_itself false p m = gives_done tt
  answered_itself true p m = gives_bind (properties_of w p m None) _ (answered_properties p m None) (λ one any. gives_done tt)
