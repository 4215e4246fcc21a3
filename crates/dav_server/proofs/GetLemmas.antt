-- The outcomes of the parts of GET and HEAD.
use Rattle.std.proofs.Common.{◌≡◌, ◌≢◌, ◌==◌, if◌then◌else◌, not, ℕ, true, false, Option, Some, Result, Ok, Err, refl, sym, subst}
use Rattle.dav_core.specs.declared.errors.FsError.{FsError}
use Rattle.dav_core.specs.declared.errors.DavError.{DavError}
use Rattle.dav_core.specs.declared.errors.DavError.TheVariants as dav
use Rattle.dav_core.specs.declared.fs.DavMetaData.{DavMetaData}
use Rattle.dav_core.specs.declared.method.DavMethod.{DavMethod}
use Rattle.dav_core.specs.declared.method.DavMethod.TheVariants.{Head, Get, Put, Patch, Options, PropFind, PropPatch, MkCol, Copy, Move, Delete, Lock, Unlock, Report, MkCalendar, MkAddressbook}
use Rattle.dav_core.specs.Asking.{StoreState, Asks, Metadata, Open}
use Rattle.dav_core.specs.Handle.{Handle, Opening}
use Rattle.dav_core.specs.Path.{Path}
use Rattle.dav_engine.specs.declared.reply.Reply as coded
use Rattle.dav_engine.specs.Conditions.{Conditions, if_match}
use Rattle.dav_engine.specs.Follows.{as_is, Follows, viewed, or_memory}
use Rattle.dav_engine.specs.Method.{MethodPlan, gives, fails}
use Rattle.dav_engine.specs.Plan.{Locks}
use Rattle.dav_engine.specs.Reply.{Reply}
use Rattle.dav_engine.proofs.Theorems.{follows_ask, follows_done, follows_on, follows_then, follows_err}
use Rattle.dav_server.specs.Get.{get, show, show_or_tell, unless_condition_status, not_modified}

-- a file that was opened in the same way
pub opened_as : {p : Path} {how other : Opening} {now : ℕ} {old new : StoreState} {answer : Result Handle FsError} → other ≡ how → Asks (Open p other now) old answer new → Asks (Open p how now) old answer new
opened_as {p} {now = now} {old} {new} {answer} same one = subst (λ o. Asks (Open p o now) old answer new) same one

-- any method but HEAD answers with the file's bytes
pub shows : {s t : StoreState} {ls : Locks} {r : Result coded.Reply DavError} (p : Path) (now : ℕ) (found : DavMetaData) (m : DavMethod) → m ≢ Head
    → Follows as_is (show p now found) s ls r t ls → Follows as_is (show_or_tell m p now found) s ls r t ls
shows p now found Head other done = absurd (other refl)
shows p now found Get other done = done
shows p now found Put other done = done
shows p now found Patch other done = done
shows p now found Options other done = done
shows p now found PropFind other done = done
shows p now found PropPatch other done = done
shows p now found MkCol other done = done
shows p now found Copy other done = done
shows p now found Move other done = done
shows p now found Delete other done = done
shows p now found Lock other done = done
shows p now found Unlock other done = done
shows p now found Report other done = done
shows p now found MkCalendar other done = done
shows p now found MkAddressbook other done = done

-- the client has the file already
pub has_it : (found : DavMetaData) (next : MethodPlan Reply) (status : ℕ) {s : StoreState} {ls : Locks} {r : Result coded.Reply DavError}
    → (status == 304) ≡ true → viewed as_is r ≡ Ok (not_modified found) → Follows as_is (unless_condition_status (Some status) found next) s ls r s ls
has_it found next status {s} {ls} {r} is same =
    subst (λ b. Follows as_is (if b then gives (not_modified found) else fails (dav.Status status)) s ls r s ls) (sym is) (follows_done same)

-- a condition fails
pub refuses_it : (found : DavMetaData) (next : MethodPlan Reply) (status : ℕ) {s : StoreState} {ls : Locks}
    → (status == 304) ≡ false → Follows as_is (unless_condition_status (Some status) found next) s ls (Err (dav.Status status)) s ls
refuses_it found next status {s} {ls} is =
    subst (λ b. Follows as_is (if b then gives (not_modified found) else fails (dav.Status status)) s ls (Err (dav.Status status)) s ls) (sym is) (follows_done refl)

-- what follows the conditions
abbrev after : DavMethod → Path → ℕ → DavMetaData → Option ℕ → MethodPlan Reply
after m p now found verdict = unless_condition_status verdict found (show_or_tell m p now found)

-- an evaluation of conditions that was followed, with an equal result
come : {E : Type 0} (m : DavMethod) (c : Conditions) (found : DavMetaData) {r w : Result (Option ℕ) E} {s t : StoreState} {ls : Locks} → r ≡ w
    → Follows (λ (v : Option ℕ). v) (if_match m c (Some found)) s ls (or_memory r) t ls → Follows (λ (v : Option ℕ). v) (if_match m c (Some found)) s ls (or_memory w) t ls
come {E} m c found {s = s} {t} {ls} is one = subst (λ (x : Result (Option ℕ) E). Follows (λ (v : Option ℕ). v) (if_match m c (Some found)) s ls (or_memory x) t ls) is one

-- memory ran out while the conditions were evaluated
pub get_stopped : {E : Type 0} (m : DavMethod) (c : Conditions) (p : Path) (now : ℕ) (found : DavMetaData) (r : Result (Option ℕ) E) (e : E) {old mid new : StoreState} {ls : Locks}
    → Asks (Metadata p) old (Ok found) mid → not found.dir ≡ true → r ≡ Err e
    → Follows (λ (v : Option ℕ). v) (if_match m c (Some found)) mid ls (or_memory r) new ls
    → Follows as_is (get m c p now) old ls (Err dav.Memory) new ls
get_stopped m c p now found r e asks file was one = follows_ask asks (follows_on _ _ _ file (follows_err (after m p now found) dav.Memory (come m c found was one)))

-- the conditions were evaluated, and the rest was followed
pub get_goes : {E : Type 0} (m : DavMethod) (c : Conditions) (p : Path) (now : ℕ) (found : DavMetaData) (r : Result (Option ℕ) E) (verdict told : Option ℕ) {old mid late new : StoreState} {ls : Locks} {end : Result coded.Reply DavError}
    → Asks (Metadata p) old (Ok found) mid → not found.dir ≡ true → r ≡ Ok verdict → verdict ≡ told
    → Follows (λ (v : Option ℕ). v) (if_match m c (Some found)) mid ls (or_memory r) late ls
    → Follows as_is (unless_condition_status told found (show_or_tell m p now found)) late ls end new ls
    → Follows as_is (get m c p now) old ls end new ls
get_goes m c p now found r verdict told {late = late} {new} {ls} {end} asks file was is one rest =
    follows_ask asks (follows_on _ _ _ file (follows_then (after m p now found) (come m c found was one)
    (subst (λ (v : Option ℕ). Follows as_is (after m p now found v) late ls end new ls) (sym is) rest)))
