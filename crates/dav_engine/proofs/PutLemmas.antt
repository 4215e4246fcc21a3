-- The outcomes of the parts of PUT.
use Rattle.std.proofs.Common.{◌≡◌, if◌then◌else◌, ℕ, ◌==◌, Bool, true, false, List, length, Option, Some, None, Result, Ok, Err, refl, sym, subst, ap, ◌∙◌}
use Rattle.dav_core.specs.declared.errors.FsError.{FsError}
use Rattle.dav_core.specs.declared.errors.DavError.{DavError}
use Rattle.dav_core.specs.declared.errors.DavError.TheVariants as dav
use Rattle.dav_core.specs.Asking.{StoreState, Asks, Write, FileMetadata}
use Rattle.dav_core.specs.Handle.{Handle, Opening}
use Rattle.dav_core.specs.Path.{Path}
use Rattle.dav_core.specs.declared.method.DavMethod.{DavMethod}
use Rattle.dav_engine.specs.declared.methods.put.headers.Writing.{Writing}
use Rattle.dav_engine.specs.declared.reply.Reply as coded
use Rattle.dav_engine.specs.Caller.{Caller}
use Rattle.dav_engine.specs.Plan.{Locks}
use Rattle.dav_engine.specs.Method.{refused_as, ask_for, gives}
use Rattle.dav_engine.specs.Follows.{as_is, Follows, viewed}
use Rattle.dav_engine.specs.Put.{PutHeaders, written, stored, store, put_opening, put_allowed, put, put_body}
use Rattle.dav_engine.specs.Reply.{Reply}
use Rattle.dav_core.specs.declared.fs.DavMetaData.{DavMetaData}
use Rattle.std.specs.Result.{result_ok}
use Rattle.dav_engine.proofs.Following.{follows_done, follows_ask, follows_then, follows_err, follows_up_to}

-- there were no bytes to write
pub written_none : {X : Type 0} {view : X → Handle} {s : StoreState} {ls : Locks} {r : Result X DavError} (file : Handle) (bytes : List ℕ) (now : ℕ)
    → (length bytes == 0) ≡ true → viewed view r ≡ Ok file → Follows view (written file bytes now) s ls r s ls
written_none {view = view} {s} {ls} {r} file bytes now none is =
    subst (λ b. Follows view (if b then gives file else ask_for (Write file bytes now)) s ls r s ls) (sym none) (follows_done is)

-- the bytes, or a copy of them, were written
pub written_some : {X : Type 0} {view : X → Handle} {old new : StoreState} {ls : Locks} {r : Result X DavError} (file : Handle) (bytes copy : List ℕ) (now : ℕ) (answer : Result Handle FsError)
    → (length bytes == 0) ≡ false → copy ≡ bytes → Asks (Write file copy now) old answer new → viewed view r ≡ refused_as dav.FsError answer
    → Follows view (written file bytes now) old ls r new ls
written_some {view = view} {old} {new} {ls} {r} file bytes copy now answer some same one is =
    subst (λ b. Follows view (if b then gives file else ask_for (Write file bytes now)) old ls r new ls) (sym some)
    (follows_ask (subst (λ (l : List ℕ). Asks (Write file l now) old answer new) same one) (follows_done is))

-- the metadata of a file that is as it was
pub told_same : {h k : Handle} {old new : StoreState} {answer : Result DavMetaData FsError} → k ≡ h → Asks (FileMetadata k) old answer new → Asks (FileMetadata h) old answer new
told_same {old = old} {new} {answer} same one = subst (λ f. Asks (FileMetadata f) old answer new) same one

-- the reply, by what the store reported
pub stored_as : {r : Reply} (found : Bool) (file : Option DavMetaData) (after : Result DavMetaData FsError)
    → r ≡ stored found file → file ≡ result_ok after → r ≡ stored found (result_ok after)
stored_as found file after is two = is ∙ ap (stored found) two

-- the checks ended in an error
pub put_ends : (m : DavMethod) (h : PutHeaders) (p : Path) (who : Caller) (bytes : List ℕ) (e : DavError) {old new : StoreState} {ls : Locks}
    → Follows (λ (x : Writing × Bool). x) (put_allowed m h p who bytes) old ls (Err e) new ls → Follows as_is (put m h p who bytes) old ls (Err e) new ls
put_ends m h p who bytes e one = follows_err (λ (a : Writing × Bool). store (put_opening h a.0) a.0.from p bytes who.moment a.1) e one

-- memory runs out before the file is opened
pub put_wants : (m : DavMethod) (h : PutHeaders) (p : Path) (who : Caller) (bytes : List ℕ) (x : Writing × Bool) {old new : StoreState} {ls : Locks}
    → Follows (λ (x : Writing × Bool). x) (put_allowed m h p who bytes) old ls (Ok x) new ls → Follows as_is (put m h p who bytes) old ls (Err dav.Memory) new ls
put_wants m h p who bytes x one = follows_then (λ (a : Writing × Bool). store (put_opening h a.0) a.0.from p bytes who.moment a.1) one follows_up_to

-- the bytes are stored
pub put_stores : (m : DavMethod) (h : PutHeaders) (p : Path) (who : Caller) (bytes : List ℕ) (x : Writing × Bool) (how : Opening) {old mid new : StoreState} {ls : Locks} {r : Result coded.Reply DavError}
    → Follows (λ (x : Writing × Bool). x) (put_allowed m h p who bytes) old ls (Ok x) mid ls → how ≡ put_opening h x.0
    → Follows as_is (store how x.0.from p bytes who.moment x.1) mid ls r new ls → Follows as_is (put m h p who bytes) old ls r new ls
put_stores m h p who bytes x how {mid = mid} {new} {ls} {r} one opened stores =
    follows_then (λ (a : Writing × Bool). store (put_opening h a.0) a.0.from p bytes who.moment a.1) one
    (subst (λ o. Follows as_is (store o x.0.from p bytes who.moment x.1) mid ls r new ls) opened stores)

-- the bytes of a body are stored
pub put_body_goes : (m : DavMethod) (h : PutHeaders) (p : Path) (who : Caller) (body : Option (List ℕ)) (bytes : List ℕ) {old new : StoreState} {ls ms : Locks} {r : Result coded.Reply DavError}
    → Some bytes ≡ body → Follows as_is (put m h p who bytes) old ls r new ms → Follows as_is (put_body m h p who body) old ls r new ms
put_body_goes m h p who body bytes {old} {new} {ls} {ms} {r} is goes = subst (λ b. Follows as_is (put_body m h p who b) old ls r new ms) is goes

-- a body that isn't bytes is answered 415
pub put_body_ends : (m : DavMethod) (h : PutHeaders) (p : Path) (who : Caller) (body : Option (List ℕ)) {s : StoreState} {ls : Locks}
    → None ≡ body → Follows as_is (put_body m h p who body) s ls (Err (dav.Status 415)) s ls
put_body_ends m h p who body {s} {ls} is = subst (λ b. Follows as_is (put_body m h p who b) s ls (Err (dav.Status 415)) s ls) is (follows_done refl)
