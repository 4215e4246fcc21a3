-- Plans that spare what a lock covers, part by part; and those of PUT, PATCH and MKCOL.
use Rattle.std.proofs.Common.{◌≡◌, ℕ, ◌==◌, Bool, true, false, true≢false, List, length, if◌then◌else◌, Option, Some, None, Result, Ok, Err, refl, sym, subst, ◌∙◌, not}
use Rattle.std.specs.Bool.{⊤}
use Rattle.std.specs.Result.{result_ok, is_ok}
use Rattle.dav_core.specs.declared.errors.FsError.{FsError}
use Rattle.dav_core.specs.declared.errors.DavError.{DavError}
use Rattle.dav_core.specs.declared.errors.DavError.TheVariants as dav
use Rattle.dav_core.specs.declared.fs.DavMetaData.{DavMetaData}
use Rattle.dav_core.specs.declared.method.DavMethod.{DavMethod}
use Rattle.dav_core.specs.declared.method.DavMethod.TheVariants.{MkCol}
use Rattle.dav_core.specs.Asking.{Call, Metadata, CreateDir, Write, Flush, FileMetadata}
use Rattle.dav_core.specs.Handle.{Handle, Opening}
use Rattle.dav_core.specs.Locks.{Lock, covers, is_free_for, is_free_parent, Requester}
use Rattle.dav_core.specs.Path.{Path, PathText, names}
use Rattle.dav_engine.specs.declared.methods.put.headers.Writing.{Writing}
use Rattle.dav_engine.specs.Caller.{Caller, requester}
use Rattle.dav_engine.specs.Conditions.{Conditions, Addressed, if_holds, submitted, http_conditions, unless, guarded, status_as}
use Rattle.dav_engine.specs.Method.{MethodPlan, then as followed_by, ◌>>=◌, require, require_free, is_open, gives, refused_as, ask_for, require_parent, require_member, is_open_parent}
use Rattle.dav_engine.specs.Mkcol.{mkcol, mkcol_checks, create_error, is_mkcol}
use Rattle.dav_engine.specs.Plan.{Done}
use Rattle.dav_engine.specs.Put.{PutHeaders, writing_of, put_opening, is_announced, sought, store, put_checks, put_body, bytes_of_body, is_put}
use Rattle.dav_engine.specs.Guard.{Guards, IsListed, StillGuards}
use Rattle.dav_engine.specs.Sparing.{OpenFile, Anything, AnyList, Sparing, spares_ok, spares_err, spares_reads, spares_call, spares_opens, spares_seeks, spares_writes, spares_look, spares_keep, spares_last}
use Rattle.dav_engine.specs.SparingPlans.{ReadingSpares, PutSpares, MkcolSpares}
use Rattle.dav_engine.proofs.GuardedFolders.{stands_guarded, free_passes}
use Rattle.dav_engine.specs.WorldLaws.{OnlyReads, IsReading, reads_done, reads_ask, reads_look}
use Rattle.dav_engine.proofs.PutWorld.{look_reads, only_if}
use Rattle.dav_engine.proofs.WorldPlans.{Only, only_done, only_ask, only_look}

-- ---- parts

-- what a part of a plan ends with: with this file open, and Q of its value
abbrev pub At : {A : Type 0} → Option OpenFile → (A → Type 0) → Option OpenFile → A → Type 0
At file Q now a = (now ≡ file) × Q a

-- one part after another
pub spare_bind : {A B : Type 0} {covered : Path → Bool} {G E : List Lock → Type 0} {whole : Bool} {Q : A → Type 0} {R : Option OpenFile → B → Type 0} {end file : Option OpenFile} {plan : MethodPlan A} (f : A → MethodPlan B)
    → Sparing covered G E false (At end Q) file plan → ((a : A) → Q a → Sparing covered G E whole R end (f a)) → Sparing covered G E whole R file (plan >>= f)
spare_bind {covered = covered} {G} {E} {whole} {R = R} f (spares_ok {a = a} (same, q)) more = subst (λ now. Sparing covered G E whole R now (f a)) (sym same) (more a q)
spare_bind f spares_err more = spares_err
spare_bind f (spares_reads {c = c} only next) more = spares_reads {c = c} only (λ answer. spare_bind f (next answer) more)
spare_bind f (spares_call {c = c} out next) more = spares_call {c = c} out (λ answer. spare_bind f (next answer) more)
spare_bind f (spares_opens out next failed) more = spares_opens out (λ k. spare_bind f (next k) more) (λ e. spare_bind f (failed e) more)
spare_bind f (spares_seeks next failed) more = spares_seeks (λ place j same. spare_bind f (next place j same) more) (λ e. spare_bind f (failed e) more)
spare_bind f (spares_writes is out next) more = spares_writes is out (λ answer. spare_bind f (next answer) more)
spare_bind f (spares_look next) more = spares_look (λ ls g. spare_bind f (next ls g) more)
spare_bind f (spares_keep guards next) more = spares_keep guards (spare_bind f next more)
spare_bind f (spares_last is ends) more = cc

-- an outcome, and what follows it
pub spare_then : {A B : Type 0} {covered : Path → Bool} {G E : List Lock → Type 0} {whole : Bool} {R : Option OpenFile → B → Type 0} {file : Option OpenFile} (r : Result A DavError) (f : A → MethodPlan B)
    → ((a : A) → r ≡ Ok a → Sparing covered G E whole R file (f a)) → Sparing covered G E whole R file (followed_by r f)
spare_then (Ok a) f more = more a refl
spare_then (Err e) f more = spares_err

-- what only looks
pub spare_only : {A : Type 0} {covered : Path → Bool} {G E : List Lock → Type 0} {P : Call → Type 0} {file : Option OpenFile} {plan : MethodPlan A} → ((c : Call) → P c → OnlyReads c) → Only P plan → Sparing covered G E false (At file (λ a. ⊤)) file plan
spare_only {plan = Done (Ok a)} reads only_done = spares_ok (refl, tt)
spare_only {plan = Done (Err e)} reads only_done = spares_err
spare_only reads (only_ask {c = c} is more) = spares_reads {c = c} (reads c is) (λ answer. spare_only reads (more answer))
spare_only reads (only_look more) = spares_look (λ ls g. spare_only reads (more (Some ls)))

-- a plan that only reads
pub spare_reading : {A : Type 0} {covered : Path → Bool} {G E : List Lock → Type 0} {file : Option OpenFile} {plan : MethodPlan A} → IsReading plan → Sparing covered G E true Anything file plan
spare_reading {plan = Done (Ok a)} reads_done = spares_ok tt
spare_reading {plan = Done (Err e)} reads_done = spares_err
spare_reading (reads_ask {c = c} is more) = spares_reads {c = c} is (λ answer. spare_reading (more answer))
spare_reading (reads_look more) = spares_look (λ ls g. spare_reading (more (Some ls)))

-- ---- conditions and locks

-- where the check of the folder above a path is wanted, that folder is free, by a list of which G is known
abbrev pub IsOpenAbove : (List Lock → Type 0) → Bool → Requester → Path → Type 0
IsOpenAbove G wanted who p = wanted ≡ true → (ls : List Lock) × G ls × (is_free_parent who p ls ≡ true)

-- the tokens that conditions give are those that are submitted
abbrev VerdictTells : Option (List Addressed) → Result (List (List ℕ)) ℕ → Type 0
VerdictTells lists (Ok tokens) = tokens ≡ submitted lists
VerdictTells lists (Err status) = ⊤

module _ (covered : Path → Bool) (G E : List Lock → Type 0) where
  if_only : (lists : Option (List Addressed)) → Sparing covered G E false (At None (λ holds. ⊤)) None (if_holds lists)
  if_only lists = spare_only look_reads (only_if lists)

  spare_held : (lists : Option (List Addressed)) (b : Bool) → VerdictTells lists (if b then Ok (submitted lists) else Err 412)
  spare_held lists true = refl
  spare_held lists false = tt

  spare_unless : (lists : Option (List Addressed)) (o : Option ℕ) (next : MethodPlan (Result (List (List ℕ)) ℕ))
      → Sparing covered G E false (At None (VerdictTells lists)) None next → Sparing covered G E false (At None (VerdictTells lists)) None (unless o next)
  spare_unless lists (Some status) next is = spares_ok (refl, tt)
  spare_unless lists None next is = is

  spare_judged : (f : ℕ → DavError) (lists : Option (List Addressed)) (verdict : Result (List (List ℕ)) ℕ) → VerdictTells lists verdict
      → Sparing covered G E false (At None (λ tokens. tokens ≡ submitted lists)) None (Done (status_as f verdict))
  spare_judged f lists (Ok tokens) tells = spares_ok (refl, tells)
  spare_judged f lists (Err status) tells = spares_err

  -- conditions, and the tokens that they give
  pub spare_guarded : (f : ℕ → DavError) (m : DavMethod) (c : Conditions) (found : Option DavMetaData) → Sparing covered G E false (At None (λ tokens. tokens ≡ submitted c.lists)) None (guarded f m c found)
  spare_guarded f m c found =
      spare_bind (λ verdict. Done (status_as f verdict))
      (spare_unless c.lists (http_conditions m c.if_match c.if_none_match found) _ (spare_bind _ (if_only c.lists) (λ holds _. spares_ok (refl, spare_held c.lists holds))))
      (spare_judged f c.lists)

  module _ {Q : Type 0} where
    spare_test : (who : Requester) (p : Path) (e : DavError) (ls : List Lock) → G ls → (b : Bool) → is_open_parent who p (Some ls) ≡ b → (IsOpenAbove G true who p → Q)
        → Sparing covered G E false (At None (λ (u : Unit {0}). Q)) None (require b e)
    spare_test who p e ls g true is gets = spares_ok (refl, gets (λ wanted. (ls, g, is)))
    spare_test who p e ls g false is gets = spares_err

    -- the check of the folder above, and what follows from it
    pub spare_parent : (wanted : Bool) (who : Requester) (p : Path) (e : DavError) → (IsOpenAbove G wanted who p → Q) → Sparing covered G E false (At None (λ (u : Unit {0}). Q)) None (require_parent wanted who p e)
    spare_parent false who p e gets = spares_ok (refl, gets (λ is. absurd (true≢false (sym is))))
    spare_parent true who p e gets = spares_look (λ ls g. spare_test who p e ls g (is_open_parent who p (Some ls)) refl gets)

    -- the same for the tokens that conditions give
    pub spare_above : (who : Caller) (lists : Option (List Addressed)) (wanted : Bool) (p : Path) (e : DavError) (tokens : List (List ℕ)) → tokens ≡ submitted lists
        → (IsOpenAbove G wanted (requester who (submitted lists)) p → Q) → Sparing covered G E false (At None (λ (u : Unit {0}). Q)) None (require_parent wanted (requester who tokens) p e)
    spare_above who lists wanted p e tokens same gets =
        spare_parent wanted (requester who tokens) p e (λ above. gets (subst (λ (ts : List (List ℕ)). IsOpenAbove G wanted (requester who ts) p) same above))

  module _ (who : Caller) (lists : Option (List Addressed)) (spares : (deep : Bool) (p : Path) (ls : List Lock) → G ls → is_free_for deep (requester who (submitted lists)) p ls ≡ true → covered p ≡ false) where
    spare_free_by : (deep : Bool) (p : Path) (e : DavError) (ls : List Lock) → G ls → (b : Bool) → is_open deep (requester who (submitted lists)) p (Some ls) ≡ b
        → Sparing covered G E false (At None (λ u. covered p ≡ false)) None (require b e)
    spare_free_by deep p e ls g true free = spares_ok (refl, spares deep p ls g free)
    spare_free_by deep p e ls g false free = spares_err

    -- what is free to a stranger isn't in the folder
    pub spare_free : (deep : Bool) (p : Path) (e : DavError) (tokens : List (List ℕ)) → tokens ≡ submitted lists
        → Sparing covered G E false (At None (λ u. covered p ≡ false)) None (require_free deep (requester who tokens) p e)
    spare_free deep p e tokens same =
        subst (λ (ts : List (List ℕ)). Sparing covered G E false (At None (λ u. covered p ≡ false)) None (require_free deep (requester who ts) p e)) (sym same)
        (spares_look (λ ls g. spare_free_by deep p e ls g (is_open deep (requester who (submitted lists)) p (Some ls)) refl))

    pub spare_member : {Q : Type 0} (deep changes : Bool) (p : Path) (e : DavError) (tokens : List (List ℕ)) → tokens ≡ submitted lists
        → (covered p ≡ false → IsOpenAbove G changes (requester who (submitted lists)) p → Q)
        → Sparing covered G E false (At None (λ (u : Unit {0}). Q)) None (require_member deep changes (requester who tokens) p e)
    spare_member deep changes p e tokens same gets = spare_bind _ (spare_free deep p e tokens same) (λ u out. spare_above who lists changes p e tokens same (λ above. gets out above))

  spare_require : (b : Bool) (e : DavError) → Sparing covered G E false (At None (λ u. ⊤)) None (require b e)
  spare_require true e = spares_ok (refl, tt)
  spare_require false e = spares_err

  -- ---- PUT and PATCH

  spare_sought : (p : Path) (m : ℕ) (place : Option ℕ) (file : Handle) → file.made ≡ m → Sparing covered G E false (At (Some (m, p)) (λ j. j.made ≡ m)) (Some (m, p)) (sought place file)
  spare_sought p m None file is = spares_ok (refl, is)
  spare_sought p m (Some k) file is = spares_seeks (λ place j same. spares_ok (refl, same ∙ is)) (λ e. spares_err)

  spare_answered : (p : Path) (m : ℕ) (answer : Result Handle FsError) → Sparing covered G E false (At (Some (m, p)) (λ j. ⊤)) (Some (m, p)) (Done (refused_as dav.FsError answer))
  spare_answered p m (Ok j) = spares_ok (refl, tt)
  spare_answered p m (Err e) = spares_err

  spare_written_by : (p : Path) (m : ℕ) (b : Bool) (file : Handle) (bytes : List ℕ) (now : ℕ) → covered p ≡ false → file.made ≡ m
      → Sparing covered G E false (At (Some (m, p)) (λ j. ⊤)) (Some (m, p)) (if b then gives file else ask_for (Write file bytes now))
  spare_written_by p m true file bytes now out is = spares_ok (refl, tt)
  spare_written_by p m false file bytes now out is = spares_writes is out (spare_answered p m)

  spare_store : (how : Opening) (place : Option ℕ) (p : Path) (bytes : List ℕ) (now : ℕ) (found : Bool) → covered p ≡ false
      → Sparing covered G E true Anything None (store how place p bytes now found)
  spare_store how place p bytes now found out =
      spares_opens out (λ k.
      spare_bind _ (spare_sought p k.made place k refl) (λ j is.
      spare_bind _ (spare_written_by p k.made (length bytes == 0) j bytes now out is) (λ i _.
      spares_reads {c = Flush i} tt (λ answer. spare_then (refused_as dav.FsError answer) _ (λ u _. spares_reads {c = FileMetadata i} tt (λ told. spares_ok tt))))))
      (λ e. spares_err)

  module _ (who : Caller) where
    -- what is free to a stranger isn't covered
    abbrev pub Uncovers : Conditions → Type 0
    Uncovers c = (deep : Bool) (x : Path) (ls : List Lock) → G ls → is_free_for deep (requester who (submitted c.lists)) x ls ≡ true → covered x ≡ false

    -- the checks after the store was asked what is there, and what follows from them
    pub spare_put_checks : {Q : Type 0} (m : DavMethod) (headers : PutHeaders) (p : Path) (bytes : List ℕ) → Uncovers headers.conditions → (answer : Result DavMetaData FsError)
        → (covered p ≡ false → IsOpenAbove G (not (is_ok answer)) (requester who (submitted headers.conditions.lists)) p → Q)
        → Sparing covered G E false (At None (λ (allowed : Writing × Bool). Q)) None (put_checks m headers p who bytes answer)
    spare_put_checks m headers p bytes stranger answer gets =
        spare_then (writing_of m headers (result_ok answer)) _ (λ w _.
        spare_bind _ (spare_guarded dav.StatusClose m headers.conditions (result_ok answer)) (λ tokens same.
        spare_bind _ (spare_member who headers.conditions.lists stranger false (not (is_ok answer)) p (dav.StatusClose 423) tokens same gets) (λ u out.
        spare_bind _ (spare_require (is_announced w.announced bytes) (dav.StatusClose 400)) (λ v _.
        spares_ok (refl, out)))))

    pub spare_put : (m : DavMethod) (headers : PutHeaders) (p : Path) (bytes : Option (List ℕ)) → Uncovers headers.conditions → Sparing covered G E true Anything None (put_body m headers p who bytes)
    spare_put m headers p None stranger = spares_err
    spare_put m headers p (Some bytes) stranger =
        spare_bind (λ (allowed : Writing × Bool). store (put_opening headers allowed.0) allowed.0.from p bytes who.moment allowed.1)
        (spares_reads {c = Metadata p} tt (λ answer. spare_put_checks m headers p bytes stranger answer (λ out above. out)))
        (λ allowed out. spare_store (put_opening headers allowed.0) allowed.0.from p bytes who.moment allowed.1 out)

    -- ---- MKCOL

    pub spare_mkcol_checks : {Q : Type 0} (c : Conditions) (p : PathText) → Uncovers c → (answer : Result DavMetaData FsError)
        → (covered (names p) ≡ false → IsOpenAbove G (not (is_ok answer)) (requester who (submitted c.lists)) (names p) → Q)
        → Sparing covered G E false (At None (λ (u : Unit {0}). Q)) None (mkcol_checks c p who answer)
    spare_mkcol_checks c p stranger answer gets =
        spare_bind _ (spare_guarded dav.Status MkCol c (result_ok answer)) (λ tokens same.
        spare_member who c.lists stranger false (not (is_ok answer)) (names p) (dav.Status 423) tokens same gets)

    pub spare_mkcol : (c : Conditions) (p : PathText) → Uncovers c → Sparing covered G E true Anything None (mkcol c p who)
    spare_mkcol c p stranger =
        spare_bind _
        (spares_reads {c = Metadata (names p)} tt (λ answer. spare_mkcol_checks c p stranger answer (λ out above. out)))
        (λ u out. spares_call {c = CreateDir (names p) who.moment} out (λ answer. spare_then (refused_as create_error answer) _ (λ v _. spares_ok tt)))

-- ---- those who don't hold the lock

pub reading_spares : ReadingSpares
reading_spares h plan reads = (spare_reading reads, spare_reading reads)

pub put_spares : PutSpares
put_spares h m headers p body who plan exclusive stranger (is_put hd are) =
    let unheld = stranger hd.conditions are.conditions in
    let who_asks = requester who (submitted hd.conditions.lists) in (
      spare_put (covers h) (IsListed h) AnyList who m hd (names p) (bytes_of_body body) (λ deep x ls listed free. free_passes h exclusive who_asks unheld x deep ls listed free),
      spare_put (covers h) (Guards h) (StillGuards h) who m hd (names p) (bytes_of_body body) (λ deep x ls guards free. free_passes h exclusive who_asks unheld x deep ls (stands_guarded guards) free),
    )

pub mkcol_spares : MkcolSpares
mkcol_spares h headers p who plan exclusive stranger (is_mkcol c are) =
    let unheld = stranger c are in
    let who_asks = requester who (submitted c.lists) in (
      spare_mkcol (covers h) (IsListed h) AnyList who c p (λ deep x ls listed free. free_passes h exclusive who_asks unheld x deep ls listed free),
      spare_mkcol (covers h) (Guards h) (StillGuards h) who c p (λ deep x ls guards free. free_passes h exclusive who_asks unheld x deep ls (stands_guarded guards) free),
    )
