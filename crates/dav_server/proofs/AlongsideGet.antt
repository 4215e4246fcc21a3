-- The GET and HEAD of a holder go along with themselves.
use Rattle.std.proofs.Common.{◌≡◌, ◌++◌, ℕ, Bool, true, false, not, List, [], if◌then◌else◌, Option, Some, None, Result, Ok, Err, refl, sym, ap, subst, ◌∙◌}
use Rattle.dav_core.specs.declared.errors.FsError.{FsError}
use Rattle.dav_core.specs.declared.errors.DavError.TheVariants as dav
use Rattle.dav_core.specs.declared.fs.DavMetaData.{DavMetaData}
use Rattle.dav_core.specs.declared.method.DavMethod.{DavMethod}
use Rattle.dav_core.specs.declared.method.DavMethod.TheVariants.{Head}
use Rattle.dav_core.specs.Asking.{Metadata, Read}
use Rattle.dav_core.specs.Handle.{Handle}
use Rattle.dav_core.specs.Locks.{Lock}
use Rattle.dav_core.specs.Path.{Path}
use Rattle.dav_engine.specs.Conditions.{Addressed, if_match}
use Rattle.dav_engine.specs.Method.{MethodPlan, then as followed_by, ◌>>=◌, require, gives, refused_as}
use Rattle.dav_engine.specs.Plan.{Done, Ask}
use Rattle.dav_engine.specs.Reply.{Reply}
use Rattle.dav_server.specs.Get.{shown, told, show, show_or_tell, unless_condition_status, get}
use Rattle.dav_engine.specs.AnswerParts.{answers_of, bytes_in}
use Rattle.dav_engine.specs.Guard.{folder_of, IsGuard, SubmitOnly}
use Rattle.dav_engine.specs.Alongside.{SameResult, SameMetadata, BothOpen, AreOpen, opened_at, Alongside, side_ok, side_err, side_asks, side_opens, side_reads, SameAnswers}
use Rattle.dav_engine.proofs.Theorems.{holders, side_bind, side_require, side_lists}

told_allows : (file : DavMetaData) → answers_of (told file) ≡ record { status = 200; items = []; bytes = None; allow = None }
told_allows m = elim m.number as (λ (o : Option ℕ). answers_of (told (record m { number = o })) ≡ record { status = 200; items = []; bytes = None; allow = None }) [ None ↦ refl | Some k ↦ refl ]

shown_allows : (file : DavMetaData) (bytes : List ℕ) → answers_of (shown file bytes) ≡ record { status = 200; items = []; bytes = bytes_in (shown file bytes).body; allow = None }
shown_allows m bytes = elim m.number as (λ (o : Option ℕ). answers_of (shown (record m { number = o }) bytes) ≡ record { status = 200; items = []; bytes = bytes_in (shown m bytes).body; allow = None }) [ None ↦ refl | Some k ↦ refl ]

shown_same : (m n : DavMetaData) (bytes others : List ℕ) → bytes ≡ others → SameAnswers (shown m bytes) (shown n others)
shown_same m n bytes others same =
    shown_allows m bytes ∙ ap (λ (x : List ℕ). record { status = 200; items = []; bytes = bytes_in (shown m x).body; allow = None }) same ∙ sym (shown_allows n others)

module _ (h : Lock) (guard : IsGuard h) (rest : Path) where
  abbrev Shown : Type 0
  Shown = List ℕ × Handle

  side_shown : (m n : DavMetaData) (file : BothOpen) (a b : Result Shown FsError) → SameResult (λ x y. (x.0 ≡ y.0) × AreOpen file x.1 y.1) a b
      → Alongside h true (λ file. SameAnswers) (Some file) (followed_by (refused_as dav.FsError a) (λ bytes. gives (shown m bytes.0))) (followed_by (refused_as dav.FsError b) (λ bytes. gives (shown n bytes.0)))
  side_shown m n file (Ok x) (Ok y) same = side_ok (shown_same m n x.0 y.0 same.0)
  side_shown m n file (Err e) (Err f) same = subst (λ d. Alongside h true (λ file. SameAnswers) (Some file) (Done (Err (dav.FsError e))) (Done (Err (dav.FsError d)))) same side_err
  side_shown m n file (Ok x) (Err f) same = absurd same
  side_shown m n file (Err e) (Ok y) same = absurd same

  side_show : (now : ℕ) (m n : DavMetaData) → SameMetadata m n → Alongside h true (λ file. SameAnswers) None (show (folder_of h ++ rest) now m) (show (folder_of h ++ rest) now n)
  side_show now m n told =
      side_opens rest (λ j k same.
      subst (λ (len : ℕ). Alongside h true (λ file. SameAnswers) (opened_at rest j k) (Ask (Read j m.len) (λ a. followed_by (refused_as dav.FsError a) (λ bytes. gives (shown m bytes.0)))) (Ask (Read k len) (λ a. followed_by (refused_as dav.FsError a) (λ bytes. gives (shown n bytes.0))))) told.len
      (side_reads {file = record { at = rest; here = j.made; alone = k.made }} (record { same = same; here = refl; alone = refl }) (side_shown m n (record { at = rest; here = j.made; alone = k.made }))))
      (λ e. side_err)

  side_file : (method : DavMethod) (now : ℕ) (m n : DavMetaData) → SameMetadata m n → Alongside h true (λ file. SameAnswers) None (show_or_tell method (folder_of h ++ rest) now m) (show_or_tell method (folder_of h ++ rest) now n)
  side_file Head now m n told = side_ok (told_allows m ∙ sym (told_allows n))
  side_file _ now m n told = side_show now m n told

  side_judged : (b : Bool) (m n : DavMetaData) (one other : MethodPlan Reply) → Alongside h true (λ file. SameAnswers) None one other
      → Alongside h true (λ file. SameAnswers) None (unless_condition_status (if b then None else Some 412) m one) (unless_condition_status (if b then None else Some 412) n other)
  side_judged true m n one other side = side
  side_judged false m n one other side = side_err

  side_found : (method : DavMethod) (now : ℕ) {ls : List Addressed} → SubmitOnly h ls → (a b : Result DavMetaData FsError) → SameResult SameMetadata a b
      → Alongside h true (λ file. SameAnswers) None
      (followed_by (refused_as dav.FsError a) (λ found. require (not found.dir) (dav.Status 405) >>= λ _. if_match method (holders ls) (Some found) >>= λ verdict. unless_condition_status verdict found (show_or_tell method (folder_of h ++ rest) now found)))
      (followed_by (refused_as dav.FsError b) (λ found. require (not found.dir) (dav.Status 405) >>= λ _. if_match method (holders ls) (Some found) >>= λ verdict. unless_condition_status verdict found (show_or_tell method (folder_of h ++ rest) now found)))
  side_found method now {ls} only (Ok m) (Ok n) told =
      side_bind _ _ (side_require (not m.dir) (not n.dir) (dav.Status 405) (ap not told.dir)) (λ u v _.
      side_bind {Q = λ x y. (b : Bool) × (x ≡ (if b then None else Some 412)) × (y ≡ (if b then None else Some 412))} _ _
      (side_bind _ _ (side_lists h guard only) (λ a b same. side_ok (refl, (a, refl, ap (λ (x : Bool). if x then None else Some 412) (sym same)))))
      (λ x y is. subst (λ (o : Option ℕ). Alongside h true (λ file. SameAnswers) None (unless_condition_status o m (show_or_tell method (folder_of h ++ rest) now m)) (unless_condition_status y n (show_or_tell method (folder_of h ++ rest) now n))) (sym is.1)
      (subst (λ (o : Option ℕ). Alongside h true (λ file. SameAnswers) None (unless_condition_status (if is.0 then None else Some 412) m (show_or_tell method (folder_of h ++ rest) now m)) (unless_condition_status o n (show_or_tell method (folder_of h ++ rest) now n))) (sym is.2)
      (side_judged is.0 m n _ _ (side_file method now m n told)))))
  side_found method now only (Err e) (Err f) told = subst (λ d. Alongside h true (λ file. SameAnswers) None (Done (Err (dav.FsError e))) (Done (Err (dav.FsError d)))) told side_err
  side_found method now only (Ok m) (Err f) told = absurd told
  side_found method now only (Err e) (Ok n) told = absurd told

  pub side_get : (method : DavMethod) (now : ℕ) {ls : List Addressed} → SubmitOnly h ls
      → Alongside h true (λ file. SameAnswers) None (get method (holders ls) (folder_of h ++ rest) now) (get method (holders ls) (folder_of h ++ rest) now)
  side_get method now only = side_asks {c = Metadata (folder_of h ++ rest)} (rest, refl) (side_found method now only)
