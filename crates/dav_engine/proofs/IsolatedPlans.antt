-- Plans that go side by side, part by part; and those of a holder's PUT, PATCH and MKCOL.
use Rattle.std.proofs.Common.{◌≡◌, ◌++◌, ℕ, ◌==◌, ◌-◌, ◌&&◌, nat_lt, codes, Bool, true, false, not, List, [], ◌∷◌, length, if◌then◌else◌, Option, Some, None, Result, Ok, Err, refl, sym, ap, subst, ◌∙◌, true≢false, arith}
use Rattle.std.specs.Bool.{⊤}
use Rattle.std.specs.List.{starts_with}
use Rattle.std.specs.Result.{result_ok, is_ok}
use Rattle.dav_core.specs.declared.errors.FsError.{FsError}
use Rattle.dav_core.specs.declared.errors.DavError.{DavError}
use Rattle.dav_core.specs.declared.errors.DavError.TheVariants as dav
use Rattle.dav_core.specs.declared.fs.DavMetaData.{DavMetaData}
use Rattle.dav_core.specs.declared.method.DavMethod.{DavMethod}
use Rattle.dav_core.specs.declared.method.DavMethod.TheVariants.{MkCol, Patch}
use Rattle.dav_core.specs.Asking.{Metadata, CreateDir, Write, Flush}
use Rattle.dav_core.specs.Handle.{Handle, Opening}
use Rattle.dav_core.specs.Locks.{Lock, requester_of, is_held}
use Rattle.dav_core.specs.Path.{Path, PathText, names, rest_after, is_at_or_under, is_under, has_names}
use Rattle.dav_core.proofs.Theorems.{from_rest}
use Rattle.http_header.specs.FieldValue.{FieldValue}
use Rattle.http_header.specs.HeaderMap.{get_all}
use Rattle.std.specs.Option.{is_some}
use Rattle.dav_headers.specs.ETagList.{IsTagList}
use Rattle.dav_engine.specs.Headers.{Headers, Decodes}
use Rattle.dav_engine.specs.IsolatedPlans.{SubmitsAlone, IsIsolatedPlan, PutIsIsolated, MkcolIsIsolated}
use Rattle.dav_engine.proofs.OnePlanLemmas.{one_conditions}
use Rattle.dav_headers.specs.If.{state_token, Condition}
use Rattle.dav_headers.specs.declared.range.XUpdateRange.{XUpdateRange}
use Rattle.dav_headers.specs.declared.range.XUpdateRange.TheVariants.{FromTo, AllFrom, Last, Append}
use Rattle.dav_engine.specs.declared.methods.put.headers.Writing.{Writing}
use Rattle.dav_engine.specs.Caller.{Caller, requester}
use Rattle.dav_engine.specs.Conditions.{Conditions, Addressed, AreConditions, token_holds, and_then, or_else, some_holds, submitted, guarded, status_as}
use Rattle.dav_engine.specs.Method.{MethodPlan, then as followed_by, ◌>>=◌, require, require_free, gives, refused_as, ask_for, require_parent, require_member}
use Rattle.dav_engine.specs.Mkcol.{mkcol, create_error, made, is_mkcol}
use Rattle.dav_engine.specs.Plan.{Done}
use Rattle.dav_engine.specs.Put.{PutHeaders, from_end, update_from, update_at, updates, written_by, bounded_by, writing_of, put_opening, is_announced, unsatisfiable, sought, stored, store, put_body, bytes_of_body, is_put}
use Rattle.dav_engine.specs.AnswerParts.{answers_of}
use Rattle.dav_engine.specs.Guard.{folder_of, IsGuard, Guards, IsInReach, SubmitOnly, no_list, a_list, IsInside}
use Rattle.dav_engine.specs.Alongside.{SameResult, SameMetadata, BothOpen, AreOpen, Alongside, side_ok, side_err, side_asks, side_opens, side_reads, side_writes, side_seeks, side_flushes, side_tells, side_look, side_keep, side_last, SameAnswers}
use Rattle.dav_engine.proofs.GuardedFolders.{free_for_is, parent_free_is_held}

-- ---- parts

-- what parts of plans end with: with this file open in both, and Q of their values
abbrev pub AtBoth : {A : Type 0} → Option BothOpen → (A → A → Type 0) → Option BothOpen → A → A → Type 0
AtBoth file Q now a b = (now ≡ file) × Q a b

-- one part after another
pub side_bind : {A B : Type 0} {h : Lock} {whole : Bool} {Q : A → A → Type 0} {R : Option BothOpen → B → B → Type 0} {end file : Option BothOpen} {plan plan' : MethodPlan A} (f f' : A → MethodPlan B)
    → Alongside h false (AtBoth end Q) file plan plan' → ((a b : A) → Q a b → Alongside h whole R end (f a) (f' b)) → Alongside h whole R file (plan >>= f) (plan' >>= f')
side_bind {h = h} {whole} {R = R} f f' (side_ok {a = a} {b = b} (same, q)) more = subst (λ now. Alongside h whole R now (f a) (f' b)) (sym same) (more a b q)
side_bind f f' side_err more = side_err
side_bind f f' (side_asks {c = c} inside next) more = side_asks {c = c} inside (λ a b same. side_bind f f' (next a b same) more)
side_bind f f' (side_opens r next failed) more = side_opens r (λ j k same. side_bind f f' (next j k same) more) (λ e. side_bind f f' (failed e) more)
side_bind f f' (side_reads are next) more = side_reads are (λ a b same. side_bind f f' (next a b same) more)
side_bind f f' (side_writes are next) more = side_writes are (λ a b same. side_bind f f' (next a b same) more)
side_bind f f' (side_seeks are next) more = side_seeks are (λ a b same. side_bind f f' (next a b same) more)
side_bind f f' (side_flushes are next) more = side_flushes are (λ a b same. side_bind f f' (next a b same) more)
side_bind f f' (side_tells are next) more = side_tells are (λ a b same. side_bind f f' (next a b same) more)
side_bind f f' (side_look next) more = side_look (λ ls ks g g'. side_bind f f' (next ls ks g g') more)
side_bind f f' (side_keep guards guards' next) more = side_keep guards guards' (side_bind f f' next more)
side_bind f f' (side_last is gone gone' r) more = cc

-- an outcome, and what follows it
pub side_then : {A B : Type 0} {h : Lock} {whole : Bool} {R : Option BothOpen → B → B → Type 0} {file : Option BothOpen} (r r' : Result A DavError) (f f' : A → MethodPlan B)
    → r ≡ r' → ((a : A) → Alongside h whole R file (f a) (f' a)) → Alongside h whole R file (followed_by r f) (followed_by r' f')
side_then {h = h} {whole} {R} {file} (Ok a) r' f f' same more = subst (λ x. Alongside h whole R file (f a) (followed_by x f')) same (more a)
side_then {h = h} {whole} {R} {file} (Err e) r' f f' same more = subst (λ x. Alongside h whole R file (Done (Err e)) (followed_by x f')) same side_err

-- one outcome in both
pub side_same : {A : Type 0} {h : Lock} {file : Option BothOpen} (r r' : Result A DavError) → r ≡ r' → Alongside h false (AtBoth file (λ x y. x ≡ y)) file (Done r) (Done r')
side_same {h = h} {file} (Ok a) r' same = subst (λ x. Alongside h false (AtBoth file (λ x y. x ≡ y)) file (Done (Ok a)) (Done x)) same (side_ok (refl, refl))
side_same {h = h} {file} (Err e) r' same = subst (λ x. Alongside h false (AtBoth file (λ x y. x ≡ y)) file (Done (Err e)) (Done x)) same side_err

pub side_require : {h : Lock} {file : Option BothOpen} (b c : Bool) (e : DavError) → b ≡ c → Alongside h false (AtBoth file (λ x y. x ≡ y)) file (require b e) (require c e)
side_require true true e same = side_ok (refl, refl)
side_require false false e same = side_err
side_require true false e same = cc
side_require false true e same = cc

-- ---- what a holder's If says

abbrev guard_condition : Lock → Condition
guard_condition h = record { negated = false; item = state_token h.token }

abbrev pub holders : List Addressed → Conditions
holders ls = record { if_match = None; if_none_match = None; lists = Some ls }

module _ (h : Lock) (guard : IsGuard h) where
  token_same : (rest : Path) (ls ks : List Lock) → Guards h ls → Guards h ks → token_holds h.token (folder_of h ++ rest) (Some ls) ≡ token_holds h.token (folder_of h ++ rest) (Some ks)
  token_same rest ls ks g g' =
      ap (λ b. not (starts_with ◌==◌ h.token (codes "DAV:")) && b) (free_for_is h guard (requester_of (h.token ∷ []) true None) rest false ls g ∙ sym (free_for_is h guard (requester_of (h.token ∷ []) true None) rest false ks g'))

  held_by : (b c : Bool) → b ≡ c → Alongside h false (AtBoth None (λ x y. x ≡ y)) None (and_then b (gives true)) (and_then c (gives true))
  held_by true true same = side_ok (refl, refl)
  held_by false false same = side_ok (refl, refl)
  held_by true false same = cc
  held_by false true same = cc

  next_by : (b c : Bool) (one : MethodPlan Bool) → b ≡ c → Alongside h false (AtBoth None (λ x y. x ≡ y)) None one one → Alongside h false (AtBoth None (λ x y. x ≡ y)) None (or_else b one) (or_else c one)
  next_by true true one same side = side_ok (refl, refl)
  next_by false false one same side = side
  next_by true false one same side = cc
  next_by false true one same side = cc

  pub side_lists : {ls : List Addressed} → SubmitOnly h ls → Alongside h false (AtBoth None (λ x y. x ≡ y)) None (some_holds ls) (some_holds ls)
  side_lists no_list = side_ok (refl, refl)
  side_lists (a_list {ls} rest more) =
      side_look (λ js ks g g'. side_bind _ _ (held_by (token_holds h.token (folder_of h ++ rest) (Some js)) (token_holds h.token (folder_of h ++ rest) (Some ks)) (token_same rest js ks g g'))
      (λ a b same. next_by a b (some_holds ls) same (side_lists more)))

  pub side_guarded : (f : ℕ → DavError) (m : DavMethod) (found found' : Option DavMetaData) {ls : List Addressed} → SubmitOnly h ls
      → Alongside h false (AtBoth None (λ x y. x ≡ y)) None (guarded f m (holders ls) found) (guarded f m (holders ls) found')
  side_guarded f m found found' {ls} only =
      side_bind (λ verdict. Done (status_as f verdict)) (λ verdict. Done (status_as f verdict))
      (side_bind _ _ (side_lists only) (λ a b same. side_ok (refl, ap (λ (x : Bool). if x then Ok (submitted (Some ls)) else Err 412) same)))
      (λ a b same. side_same (status_as f a) (status_as f b) (ap (status_as f) same))

  pub side_free : (deep : Bool) (who : Caller) (rest : Path) (e : DavError) (ts us : List (List ℕ)) → ts ≡ us
      → Alongside h false (AtBoth None (λ x y. x ≡ y)) None (require_free deep (requester who ts) (folder_of h ++ rest) e) (require_free deep (requester who us) (folder_of h ++ rest) e)
  side_free deep who rest e ts us same =
      side_look (λ ls ks g g'. side_require _ _ e
      (free_for_is h guard (requester who ts) rest deep ls g ∙ ap (λ (t : List (List ℕ)). is_held (requester who t) h) same ∙ sym (free_for_is h guard (requester who us) rest deep ks g')))

  -- the folder above a path strictly below the guarded folder
  pub side_parent : (b c : Bool) (who : Caller) (x : List ℕ) (rest : Path) (e : DavError) (ts us : List (List ℕ)) → b ≡ c → ts ≡ us
      → Alongside h false (AtBoth None (λ x y. x ≡ y)) None (require_parent b (requester who ts) (folder_of h ++ x ∷ rest) e) (require_parent c (requester who us) (folder_of h ++ x ∷ rest) e)
  side_parent false false who x rest e ts us kind same = side_ok (refl, refl)
  side_parent true true who x rest e ts us kind same =
      side_look (λ ls ks g g'. side_require _ _ e
      (parent_free_is_held h (requester who ts) x rest ls guard g ∙ ap (λ (t : List (List ℕ)). is_held (requester who t) h) same ∙ sym (parent_free_is_held h (requester who us) x rest ks guard g')))
  side_parent true false who x rest e ts us kind same = cc
  side_parent false true who x rest e ts us kind same = cc

  pub side_free_member : (deep b c : Bool) (who : Caller) (x : List ℕ) (rest : Path) (e : DavError) (ts us : List (List ℕ)) → b ≡ c → ts ≡ us
      → Alongside h false (AtBoth None (λ x y. x ≡ y)) None (require_member deep b (requester who ts) (folder_of h ++ x ∷ rest) e) (require_member deep c (requester who us) (folder_of h ++ x ∷ rest) e)
  side_free_member deep b c who x rest e ts us kind same = side_bind _ _ (side_free deep who (x ∷ rest) e ts us same) (λ u v _. side_parent b c who x rest e ts us kind same)

-- ---- PUT and PATCH

abbrev pub AreTold : Option DavMetaData → Option DavMetaData → Type 0
AreTold None None = ⊤
AreTold (Some m) (Some n) = SameMetadata m n
AreTold _ _ = ⊥

pub told_results : (a b : Result DavMetaData FsError) → SameResult SameMetadata a b → AreTold (result_ok a) (result_ok b)
told_results (Ok m) (Ok n) same = same
told_results (Err e) (Err f) same = tt
told_results (Ok m) (Err f) same = absurd same
told_results (Err e) (Ok n) same = absurd same

pub found_same : (a b : Result DavMetaData FsError) → SameResult SameMetadata a b → is_ok a ≡ is_ok b
found_same (Ok m) (Ok n) same = refl
found_same (Err e) (Err f) same = refl
found_same (Ok m) (Err f) same = absurd same
found_same (Err e) (Ok n) same = absurd same

end_same : (n : ℕ) (o p : Option DavMetaData) → AreTold o p → from_end n o ≡ from_end n p
end_same n None None same = refl
end_same n (Some x) (Some y) same = ap (λ len. if nat_lt len n then Err unsatisfiable else Ok (len - n)) same.len
end_same n None (Some y) same = absurd same
end_same n (Some x) None same = absurd same

from_same : (range : XUpdateRange) (n : ℕ) (o p : Option DavMetaData) → AreTold o p → update_from range n o ≡ update_from range n p
from_same (FromTo first last) n o p same = refl
from_same (AllFrom first) n o p same = refl
from_same (Last k) n o p same = end_same k o p same
from_same Append n o p same = refl

updates_same : (announced : Option ℕ) (range : Option XUpdateRange) (o p : Option DavMetaData) → AreTold o p → updates announced range o ≡ updates announced range p
updates_same None range o p same = refl
updates_same (Some n) None o p same = refl
updates_same (Some n) (Some range) o p same = ap (update_at range n) (from_same range n o p same)

written_same : (m : DavMethod) (headers : PutHeaders) (o p : Option DavMetaData) → AreTold o p → written_by m headers o ≡ written_by m headers p
written_same Patch headers o p same = ap (λ (r : Result Writing DavError). if headers.is_partial then r else Err (dav.StatusClose 415)) (updates_same headers.announced headers.update o p same)
written_same _ headers o p same = refl

writing_same : (m : DavMethod) (headers : PutHeaders) (o p : Option DavMetaData) → AreTold o p → writing_of m headers o ≡ writing_of m headers p
writing_same m headers o p same = ap (bounded_by headers.range) (written_same m headers o p same)

-- a reply about a stored file has no `allow`
stored_allows : (found : Bool) (file : Option DavMetaData) → answers_of (stored found file) ≡ record { status = if found then 204 else 201; items = []; bytes = None; allow = None }
stored_allows true None = refl
stored_allows false None = refl
stored_allows true (Some m) = elim m.number as (λ (o : Option ℕ). answers_of (stored true (Some (record m { number = o }))) ≡ record { status = 204; items = []; bytes = None; allow = None }) [ None ↦ refl | Some k ↦ refl ]
stored_allows false (Some m) = elim m.number as (λ (o : Option ℕ). answers_of (stored false (Some (record m { number = o }))) ≡ record { status = 201; items = []; bytes = None; allow = None }) [ None ↦ refl | Some k ↦ refl ]

module _ (h : Lock) (guard : IsGuard h) (rest : Path) where
  abbrev target : Path
  target = folder_of h ++ rest

  abbrev opened_both : Handle → Handle → BothOpen
  opened_both j k = record { at = rest; here = j.made; alone = k.made }

  side_sought : (file : BothOpen) (place : Option ℕ) (j k : Handle) → AreOpen file j k → Alongside h false (AtBoth (Some file) (AreOpen file)) (Some file) (sought place j) (sought place k)
  side_sought file None j k are = side_ok (refl, are)
  side_sought file (Some at) j k are = side_seeks are moved
    where
      moved : (a b : Result (ℕ × Handle) FsError) → SameResult (λ x y. (x.0 ≡ y.0) × AreOpen file x.1 y.1) a b
          → Alongside h false (AtBoth (Some file) (AreOpen file)) (Some file) (followed_by (refused_as (λ e. unsatisfiable) a) (λ m. gives m.1)) (followed_by (refused_as (λ e. unsatisfiable) b) (λ m. gives m.1))
      moved (Ok x) (Ok y) same = side_ok (refl, same.1)
      moved (Err e) (Err f) same = side_err
      moved (Ok x) (Err f) same = absurd same
      moved (Err e) (Ok y) same = absurd same

  side_answer : {A : Type 0} (file : BothOpen) (Q : A → A → Type 0) (a b : Result A FsError) → SameResult Q a b → Alongside h false (AtBoth (Some file) Q) (Some file) (Done (refused_as dav.FsError a)) (Done (refused_as dav.FsError b))
  side_answer file Q (Ok x) (Ok y) same = side_ok (refl, same)
  side_answer file Q (Err e) (Err f) same = subst (λ d. Alongside h false (AtBoth (Some file) Q) (Some file) (Done (Err (dav.FsError e))) (Done (Err (dav.FsError d)))) same side_err
  side_answer file Q (Ok x) (Err f) same = absurd same
  side_answer file Q (Err e) (Ok y) same = absurd same

  side_written : (file : BothOpen) (b : Bool) (j k : Handle) (bytes : List ℕ) (now : ℕ) → AreOpen file j k
      → Alongside h false (AtBoth (Some file) (AreOpen file)) (Some file) (if b then gives j else ask_for (Write j bytes now)) (if b then gives k else ask_for (Write k bytes now))
  side_written file true j k bytes now are = side_ok (refl, are)
  side_written file false j k bytes now are = side_writes are (side_answer file (AreOpen file))

  side_flushed : (file : BothOpen) (j k : Handle) → AreOpen file j k → Alongside h false (AtBoth (Some file) (λ x y. Unit {0})) (Some file) (ask_for (Flush j)) (ask_for (Flush k))
  side_flushed file j k are = side_flushes are (side_answer file (λ x y. Unit {0}))

  side_store : (how : Opening) (place : Option ℕ) (bytes : List ℕ) (now : ℕ) (found : Bool)
      → Alongside h true (λ file. SameAnswers) None (store how place target bytes now found) (store how place target bytes now found)
  side_store how place bytes now found =
      side_opens rest (λ j k same. let file : BothOpen = opened_both j k in
      side_bind _ _ (side_sought file place j k (record { same = same; here = refl; alone = refl })) (λ j1 k1 are1.
      side_bind _ _ (side_written file (length bytes == 0) j1 k1 bytes now are1) (λ j2 k2 are2.
      side_bind _ _ (side_flushed file j2 k2 are2) (λ u v _.
      side_tells are2 (λ a b told. side_ok (stored_allows found (result_ok a) ∙ sym (stored_allows found (result_ok b))))))))
      (λ e. side_err)

  side_inside : (x : List ℕ) (r : Path) → rest ≡ x ∷ r → (b c : Bool) (who : Caller) (e : DavError) (ts us : List (List ℕ)) → b ≡ c → ts ≡ us
      → Alongside h false (AtBoth None (λ x y. x ≡ y)) None (require_member false b (requester who ts) target e) (require_member false c (requester who us) target e)
  side_inside x r below b c who e ts us kind same =
      subst (λ (q : Path). Alongside h false (AtBoth None (λ x y. x ≡ y)) None (require_member false b (requester who ts) (folder_of h ++ q) e) (require_member false c (requester who us) (folder_of h ++ q) e)) (sym below)
      (side_free_member h guard false b c who x r e ts us kind same)

  pub side_put : (x : List ℕ) (r : Path) → rest ≡ x ∷ r → (m : DavMethod) (headers : PutHeaders) {ls : List Addressed} (who : Caller) (bytes : Option (List ℕ)) → headers.conditions ≡ holders ls → SubmitOnly h ls
      → Alongside h true (λ file. SameAnswers) None (put_body m headers target who bytes) (put_body m headers target who bytes)
  side_put x r below m headers who None is only = side_err
  side_put x r below m headers {ls} who (Some bytes) is only =
      side_bind {Q = λ x y. x ≡ y} (λ (allowed : Writing × Bool). store (put_opening headers allowed.0) allowed.0.from target bytes who.moment allowed.1) (λ (allowed : Writing × Bool). store (put_opening headers allowed.0) allowed.0.from target bytes who.moment allowed.1)
      (side_asks {c = Metadata target} (rest, refl) (λ a b told.
      side_then (writing_of m headers (result_ok a)) (writing_of m headers (result_ok b)) _ _ (writing_same m headers (result_ok a) (result_ok b) (told_results a b told)) (λ w.
      side_bind _ _ (subst (λ (c : Conditions). Alongside h false (AtBoth None (λ x y. x ≡ y)) None (guarded dav.StatusClose m c (result_ok a)) (guarded dav.StatusClose m c (result_ok b))) (sym is) (side_guarded h guard dav.StatusClose m (result_ok a) (result_ok b) only)) (λ ts us same.
      side_bind _ _ (side_inside x r below (not (is_ok a)) (not (is_ok b)) who (dav.StatusClose 423) ts us (ap not (found_same a b told)) same) (λ u v _.
      side_bind _ _ (side_require (is_announced w.announced bytes) (is_announced w.announced bytes) (dav.StatusClose 400) refl) (λ u v _.
      side_ok (refl, ap (λ (f : Bool). (w, f)) (found_same a b told))))))))
      (λ x y same. subst (λ (z : Writing × Bool). Alongside h true (λ file. SameAnswers) None (store (put_opening headers x.0) x.0.from target bytes who.moment x.1) (store (put_opening headers z.0) z.0.from target bytes who.moment z.1)) same
      (side_store (put_opening headers x.0) x.0.from bytes who.moment x.1))

  -- ---- MKCOL

  create_ends : (p : PathText) (a b : Result (Unit {0}) FsError) → SameResult (λ x y. ⊤) a b
      → Alongside h true (λ file. SameAnswers) None (followed_by (refused_as create_error a) (λ u. gives (made p))) (followed_by (refused_as create_error b) (λ u. gives (made p)))
  create_ends p (Ok u) (Ok v) same = side_ok refl
  create_ends p (Err e) (Err f) same = subst (λ d. Alongside h true (λ file. SameAnswers) None (Done (Err (create_error e))) (Done (Err (create_error d)))) same side_err
  create_ends p (Ok u) (Err f) same = absurd same
  create_ends p (Err e) (Ok v) same = absurd same

  pub side_mkcol : (x : List ℕ) (r : Path) → rest ≡ x ∷ r → (p : PathText) (who : Caller) {ls : List Addressed} → names p ≡ target → SubmitOnly h ls
      → Alongside h true (λ file. SameAnswers) None (mkcol (holders ls) p who) (mkcol (holders ls) p who)
  side_mkcol x r below p who {ls} is only =
      side_bind {Q = λ x y. x ≡ y} _ _
      (side_asks {c = Metadata (names p)} (rest, is) (λ a b told.
      side_bind _ _ (side_guarded h guard dav.Status MkCol (result_ok a) (result_ok b) only) (λ ts us same.
      subst (λ (q : Path). Alongside h false (AtBoth None (λ x y. x ≡ y)) None (require_member false (not (is_ok a)) (requester who ts) q (dav.Status 423)) (require_member false (not (is_ok b)) (requester who us) q (dav.Status 423))) (sym is)
      (side_inside x r below (not (is_ok a)) (not (is_ok b)) who (dav.Status 423) ts us (ap not (found_same a b told)) same))))
      (λ u v same. side_asks {c = CreateDir (names p) who.moment} (rest, is) (create_ends p))

-- ---- who submits the guard's token alone

reached : (folder p : Path) (o : Option Path) → rest_after folder p ≡ o → is_at_or_under p folder ≡ true → (rest : Path) × (p ≡ folder ++ rest)
reached folder p None is within = let no_rest : is_at_or_under p folder ≡ false = ap is_some is in absurd (true≢false (sym within ∙ no_rest))
reached folder p (Some rest) is within = (rest, from_rest folder p rest is)

-- the names after the folder
pub in_reach : (h : Lock) (p : Path) → IsInReach h p → (rest : Path) × (p ≡ folder_of h ++ rest)
in_reach h p within = reached (folder_of h) p (rest_after (folder_of h) p) refl within

inside_by : (folder p : Path) (o : Option Path) → rest_after folder p ≡ o → is_under p folder ≡ true → (x : List ℕ) × (rest : Path) × (p ≡ folder ++ x ∷ rest)
inside_by folder p None is within = let none : is_under p folder ≡ false = ap has_names is in absurd (true≢false (sym within ∙ none))
inside_by folder p (Some []) is within = let none : is_under p folder ≡ false = ap has_names is in absurd (true≢false (sym within ∙ none))
inside_by folder p (Some (x ∷ rest)) is within = (x, rest, from_rest folder p (x ∷ rest) is)

-- there are some where the path is strictly below it
pub in_side : (h : Lock) (p : Path) → IsInside h p → (x : List ℕ) × (rest : Path) × (p ≡ folder_of h ++ x ∷ rest)
in_side h p within = inside_by (folder_of h) p (rest_after (folder_of h) p) refl within

no_tags : (values : List FieldValue) → values ≡ [] → Decodes IsTagList values None
no_tags values is l read = absurd (omega (arith, read.0, ap length is))

-- a holder's conditions are its lists alone
pub only_lists : {h : Lock} {headers : Headers} {p : PathText} (k : SubmitsAlone headers p h) (c : Conditions) → AreConditions headers p.prefix (names p) c → c ≡ holders k.lists
only_lists {headers = headers} {p} k c are =
    one_conditions headers p.prefix (names p) c (holders k.lists) are
    (record { match = no_tags (get_all headers (codes "if-match")) k.match; none_match = no_tags (get_all headers (codes "if-none-match")) k.none_match; lists = k.says })

pub put_goes_along : PutIsIsolated
put_goes_along h m headers p body who plan guard within alone (is_put hd are) =
    let (x, rest, at) = in_side h (names p) within in
    subst (λ (q : Path). IsIsolatedPlan h (put_body m hd q who (bytes_of_body body))) (sym at)
    (side_put h guard (x ∷ rest) x rest refl m hd who (bytes_of_body body) (only_lists alone hd.conditions are.conditions) alone.only)

pub mkcol_goes_along : MkcolIsIsolated
mkcol_goes_along h headers p who plan guard within alone (is_mkcol c are) =
    let (x, rest, at) = in_side h (names p) within in
    subst (λ (d : Conditions). IsIsolatedPlan h (mkcol d p who)) (sym (only_lists alone c are)) (side_mkcol h guard (x ∷ rest) x rest refl p who at alone.only)
