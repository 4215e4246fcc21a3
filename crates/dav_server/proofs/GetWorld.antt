-- What GET does to worlds, and what the file that it shows says about them.
use Rattle.std.proofs.Common.{◌≡◌, ℕ, zero, suc, ◌<◌, ◌≤◌, ◌==◌, Bool, true, false, not, if◌then◌else◌, List, [], ◌∷◌, length, take, drop, Contains, codes, Option, Some, None, Result, Ok, Err, refl, sym, ap, subst, ◌∙◌, arith}
use Rattle.std.proofs.lemmas.Fmt.{digits_is_IsNumeral}
use Rattle.std.proofs.lemmas.List.{append_cancel_right}
use Rattle.std.proofs.Math.Seq.{take-length}
use Rattle.std.specs.Fmt.{digits}
use Rattle.std.specs.Str.Parse.{digits_value}
use Rattle.dav_core.specs.declared.errors.FsError.{FsError}
use Rattle.dav_core.specs.declared.errors.FsError.TheVariants.{Forbidden}
use Rattle.dav_core.specs.declared.errors.DavError.{DavError}
use Rattle.dav_core.specs.declared.errors.DavError.TheVariants as dav
use Rattle.dav_core.specs.declared.fs.DavMetaData.{DavMetaData}
use Rattle.dav_core.specs.declared.method.DavMethod.{DavMethod}
use Rattle.dav_core.specs.declared.method.DavMethod.TheVariants.{Get, Head}
use Rattle.dav_core.specs.Asking.{Call, Metadata, Open, Read, meaning, StoreState, Asks}
use Rattle.dav_core.specs.CallLaws.{IsProper, IsStorable}
use Rattle.dav_core.specs.Calls.{metadata_of, open_at, read_bytes}
use Rattle.dav_core.specs.Handle.{Handle, opened}
use Rattle.dav_core.specs.Metadata.{tag_of}
use Rattle.dav_core.specs.Path.{Path}
use Rattle.dav_core.specs.World.{World, Node, Kind, Folder, File, node_at, bytes_of, is_folder_kind, file_made_with, last_moment, last_number, IsWorld}
use Rattle.dav_core.proofs.Theorems.{went_on, found, made_stands_there}
use Rattle.dav_engine.specs.declared.reply.ReplyBody.{ReplyBody}
use Rattle.dav_engine.specs.declared.reply.ReplyBody.TheVariants as reply
use Rattle.dav_engine.specs.Conditions.{Conditions, if_match}
use Rattle.dav_engine.specs.Method.{MethodPlan, then as followed_by, ◌>>=◌, gives, fails, require, refused_as}
use Rattle.dav_engine.specs.Plan.{Plan, Ask, Locks, Ran, ran_ask}
use Rattle.dav_engine.specs.Reply.{Reply, Header, reply_to, etag, last_modified, content_length}
use Rattle.dav_engine.specs.WorldLaws.{OnlyReads, IsReading, IsProperPlan, Remembers}
use Rattle.dav_engine.proofs.Theorems.{Did, stays, means, did, did_leave, Only, only_done, only_ask, only_look, only_then, only_bind, only_require, only_reads, only_proper, reading_leaves, ran_split, ran_outcome, IsLook, looks, only_conditions}
use Rattle.dav_server.specs.Get.{reading, shown, not_modified, show, show_or_tell, unless_condition_status, get}
use Rattle.dav_server.specs.TagLaws.{Shows}

-- ---- the calls that are made

-- a call that GET and HEAD make
pub data IsGetCall (p : Path) (now : ℕ) : Call → Type 0 where
  tells : {q : Path} → IsGetCall p now (Metadata q)
  opens : IsGetCall p now (Open p reading now)
  reads : {file : Handle} {count : ℕ} → IsGetCall p now (Read file count)

get_reads : {p : Path} {now : ℕ} (c : Call) → IsGetCall p now c → OnlyReads c
get_reads c tells = tt
get_reads c opens = (refl, refl, refl)
get_reads c reads = tt

get_proper : {p : Path} {now : ℕ} → IsStorable p → now ≤ last_moment → (c : Call) → IsGetCall p now c → IsProper c
get_proper storable small c tells = tt
get_proper storable small c opens = (storable, small)
get_proper storable small c reads = tt

-- a call that asks for metadata is such a call
look_gets : {p : Path} {now : ℕ} (c : Call) → IsLook c → IsGetCall p now c
look_gets c looks = tells

only_more : {P Q : Call → Type 0} {A : Type 0} {plan : Plan A} → ((c : Call) → P c → Q c) → Only P plan → Only Q plan
only_more more only_done = only_done
only_more more (only_ask {c = c} is rest) = only_ask (more c is) (λ answer. only_more more (rest answer))
only_more more (only_look rest) = only_look (λ ls. only_more more (rest ls))

only_either : {P : Call → Type 0} {A : Type 0} (b : Bool) (one other : Plan A) → Only P one → Only P other → Only P (if b then one else other)
only_either true one other is is' = is
only_either false one other is is' = is'

only_show : (p : Path) (now : ℕ) (file : DavMetaData) → Only (IsGetCall p now) (show p now file)
only_show p now file = only_ask opens (λ answer. only_then (refused_as dav.FsError answer) _ (λ handle.
    only_ask reads (λ answer. only_then (refused_as dav.FsError answer) _ (λ bytes. only_done))))

only_show_or_tell : (m : DavMethod) (p : Path) (now : ℕ) (file : DavMetaData) → Only (IsGetCall p now) (show_or_tell m p now file)
only_show_or_tell Head p now file = only_done
only_show_or_tell _ p now file = only_show p now file

only_judged : {P : Call → Type 0} (verdict : Option ℕ) (file : DavMetaData) (next : MethodPlan Reply) → Only P next → Only P (unless_condition_status verdict file next)
only_judged None file next is = is
only_judged (Some status) file next is = only_either (status == 304) (gives (not_modified file)) (fails (dav.Status status)) only_done only_done

only_get : (m : DavMethod) (c : Conditions) (p : Path) (now : ℕ) → Only (IsGetCall p now) (get m c p now)
only_get m c p now = only_ask tells (λ answer. only_then (refused_as dav.FsError answer) _ (λ file.
    only_bind (require (not file.dir) (dav.Status 405)) _ (only_require (not file.dir) (dav.Status 405)) (λ plain.
    only_bind (if_match m c (Some file)) _ (only_more look_gets (only_conditions m c (Some file))) (λ verdict.
    only_judged verdict file (show_or_tell m p now file) (only_show_or_tell m p now file)))))

pub get_is_reading : (m : DavMethod) (c : Conditions) (p : Path) (now : ℕ) → IsReading (get m c p now)
get_is_reading m c p now = only_reads get_reads (only_get m c p now)

pub get_is_proper : (m : DavMethod) (c : Conditions) (p : Path) (now : ℕ) → IsStorable p → now ≤ last_moment → IsProperPlan (get m c p now)
get_is_proper m c p now storable small = only_proper (get_proper storable small) (only_get m c p now)

-- ---- runs of parts that end in a reply

-- where the plan goes on after a test, the test holds
pub required : {A : Type 0} (b : Bool) (e : DavError) (f : Unit {0} → MethodPlan A) {old new : StoreState} {ls ms : Locks} {a : A}
    → Ran Asks (require b e >>= f) old ls (Ok a) new ms → (b ≡ true) × Ran Asks (f tt) old ls (Ok a) new ms
required true e f ran = (refl, ran)
required false e f ran = let clash = ran_outcome ran in cc

-- where the plan goes on after a call, the call was answered
pub answered_by : {A B : Type 0} (g : FsError → DavError) (answer : Result A FsError) (f : A → MethodPlan B) {old new : StoreState} {ls ms : Locks} {b : B}
    → Ran Asks (followed_by (refused_as g answer) f) old ls (Ok b) new ms → (a : A) × (answer ≡ Ok a) × Ran Asks (f a) old ls (Ok b) new ms
answered_by g (Ok a) f ran = (a, refl, ran)
answered_by g (Err e) f ran = let clash = ran_outcome ran in cc

pub gone_on : {A B : Type 0} (outcome : Result A DavError) (f : A → MethodPlan B) {old new : StoreState} {ls ms : Locks} {b : B}
    → Ran Asks (followed_by outcome f) old ls (Ok b) new ms → (a : A) × (outcome ≡ Ok a) × Ran Asks (f a) old ls (Ok b) new ms
gone_on (Ok a) f ran = (a, refl, ran)
gone_on (Err e) f ran = let clash = ran_outcome ran in cc

-- A part that only reads had some outcome, in the same world, and the rest followed.
pub record Followed {A B : Type 0} (plan : MethodPlan A) (f : A → MethodPlan B) (old : StoreState) (ls : Locks) (b : B) (new : StoreState) (ms : Locks) : Type 0 where
  pub value : A
  pub mid : StoreState
  pub ks : Locks
  pub same : mid.world ≡ old.world
  pub first : Ran Asks plan old ls (Ok value) mid ks
  pub rest : Ran Asks (f value) mid ks (Ok b) new ms

pub looked : {A B : Type 0} (plan : MethodPlan A) (f : A → MethodPlan B) {old new : StoreState} {ls ms : Locks} {b : B}
    → IsReading plan → Ran Asks (plan >>= f) old ls (Ok b) new ms → Followed plan f old ls b new ms
looked plan f {old} {ls = ls} is ran =
    let parts = ran_split plan f ran in
    let (value, outcome, rest) = gone_on parts.outcome f parts.rest in
    record {
      value = value;
      mid = parts.mid;
      ks = parts.ks;
      same = (reading_leaves is parts.first).0;
      first = subst (λ o. Ran Asks plan old ls o parts.mid parts.ks) outcome parts.first;
      rest = rest;
    }

-- ---- the metadata of a file

some_same : {A : Type 0} {a b : A} → ◌≡◌ {A = Option A} (Some a) (Some b) → a ≡ b
some_same same = cc

ok_same : {A E : Type 0} {a b : A} → ◌≡◌ {A = Result A E} (Ok a) (Ok b) → a ≡ b
ok_same same = cc

-- the metadata of a path is that of the node there
pub told_of : (w new : World) (p : Path) (answer : Result DavMetaData FsError) (d : DavMetaData) → Did (meaning (Metadata p) w) w answer new → answer ≡ Ok d
    → (n : Node) × (node_at w p ≡ Some n) × (d ≡ metadata_of n)
unfolding meaning
told_of w new p answer d (stays e is same) ok = let clash = sym is ∙ ok in cc
told_of w new p answer d (means r h is after) ok =
    let (n, there, end) = found (node_at w p) _ r h in
    (n, there, sym (ap (λ (x : DavMetaData × World). x.0) (ok_same end) ∙ ok_same (sym is ∙ ok)))

-- a file that was there and was opened
opened_at : (w : World) (p : Path) (now : ℕ) (n : Node) (r : Handle × World) → open_at w p reading now (Some n) ≡ Ok r → (is_folder_kind n.kind ≡ false) × (r.0 ≡ opened n.made reading)
opened_at w p now n r h =
    let (plain, end) = went_on (is_folder_kind n.kind) Forbidden _ r h in
    (plain, sym (ap (λ (x : Handle × World). x.0) (ok_same end)))

pub opened_of : (w new : World) (p : Path) (now : ℕ) (answer : Result Handle FsError) (file : Handle) (n : Node) → node_at w p ≡ Some n → Did (meaning (Open p reading now) w) w answer new → answer ≡ Ok file
    → (is_folder_kind n.kind ≡ false) × (file ≡ opened n.made reading)
unfolding meaning
opened_of w new p now answer file n there (stays e is same) ok = let clash = sym is ∙ ok in cc
opened_of w new p now answer file n there (means r h is after) ok =
    let (plain, handle) = opened_at w p now n r (subst (λ (o : Option Node). open_at w p reading now o ≡ Ok r) there h) in
    (plain, sym (ok_same (sym is ∙ ok)) ∙ handle)

-- the bytes that are read of a file that was just opened
read_at : (w : World) (p : Path) (n : Node) (count : ℕ) (r : (List ℕ × Handle) × World) → IsWorld w → node_at w p ≡ Some n → is_folder_kind n.kind ≡ false
    → read_bytes w (opened n.made reading) count ≡ Ok r → r.0.0 ≡ take count (bytes_of n.kind)
read_at w p n count r world there plain h =
    let (k, made, end) = found (file_made_with n.made w.nodes) _ r h in
    let same : k ≡ n = some_same (sym made ∙ (made_stands_there w n.made n world).1 (p, there, refl, plain)) in
    sym (ap (λ (x : (List ℕ × Handle) × World). x.0.0) (ok_same end)) ∙ ap (λ (x : Node). take count (bytes_of x.kind)) same

pub read_of : (w new : World) (p : Path) (n : Node) (file : Handle) (count : ℕ) (answer : Result (List ℕ × Handle) FsError) (bytes : List ℕ × Handle) → IsWorld w → node_at w p ≡ Some n → is_folder_kind n.kind ≡ false
    → file ≡ opened n.made reading → Did (meaning (Read file count) w) w answer new → answer ≡ Ok bytes → bytes.0 ≡ take count (bytes_of n.kind)
unfolding meaning
read_of w new p n file count answer bytes world there plain handle (stays e is same) ok = let clash = sym is ∙ ok in cc
read_of w new p n file count answer bytes world there plain handle (means r h is after) ok =
    sym (ap (λ (x : List ℕ × Handle). x.0) (ok_same (sym is ∙ ok)))
    ∙ read_at w p n count r world there plain (subst (λ (f : Handle). read_bytes w f count ≡ Ok r) handle h)

-- ---- a file that is shown

-- At the path there is a file of these bytes, with the number that the tag holds.
pub record Stands (w : World) (p : Path) (tag bytes : List ℕ) : Type 0 where
  pub node : Node
  pub there : node_at w p ≡ Some node
  pub kind : node.kind ≡ File bytes
  pub tag_is : tag ≡ tag_of node.number

pub file_kind : (k : Kind) → is_folder_kind k ≡ false → k ≡ File (bytes_of k)
file_kind Folder plain = cc
file_kind (File bytes) plain = refl

name_length : (a b : Header) → a ≡ b → length a.0 ≡ length b.0
name_length a b same = ap (λ (h : Header). length h.0) same

-- the tag among the headers of a file is that of its number
tag_among : (len number modified : ℕ) (tag : List ℕ)
    → Contains (content_length len ∷ (codes "content-type", codes "application/octet-stream") ∷ etag number ∷ last_modified modified ∷ []) (codes "etag", tag) → tag ≡ tag_of number
tag_among len number modified tag (zero, within, is) = let clash = name_length (content_length len) (codes "etag", tag) is in absurd (omega (arith, clash))
tag_among len number modified tag (suc zero, within, is) = let clash = name_length (codes "content-type", codes "application/octet-stream") (codes "etag", tag) is in absurd (omega (arith, clash))
tag_among len number modified tag (suc (suc zero), within, is) = sym (ap (λ (h : Header). h.1) is)
tag_among len number modified tag (suc (suc (suc zero)), within, is) = let clash = name_length (last_modified modified) (codes "etag", tag) is in absurd (omega (arith, clash))
tag_among len number modified tag (suc (suc (suc (suc k))), within, is) = absurd (omega (arith, within))

bytes_same : {a b : List ℕ} → reply.Bytes a ≡ reply.Bytes b → a ≡ b
bytes_same same = cc

-- a response with the bytes of a file shows the file that is there
shown_stands : (w : World) (p : Path) (n : Node) (bytes : List ℕ) (tag others : List ℕ) → node_at w p ≡ Some n → n.kind ≡ File bytes
    → Shows tag others (shown (metadata_of n) bytes) → Stands w p tag others
shown_stands w p n bytes tag others there kind shows =
    let same : bytes ≡ others = bytes_same shows.bytes_are in
    record { node = n; there = there; kind = kind ∙ ap File same; tag_is = tag_among (length bytes) n.number n.modified tag shows.tag_is }

read_all : (n : Node) (bytes : List ℕ) → is_folder_kind n.kind ≡ false → bytes ≡ take (metadata_of n).len (bytes_of n.kind) → n.kind ≡ File bytes
read_all n bytes plain is = file_kind n.kind plain ∙ ap File (sym (take-length (bytes_of n.kind)) ∙ sym is)

shows_end : (w : World) (p : Path) (n : Node) (file : Handle) (answer : Result (List ℕ × Handle) FsError) {mid new : StoreState} {ls ms : Locks} {r : Reply} (tag bytes : List ℕ) → IsWorld w → node_at w p ≡ Some n → is_folder_kind n.kind ≡ false
    → file ≡ opened n.made reading → Did (meaning (Read file (metadata_of n).len) w) w answer mid.world
    → Ran Asks (followed_by (refused_as dav.FsError answer) (λ bytes. gives (shown (metadata_of n) bytes.0))) mid ls (Ok r) new ms → Shows tag bytes r → Stands w p tag bytes
shows_end w p n file answer {mid} tag bytes world there plain handle one ran shows =
    let (read, is, end) = answered_by dav.FsError answer _ ran in
    let whole = read_of w mid.world p n file (metadata_of n).len answer read world there plain handle one is in
    shown_stands w p n read.0 tag bytes there (read_all n read.0 plain whole) (subst (Shows tag bytes) (ok_same (ran_outcome end)) shows)

shows_read : (w : World) (p : Path) (n : Node) (file : Handle) {old new : StoreState} {ls ms : Locks} {r : Reply} (tag bytes : List ℕ) → IsWorld w → node_at w p ≡ Some n → is_folder_kind n.kind ≡ false
    → file ≡ opened n.made reading → old.world ≡ w
    → Ran Asks (Ask (Read file (metadata_of n).len) (λ answer. followed_by (refused_as dav.FsError answer) (λ bytes. gives (shown (metadata_of n) bytes.0)))) old ls (Ok r) new ms → Shows tag bytes r → Stands w p tag bytes
shows_read w p n file tag bytes world there plain handle same (ran_ask {mid = mid} {answer = answer} one rest) shows =
    shows_end w p n file answer tag bytes world there plain handle (subst (λ (v : World). Did (meaning (Read file (metadata_of n).len) v) v answer mid.world) same (did one)) rest shows

shows_opened : (w : World) (p : Path) (now : ℕ) (n : Node) (answer : Result Handle FsError) {mid new : StoreState} {ls ms : Locks} {r : Reply} (tag bytes : List ℕ) → IsWorld w → node_at w p ≡ Some n → mid.world ≡ w
    → Did (meaning (Open p reading now) w) w answer mid.world
    → Ran Asks (followed_by (refused_as dav.FsError answer) (λ file. Ask (Read file (metadata_of n).len) (λ answer. followed_by (refused_as dav.FsError answer) (λ bytes. gives (shown (metadata_of n) bytes.0))))) mid ls (Ok r) new ms → Shows tag bytes r → Stands w p tag bytes
shows_opened w p now n answer {mid} tag bytes world there same one ran shows =
    let (file, is, rest) = answered_by dav.FsError answer _ ran in
    let (plain, handle) = opened_of w mid.world p now answer file n there one is in
    shows_read w p n file tag bytes world there plain handle same rest shows

shows_shown : (w : World) (p : Path) (now : ℕ) (n : Node) {old new : StoreState} {ls ms : Locks} {r : Reply} (tag bytes : List ℕ) → IsWorld w → node_at w p ≡ Some n → old.world ≡ w
    → Ran Asks (show p now (metadata_of n)) old ls (Ok r) new ms → Shows tag bytes r → Stands w p tag bytes
shows_shown w p now n tag bytes world there same (ran_ask {old = old} {mid = mid} {answer = answer} one rest) shows =
    shows_opened w p now n answer tag bytes world there (did_leave (Open p reading now) old.world mid.world answer (refl, refl, refl) (did one) ∙ same)
    (subst (λ (v : World). Did (meaning (Open p reading now) v) v answer mid.world) same (did one)) rest shows

no_bytes : (bytes : List ℕ) → ◌≡◌ {A = ReplyBody} reply.Nothing (reply.Bytes bytes) → ⊥
no_bytes bytes same = cc

-- a status that the conditions answer shows no file
unmodified_shows_none : (b : Bool) (status : ℕ) (d : DavMetaData) (tag bytes : List ℕ) {old new : StoreState} {ls ms : Locks} {r : Reply}
    → Ran Asks (if b then gives (not_modified d) else fails (dav.Status status)) old ls (Ok r) new ms → Shows tag bytes r → ⊥
unmodified_shows_none true status d tag bytes ran shows = no_bytes bytes (sym (ap (λ (r : Reply). r.body) (ok_same (ran_outcome ran))) ∙ shows.bytes_are)
unmodified_shows_none false status d tag bytes ran shows = let clash = ran_outcome ran in cc

shows_judged : (w : World) (p : Path) (now : ℕ) (n : Node) (verdict : Option ℕ) {old new : StoreState} {ls ms : Locks} {r : Reply} (tag bytes : List ℕ) → IsWorld w → node_at w p ≡ Some n → old.world ≡ w
    → Ran Asks (unless_condition_status verdict (metadata_of n) (show p now (metadata_of n))) old ls (Ok r) new ms → Shows tag bytes r → Stands w p tag bytes
shows_judged w p now n None tag bytes world there same ran shows = shows_shown w p now n tag bytes world there same ran shows
shows_judged w p now n (Some status) tag bytes world there same ran shows = absurd (unmodified_shows_none (status == 304) status (metadata_of n) tag bytes ran shows)

look_reads : (c : Call) → IsLook c → OnlyReads c
look_reads c looks = tt

pub conditions_read : (m : DavMethod) (c : Conditions) (d : DavMetaData) → IsReading (if_match m c (Some d))
conditions_read m c d = only_reads look_reads (only_conditions m c (Some d))

shows_allowed : (w : World) (c : Conditions) (p : Path) (now : ℕ) (n : Node) {old new : StoreState} {ls ms : Locks} {r : Reply} (tag bytes : List ℕ) → IsWorld w → node_at w p ≡ Some n → old.world ≡ w
    → Ran Asks (if_match Get c (Some (metadata_of n)) >>= (λ verdict. unless_condition_status verdict (metadata_of n) (show p now (metadata_of n)))) old ls (Ok r) new ms → Shows tag bytes r → Stands w p tag bytes
shows_allowed w c p now n tag bytes world there same ran shows =
    let more = looked (if_match Get c (Some (metadata_of n))) _ (conditions_read Get c (metadata_of n)) ran in
    shows_judged w p now n more.value tag bytes world there (more.same ∙ same) more.rest shows

-- what follows where a file was found
abbrev pub after_found : DavMethod → Conditions → Path → ℕ → DavMetaData → MethodPlan Reply
after_found m c p now d =
    require (not d.dir) (dav.Status 405) >>= (λ plain. if_match m c (Some d) >>= (λ verdict. unless_condition_status verdict d (show_or_tell m p now d)))

shows_found : (w : World) (c : Conditions) (p : Path) (now : ℕ) (answer : Result DavMetaData FsError) {mid new : StoreState} {ls ms : Locks} {r : Reply} (tag bytes : List ℕ) → IsWorld w → mid.world ≡ w → Did (meaning (Metadata p) w) w answer mid.world
    → Ran Asks (followed_by (refused_as dav.FsError answer) (after_found Get c p now)) mid ls (Ok r) new ms → Shows tag bytes r → Stands w p tag bytes
shows_found w c p now answer {mid} {new} {ls} {ms} {r} tag bytes world same one ran shows =
    let (d, is, rest) = answered_by dav.FsError answer _ ran in
    let (n, there, about) = told_of w mid.world p answer d one is in
    let (plain, more) = required (not (metadata_of n).dir) (dav.Status 405) _ (subst (λ (x : DavMetaData). Ran Asks (after_found Get c p now x) mid ls (Ok r) new ms) about rest) in
    shows_allowed w c p now n tag bytes world there same more shows

shows_get : (c : Conditions) (p : Path) (now : ℕ) {old new : StoreState} {ls ms : Locks} {r : Reply} (tag bytes : List ℕ) → IsWorld old.world
    → Ran Asks (get Get c p now) old ls (Ok r) new ms → Shows tag bytes r → Stands old.world p tag bytes
shows_get c p now tag bytes world (ran_ask {old = old} {mid = mid} {answer = answer} one rest) shows =
    shows_found old.world c p now answer tag bytes world (did_leave (Metadata p) old.world mid.world answer tt (did one)) (did one) rest shows

-- no error shows a file
pub error_shows_none : (e : DavError) (tag bytes : List ℕ) → Shows tag bytes (reply_to (Err e)) → ⊥
error_shows_none e tag bytes shows = no_bytes bytes shows.bytes_are

-- what a GET shows is at its path, with its tag
pub get_shows : (c : Conditions) (p : Path) (now : ℕ) (outcome : Result Reply DavError) {old new : StoreState} {ls ms : Locks} (tag bytes : List ℕ) → IsWorld old.world
    → Ran Asks (get Get c p now) old ls outcome new ms → Shows tag bytes (reply_to outcome) → Stands old.world p tag bytes
get_shows c p now (Err e) tag bytes world ran shows = absurd (error_shows_none e tag bytes shows)
get_shows c p now (Ok r) tag bytes world ran shows = shows_get c p now tag bytes world ran shows

-- ---- what a tag says

-- A number that the tag holds was handed out, and whatever has it is a file of these bytes.
pub record Known (w : World) (tag bytes : List ℕ) : Type 0 where
  pub number : ℕ
  pub tag_is : tag ≡ tag_of number
  pub remembered : Remembers number bytes w

one_node : (w : World) (p q : Path) (n k : Node) → q ≡ p → node_at w p ≡ Some n → node_at w q ≡ Some k → k ≡ n
one_node w p q n k same there also = some_same (sym also ∙ ap (node_at w) same ∙ there)

pub stands_known : (w : World) (p : Path) (tag bytes : List ℕ) → IsWorld w → Stands w p tag bytes → Known w tag bytes
stands_known w p tag bytes world stands = record {
  number = stands.node.number;
  tag_is = stands.tag_is;
  remembered = record {
    below = world.numbers.below p stands.node stands.there;
    bytes_are = λ q k there same.
        ap (λ (x : Node). x.kind) (one_node w p q stands.node k (world.numbers.once q p k stands.node there stands.there same) stands.there there) ∙ stands.kind;
  };
}

-- the number in a tag
untagged : (m n : ℕ) → tag_of m ≡ tag_of n → digits 16 false m ≡ digits 16 false n
untagged m n same = append_cancel_right (digits 16 false m) (digits 16 false n) (34 ∷ []) (ap (drop 1) same)

pub one_number : (m n : ℕ) → m < last_number → n < last_number → tag_of m ≡ tag_of n → m ≡ n
one_number m n low high same =
    sym (digits_is_IsNumeral 16 false (omega arith) (omega arith) m (omega (arith, low))).1
    ∙ ap (digits_value 16) (untagged m n same)
    ∙ (digits_is_IsNumeral 16 false (omega arith) (omega arith) n (omega (arith, high))).1

file_same : {a b : List ℕ} → File a ≡ File b → a ≡ b
file_same same = cc

-- what a known tag shows
pub known_bytes : (w : World) (p : Path) (tag bytes others : List ℕ) → IsWorld w → Known w tag bytes → Stands w p tag others → bytes ≡ others
known_bytes w p tag bytes others world known stands =
    let top = world.next in
    let low = known.remembered.below in
    let high = world.numbers.below p stands.node stands.there in
    let same : stands.node.number ≡ known.number = one_number stands.node.number known.number (omega (arith, top, high)) (omega (arith, top, low)) (sym stands.tag_is ∙ known.tag_is) in
    file_same (sym (known.remembered.bytes_are p stands.node stands.there same) ∙ stands.kind)
