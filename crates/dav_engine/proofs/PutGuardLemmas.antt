-- How code follows the checks before the file of a PUT or PATCH is opened.
use Rattle.std.proofs.Common.{◌≡◌, ℕ, Bool, true, false, not, List, map, string_bytes, String, Option, Result, Ok, Err, refl, sym, ap, ◌∙◌}
use Rattle.std.specs.Global.{Vec, Global}
use Rattle.std.specs.Option.{is_none, is_some}
use Rattle.std.specs.Result.{is_ok, result_ok}
use Rattle.dav_core.specs.declared.errors.FsError.{FsError}
use Rattle.dav_core.specs.declared.errors.DavError.{DavError}
use Rattle.dav_core.specs.declared.errors.DavError.TheVariants as dav
use Rattle.dav_core.specs.declared.fs.DavMetaData.{DavMetaData}
use Rattle.dav_core.specs.declared.method.DavMethod.{DavMethod}
use Rattle.dav_core.specs.Asking.{StoreState, Asks, Metadata}
use Rattle.dav_core.specs.Locks.{requester_of}
use Rattle.dav_core.specs.Path.{Path}
use Rattle.dav_engine.specs.declared.methods.put.headers.Writing.{Writing}
use Rattle.dav_engine.specs.Caller.{Caller, requester}
use Rattle.dav_engine.specs.Plan.{Locks}
use Rattle.dav_engine.specs.Method.{MethodPlan, ◌>>=◌, gives, require, require_member}
use Rattle.dav_engine.specs.Follows.{Follows, FollowsOnLocks, or_memory}
use Rattle.dav_engine.specs.Conditions.{if_match_get_tokens, guarded}
use Rattle.dav_engine.specs.ConditionView.{texts_of, tokens_or_status}
use Rattle.dav_engine.specs.Put.{PutHeaders, writing_of, is_announced, put_allowed}
use Rattle.dav_engine.proofs.Following.{follows_done, follows_ask, follows_then, follows_err, follows_on, follows_out}
use Rattle.dav_engine.proofs.GuardLemmas.{follows_ok, follows_fails, guard_passed, guard_failed, guard_short, none_by, member_for}

-- whether something was found
some_ok : (answer : Result DavMetaData FsError) → is_some (result_ok answer) ≡ is_ok answer
some_ok (Ok m) = refl
some_ok (Err e) = refl

-- what follows the check of the locks
abbrev length_next : Writing → Bool → List ℕ → Unit {0} → MethodPlan (Writing × Bool)
length_next w exists bytes _ = do
  _ ← require (is_announced w.announced bytes) (dav.StatusClose 400)
  gives (w, exists)

-- what follows the conditions
abbrev locks_next : Path → Caller → List ℕ → Bool → Writing → List (List ℕ) → MethodPlan (Writing × Bool)
locks_next p who bytes exists w tokens = require_member false (not exists) (requester who tokens) p (dav.StatusClose 423) >>= length_next w exists bytes

-- what follows the choice of the place
abbrev conditions_next : DavMethod → PutHeaders → Path → Caller → List ℕ → Result DavMetaData FsError → Writing → MethodPlan (Writing × Bool)
conditions_next m h p who bytes answer w = guarded dav.StatusClose m h.conditions (result_ok answer) >>= locks_next p who bytes (is_ok answer) w

-- the file that was found has no such place
pub put_unplaced : (m : DavMethod) (h : PutHeaders) (p : Path) (who : Caller) (bytes : List ℕ) (answer : Result DavMetaData FsError) (before : Option DavMetaData) (placed : Result Writing DavError) (e : DavError)
    {old mid : StoreState} {ls : Locks}
    → Asks (Metadata p) old answer mid → before ≡ result_ok answer → placed ≡ writing_of m h before → placed ≡ Err e
    → Follows (λ (r : Writing × Bool). r) (put_allowed m h p who bytes) old ls (Err e) mid ls
put_unplaced m h p who bytes answer before placed e asks same there is =
    follows_ask asks (follows_fails (writing_of m h (result_ok answer)) e (conditions_next m h p who bytes answer) (ap (writing_of m h) (sym same) ∙ sym there ∙ is) refl)

-- the bytes have a place, and the rest was followed
put_placed : (m : DavMethod) (h : PutHeaders) (p : Path) (who : Caller) (bytes : List ℕ) (answer : Result DavMetaData FsError) (before : Option DavMetaData) (placed : Result Writing DavError) (w : Writing)
    {old mid new : StoreState} {ls : Locks} {end : Result (Writing × Bool) DavError}
    → Asks (Metadata p) old answer mid → before ≡ result_ok answer → placed ≡ writing_of m h before → placed ≡ Ok w
    → Follows (λ (r : Writing × Bool). r) (conditions_next m h p who bytes answer w) mid ls end new ls
    → Follows (λ (r : Writing × Bool). r) (put_allowed m h p who bytes) old ls end new ls
put_placed m h p who bytes answer before placed w asks same there is rest =
    follows_ask asks (follows_ok (writing_of m h (result_ok answer)) w (conditions_next m h p who bytes answer) (ap (writing_of m h) (sym same) ∙ sym there ∙ is) rest)

-- memory ran out while conditions were evaluated
pub put_short : {E : Type 0} (m : DavMethod) (h : PutHeaders) (p : Path) (who : Caller) (bytes : List ℕ) (answer : Result DavMetaData FsError) (before : Option DavMetaData) (placed : Result Writing DavError) (w : Writing)
    (seen : Option DavMetaData) (r : Result (Result (Vec (String Global)) ℕ) E) (e : E) {old mid new : StoreState} {ls : Locks}
    → Asks (Metadata p) old answer mid → before ≡ result_ok answer → placed ≡ writing_of m h before → placed ≡ Ok w
    → seen ≡ result_ok answer → r ≡ Err e → Follows tokens_or_status (if_match_get_tokens m h.conditions seen) mid ls (or_memory r) new ls
    → Follows (λ (x : Writing × Bool). x) (put_allowed m h p who bytes) old ls (Err dav.Memory) new ls
put_short m h p who bytes answer before placed w seen r e asks same there is found was one =
    put_placed m h p who bytes answer before placed w asks same there is
    (guard_short dav.StatusClose m h.conditions seen (result_ok answer) (locks_next p who bytes (is_ok answer) w) r e found was one)

-- a condition fails
pub put_failed : {E : Type 0} (m : DavMethod) (h : PutHeaders) (p : Path) (who : Caller) (bytes : List ℕ) (answer : Result DavMetaData FsError) (before : Option DavMetaData) (placed : Result Writing DavError) (w : Writing)
    (seen : Option DavMetaData) (r : Result (Result (Vec (String Global)) ℕ) E) (verdict : Result (Vec (String Global)) ℕ) (status : ℕ) {old mid new : StoreState} {ls : Locks}
    → Asks (Metadata p) old answer mid → before ≡ result_ok answer → placed ≡ writing_of m h before → placed ≡ Ok w
    → seen ≡ result_ok answer → r ≡ Ok verdict → verdict ≡ Err status → Follows tokens_or_status (if_match_get_tokens m h.conditions seen) mid ls (or_memory r) new ls
    → Follows (λ (x : Writing × Bool). x) (put_allowed m h p who bytes) old ls (Err (dav.StatusClose status)) new ls
put_failed m h p who bytes answer before placed w seen r verdict status asks same there is found was fails one =
    put_placed m h p who bytes answer before placed w asks same there is
    (guard_failed dav.StatusClose m h.conditions seen (result_ok answer) (locks_next p who bytes (is_ok answer) w) r verdict status found was fails one)

-- the conditions hold, and the rest was followed
put_passed : {E : Type 0} (m : DavMethod) (h : PutHeaders) (p : Path) (who : Caller) (bytes : List ℕ) (answer : Result DavMetaData FsError) (before : Option DavMetaData) (placed : Result Writing DavError) (w : Writing)
    (seen : Option DavMetaData) (r : Result (Result (Vec (String Global)) ℕ) E) (verdict : Result (Vec (String Global)) ℕ) (tokens : Vec (String Global)) {old mid new : StoreState} {ls : Locks} {end : Result (Writing × Bool) DavError}
    → Asks (Metadata p) old answer mid → before ≡ result_ok answer → placed ≡ writing_of m h before → placed ≡ Ok w
    → seen ≡ result_ok answer → r ≡ Ok verdict → verdict ≡ Ok tokens → Follows tokens_or_status (if_match_get_tokens m h.conditions seen) mid ls (or_memory r) new ls
    → Follows (λ (x : Writing × Bool). x) (locks_next p who bytes (is_ok answer) w (texts_of tokens)) new ls end new ls
    → Follows (λ (x : Writing × Bool). x) (put_allowed m h p who bytes) old ls end new ls
put_passed m h p who bytes answer before placed w seen r verdict tokens asks same there is found was holds one rest =
    put_placed m h p who bytes answer before placed w asks same there is
    (guard_passed dav.StatusClose m h.conditions seen (result_ok answer) (locks_next p who bytes (is_ok answer) w) r verdict tokens found was holds one rest)

-- what the check of the locks did
member_done : (p : Path) (who : Caller) (answer : Result DavMetaData FsError) (tokens : Vec (String Global)) (lent : List (String Global)) (b : Bool) (file : Option DavMetaData) {ls : Locks} {end : Result (Unit {0}) DavError}
    → b ≡ is_none file → file ≡ result_ok answer → lent ≡ tokens.items → FollowsOnLocks (λ (u : Unit {0}). u) (require_member false b (requester_of (map string_bytes lent) false who.principal) p (dav.StatusClose 423)) ls end ls
    → FollowsOnLocks (λ (u : Unit {0}). u) (require_member false (not (is_ok answer)) (requester who (texts_of tokens)) p (dav.StatusClose 423)) ls end ls
member_done p who answer tokens lent b file told kept tells done =
    member_for false b (not (is_ok answer)) tokens lent who.principal p (dav.StatusClose 423) (none_by answer file b told kept) tells done

-- a lock conflicts, or memory runs out where that is checked
pub put_locked : {E : Type 0} (m : DavMethod) (h : PutHeaders) (p : Path) (who : Caller) (bytes : List ℕ) (answer : Result DavMetaData FsError) (before : Option DavMetaData) (placed : Result Writing DavError) (w : Writing)
    (seen : Option DavMetaData) (r : Result (Result (Vec (String Global)) ℕ) E) (verdict : Result (Vec (String Global)) ℕ) (tokens : Vec (String Global)) (lent : List (String Global)) (b : Bool) (file : Option DavMetaData) (e : DavError) {old mid new : StoreState} {ls : Locks}
    → Asks (Metadata p) old answer mid → before ≡ result_ok answer → placed ≡ writing_of m h before → placed ≡ Ok w
    → seen ≡ result_ok answer → r ≡ Ok verdict → verdict ≡ Ok tokens → Follows tokens_or_status (if_match_get_tokens m h.conditions seen) mid ls (or_memory r) new ls
    → b ≡ is_none file → file ≡ result_ok answer → lent ≡ tokens.items → FollowsOnLocks (λ (u : Unit {0}). u) (require_member false b (requester_of (map string_bytes lent) false who.principal) p (dav.StatusClose 423)) ls (Err e) ls
    → Follows (λ (x : Writing × Bool). x) (put_allowed m h p who bytes) old ls (Err e) new ls
put_locked m h p who bytes answer before placed w seen r verdict tokens lent b file e {new = new} asks same there is found was holds one told kept tells barred =
    put_passed m h p who bytes answer before placed w seen r verdict tokens asks same there is found was holds one
    (follows_err (length_next w (is_ok answer) bytes) e (member_done p who answer tokens lent b file told kept tells barred new))

-- the path isn't locked against the requester, and the rest was followed
put_free : {E : Type 0} (m : DavMethod) (h : PutHeaders) (p : Path) (who : Caller) (bytes : List ℕ) (answer : Result DavMetaData FsError) (before : Option DavMetaData) (placed : Result Writing DavError) (w : Writing)
    (seen : Option DavMetaData) (r : Result (Result (Vec (String Global)) ℕ) E) (verdict : Result (Vec (String Global)) ℕ) (tokens : Vec (String Global)) (lent : List (String Global)) (b : Bool) (file : Option DavMetaData)
    {old mid new : StoreState} {ls : Locks} {end : Result (Writing × Bool) DavError}
    → Asks (Metadata p) old answer mid → before ≡ result_ok answer → placed ≡ writing_of m h before → placed ≡ Ok w
    → seen ≡ result_ok answer → r ≡ Ok verdict → verdict ≡ Ok tokens → Follows tokens_or_status (if_match_get_tokens m h.conditions seen) mid ls (or_memory r) new ls
    → b ≡ is_none file → file ≡ result_ok answer → lent ≡ tokens.items → FollowsOnLocks (λ (u : Unit {0}). u) (require_member false b (requester_of (map string_bytes lent) false who.principal) p (dav.StatusClose 423)) ls (Ok tt) ls
    → Follows (λ (x : Writing × Bool). x) (length_next w (is_ok answer) bytes tt) new ls end new ls
    → Follows (λ (x : Writing × Bool). x) (put_allowed m h p who bytes) old ls end new ls
put_free m h p who bytes answer before placed w seen r verdict tokens lent b file {new = new} asks same there is found was holds one told kept tells freed rest =
    put_passed m h p who bytes answer before placed w seen r verdict tokens asks same there is found was holds one
    (follows_then (length_next w (is_ok answer) bytes) (member_done p who answer tokens lent b file told kept tells freed new) rest)

-- the body isn't of the announced length
pub put_other_length : {E : Type 0} (m : DavMethod) (h : PutHeaders) (p : Path) (who : Caller) (bytes : List ℕ) (answer : Result DavMetaData FsError) (before : Option DavMetaData) (placed : Result Writing DavError) (w : Writing)
    (seen : Option DavMetaData) (r : Result (Result (Vec (String Global)) ℕ) E) (verdict : Result (Vec (String Global)) ℕ) (tokens : Vec (String Global)) (lent : List (String Global)) (b : Bool) (file : Option DavMetaData) (fits : Bool) {old mid new : StoreState} {ls : Locks}
    → Asks (Metadata p) old answer mid → before ≡ result_ok answer → placed ≡ writing_of m h before → placed ≡ Ok w
    → seen ≡ result_ok answer → r ≡ Ok verdict → verdict ≡ Ok tokens → Follows tokens_or_status (if_match_get_tokens m h.conditions seen) mid ls (or_memory r) new ls
    → b ≡ is_none file → file ≡ result_ok answer → lent ≡ tokens.items → FollowsOnLocks (λ (u : Unit {0}). u) (require_member false b (requester_of (map string_bytes lent) false who.principal) p (dav.StatusClose 423)) ls (Ok tt) ls
    → fits ≡ is_announced w.announced bytes → fits ≡ false
    → Follows (λ (x : Writing × Bool). x) (put_allowed m h p who bytes) old ls (Err (dav.StatusClose 400)) new ls
put_other_length m h p who bytes answer before placed w seen r verdict tokens lent b file fits asks same there is found was holds one told kept tells freed compared differs =
    put_free m h p who bytes answer before placed w seen r verdict tokens lent b file asks same there is found was holds one told kept tells freed
    (follows_out (is_announced w.announced bytes) (dav.StatusClose 400) (λ _. gives (w, is_ok answer)) (sym compared ∙ differs) refl)

-- the bytes may be stored
pub put_agreed : {E : Type 0} (m : DavMethod) (h : PutHeaders) (p : Path) (who : Caller) (bytes : List ℕ) (answer : Result DavMetaData FsError) (before : Option DavMetaData) (placed : Result Writing DavError) (w : Writing)
    (seen : Option DavMetaData) (r : Result (Result (Vec (String Global)) ℕ) E) (verdict : Result (Vec (String Global)) ℕ) (tokens : Vec (String Global)) (lent : List (String Global)) (b : Bool) (file : Option DavMetaData) (fits exists : Bool)
    {old mid new : StoreState} {ls : Locks}
    → Asks (Metadata p) old answer mid → before ≡ result_ok answer → placed ≡ writing_of m h before → placed ≡ Ok w
    → seen ≡ result_ok answer → r ≡ Ok verdict → verdict ≡ Ok tokens → Follows tokens_or_status (if_match_get_tokens m h.conditions seen) mid ls (or_memory r) new ls
    → b ≡ is_none file → file ≡ result_ok answer → lent ≡ tokens.items → FollowsOnLocks (λ (u : Unit {0}). u) (require_member false b (requester_of (map string_bytes lent) false who.principal) p (dav.StatusClose 423)) ls (Ok tt) ls
    → fits ≡ is_announced w.announced bytes → fits ≡ true → exists ≡ is_some file
    → Follows (λ (x : Writing × Bool). x) (put_allowed m h p who bytes) old ls (Ok (w, exists)) new ls
put_agreed m h p who bytes answer before placed w seen r verdict tokens lent b file fits exists asks same there is found was holds one told kept tells freed compared agrees shown =
    put_free m h p who bytes answer before placed w seen r verdict tokens lent b file asks same there is found was holds one told kept tells freed
    (follows_on (is_announced w.announced bytes) (dav.StatusClose 400) (λ _. gives (w, is_ok answer)) (sym compared ∙ agrees)
    (follows_done (ap (λ (t : Bool). Ok (w, t)) (shown ∙ ap is_some kept ∙ some_ok answer))))
