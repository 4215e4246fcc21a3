-- A step that isn't the machine's: another client makes a member of a folder whose list of members a lock of Depth 0 guards.
use Rattle.std.proofs.Common.{◌≡◌, ◌≢◌, ℕ, Bool, true, false, if◌then◌else◌, List, [], ◌∷◌, Some, None, Ok, refl, sym, ap, subst, ◌∙◌, arith}
use Rattle.std.proofs.Math.Bool.{or-false}
use Rattle.std.specs.Option.{option_map}
use Rattle.dav_core.specs.declared.errors.DavError.TheVariants as dav
use Rattle.dav_core.specs.declared.method.DavMethod.TheVariants.{MkCol}
use Rattle.dav_core.specs.Asking.{Asks, asked, CreateDir}
use Rattle.dav_core.specs.Locks.{Lock, covers, requester_of}
use Rattle.dav_core.specs.Path.{Path, rest_after, has_names, is_same_path, is_under}
use Rattle.dav_core.specs.World.{node_at, is_folder}
use Rattle.dav_core.proofs.Theorems.{same_path}
use Rattle.dav_engine.specs.Guard.{Stands, listed_here, listed_later}
use Rattle.dav_engine.specs.Inside.{content_of}
use Rattle.dav_engine.specs.Members.{SameMembers}
use Rattle.dav_engine.specs.Method.{MethodPlan, ◌>>=◌, ask_or, gives, require_free}
use Rattle.dav_engine.specs.Mkcol.{create_error, made}
use Rattle.dav_engine.specs.Plan.{Locks, Ran, ran_done, ran_ask, ran_look}
use Rattle.dav_engine.specs.Reply.{Reply}
use Rattle.dav_engine.specs.Sparing.{Spared}
use Rattle.dav_server.specs.Head.{Request, request_of_head}
use Rattle.dav_server.specs.Promises.{OneStep, Promise, reading, created, refused, unmodified, updated, passed, kept, shared, tags, hrefs, members, Keeps}
use Rattle.dav_server.proofs.NeededForHeadline.{state}
use Rattle.dav_server.proofs.OneStep.{BreaksOnly, stand, as_shared, unsafe, no_creation, answered, no_304, no_hrefs, first_step, untold, no_tag}
use Rattle.dav_server.proofs.WorkedRun.{a, b, below, at_below, slash_below, lock, head_to, stranger_below, below_head, below_unnamed, after, filled, holding, makes_below}

-- a lock of Depth 0 on the folder
abbrev pub list_lock : Lock
list_lock = record lock { deep = false }

abbrev pub one_list : Locks
one_list = Some (list_lock ∷ [])

-- a MKCOL that looks at the locks of its own path alone
abbrev pub asks_no_folder_above : MethodPlan Reply
asks_no_folder_above = do
  _ ← require_free false (requester_of [] false None) below (dav.Status 423)
  _ ← ask_or create_error (CreateDir below 1)
  gives (made at_below)

abbrev pub adding : OneStep
adding = first_step stranger_below (made at_below) (state (holding after) one_list) (state (holding filled) one_list)

abbrev pub add_request : Request
add_request = request_of_head (head_to slash_below [])

-- ---- the lock covers the folder alone

covered_is : (q : Path) → covers list_lock q ≡ true → a ∷ [] ≡ q
covered_is q is = same_path (a ∷ []) q (sym (or-false (is_same_path (a ∷ []) q)) ∙ is)

covered_by : (h : Lock) (q : Path) → Stands h one_list → covers h q ≡ true → a ∷ [] ≡ q
covered_by h q (listed_here same) is = covered_is q (ap (λ (l : Lock). covers l q) same ∙ is)
covered_by h q (listed_later out) is = elim out [ ]

none_by : (x : List ℕ) (r : Path) (same : Bool) → has_names (if same then rest_after r [] else None) ≡ true → ⊥
none_by x [] true is = cc
none_by x (y ∷ r) true is = cc
none_by x r false is = cc

-- the root alone is above it
still_above : (p : Path) → is_under (a ∷ []) p ≡ true → is_folder filled p ≡ true
still_above [] up = refl
still_above (x ∷ r) up = absurd (none_by x r _ up)

is_spared : (h : Lock) → Stands h one_list → Spared (covers h) after filled
is_spared h stands = record {
  same = λ q within. subst (λ (x : Path). option_map content_of (node_at after x) ≡ option_map content_of (node_at filled x)) (covered_by h q stands within) refl;
  above = λ p q up within folder. still_above p (ap (λ (x : Path). is_under x p) (covered_by h q stands within) ∙ up);
}

-- ---- the step

all_but_members : (d : Promise) → d ≢ members → Keeps d adding
all_but_members reading other = unsafe adding add_request MkCol below_head (tt, refl) refl
all_but_members created other = no_creation adding add_request MkCol below_head (tt, refl) (λ e. cc) (λ e. cc)
all_but_members refused other = answered adding (λ e. omega (arith, e)) (λ e. omega (arith, e)) (λ e. omega (arith, e))
all_but_members unmodified other = no_304 adding (λ e. omega (arith, e))
all_but_members updated other = untold stranger_below (made at_below) adding.was adding.now
all_but_members passed other = λ h alone is unnamed. is_spared h is
all_but_members kept other = stand adding refl
all_but_members shared other = as_shared adding refl
all_but_members tags other = no_tag stranger_below (made at_below) adding.was adding.now (λ e. omega (arith, e))
all_but_members hrefs other = no_hrefs adding refl
all_but_members members other = absurd (other refl)

other_members : ¬ SameMembers (a ∷ []) after filled
other_members same = let e : ◌≡◌ {A = List (List ℕ × Bool)} ((b, true) ∷ []) [] = same.listed in cc

-- the folder has a member that it hadn't, and the path of that isn't covered
pub added_member_changes_a_locked_list : Ran Asks asks_no_folder_above (holding after) one_list (Ok (made at_below)) (holding filled) one_list × BreaksOnly members adding
added_member_changes_a_locked_list = (
  ran_look (ran_ask {c = CreateDir below 1} {answer = Ok tt} (asked makes_below) ran_done),
  record { broken = λ keeps. other_members (keeps list_lock refl (listed_here refl) (λ named. below_unnamed named.token) refl); others = all_but_members },
)
