-- A worked run of two clients: one is refused in a locked folder, and its holder makes a folder there, as if alone.
use Rattle.std.proofs.Common.{◌≡◌, ◌≢◌, ◌≤◌, ◌<◌, ◌++◌, ℕ, Bool, true, false, List, [], ◌∷◌, length, get_or, codes, if◌then◌else◌, Some, None, Ok, Err, is_eq, All, inl, inr, refl, sym, ap, subst, ◌∙◌, append-nil, arith}
use Rattle.std.proofs.lemmas.List.Elements.{All-nil, All-cons}
use Rattle.std.proofs.lemmas.List.Sums.{AllPass-from_list_all}
use Rattle.std.specs.List.{list_all}
use Rattle.std.specs.Str.{IsUtf8}
use Rattle.std.specs.Option.{is_some}
use Rattle.http_header.specs.FieldValue.{plain_value}
use Rattle.http_header.specs.HeaderMap.{get_all}
use Rattle.percent_encoding.specs.Percent.{percent_decode}
use Rattle.httparse.specs.Grammar.{Field, IsField, RequestHead, IsRequestHead, crlf, is_token_byte, is_uri_byte, is_value_byte, print_request, trim_ows}
use Rattle.dav_core.specs.declared.errors.FsError.TheVariants.{NotFound, GeneralFailure}
use Rattle.dav_core.specs.declared.errors.DavError.TheVariants as dav
use Rattle.dav_core.specs.declared.method.DavMethod.{DavMethod}
use Rattle.dav_core.specs.declared.method.DavMethod.TheVariants.{MkCol}
use Rattle.dav_core.specs.Asking.{meaning, StoreState, Answered, asked, Metadata, CreateDir}
use Rattle.dav_core.specs.Locks.{Lock}
use Rattle.dav_core.specs.Path.{Path, PathText, IsName, IsBlank, name_cmp, rest_after, has_names, at_start}
use Rattle.dav_core.specs.Target.{nothing, blank, NamesPath, EndsInSlash, IsTextByte, pieces_of, before_query}
use Rattle.dav_core.specs.World.{World, Folder, is_folder, with_new, empty_from, last_moment, IsWorld}
use Rattle.dav_core.proofs.Theorems.{empty_is_world, calls_keep_worlds}
use Rattle.dav_headers.specs.ETagList.{TagList, IsTagList}
use Rattle.dav_headers.specs.If.{IsIfHeader, state_token}
use Rattle.dav_headers.specs.IfLaws.{asks_for}
use Rattle.dav_headers.specs.IfTokens.{IsWhiteSpace}
use Rattle.dav_headers.proofs.Theorems.{asked_for}
use Rattle.dav_engine.specs.declared.request.Body.TheVariants as body
use Rattle.dav_engine.specs.Alongside.{AsksWithNumbers}
use Rattle.dav_engine.specs.IsolatedPlans.{SubmitsAlone}
use Rattle.dav_engine.specs.Conditions.{Conditions, Addressed, AreConditions, SaysLists}
use Rattle.dav_engine.specs.Guard.{Stands, guards_here, no_others, listed_here, a_list, no_list}
use Rattle.dav_headers.specs.Value.{only_text}
use Rattle.dav_engine.specs.Inside.{HasFoldersAbove}
use Rattle.dav_engine.specs.Method.{MethodPlan}
use Rattle.dav_engine.specs.Mkcol.{mkcol, made, is_mkcol}
use Rattle.dav_engine.specs.Plan.{Locks, Ran, ran_done, ran_ask, ran_look}
use Rattle.dav_engine.specs.Reply.{Reply, error_reply}
use Rattle.dav_engine.proofs.Theorems.{last_is}
use Rattle.dav_server.specs.Head.{Request, IsHead, request_of_head}
use Rattle.dav_server.specs.Headers.{headers_of}
use Rattle.dav_server.specs.Holder.{IsHolderRequest, acts}
use Rattle.dav_server.specs.Isolation.{AreLoaded, TokenIsFresh, RunsUnder, under_none, under_more, HolderTurns, alone_none, alone_other, alone_own, MatchesSoloRun}
use Rattle.dav_server.specs.Machine.{Settings, Exchange, caller, Means, known, method, makes, steps}
use Rattle.dav_server.specs.Naming.{NamesToken, by_if, by_lock_token, NamesLock}
use Rattle.dav_server.specs.Run.{Turn}
use Rattle.dav_server.specs.TagLaws.{MomentsAreDates}
use Rattle.dav_server.specs.Target.{TargetNames, path}
use Rattle.dav_server.proofs.HeadLemmas.{one_head}
use Rattle.dav_server.proofs.IsolationLemmas.{holders_are_alone}

-- ---- the lock, and the two requests

-- the name of the folder that is locked, a name in it, and the token of its lock
abbrev pub a : List ℕ
a = 97 ∷ []

abbrev pub b : List ℕ
b = 98 ∷ []

abbrev pub token : List ℕ
token = 116 ∷ []

abbrev pub slash_a : List ℕ
slash_a = 47 ∷ 97 ∷ []

abbrev pub at_a : PathText
at_a = record { prefix = []; bytes = slash_a }

abbrev pub below : Path
below = a ∷ b ∷ []

abbrev pub slash_below : List ℕ
slash_below = 47 ∷ 97 ∷ 47 ∷ 98 ∷ []

abbrev pub at_below : PathText
at_below = record { prefix = []; bytes = slash_below }

-- an exclusive lock of infinite depth on /a
abbrev pub lock : Lock
lock = record { token = token; path = at_a; principal = None; owner = None; timeout_at = None; timeout = None; shared = false; deep = true }

-- a request of this method with these fields
abbrev pub head_of : List ℕ → List ℕ → List Field → RequestHead
head_of name target fields = record { blank = []; method = name; target = target; minor = 1; line_end = crlf; fields = fields; last = crlf }

-- a MKCOL
abbrev pub head_to : List ℕ → List Field → RequestHead
head_to target fields = head_of (codes "MKCOL") target fields

abbrev pub head_with : List Field → RequestHead
head_with fields = head_to slash_a fields

abbrev pub value : List ℕ
value = 40 ∷ 60 ∷ (token ++ 62 ∷ 41 ∷ [])

abbrev pub if_field : Field
if_field = record { name = codes "If"; raw = value; end = crlf }

abbrev pub request_to : List ℕ → List Field → Exchange
request_to target fields = record { head = print_request (head_to target fields); body = body.None; principal = None; moment = 1; token = None }

-- MKCOL /a, without a header and with an If of the lock's token
abbrev pub stranger : Exchange
stranger = request_to slash_a []

abbrev pub holder : Exchange
holder = request_to slash_a (if_field ∷ [])

-- MKCOL /a/b, the same two
abbrev pub stranger_below : Exchange
stranger_below = request_to slash_below []

abbrev pub holder_below : Exchange
holder_below = request_to slash_below (if_field ∷ [])

abbrev pub turn_with : Exchange → Turn
turn_with x = record { asked = x; refusals = Some [] }

-- a server of all methods at the root
abbrev pub settings : Settings
settings = record { prefix = []; allowed = 65535 }

-- ---- the heads

pub head_with_method : (name target : List ℕ) (fields : List Field) → 0 < length name → list_all is_token_byte name ≡ true → 0 < length target → list_all is_uri_byte target ≡ true → IsUtf8 target → All IsField fields
    → IsRequestHead (head_of name target fields)
head_with_method name target fields named token_bytes some bytes text are = record {
  method = (named, AllPass-from_list_all is_token_byte name token_bytes);
  target = (some, AllPass-from_list_all is_uri_byte target bytes);
  target_text = text;
  minor = omega arith;
  fields = are;
}

pub request_head : (target : List ℕ) (fields : List Field) → 0 < length target → list_all is_uri_byte target ≡ true → IsUtf8 target → All IsField fields → IsRequestHead (head_to target fields)
unfolding is_token_byte
request_head target fields some bytes text are = head_with_method (codes "MKCOL") target fields (omega arith) refl some bytes text are

pub text_a : IsUtf8 slash_a
unfolding lib.Utf8.encode
text_a = (slash_a, (refl, refl))

pub text_below : IsUtf8 slash_below
unfolding lib.Utf8.encode
text_below = (slash_below, (refl, refl))

is_field : IsField if_field
unfolding is_token_byte
is_field = record { name = (omega arith, AllPass-from_list_all is_token_byte (codes "If") refl); raw = AllPass-from_list_all is_value_byte value refl }

pub one_field : All IsField (if_field ∷ [])
one_field = All-cons IsField if_field [] is_field (All-nil IsField)

short : length stranger.head ≤ 65536
unfolding print_request
short = omega arith

short_too : length holder.head ≤ 65536
unfolding print_request
short_too = omega arith

short_below : length stranger_below.head ≤ 65536
unfolding print_request
short_below = omega arith

short_below_too : length holder_below.head ≤ 65536
unfolding print_request
short_below_too = omega arith

pub stranger_head : IsHead stranger.head (request_of_head (head_with []))
stranger_head = (short, head_with [], (request_head slash_a [] (omega arith) refl text_a (All-nil IsField), sym (append-nil _)), omega arith, refl)

holder_head : IsHead holder.head (request_of_head (head_with (if_field ∷ [])))
holder_head = (short_too, head_with (if_field ∷ []), (request_head slash_a (if_field ∷ []) (omega arith) refl text_a one_field, sym (append-nil _)), omega arith, refl)

pub below_head : IsHead stranger_below.head (request_of_head (head_to slash_below []))
below_head = (short_below, head_to slash_below [], (request_head slash_below [] (omega arith) refl text_below (All-nil IsField), sym (append-nil _)), omega arith, refl)

holder_below_head : IsHead holder_below.head (request_of_head (head_to slash_below (if_field ∷ [])))
holder_below_head = (short_below_too, head_to slash_below (if_field ∷ []), (request_head slash_below (if_field ∷ []) (omega arith) refl text_below one_field, sym (append-nil _)), omega arith, refl)

-- ---- the paths

text_byte : (n : ℕ) → 32 ≤ n → n ≤ 126 → n ≢ 35 → IsTextByte n
text_byte n low high other = (low, high, other)

-- a path of one name, which is one small letter
module _ (n : ℕ) (low : 97 ≤ n) (high : n ≤ 122) (cut : pieces_of (47 ∷ n ∷ []) ≡ [] ∷ (n ∷ []) ∷ []) (whole : before_query (47 ∷ n ∷ []) ≡ 47 ∷ n ∷ []) where
  not_blank : ¬ IsBlank (n ∷ [])
  not_blank (inl e) = cc
  not_blank (inr e) = let f : n ≡ 46 = ap (λ x. get_or x 0 0) e in omega (arith, f, low)

  pub letter_name : IsName (n ∷ [])
  letter_name = record {
    clean = All-cons (λ b. (b ≢ 0) × (b ≢ 47)) n [] ((λ e. omega (arith, e, low)), (λ e. omega (arith, e, low))) (All-nil (λ b. (b ≢ 0) × (b ≢ 47)));
    not_blank = not_blank;
    not_parent = λ e. let f : n ≡ 46 = ap (λ x. get_or x 0 0) e in omega (arith, f, low);
  }

  not_closed : ¬ EndsInSlash (before_query (47 ∷ n ∷ []))
  not_closed (front, is) = let e : 47 ≡ n = last_is front (47 ∷ []) 47 n (sym is ∙ whole) in omega (arith, e, low)

  letter_path : NamesPath (47 ∷ n ∷ []) ((n ∷ []) ∷ []) false
  letter_path = record {
    rooted = record {
      text = All-cons IsTextByte 47 (n ∷ []) (text_byte 47 (omega arith) (omega arith) (λ e. omega (arith, e)))
          (All-cons IsTextByte n [] (text_byte n (omega (arith, low)) (omega (arith, high)) (λ e. omega (arith, e, low))) (All-nil IsTextByte));
      rooted = (n ∷ [], refl);
    };
    leaves = ([] ∷ [], [], blank (inl refl) nothing, letter_name, cut, nothing);
    closed_if = not_closed;
  }

  pub letter_target : (m : DavMethod) → TargetNames [] m (47 ∷ n ∷ []) (Ok (record { prefix = []; bytes = 47 ∷ n ∷ [] }))
  letter_target m = path (inl ((n ∷ [], refl), refl)) (inr ((n ∷ []) ∷ [], false, letter_path, refl)) (at_start refl refl)

pub target_at_a : (m : DavMethod) → TargetNames [] m slash_a (Ok at_a)
unfolding percent_decode
target_at_a m = letter_target 97 (omega arith) (omega arith) refl refl m

pub target_a : TargetNames [] MkCol slash_a (Ok at_a)
target_a = target_at_a MkCol

name_a : IsName a
unfolding percent_decode
name_a = letter_name 97 (omega arith) (omega arith) refl refl

name_b : IsName b
unfolding percent_decode
name_b = letter_name 98 (omega arith) (omega arith) refl refl

open_below : ¬ EndsInSlash (before_query slash_below)
open_below (front, is) = let e : 47 ≡ 98 = last_is front (47 ∷ 97 ∷ 47 ∷ []) 47 98 (sym is) in omega (arith, e)

slash_byte : IsTextByte 47
slash_byte = text_byte 47 (omega arith) (omega arith) (λ e. omega (arith, e))

path_below : NamesPath slash_below below false
unfolding percent_decode
path_below = record {
  rooted = record {
    text = All-cons IsTextByte 47 (97 ∷ 47 ∷ 98 ∷ []) slash_byte (All-cons IsTextByte 97 (47 ∷ 98 ∷ []) (text_byte 97 (omega arith) (omega arith) (λ e. omega (arith, e)))
        (All-cons IsTextByte 47 (98 ∷ []) slash_byte (All-cons IsTextByte 98 [] (text_byte 98 (omega arith) (omega arith) (λ e. omega (arith, e))) (All-nil IsTextByte))));
    rooted = (97 ∷ 47 ∷ 98 ∷ [], refl);
  };
  leaves = ([] ∷ [], b ∷ [], blank (inl refl) nothing, name_a, refl, ([], [], nothing, name_b, refl, nothing));
  closed_if = open_below;
}

pub target_below : (m : DavMethod) → TargetNames [] m slash_below (Ok at_below)
target_below m = path (inl ((97 ∷ 47 ∷ 98 ∷ [], refl), refl)) (inr (below, false, path_below, refl)) (at_start refl refl)

-- ---- what the headers say

pub no_tags : (l : TagList) → ¬ IsTagList [] l
no_tags l (some, reads) = omega (arith, some)

pub no_if : (own : Path) (ls : List Addressed) → ¬ SaysLists [] own [] ls
no_if own ls (l, (v, e, is), are) = cc

abbrev pub no_conditions : Conditions
no_conditions = record { if_match = None; if_none_match = None; lists = None }

abbrev pub own_list : Path → Addressed
own_list own = record { path = Some own; conditions = record { negated = false; item = state_token token } ∷ [] }

abbrev pub own_conditions : Path → Conditions
own_conditions own = record { if_match = None; if_none_match = None; lists = Some (own_list own ∷ []) }

pub stranger_says : (own : Path) → AreConditions (headers_of []) [] own no_conditions
stranger_says own = record { match = no_tags; none_match = no_tags; lists = no_if own }

abbrev pub holder_fields : List (List ℕ × List ℕ)
holder_fields = (codes "If", value) ∷ []

pub own_fields : (request_of_head (head_with (if_field ∷ []))).fields ≡ holder_fields
unfolding trim_ows
own_fields = refl

dark : ¬ IsWhiteSpace 116
dark (inl e) = omega (arith, e)
dark (inr (inl e)) = omega (arith, e)
dark (inr (inr (inl e))) = omega (arith, e)
dark (inr (inr (inr e))) = omega (arith, e)

pub own_if : IsIfHeader (plain_value value ∷ []) (asks_for token ∷ [])
unfolding lib.Utf8.encode
own_if = (plain_value value, refl, (asked_for token (dark, (λ e. let f : ◌≡◌ {A = ℕ} 116 62 = e in let g : ⊥ = omega (arith, f) in absurd g), refl) (token, (refl, refl))).0)

pub own_says : (own : Path) → SaysLists [] own (plain_value value ∷ []) (own_list own ∷ [])
own_says own = (asks_for token ∷ [], own_if, (Some own, [], refl, refl, refl))

pub holder_says : (own : Path) → AreConditions (headers_of holder_fields) [] own (own_conditions own)
holder_says own = record { match = no_tags; none_match = no_tags; lists = own_says own }

submits : SubmitsAlone (headers_of holder_fields) at_below lock
submits = record { lists = own_list below ∷ []; only = a_list (b ∷ []) no_list; says = own_says below; match = refl; none_match = refl }

-- ---- who names the lock

-- a head without fields names nothing
pub unnamed_by : (x : Exchange) (r : Request) → IsHead x.head r → r.fields ≡ [] → ¬ NamesToken x token
unnamed_by x r is none (by_if q also (ls, (v, e, says), contains)) =
    let f : [] ≡ v ∷ [] = subst (λ (fields : List (List ℕ × List ℕ)). get_all (headers_of fields) (codes "if") ≡ v ∷ []) (ap (λ (z : Request). z.fields) (one_head x.head q r also is) ∙ none) e in cc
unnamed_by x r is none (by_lock_token q also (text, e, between)) =
    let f : None ≡ Some text = subst (λ (fields : List (List ℕ × List ℕ)). only_text (get_all (headers_of fields) (codes "lock-token")) ≡ Some text) (ap (λ (z : Request). z.fields) (one_head x.head q r also is) ∙ none) e in cc

pub stranger_unnamed : ¬ NamesToken stranger token
stranger_unnamed = unnamed_by stranger (request_of_head (head_with [])) stranger_head refl

pub other_names : ¬ NamesLock lock stranger
other_names named = stranger_unnamed named.token

pub below_unnamed : ¬ NamesToken stranger_below token
below_unnamed = unnamed_by stranger_below (request_of_head (head_to slash_below [])) below_head refl

pub other_below_names : ¬ NamesLock lock stranger_below
other_below_names named = below_unnamed named.token

abbrev pub holder_request : Request
holder_request = record { method = codes "MKCOL"; target = slash_a; fields = holder_fields }

pub own_head : IsHead holder.head holder_request
own_head = subst (IsHead holder.head) (ap (λ f. record { method = codes "MKCOL"; target = slash_a; fields = f }) own_fields) holder_head

pub own_names : NamesLock lock holder
own_names = record { token = by_if holder_request own_head (asks_for token ∷ [], own_if, (0, omega arith, refl)); principal = refl }

abbrev pub below_request : Request
below_request = record { method = codes "MKCOL"; target = slash_below; fields = holder_fields }

pub own_below_head : IsHead holder_below.head below_request
own_below_head = subst (IsHead holder_below.head) (ap (λ f. record { method = codes "MKCOL"; target = slash_below; fields = f }) own_fields) holder_below_head

pub own_below_names : NamesLock lock holder_below
own_below_names = record { token = by_if below_request own_below_head (asks_for token ∷ [], own_if, (0, omega arith, refl)); principal = refl }

-- A holder's request is one strictly below the folder.
pub is_holder : IsHolderRequest settings lock holder_below
is_holder = acts below_request MkCol at_below refl (record { head = own_below_head; method = (tt, refl); target = target_below MkCol }) refl refl submits refl

-- ---- the run

abbrev pub plan_with : Conditions → MethodPlan Reply
plan_with c = mkcol c at_a (caller stranger)

pub stranger_means : Means settings stranger (plan_with no_conditions)
stranger_means = known (request_of_head (head_with [])) MkCol stranger_head (tt, refl) (method at_a body.None refl target_a refl (makes (is_mkcol no_conditions (stranger_says (a ∷ [])))))

pub holder_means : Means settings holder (plan_with (own_conditions (a ∷ [])))
holder_means = known holder_request MkCol own_head (tt, refl) (method at_a body.None refl target_a refl (makes (is_mkcol (own_conditions (a ∷ [])) (holder_says (a ∷ [])))))

abbrev pub plan_below : Conditions → MethodPlan Reply
plan_below c = mkcol c at_below (caller stranger_below)

pub below_means : Means settings stranger_below (plan_below no_conditions)
below_means = known (request_of_head (head_to slash_below [])) MkCol below_head (tt, refl) (method at_below body.None refl (target_below MkCol) refl (makes (is_mkcol no_conditions (stranger_says below))))

pub holder_below_means : Means settings holder_below (plan_below (own_conditions below))
holder_below_means = known below_request MkCol own_below_head (tt, refl) (method at_below body.None refl (target_below MkCol) refl (makes (is_mkcol (own_conditions below) (holder_says below))))

-- a store with nothing in it, the same with the folder, and with a folder in that
abbrev pub before : World
before = empty_from 1

abbrev pub after : World
after = with_new before (a ∷ []) Folder [] 1

abbrev pub filled : World
filled = with_new after below Folder [] 1

abbrev pub holding : World → StoreState
holding w = record { world = w; refusals = []; short = false }

abbrev pub one_lock : Locks
one_lock = Some (lock ∷ [])

pub missing : Answered (Metadata (a ∷ [])) (holding before) (Err NotFound) (holding before)
unfolding meaning
missing = record { as_asked = refl; refusals = refl; short = refl }

pub makes_a : Answered (CreateDir (a ∷ []) 1) (holding before) (Ok tt) (holding after)
unfolding meaning
makes_a = record { as_asked = refl; refusals = refl; short = refl }

pub some_number : meaning (CreateDir (a ∷ []) 1) before ≡ Err GeneralFailure → ⊥
unfolding meaning
some_number e = cc

pub missing_below : Answered (Metadata below) (holding after) (Err NotFound) (holding after)
unfolding meaning
missing_below = record { as_asked = refl; refusals = refl; short = refl }

pub makes_below : Answered (CreateDir below 1) (holding after) (Ok tt) (holding filled)
unfolding meaning
makes_below = record { as_asked = refl; refusals = refl; short = refl }

pub number_below : meaning (CreateDir below 1) after ≡ Err GeneralFailure → ⊥
unfolding meaning
number_below e = cc

-- MKCOL /a with the lock's token, where there is no folder yet
pub holder_ran : Ran AsksWithNumbers (plan_with (own_conditions (a ∷ []))) (holding before) one_lock (Ok (made at_a)) (holding after) one_lock
holder_ran =
    ran_ask {c = Metadata (a ∷ [])} {answer = Err NotFound} (asked missing, λ ready finds. finds.0)
    (ran_look (ran_look (ran_look (ran_ask {c = CreateDir (a ∷ []) 1} {answer = Ok tt} (asked makes_a, λ ready finds. some_number finds.1) ran_done))))

-- MKCOL /a/b is refused without the token
pub stranger_ran : Ran AsksWithNumbers (plan_below no_conditions) (holding after) one_lock (Err (dav.Status 423)) (holding after) one_lock
stranger_ran = ran_ask {c = Metadata below} {answer = Err NotFound} (asked missing_below, λ ready finds. finds.0) (ran_look ran_done)

-- with the token the folder is made
pub below_ran : Ran AsksWithNumbers (plan_below (own_conditions below)) (holding after) one_lock (Ok (made at_below)) (holding filled) one_lock
below_ran =
    ran_ask {c = Metadata below} {answer = Err NotFound} (asked missing_below, λ ready finds. finds.0)
    (ran_look (ran_look (ran_look (ran_ask {c = CreateDir below 1} {answer = Ok tt} (asked makes_below, λ ready finds. number_below finds.1) ran_done))))

pub listed : Stands lock one_lock
listed = listed_here refl

abbrev pub own_turn : List Turn
own_turn = turn_with holder_below ∷ []

abbrev pub both : List Turn
both = turn_with stranger_below ∷ own_turn

abbrev pub replies : List Reply
replies = error_reply (dav.Status 423) ∷ made at_below ∷ []

run : RunsUnder AsksWithNumbers settings lock both (holding after) one_lock replies (holding filled) one_lock
run =
    under_more listed (λ named. absurd (other_below_names named)) (steps (plan_below no_conditions) (Err (dav.Status 423)) below_means stranger_ran)
    (under_more listed (λ named. is_holder) (steps (plan_below (own_conditions below)) (Ok (made at_below)) holder_below_means below_ran) under_none)

among : HolderTurns lock both own_turn
among = alone_other other_below_names (alone_own own_below_names alone_none)

past_a : (p : Path) (b : Bool) → has_names (if b then rest_after p [] else None) ≡ true → ⊥
past_a [] true under = cc
past_a (x ∷ p) true under = cc
past_a p false under = cc

-- above /a there is the root alone
pub root_above : (w : World) → is_folder w [] ≡ true → HasFoldersAbove (a ∷ []) w
root_above w root [] under = root
root_above w root (x ∷ p) under = absurd (past_a p (is_eq (name_cmp x a)) under)

abbrev pub Showable : Turn → Type 0
Showable t = t.asked.moment ≤ last_moment

abbrev pub Loaded : Turn → Type 0
Loaded t = is_some t.refusals ≡ true

both_showable : MomentsAreDates both
both_showable = All-cons Showable (turn_with stranger_below) own_turn (omega arith) (All-cons Showable (turn_with holder_below) [] (omega arith) (All-nil Showable))

abbrev Other : Turn → Type 0
Other t = t.asked.token ≢ Some lock.token

both_loaded : AreLoaded both
both_loaded = All-cons Loaded (turn_with stranger_below) own_turn refl (All-cons Loaded (turn_with holder_below) [] refl (All-nil Loaded))

-- neither hands in a token
none_hands_in : TokenIsFresh lock both
none_hands_in = All-cons Other (turn_with stranger_below) own_turn (λ e. cc) (All-cons Other (turn_with holder_below) [] (λ e. cc) (All-nil Other))

small_a : All (All (λ c. c < 256)) (a ∷ [])
small_a = All-cons (All (λ c. c < 256)) a [] (All-cons (λ c. c < 256) 97 [] (omega arith) (All-nil (λ c. c < 256))) (All-nil (All (λ c. c < 256)))

-- what is there when the run begins is a world
pub is_world : IsWorld after
unfolding meaning
is_world = calls_keep_worlds (CreateDir (a ∷ []) 1) before (tt, after) ((All-cons IsName a [] name_a (All-nil IsName), small_a), omega arith) (empty_is_world 1 (omega arith) (omega arith)) refl

-- So the holder's request alone makes the folder too, and leaves the same in it.
pub two_clients : MatchesSoloRun settings lock both own_turn (holding after) one_lock replies (holding filled)
two_clients =
    holders_are_alone settings lock both own_turn (holding after) (holding filled) one_lock one_lock replies
    (record { exclusive = refl; deep = refl }) (guards_here refl no_others) (root_above after refl) is_world
    both_showable both_loaded none_hands_in run refl among
