-- More steps that aren't the machine's: a false 304, a lost update, a lock that is passed, and an exclusive lock beside another one; and an href
-- that leads nowhere.
use Rattle.std.proofs.Common.{◌≡◌, ◌≢◌, ◌++◌, ◌<◌, ◌≤◌, ℕ, true, false, true≢false, List, [], ◌∷◌, length, get_or, codes, Some, None, Ok, inl, inr, refl, sym, ap, subst, ◌∙◌, append-nil, arith}
use Rattle.std.proofs.lemmas.List.Elements.{All-nil, All-cons, All-head, All-contains}
use Rattle.std.proofs.lemmas.List.Sums.{AllPass-from_list_all}
use Rattle.http_header.specs.FieldValue.{plain_value}
use Rattle.http_header.specs.HeaderMap.{get_all}
use Rattle.http_header.specs.Token.{is_visible_or_blank}
use Rattle.httparse.specs.Grammar.{Field, IsField, crlf, is_token_byte, is_value_byte, print_request, trim_ows}
use Rattle.dav_core.specs.declared.fs.DavMetaData.{DavMetaData}
use Rattle.dav_core.specs.declared.method.DavMethod.TheVariants.{Get, Put, MkCol, Delete, Lock as LockMethod}
use Rattle.dav_core.specs.Asking.{meaning, Asks, Answered, asked, Metadata, CreateDir, Open}
use Rattle.dav_core.specs.Calls.{emptied}
use Rattle.dav_core.specs.Element.{ElementTree}
use Rattle.dav_core.specs.Handle.{opened}
use Rattle.dav_core.specs.LockLaws.{CoveringAreShared}
use Rattle.dav_core.specs.Locks.{Lock}
use Rattle.dav_core.specs.Path.{PathText, star}
use Rattle.dav_core.specs.Target.{Reads}
use Rattle.dav_core.specs.UrlText.{url_text}
use Rattle.dav_core.specs.World.{World, Node, File, is_folder, adjust}
use Rattle.dav_headers.specs.ETag.{EntityTag, IsUnquoted}
use Rattle.dav_headers.specs.ETagList as list
use Rattle.dav_headers.specs.ETagList.{IsTagList}
use Rattle.dav_engine.specs.declared.request.Body.TheVariants as body
use Rattle.dav_engine.specs.AnswerParts.{children_named}
use Rattle.dav_engine.specs.declared.reply.ReplyBody.TheVariants as reply
use Rattle.dav_engine.specs.Guard.{folder_of, Stands, listed_here, listed_later}
use Rattle.dav_engine.specs.Lock.{granted_reply}
use Rattle.dav_engine.specs.Method.{MethodPlan, ◌>>=◌, ask_for, ask_or, change_locks, gives}
use Rattle.dav_engine.specs.Mkcol.{create_error, made}
use Rattle.dav_engine.specs.Multistatus.{dav_element, dav_text, response_for}
use Rattle.dav_engine.specs.Plan.{Locks, ServerState, Ran, ran_done, ran_ask, ran_look, ran_keep}
use Rattle.dav_engine.specs.Reply.{Reply}
use Rattle.dav_engine.specs.Unlock.{unlocked_reply}
use Rattle.dav_engine.proofs.Theorems.{unprefixed_leads_nowhere}
use Rattle.dav_server.specs.EachRequest.{HoldsBytes}
use Rattle.dav_server.specs.Get.{not_modified}
use Rattle.dav_server.specs.Head.{Request, IsHead, request_of_head}
use Rattle.dav_server.specs.Headers.{headers_of}
use Rattle.dav_server.specs.HrefLaws.{TellsOf, HasConcernedHref}
use Rattle.dav_server.specs.Machine.{Exchange}
use Rattle.dav_server.specs.Promises.{OneStep, Promise, reading, created, refused, unmodified, updated, passed, kept, shared, tags, hrefs, members, Keeps}
use Rattle.dav_server.specs.Run.{Turn, no_more}
use Rattle.dav_server.specs.TagLaws.{ShownIn, LacksTag}
use Rattle.dav_server.specs.Target.{TargetNames, server, path}
use Rattle.dav_server.specs.UpdateLaws.{IsSuccess, UpdatesIf}
use Rattle.dav_server.proofs.NeededForHeadline.{state, covered_changes}
use Rattle.dav_server.proofs.WorkedGrant.{locker, lock_head, none}
use Rattle.dav_server.proofs.WorkedRun.{a, slash_a, at_a, lock, head_of, head_with_method, text_a, target_at_a, stranger, stranger_head, other_names, turn_with, settings, before, after, holding, one_lock, makes_a}
use Rattle.dav_server.proofs.OneStep.{same_list, none_on, BreaksOnly, same_world, stand, as_shared, none_passed, unsafe, no_creation, no_star, answered, no_304, no_hrefs, no_success, ShowsOnly, shows_nothing, one_text, first_step, untold, shows_once, no_tag}
use Rattle.dav_server.proofs.WrongSteps.{remover, remove_request, remove_head, getter, is_get, stranger_request, emptying, filled, one_tag, tagged, shows}

-- ---- a file that another client has changed

-- the file with another byte, under the next number
abbrev pub changed : Node → Node
changed n = record n { number = 2; kind = File (50 ∷ []) }

abbrev pub rewritten : World
rewritten = record { nodes = adjust (a ∷ []) changed filled.nodes; next = 3 }

abbrev pub other_byte : Node
other_byte = record { made = 1; number = 2; kind = File (50 ∷ []); properties = []; created = 1; modified = 1 }

-- it doesn't have its first byte any more
first_byte_is_gone : ¬ HoldsBytes (state (holding rewritten) none) at_a (49 ∷ [])
first_byte_is_gone (n, there, kind) =
    let found : Some other_byte ≡ Some n = there in
    let same : other_byte ≡ n = cc in
    let bytes : File (50 ∷ []) ≡ File (49 ∷ []) = ap (λ (m : Node). m.kind) same ∙ kind in
    let other : ◌≡◌ {A = ℕ} 50 49 = cc in
    omega (arith, other)

-- the PUT that changed it
abbrev pub changer : Exchange
changer = record { head = print_request (head_of (codes "PUT") slash_a []); body = body.Bytes (50 ∷ []); principal = None; moment = 1; token = None }

-- a GET that shows the first byte with its tag, and then that PUT
abbrev pub earlier : List Turn
earlier = turn_with getter ∷ turn_with changer ∷ []

abbrev pub answers : List Reply
answers = tagged (49 ∷ []) ∷ unlocked_reply [] ∷ []

shown_first : (more : List Turn) (replies : List Reply) → ShownIn (earlier ++ more) (answers ++ replies) one_tag (49 ∷ [])
shown_first more replies = (turn_with getter, tagged (49 ∷ []), (0, omega arith, refl), is_get, shows (49 ∷ []))

-- ---- a header that says the tag of the first byte

abbrev pub first_tag : EntityTag
first_tag = record { weak = false; tag = 49 ∷ [] }

unquoted : IsUnquoted (49 ∷ [])
unquoted contains = All-contains (λ (b : ℕ). b ≢ 34) (49 ∷ []) 34 (All-cons (λ (b : ℕ). b ≢ 34) 49 [] (λ e. omega (arith, e)) (All-nil (λ (b : ℕ). b ≢ 34))) contains refl

says_tag : IsTagList (plain_value one_tag ∷ []) (list.tags (first_tag ∷ []))
says_tag = (
  omega arith,
  (
    AllPass-from_list_all is_visible_or_blank one_tag refl,
    λ e. absurd (let first : ◌≡◌ {A = ℕ} 34 42 = ap (λ (bytes : List ℕ). get_or bytes 0 0) e in omega (arith, first)),
    (first_tag ∷ [], [], refl, inr (first_tag, [], (unquoted, refl), refl, refl), refl),
  ),
)

-- ---- the first byte alone is shown

told_only : ShowsOnly (49 ∷ []) (turn_with getter, tagged (49 ∷ []))
told_only tag others shows = let e : reply.Bytes (49 ∷ []) ≡ reply.Bytes others = shows.bytes_are in cc

-- a step after those two replies, which shows nothing
abbrev pub after_them : Exchange → Reply → ServerState → ServerState → OneStep
after_them x reply was now = record { settings = settings; front = earlier; turn = turn_with x; back = []; before = answers; reply = reply; after = []; was = was; now = now }

one_text_then : (x : Exchange) (reply : Reply) (was now : ServerState) → reply.status ≢ 200 → Keeps tags (after_them x reply was now)
one_text_then x reply was now other =
    let P : Turn × Reply → Type 0 = ShowsOnly (49 ∷ []) in
    one_text (earlier ++ turn_with x ∷ []) (answers ++ reply ∷ []) (49 ∷ [])
    (All-cons P (turn_with getter, tagged (49 ∷ [])) ((turn_with changer, unlocked_reply []) ∷ (turn_with x, reply) ∷ []) told_only
    (All-cons P (turn_with changer, unlocked_reply []) ((turn_with x, reply) ∷ []) (shows_nothing (49 ∷ []) (turn_with changer) (unlocked_reply []) (λ e. omega (arith, e)))
    (All-cons P (turn_with x, reply) [] (shows_nothing (49 ∷ []) (turn_with x) reply other) (All-nil P))))

-- ---- a 304 that is false

abbrev pub none_match_field : Field
none_match_field = record { name = codes "If-None-Match"; raw = one_tag; end = crlf }

-- GET /a with If-None-Match of the first tag
abbrev pub rechecker : Exchange
rechecker = record { head = print_request (head_of (codes "GET") slash_a (none_match_field ∷ [])); body = body.None; principal = None; moment = 1; token = None }

is_none_match_field : IsField none_match_field
unfolding is_token_byte
is_none_match_field = record { name = (omega arith, AllPass-from_list_all is_token_byte (codes "If-None-Match") refl); raw = AllPass-from_list_all is_value_byte one_tag refl }

recheck_short : length rechecker.head ≤ 65536
unfolding print_request
recheck_short = omega arith

abbrev pub none_match_fields : List (List ℕ × List ℕ)
none_match_fields = (codes "If-None-Match", one_tag) ∷ []

none_match_fields_are : (request_of_head (head_of (codes "GET") slash_a (none_match_field ∷ []))).fields ≡ none_match_fields
unfolding trim_ows
none_match_fields_are = refl

abbrev pub recheck_request : Request
recheck_request = record { method = codes "GET"; target = slash_a; fields = none_match_fields }

recheck_head : IsHead rechecker.head recheck_request
unfolding is_token_byte
recheck_head =
    subst (IsHead rechecker.head) (ap (λ f. record { method = codes "GET"; target = slash_a; fields = f }) none_match_fields_are)
    (recheck_short, head_of (codes "GET") slash_a (none_match_field ∷ []), (head_with_method (codes "GET") slash_a (none_match_field ∷ []) (omega arith) refl (omega arith) refl text_a (All-cons IsField none_match_field [] is_none_match_field (All-nil IsField)), sym (append-nil _)), omega arith, refl)

says_none_match : IsTagList (get_all (headers_of none_match_fields) (codes "if-none-match")) (list.tags (first_tag ∷ []))
says_none_match = says_tag

lacks_first : LacksTag settings rechecker at_a first_tag
lacks_first = (recheck_request, Get, recheck_head, (tt, refl), target_at_a Get, says_none_match)

abbrev pub found_other : DavMetaData
found_other = record { len = 1; dir = false; created = 1; modified = 1; number = Some 2 }

-- a GET that answers 304 to any If-None-Match, whatever the number of the file is
abbrev pub never_compares : MethodPlan Reply
never_compares = do
  found ← ask_for (Metadata (a ∷ []))
  gives (not_modified found)

finds_other : Answered (Metadata (a ∷ [])) (holding rewritten) (Ok found_other) (holding rewritten)
unfolding meaning
finds_other = record { as_asked = refl; refusals = refl; short = refl }

not_modified_fails : ¬ IsSuccess 304
not_modified_fails good = let small : 304 < 300 = good.1 in omega (arith, small)

abbrev pub unmodified_step : OneStep
unmodified_step = after_them rechecker (not_modified found_other) (state (holding rewritten) none) (state (holding rewritten) none)

all_but_unmodified : (d : Promise) → d ≢ unmodified → Keeps d unmodified_step
all_but_unmodified reading other = λ safe. (refl, refl)
all_but_unmodified created other = λ p n is there. ((refl, refl), not_modified_fails)
all_but_unmodified refused other = record { world = λ is. refl; locks = λ is reason. refl; range = λ is. inl (refl, refl) }
all_but_unmodified unmodified other = absurd (other refl)
all_but_unmodified updated other = no_success unmodified_step not_modified_fails
all_but_unmodified passed other = none_passed unmodified_step refl
all_but_unmodified kept other = stand unmodified_step refl
all_but_unmodified shared other = as_shared unmodified_step refl
all_but_unmodified tags other = one_text_then rechecker (not_modified found_other) unmodified_step.was unmodified_step.now (λ e. omega (arith, e))
all_but_unmodified hrefs other = no_hrefs unmodified_step refl
all_but_unmodified members other = none_on unmodified_step refl

pub uncompared_304_is_false : Ran Asks never_compares (holding rewritten) none (Ok (not_modified found_other)) (holding rewritten) none × BreaksOnly unmodified unmodified_step
uncompared_304_is_false = (
  ran_ask {c = Metadata (a ∷ [])} {answer = Ok found_other} (asked finds_other) ran_done,
  record {
    broken = λ finds. first_byte_is_gone (finds (state (holding rewritten) none) no_more at_a first_tag (49 ∷ []) refl lacks_first (shown_first (turn_with rechecker ∷ []) (not_modified found_other ∷ [])));
    others = all_but_unmodified;
  },
)

-- ---- an update that is lost

abbrev pub match_field : Field
match_field = record { name = codes "If-Match"; raw = one_tag; end = crlf }

-- PUT /a with If-Match of the first tag
abbrev pub updater : Exchange
updater = record { head = print_request (head_of (codes "PUT") slash_a (match_field ∷ [])); body = body.None; principal = None; moment = 1; token = None }

is_match_field : IsField match_field
unfolding is_token_byte
is_match_field = record { name = (omega arith, AllPass-from_list_all is_token_byte (codes "If-Match") refl); raw = AllPass-from_list_all is_value_byte one_tag refl }

update_short : length updater.head ≤ 65536
unfolding print_request
update_short = omega arith

abbrev pub match_fields : List (List ℕ × List ℕ)
match_fields = (codes "If-Match", one_tag) ∷ []

match_fields_are : (request_of_head (head_of (codes "PUT") slash_a (match_field ∷ []))).fields ≡ match_fields
unfolding trim_ows
match_fields_are = refl

abbrev pub update_request : Request
update_request = record { method = codes "PUT"; target = slash_a; fields = match_fields }

update_head : IsHead updater.head update_request
unfolding is_token_byte
update_head =
    subst (IsHead updater.head) (ap (λ f. record { method = codes "PUT"; target = slash_a; fields = f }) match_fields_are)
    (update_short, head_of (codes "PUT") slash_a (match_field ∷ []), (head_with_method (codes "PUT") slash_a (match_field ∷ []) (omega arith) refl (omega arith) refl text_a (All-cons IsField match_field [] is_match_field (All-nil IsField)), sym (append-nil _)), omega arith, refl)

says_match : IsTagList (get_all (headers_of match_fields) (codes "if-match")) (list.tags (first_tag ∷ []))
says_match = says_tag

updates_first : UpdatesIf settings updater at_a first_tag
updates_first = (update_request, Put, update_head, (tt, refl), refl, target_at_a Put, inl says_match)

-- the file after it
abbrev pub overwritten : World
overwritten = record { nodes = adjust (a ∷ []) (emptied 3 1) rewritten.nodes; next = 4 }

-- a PUT that doesn't look at If-Match
abbrev pub puts_over : MethodPlan Reply
puts_over = do
  _ ← ask_for (Open (a ∷ []) emptying 1)
  gives (unlocked_reply [])

empties_other : Answered (Open (a ∷ []) emptying 1) (holding rewritten) (Ok (opened 1 emptying)) (holding overwritten)
unfolding meaning
empties_other = record { as_asked = refl; refusals = refl; short = refl }

abbrev pub losing : OneStep
losing = after_them updater (unlocked_reply []) (state (holding rewritten) none) (state (holding overwritten) none)

all_but_updated : (d : Promise) → d ≢ updated → Keeps d losing
all_but_updated reading other = unsafe losing update_request Put update_head (tt, refl) refl
all_but_updated created other = no_star losing update_request Put update_head (tt, refl) refl
all_but_updated refused other = answered losing (λ e. omega (arith, e)) (λ e. omega (arith, e)) (λ e. omega (arith, e))
all_but_updated unmodified other = no_304 losing (λ e. omega (arith, e))
all_but_updated updated other = absurd (other refl)
all_but_updated passed other = none_passed losing refl
all_but_updated kept other = stand losing refl
all_but_updated shared other = as_shared losing refl
all_but_updated tags other = one_text_then updater (unlocked_reply []) losing.was losing.now (λ e. omega (arith, e))
all_but_updated hrefs other = no_hrefs losing refl
all_but_updated members other = none_on losing refl

-- what the other client stored is lost
pub unconditional_put_loses_an_update : Ran Asks puts_over (holding rewritten) none (Ok (unlocked_reply [])) (holding overwritten) none × BreaksOnly updated losing
unconditional_put_loses_an_update = (
  ran_ask {c = Open (a ∷ []) emptying 1} {answer = Ok (opened 1 emptying)} (asked empties_other) ran_done,
  record {
    broken = λ finds. first_byte_is_gone (finds at_a first_tag (49 ∷ []) (inl (shown_first [] [])) updates_first (omega arith, omega arith));
    others = all_but_updated;
  },
)

-- ---- a lock that is passed

-- a MKCOL that doesn't look at the locks
abbrev pub makes_unasked : MethodPlan Reply
makes_unasked = do
  _ ← ask_or create_error (CreateDir (a ∷ []) 1)
  gives (made at_a)

abbrev pub passing : OneStep
passing = first_step stranger (made at_a) (state (holding before) one_lock) (state (holding after) one_lock)

-- nothing is there before it
no_folder : (h : Lock) → Stands h one_lock → is_folder before (folder_of h) ≡ true → ⊥
no_folder h (listed_here same) is = let folder : false ≡ true = ap (λ (l : Lock). is_folder before (folder_of l)) same ∙ is in cc
no_folder h (listed_later out) is = elim out [ ]

all_but_passed : (d : Promise) → d ≢ passed → Keeps d passing
all_but_passed reading other = unsafe passing stranger_request MkCol stranger_head (tt, refl) refl
all_but_passed created other = no_creation passing stranger_request MkCol stranger_head (tt, refl) (λ e. cc) (λ e. cc)
all_but_passed refused other = answered passing (λ e. omega (arith, e)) (λ e. omega (arith, e)) (λ e. omega (arith, e))
all_but_passed unmodified other = no_304 passing (λ e. omega (arith, e))
all_but_passed updated other = untold stranger (made at_a) passing.was passing.now
all_but_passed passed other = absurd (other refl)
all_but_passed kept other = stand passing refl
all_but_passed shared other = as_shared passing refl
all_but_passed tags other = no_tag stranger (made at_a) passing.was passing.now (λ e. omega (arith, e))
all_but_passed hrefs other = no_hrefs passing refl
all_but_passed members other = λ h alone is unnamed folder. absurd (no_folder h is folder)

-- the lock stands, as before, and what it covers has changed
pub unasked_folder_passes_a_lock : Ran Asks makes_unasked (holding before) one_lock (Ok (made at_a)) (holding after) one_lock × BreaksOnly passed passing
unasked_folder_passes_a_lock = (
  ran_ask {c = CreateDir (a ∷ []) 1} {answer = Ok tt} (asked makes_a) ran_done,
  record { broken = λ spares. covered_changes lock refl (spares lock refl (listed_here refl) other_names); others = all_but_passed },
)

-- ---- an exclusive lock beside another one

-- that of another client
abbrev pub other_lock : Lock
other_lock = record lock { token = 117 ∷ []; principal = Some (98 ∷ []) }

abbrev pub two_locks : Locks
two_locks = Some (lock ∷ other_lock ∷ [])

-- a LOCK that is granted whatever the list is
abbrev pub grants_unasked : MethodPlan Reply
grants_unasked = do
  _ ← change_locks (λ ls. ls ++ other_lock ∷ [])
  gives (granted_reply false [] other_lock)

-- LOCK /a of that client
abbrev pub other_locker : Exchange
other_locker = record locker { principal = Some (98 ∷ []); token = Some (117 ∷ []) }

one_is_shared : CoveringAreShared (lock ∷ [])
one_is_shared i j d less small = absurd (omega (arith, less, small))

abbrev pub sharing : OneStep
sharing = first_step other_locker (granted_reply false [] other_lock) (state (holding before) one_lock) (state (holding before) two_locks)

still_stands : (h : Lock) → Stands h one_lock → Stands h two_locks
still_stands h (listed_here same) = listed_here same
still_stands h (listed_later out) = elim out [ ]

shows_tree : ShowsOnly [] (turn_with other_locker, granted_reply false [] other_lock)
shows_tree tag others shows = absurd (let e : (granted_reply false [] other_lock).body ≡ reply.Bytes others = shows.bytes_are in cc)

abbrev lock_request : Request
lock_request = request_of_head (head_of (codes "LOCK") slash_a [])

all_but_shared : (d : Promise) → d ≢ shared → Keeps d sharing
all_but_shared reading other = unsafe sharing lock_request LockMethod lock_head (tt, refl) refl
all_but_shared created other = no_creation sharing lock_request LockMethod lock_head (tt, refl) (λ e. cc) (λ e. cc)
all_but_shared refused other = answered sharing (λ e. omega (arith, e)) (λ e. omega (arith, e)) (λ e. omega (arith, e))
all_but_shared unmodified other = no_304 sharing (λ e. omega (arith, e))
all_but_shared updated other = untold other_locker (granted_reply false [] other_lock) sharing.was sharing.now
all_but_shared passed other = λ h alone is unnamed. same_world h before
all_but_shared kept other = λ h is unnamed fresh. still_stands h is
all_but_shared shared other = absurd (other refl)
all_but_shared tags other = shows_once other_locker (granted_reply false [] other_lock) sharing.was sharing.now shows_tree
all_but_shared hrefs other = no_hrefs sharing refl
all_but_shared members other = same_list sharing refl

-- two exclusive locks cover the path
pub unasked_grant_shares_no_path : Ran Asks grants_unasked (holding before) one_lock (Ok (granted_reply false [] other_lock)) (holding before) two_locks × BreaksOnly shared sharing
unasked_grant_shares_no_path = (
  ran_look (ran_keep ran_done),
  record {
    broken = λ shares. true≢false (sym (shares (lock ∷ []) (lock ∷ other_lock ∷ []) refl refl one_is_shared 0 1 lock (omega arith) (omega arith) (a ∷ []) refl refl).0);
    others = all_but_shared;
  },
)

-- ---- an href that leads nowhere

-- the response for /f of a server whose prefix is /d, without the prefix
abbrev pub unprefixed : ElementTree
unprefixed = response_for (record { prefix = []; bytes = codes "/f" }, 200)

f_no_star : codes "/f" ≢ star
f_no_star e = let first : ◌≡◌ {A = ℕ} 47 42 = cc in absurd (omega (arith, first))

leads_nowhere : (target : List ℕ) (p : PathText) → target ≡ codes "/f" → ¬ TargetNames (codes "/d") Get target (Ok p)
leads_nowhere target p is (server star_is options) = f_no_star (sym is ∙ star_is)
leads_nowhere target p is (path {text} {bytes} (inl (slash, same)) reads cut) =
    unprefixed_leads_nowhere p (f_no_star, (bytes, subst (λ (t : List ℕ). Reads t bytes) (same ∙ is) reads, cut))
leads_nowhere target p is (path (inr (bare, form)) reads cut) = bare (102 ∷ [], is)

href_text : (text : List ℕ) → children_named (codes "href") unprefixed ≡ dav_text (codes "href") text ∷ [] → text ≡ codes "/f"
unfolding url_text
href_text text is = cc

pub unprefixed_href_tells_of_nothing : (p : PathText) → ¬ TellsOf (codes "/d") p unprefixed
unprefixed_href_tells_of_nothing p tells = leads_nowhere tells.text p (href_text tells.text tells.hrefs) (tells.leads Get)

-- a DELETE is answered with a response that says nothing of its path
abbrev pub bare_response : ElementTree
bare_response = dav_element (codes "response") []

abbrev pub barely_told : Reply
barely_told = record { status = 207; headers = []; body = reply.Tree (dav_element (codes "multistatus") (bare_response ∷ [])) }

abbrev pub tells_barely : MethodPlan Reply
tells_barely = gives barely_told

abbrev pub barely : OneStep
barely = first_step remover barely_told (state (holding before) one_lock) (state (holding before) one_lock)

no_href : (text : List ℕ) → ¬ (children_named (codes "href") bare_response ≡ dav_text (codes "href") text ∷ [])
no_href text is = cc

tells_of_none : ¬ HasConcernedHref settings remover bare_response
tells_of_none (q, about, tells) = no_href tells.text tells.hrefs

all_but_hrefs : (d : Promise) → d ≢ hrefs → Keeps d barely
all_but_hrefs reading other = λ safe. (refl, refl)
all_but_hrefs created other = no_creation barely remove_request Delete remove_head (tt, refl) (λ e. cc) (λ e. cc)
all_but_hrefs refused other = answered barely (λ e. omega (arith, e)) (λ e. omega (arith, e)) (λ e. omega (arith, e))
all_but_hrefs unmodified other = no_304 barely (λ e. omega (arith, e))
all_but_hrefs updated other = untold remover barely_told barely.was barely.now
all_but_hrefs passed other = λ h alone is unnamed. same_world h before
all_but_hrefs kept other = stand barely refl
all_but_hrefs shared other = as_shared barely refl
all_but_hrefs tags other = no_tag remover barely_told barely.was barely.now (λ e. omega (arith, e))
all_but_hrefs hrefs other = absurd (other refl)
all_but_hrefs members other = same_list barely refl

pub bare_response_tells_of_nothing : Ran Asks tells_barely (holding before) one_lock (Ok barely_told) (holding before) one_lock × BreaksOnly hrefs barely
bare_response_tells_of_nothing = (
  ran_done,
  record { broken = λ leads. tells_of_none (All-head (HasConcernedHref settings remover) bare_response [] leads); others = all_but_hrefs },
)
