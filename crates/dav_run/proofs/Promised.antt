-- What is promised of the replies to a script.
use Rattle.std.proofs.Common.{◌≡◌, ◌≤◌, ◌++◌, ℕ, zero, suc, true, false, List, [], ◌∷◌, map, codes, Bool, Option, Some, None, if◌then◌else◌, IsSomeAnd, refl, sym, ap, subst, ◌∙◌, arith}
use Rattle.std.proofs.lemmas.List.Elements.{All-nil, All-cons}
use Rattle.std.specs.Option.{is_some}
use Rattle.std.specs.Prelude.{max}
use Rattle.serde_json.specs.Data.{Data, Items, no_items, item}
use Rattle.serde_json.specs.Find.{get, as_array}
use Rattle.serde_json.specs.Read.{read}
use Rattle.dav_core.specs.World.{last_moment, empty_from}
use Rattle.dav_engine.specs.Reply.{Reply}
use Rattle.dav_server.specs.Headline.{empty_server, Headline}
use Rattle.dav_server.specs.Isolation.{AreLoaded, TokensDiffer}
use Rattle.dav_server.specs.Machine.{Settings}
use Rattle.dav_server.specs.Run.{Turn}
use Rattle.dav_server.specs.Server.{Server, AnswersAll}
use Rattle.dav_server.specs.TagLaws.{MomentsAreDates}
use Rattle.dav_server.proofs.Theorems.{all_front, headline_holds, runs_promise}
use Rattle.dav_run.specs.Play.{AreRepliesTo, AreReplies, AreFirstReplies, AreRunReplies, AreSomeRunReplies, turn_for, turns_for, settings_for, new_server}
use Rattle.dav_run.specs.Print.{lines_of}
use Rattle.dav_run.specs.Script.{ScriptContent, ScriptRequest, AreItems, IsListOf, IsMoment, IsRequest, IsScript, IsScriptValue}

-- ---- the moments of a script can be written

abbrev Showable : Turn → Type 0
Showable t = t.asked.moment ≤ last_moment

moment_small : (o : Option Data) (m : ℕ) → IsMoment o m → m ≤ last_moment
moment_small None m is = let none : m ≡ 0 = is in omega (arith, none)
moment_small (Some d) m is = is.1

items_small : (ds : Items) (rs : List ScriptRequest) → AreItems IsRequest ds rs → MomentsAreDates (map turn_for rs)
items_small no_items [] are = All-nil Showable
items_small no_items (r ∷ rs) are = absurd are
items_small (item d ds) [] are = absurd are
items_small (item d ds) (r ∷ rs) are = All-cons Showable (turn_for r) (map turn_for rs) (moment_small (get (codes "moment") d) r.moment are.0.moment) (items_small ds rs are.1)

array_small : (o : Option Items) (rs : List ScriptRequest) → IsSomeAnd o (λ ds. AreItems IsRequest ds rs) → MomentsAreDates (map turn_for rs)
array_small None rs are = absurd are
array_small (Some ds) rs are = items_small ds rs are

list_small : (o : Option Data) (rs : List ScriptRequest) → IsSomeAnd o (λ list. IsListOf IsRequest list rs) → MomentsAreDates (map turn_for rs)
list_small None rs are = absurd are
list_small (Some list) rs are = array_small (as_array list) rs are

value_small : (o : Option Data) (s : ScriptContent) → IsSomeAnd o (λ d. IsScriptValue d s) → MomentsAreDates (turns_for s)
value_small None s is = absurd is
value_small (Some d) s is = list_small (get (codes "requests") d) s.requests is.requests

script_small : (text : List ℕ) (s : ScriptContent) → IsScript text s → MomentsAreDates (turns_for s)
script_small text s is = value_small (read text) s is.1

-- ---- each of its turns has refusals of its own

abbrev Loaded : Turn → Type 0
Loaded t = is_some t.refusals ≡ true

all_loaded : (rs : List ScriptRequest) → AreLoaded (map turn_for rs)
all_loaded [] = All-nil Loaded
all_loaded (r ∷ rs) = All-cons Loaded (turn_for r) (map turn_for rs) refl (all_loaded rs)

-- ---- its server begins empty

first_number : (n : ℕ) → n ≤ 1 → max n 1 ≡ 1
first_number zero small = refl
first_number (suc zero) small = refl
first_number (suc (suc n)) small = absurd (omega (arith, small))

-- a server with a new store and these locks
abbrev server_with : Settings → ℕ → Bool → Server
server_with settings next locks = record {
  settings = settings;
  state = record { store = record { world = empty_from next; refusals = []; short = false }; locks = if locks then Some [] else None };
}

begins_empty : (s : ScriptContent) → s.locks ≡ true → s.next ≤ 1 → new_server s ≡ empty_server (settings_for s)
begins_empty s locks next =
    ap (λ (n : ℕ). server_with (settings_for s) n s.locks) (first_number s.next next) ∙ ap (server_with (settings_for s) 1) locks

-- ---- the replies

promised : (s : ScriptContent) (ts : List Turn) (lines : List ℕ) (replies : List Reply) (left : Server) → MomentsAreDates ts → AreLoaded ts → AnswersAll (new_server s) ts replies left → lines ≡ lines_of replies → AreRepliesTo s ts lines
promised s ts lines replies left small loaded run are = record {
  replies = replies;
  left = left;
  run = run;
  promises = runs_promise (new_server s) left ts replies small run;
  headline = λ locks next differ. headline_holds (settings_for s) ts replies left small loaded differ (subst (λ (o : Server). AnswersAll o ts replies left) (begins_empty s locks next) run);
  lines_are = are;
}

pub promised_all : (s : ScriptContent) (text : List ℕ) (lines : List ℕ) → IsScript text s → AreRunReplies s lines → AreReplies s lines
promised_all s text lines is (replies, left, run, are) = promised s (turns_for s) lines replies left (script_small text s is) (all_loaded s.requests) run are

pub promised_some : (s : ScriptContent) (text : List ℕ) (lines : List ℕ) → IsScript text s → AreSomeRunReplies s lines → AreFirstReplies s lines
promised_some s text lines is (replies, (first, rest, left, parts, run), are) =
    let small : MomentsAreDates first = all_front Showable first rest (subst MomentsAreDates parts (script_small text s is)) in
    let loaded : AreLoaded first = all_front Loaded first rest (subst AreLoaded parts (all_loaded s.requests)) in
    (first, rest, parts, promised s first lines replies left small loaded run are)
