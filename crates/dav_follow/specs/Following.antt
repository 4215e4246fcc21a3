-- What a server answers that follows another one, and how far behind that one it says to be.
use Rattle.std.specs.Prelude.{◌≡◌, ℕ, ◌-◌, ◌||◌, ◌==◌, Bool, true, false, List, [], ◌∷◌, ◌++◌, Option, Some, None, codes, decimal, if◌then◌else◌}
use Rattle.std.specs.List.{starts_with}
use Rattle.std.specs.Str.{IsTrimAsciiStart}
use Rattle.http_server.specs.declared.response.Response.{Response}
use Rattle.http_server.specs.Response.{IsResponse, fields_of}
use Rattle.dav_wire.specs.declared.answer.Asked.{Asked}
use Rattle.dav_wire.specs.declared.answer.Rejection.{Rejection}
use Rattle.dav_wire.specs.declared.answer.Rejection.TheVariants.{Unavailable}
use Rattle.dav_turns.specs.Turns.{Keeping, keeping}
use Rattle.dav_wire.specs.Explained.{explanation, text_fields}
use Rattle.dav_follow.specs.declared.following.Clock.{Clock}
use Rattle.dav_follow.specs.declared.following.Following.{Following}

-- ---- how far behind

-- when it heard all that the other one kept, by the front's steady clock
abbrev pub clock_of : {K : Type 0} → Following K → Clock
clock_of f = f.clock

-- before the front told its clock, all that was kept was heard
abbrev pub first_clock : Clock
first_clock = record { seconds = 0; heard = 0; is_level = true }

-- for how many seconds it may have missed what the other one kept
abbrev pub seconds_behind : Clock → ℕ
seconds_behind c = c.seconds - c.heard

-- all that the other one kept was heard, or the other one began anew
abbrev pub after_replay : Bool → Clock → Clock
after_replay goes c = record { seconds = c.seconds; heard = if goes then c.seconds else c.heard; is_level = goes }

-- the front's steady clock shows these seconds
abbrev pub after_seconds : ℕ → Clock → Clock
after_seconds seconds c = record { seconds = seconds; heard = if c.is_level then seconds else c.heard; is_level = c.is_level }

-- ---- what it answers

-- A request line begins with the method of a request that only reads (RFC 9110, section 9.2.1; RFC 9112, section 3).
abbrev pub begins_to_read : List ℕ → Bool
begins_to_read line =
    starts_with (λ a b. a == b) line (codes "GET ") || (starts_with (λ a b. a == b) line (codes "HEAD ")
    || (starts_with (λ a b. a == b) line (codes "OPTIONS ") || starts_with (λ a b. a == b) line (codes "PROPFIND ")))

-- What is said of a request by its head: what the keeper says; and where that would take it, though it doesn't only read, that it may be
-- sent again (RFC 9110, section 15.6.4).
abbrev pub verdict_behind : Bool → Option Rejection → Option Rejection
verdict_behind reads (Some why) = Some why
verdict_behind true None = None
verdict_behind false None = Some Unavailable

-- a request is judged by its head, of which this is left without the empty lines before it (RFC 9112, section 2.2)
pub record JudgesBehind {K : Type 0} (judges : K → List ℕ → Option Rejection → K → Type 0)
    (old : Following K) (head : List ℕ) (verdict : Option Rejection) (new : Following K) : Type 0 where
  pub line : List ℕ
  pub is_line : IsTrimAsciiStart head line
  pub own : Option Rejection
  pub judged : judges old.keeper head own new.keeper
  pub is : verdict ≡ verdict_behind (begins_to_read line) own
  pub clock : clock_of new ≡ clock_of old

-- when to come again: in a second (RFC 9110, section 10.2.3); and that words follow
abbrev pub elsewhere_fields : List (List ℕ × List ℕ)
elsewhere_fields = (codes "retry-after", codes "1") ∷ text_fields (explanation 503)

-- a response that says besides for how many seconds it may have missed what the other one kept
pub record SaysBehind (seconds : ℕ) (own sent : Response) : Type 0 where
  pub fields : fields_of sent ≡ fields_of own ++ (codes "vuldarg-follows", decimal seconds) ∷ []
  pub status : sent.status ≡ own.status
  pub body : sent.body ≡ own.body

-- A request that only reads is answered as the keeper does, with how far behind that is; another one may be sent again, and does nothing.
pub data AnswersBehind {K : Type 0} (answers : K → Asked → Response → K → Type 0)
    (old : Following K) (asked : Asked) (sent : Response) (new : Following K) : Type 0 where
  here : (line : List ℕ) (own : Response) → IsTrimAsciiStart asked.head line → begins_to_read line ≡ true
      → answers old.keeper asked own new.keeper → SaysBehind (seconds_behind (clock_of old)) own sent → clock_of new ≡ clock_of old
      → AnswersBehind answers old asked sent new
  elsewhere : (line : List ℕ) → IsTrimAsciiStart asked.head line → begins_to_read line ≡ false
      → IsResponse 503 elsewhere_fields (explanation 503) sent → new ≡ old → AnswersBehind answers old asked sent new

-- ---- what it hears and keeps

-- the clocks of the front are heard, by the keeper too
pub record PassesBehind {K : Type 0} (passed : K → ℕ → ℕ → K → Type 0) (old : Following K) (seconds date : ℕ) (new : Following K) : Type 0 where
  pub keeper : passed old.keeper seconds date new.keeper
  pub clock : clock_of new ≡ after_seconds seconds (clock_of old)

-- nothing changes
abbrev pub StaysBehind : {K : Type 0} → Following K → Following K → Type 0
StaysBehind old new = new ≡ old

-- nothing is kept, and nothing was to be
abbrev pub KeepsBehind : {K : Type 0} → (K → Type 0) → Following K → Following K → Type 0
KeepsBehind is_at_rest old new = (new ≡ old) × is_at_rest old.keeper

-- what it does as a keeper, of the relations of its own keeper
abbrev pub behind : {K : Type 0} → (K → List ℕ → Option Rejection → K → Type 0) → (K → Asked → Response → K → Type 0)
    → (K → List ℕ → K → Type 0) → (K → List ℕ → K → Type 0) → (K → List ℕ → K → Type 0) → (K → ℕ → ℕ → K → Type 0) → (K → Type 0)
    → Keeping (Following K)
behind {K} judges answers greeted listed placed passed is_at_rest =
    keeping (λ (old : Following K) (head : List ℕ) (verdict : Option Rejection) (new : Following K). JudgesBehind judges old head verdict new)
    (λ (old : Following K) (asked : Asked) (sent : Response) (new : Following K). AnswersBehind answers old asked sent new)
    (λ (old : Following K) (bytes : List ℕ) (new : Following K). greeted old.keeper bytes new.keeper × (clock_of new ≡ clock_of old))
    (λ (old : Following K) (bytes : List ℕ) (new : Following K). listed old.keeper bytes new.keeper × (clock_of new ≡ clock_of old))
    (λ (old : Following K) (address : List ℕ) (new : Following K). placed old.keeper address new.keeper × (clock_of new ≡ clock_of old))
    (λ (old : Following K) (seconds date : ℕ) (new : Following K). PassesBehind passed old seconds date new)
    (λ (old new : Following K). StaysBehind old new) (λ (old new : Following K). KeepsBehind is_at_rest old new)
