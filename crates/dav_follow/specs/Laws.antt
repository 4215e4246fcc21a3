-- What holds of each turn of a server that follows another one.
use Rattle.std.specs.Prelude.{ℕ, List, Option}
use Rattle.http_server.specs.declared.response.Response.{Response}
use Rattle.dav_wire.specs.declared.answer.Asked.{Asked}
use Rattle.dav_wire.specs.declared.answer.Rejection.{Rejection}
use Rattle.dav_turns.specs.Connections.{TurnsView}
use Rattle.dav_turns.specs.Frames.{Order}
use Rattle.dav_turns.specs.Turns.{Turn}
use Rattle.dav_follow.specs.Following.{behind}
use Rattle.dav_follow.specs.declared.following.Following.{Following}

-- A relation between states of its keeper holds of what that judges, answers and hears, of doing nothing, and of two things after each other.
pub record Hears {K : Type 0} (judges : K → List ℕ → Option Rejection → K → Type 0) (answers : K → Asked → Response → K → Type 0)
    (greeted listed placed : K → List ℕ → K → Type 0) (passed : K → ℕ → ℕ → K → Type 0) (R : K → K → Type 0) : Type 0 where
  pub same : (k : K) → R k k
  pub joined : (a b c : K) → R a b → R b c → R a c
  pub judged : (a : K) (head : List ℕ) (verdict : Option Rejection) (b : K) → judges a head verdict b → R a b
  pub answered : (a : K) (asked : Asked) (response : Response) (b : K) → answers a asked response b → R a b
  pub greets : (a : K) (bytes : List ℕ) (b : K) → greeted a bytes b → R a b
  pub lists : (a : K) (bytes : List ℕ) (b : K) → listed a bytes b → R a b
  pub places : (a : K) (address : List ℕ) (b : K) → placed a address b → R a b
  pub passes : (a : K) (seconds date : ℕ) (b : K) → passed a seconds date b → R a b

-- A turn ends with nothing left to be kept.
abbrev pub TurnsKeepNothing : {K : Type 0} → (K → List ℕ → Option Rejection → K → Type 0) → (K → Asked → Response → K → Type 0)
    → (K → List ℕ → K → Type 0) → (K → List ℕ → K → Type 0) → (K → List ℕ → K → Type 0) → (K → ℕ → ℕ → K → Type 0) → (K → Type 0)
    → Type 0
TurnsKeepNothing {K} judges answers greeted listed placed passed is_at_rest =
    (input : List ℕ) (used : ℕ) (old new : TurnsView) (was now : Following K) (orders : List Order)
    → Turn (behind judges answers greeted listed placed passed is_at_rest) input used old was new now orders → is_at_rest now.keeper
