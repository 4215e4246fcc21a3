-- What is told of one member, by what was decided of the request for it.
use Rattle.std.proofs.Common.{◌≡◌, ℕ, Bool, true, false, List, [], Option, sym, subst, ◌∙◌, true≢false}
use Rattle.std.specs.Bool.{Decides}
use Rattle.dav_core.specs.Element.{ElementTree}
use Rattle.dav_core.specs.Path.{PathText}
use Rattle.dav_engine.specs.Caller.{Caller}
use Rattle.dav_engine.specs.Reply.{Reply}
use Rattle.dav_server.specs.Server.{Server}
use Rattle.dav_access.specs.Rules.{Rules}
use Rattle.dav_http.specs.Steps.{IsStepFor}
use Rattle.dav_seen.specs.Ways.{IsMemberTold, IsReading, member_head, read, responses_of, unread}

module _ (rules : Rules) (s : Server) (bytes : List ℕ) (who : Caller) (q : PathText) (told : List ElementTree) (prefix head : List ℕ) (user : Option (List ℕ)) (may : Bool)
    (below : prefix ≡ s.settings.prefix) (asks : head ≡ member_head q) (by : user ≡ who.principal) (decides : Decides may (IsReading rules prefix user head)) where
  -- what was decided is said of the request for the member
  for_member : Decides may (IsReading rules s.settings.prefix who.principal (member_head q))
  for_member =
      subst (λ (h : List ℕ). Decides may (IsReading rules s.settings.prefix who.principal h)) asks
      (subst (λ (u : Option (List ℕ)). Decides may (IsReading rules s.settings.prefix u head)) by
      (subst (λ (p : List ℕ). Decides may (IsReading rules p user head)) below decides))

  -- one that may not be read
  pub member_unread : may ≡ false → told ≡ [] → IsMemberTold rules s bytes who q told
  member_unread not none = unread (λ reading. absurd (true≢false (sym (for_member.1 reading) ∙ not))) none

  -- one that may be read
  pub member_read : (sent body : List ℕ) (r : Reply) → may ≡ true → sent ≡ member_head q → body ≡ bytes → IsStepFor sent body who s r s → told ≡ responses_of r
      → IsMemberTold rules s bytes who q told
  member_read sent body r is_may same taken step is =
      read r (for_member.0 is_may)
      (subst (λ (b : List ℕ). IsStepFor (member_head q) b who s r s) taken (subst (λ (h : List ℕ). IsStepFor h body who s r s) same step)) is
