-- How the logic encodes servers, requests and turns, as a Model needs it of its Value.
use Rattle.std.specs.Prelude.{ℕ, List, Option, refl}
use Rattle.std.specs.Coded.{Coded, code_by, coded_ℕ, coded_list, coded_option, coded×}
use Rattle.dav_core.specs.declared.errors.FsError.{FsError}
use Rattle.dav_engine.specs.declared.request.Body.{Body}
use Rattle.dav_engine.specs.Plan.{ServerState}
use Rattle.dav_engine.specs.StateCode.{coded_state}
use Rattle.dav_server.specs.Machine.{Exchange, Settings}
use Rattle.dav_server.specs.Run.{Turn}
use Rattle.dav_server.specs.Server.{Server, HandlerView}

abbrev bytes_code : Coded (List ℕ)
bytes_code = coded_list coded_ℕ

abbrev settings_code : Coded Settings
settings_code = code_by (List ℕ × ℕ) (coded× bytes_code coded_ℕ) (λ s. (s.prefix, s.allowed)) (λ p. record { prefix = p.0; allowed = p.1 }) (λ _. refl)

abbrev pub server_code : Coded FsError → Coded Server
server_code refusal =
    code_by (Settings × ServerState) (coded× settings_code (coded_state refusal))
    (λ s. (s.settings, s.state)) (λ p. record { settings = p.0; state = p.1 }) (λ _. refl)

-- how the logic encodes what contracts see of a handler: as the pair of its store, and of its locks and its server
abbrev pub coded_handler : {F L : Type 0} → Coded F → Coded L → Coded FsError → Coded (HandlerView F L)
coded_handler {F} {L} store locks refusal =
    code_by (F × (Option L × Server)) (coded× store (coded× (coded_option locks) (server_code refusal)))
    (λ h. (h.fs, (h.ls, h.server))) (λ p. record { fs = p.0; ls = p.1.0; server = p.1.1 }) (λ _. refl)

-- how the logic encodes a request: as the tuple of its fields
abbrev pub coded_asked : Coded Body → Coded Exchange
coded_asked body =
    code_by (List ℕ × (Body × (Option (List ℕ) × (ℕ × Option (List ℕ)))))
    (coded× bytes_code (coded× body (coded× (coded_option bytes_code) (coded× coded_ℕ (coded_option bytes_code)))))
    (λ x. (x.head, (x.body, (x.principal, (x.moment, x.token)))))
    (λ p. record { head = p.0; body = p.1.0; principal = p.1.1.0; moment = p.1.1.1.0; token = p.1.1.1.1 }) (λ _. refl)

-- how the logic encodes a turn: as the pair of its request and its refusals
abbrev pub coded_turn : Coded Body → Coded FsError → Coded Turn
coded_turn body refusal =
    code_by (Exchange × Option (List (Option FsError))) (coded× (coded_asked body) (coded_option (coded_list (coded_option refusal))))
    (λ t. (t.asked, t.refusals)) (λ p. record { asked = p.0; refusals = p.1 }) (λ _. refl)
