-- How the logic stores a writer of properties.
use Rattle.std.specs.Prelude.{ℕ, List, Option, refl}
use Rattle.std.specs.Coded.{Coded, code_by, coded_ℕ, coded_list, coded_option, coded×}
use Rattle.dav_core.specs.Element.{ElementTree}
use Rattle.dav_core.specs.ElementCode.{coded_tree}
use Rattle.dav_engine.specs.declared.properties.kind.Telling.{Telling}
use Rattle.dav_engine.specs.Properties.{Writer, QuotaKnown}
use Rattle.dav_engine.specs.PropWriter.{PropWriter}
use Rattle.dav_engine.specs.ResponseWriter.{ResponseWriter}

-- How the logic stores how properties are reported, given how it stores what they are reported for.
abbrev pub coded_writer : Coded Telling → Coded Writer
coded_writer telling =
    code_by (Telling × (List ℕ × (Option (List ℕ) × List ElementTree))) (coded× telling (coded× (coded_list coded_ℕ) (coded× (coded_option (coded_list coded_ℕ)) (coded_list coded_tree))))
    (λ w. (w.telling, (w.agent, (w.principal, w.properties)))) (λ p. record { telling = p.0; agent = p.1.0; principal = p.1.1.0; properties = p.1.1.1 }) (λ _. refl)

-- How the logic stores what is known of the quota.
abbrev pub coded_quota : Coded QuotaKnown
coded_quota = coded_option (coded_option (coded× coded_ℕ (coded_option coded_ℕ)))

-- How the logic stores the state of what hands responses on, given how it stores what takes them, and what properties are reported for.
abbrev pub coded_responses : {T : Type 0} → Coded T → Coded Telling → Coded (ResponseWriter T)
coded_responses {T} taker telling =
    code_by (Writer × (QuotaKnown × T)) (coded× (coded_writer telling) (coded× coded_quota taker))
    (λ w. (w.writer, (w.quota, w.finished))) (λ p. record { writer = p.0; quota = p.1.0; finished = p.1.1 }) (λ _. refl)

-- How the logic stores the state of a writer of properties, given how it stores what they are reported for.
abbrev pub coded_writing : Coded Telling → Coded PropWriter
coded_writing telling =
    code_by (Writer × (QuotaKnown × (Option (List ElementTree) × List ElementTree))) (coded× (coded_writer telling) (coded× coded_quota (coded× (coded_option (coded_list coded_tree)) (coded_list coded_tree))))
    (λ w. (w.writer, (w.quota, (w.sent, w.waiting)))) (λ p. record { writer = p.0; quota = p.1.0; sent = p.1.1.0; waiting = p.1.1.1 }) (λ _. refl)
