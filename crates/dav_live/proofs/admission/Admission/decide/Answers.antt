use Rattle.std.proofs.Common.{◌≡◌, ◌∙◌, map, sym, ap, refl, subst, string_bytes, codes}
use Rattle.dav_access.specs.Principals.{IsRefusal, ShowsNoUser}
use Rattle.dav_live.specs.Admission.{AdmissionView, users_for}
use Rattle.dav_live.specs.Hosts.{TellsFor, asked_host, value_of}
use Rattle.dav_live.proofs.AdmissionLemmas.{for_another, for_no_port, of_nobody}
use Rattle.dav_live.proofs.RejectionLemmas.{decided_not}
use Rattle.dav_live.proofs.admission.Admission.decide.Goals as goal

pub returns-then-asks_bad_port-clause-decision : goal.returns-then-asks_bad_port-clause-decision
returns-then-asks_bad_port-clause-decision c =
    for_no_port c.args.self.now c.args.tokens c.args.head.now c.args.body.now c.refused.result _ c.refused.ensures refl c.new.ensures.bytes
    (c.asks_bad_port.ensures.0 c.if-asks_bad_port.true)

pub returns-then-not-is_for-clause-decision : goal.returns-then-not-is_for-clause-decision
returns-then-not-is_for-clause-decision c =
    let hosts : c.args.self.now.hosts ≡ map string_bytes c.deref.result.now =
    sym (ap (λ (a : AdmissionView). a.hosts) c.self.view_is) ∙ ap (map string_bytes) (sym c.deref.ensures.value) in
    for_another c.args.self.now c.args.tokens c.args.head.now c.args.body.now c.refused-then-not-is_for.result _ _ hosts c.refused-then-not-is_for.ensures refl
    c.new-then-not-is_for.ensures.bytes
    (decided_not c.asks_bad_port.result c.asks_bad_port.ensures c.if-asks_bad_port.false)
    (subst (TellsFor (map string_bytes c.deref.result.now) (asked_host c.args.head.now)) c.if-not-is_for.true c.is_for.ensures)

pub returns-in-Err-Unknown-clause-decision : goal.returns-in-Err-Unknown-clause-decision
returns-in-Err-Unknown-clause-decision c =
    let hosts : c.args.self.now.hosts ≡ map string_bytes c.deref.result.now =
    sym (ap (λ (a : AdmissionView). a.hosts) c.self.view_is) ∙ ap (map string_bytes) (sym c.deref.ensures.value) in
    let shows : ShowsNoUser (users_for c.args.self.now c.args.head.now) (value_of (codes "authorization") c.args.head.now) (string_bytes c.in-Err-Unknown.shown) =
    subst (IsRefusal (users_for c.args.self.now c.args.head.now) (value_of (codes "authorization") c.args.head.now)) c.in-Err-Unknown.field-0-is c.in-Err-Unknown.ensures.refusal in
    of_nobody c.args.self.now c.args.tokens c.args.head.now c.args.body.now c.refused-in-Err-Unknown.result _ _ _ hosts c.refused-in-Err-Unknown.ensures refl refl
    (decided_not c.asks_bad_port.result c.asks_bad_port.ensures c.if-asks_bad_port.false)
    (subst (TellsFor (map string_bytes c.deref.result.now) (asked_host c.args.head.now)) c.if-not-is_for.false c.is_for.ensures) shows
