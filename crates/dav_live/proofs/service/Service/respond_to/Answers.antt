use Rattle.std.proofs.Common.{ℕ, option_map, string_bytes, ap, subst, sym}
use Rattle.dav_kept.specs.Kept.{held_by}
use Rattle.dav_kept.specs.declared.kept.Kept.{Kept}
use Rattle.dav_live.specs.Admission.{AdmissionView, IsDecision, IsRequestOf, LooksIn, request_in}
use Rattle.dav_live.specs.Numbered.{HasNumber}
use Rattle.dav_live.specs.Serving.{held_of, kept_of, turned_away}
use Rattle.dav_live.proofs.RunLemmas.{goes_on_same}
use Rattle.dav_live.proofs.ServingLemmas.{holds_on, number_of, ran_or_not, way_shown}
use Rattle.dav_live.proofs.service.Service.respond_to.Goals as goal

pub run_if_allowed-requires-clause-number : goal.run_if_allowed-requires-clause-number
run_if_allowed-requires-clause-number g c =
    let a = c.args.self.now.admission in
    let d = subst (IsDecision a c.tokens-tokens.result c.args.head.now c.args.asked.now.body) c.in-Run.is c.in_ok-refused.ensures.decision in
    subst (λ (n : ℕ). HasNumber n (option_map string_bytes c.in-Run.admitted.token)) c.tokens-tokens.ensures
    (number_of a.random c.tokens-tokens.result c.args.head.now.method c.args.asked.now.body (option_map string_bytes c.in-Run.admitted.token) d.0.token)

pub run_if_allowed-requires-clause-kept : goal.run_if_allowed-requires-clause-kept
run_if_allowed-requires-clause-kept g c =
    let a = c.args.self.now.admission in
    let d = subst (IsDecision a c.tokens-tokens.result c.args.head.now c.args.asked.now.body) c.in-Run.is c.in_ok-refused.ensures.decision in
    (a.lock_time, a.strict, d.0.kept, d.0.is_kept, d.0.says)

pub returns-in_ok-refuse-in-Refused-clause-responds : goal.returns-in_ok-refuse-in-Refused-clause-responds
returns-in_ok-refuse-in-Refused-clause-responds g c =
    let a = c.args.self.now.admission in
    let away = subst (IsDecision a c.tokens-tokens.result c.args.head.now c.args.asked.now.body) c.in-Refused.is c.in_ok-refused.ensures.decision in
    holds_on c.note.result
    (turned_away c.args.head.now c.in-Refused.refused.reason (string_bytes c.in-Refused.refused.user) c.requires.head away c.in_ok-refuse-in-Refused.ensures
    (ap (λ (k : Kept g.row.H.Denot g.row.J.Denot). held_by k) c.note.ensures.same.1))

pub returns-in_ok-refuse-in-Refused-clause-goes_on : goal.returns-in_ok-refuse-in-Refused-clause-goes_on
returns-in_ok-refuse-in-Refused-clause-goes_on g c =
    holds_on c.note.result (goes_on_same g.H.Handles.answers g.J.Keeps.is_clean g.J.Keeps.kept (kept_of c.args.self.now) (kept_of c.note.new.self) c.note.ensures.same.1)

pub look_by_rules-requires-clause-looks : goal.look_by_rules-requires-clause-looks
look_by_rules-requires-clause-looks g c =
    let a = c.args.self.now.admission in
    let d = subst (IsDecision a c.tokens-tokens.result c.args.head.now c.args.asked.now.body) c.in-Look.is c.in_ok-refused.ensures.decision in
    subst (λ (x : AdmissionView). LooksIn x (option_map string_bytes c.in-Look.admitted.principal) c.in-Look.admitted.head.items) (sym c.in_ok-refused.ensures.same) d.looks

pub returns-in_ok-look_by_rules-in-Look-clause-responds : goal.returns-in_ok-look_by_rules-in-Look-clause-responds
returns-in_ok-look_by_rules-in-Look-clause-responds g c =
    let a = c.args.self.now.admission in
    let body = c.args.asked.now.body in
    let admitted = c.in-Look.admitted in
    let d = subst (IsDecision a c.tokens-tokens.result c.args.head.now body) c.in-Look.is c.in_ok-refused.ensures.decision in
    holds_on c.note-in-Look.result
    (way_shown g.H.Handles.answers g.H.Ends.refuses g.H.Ends.looks a _ (held_of c.args.self.now) (held_of c.look_by_rules.new.self) (held_of c.note-in-Look.new.self) c.args.asked.now c.args.head.now admitted c.look_by_rules.new.response
    c.requires.head d c.in_ok-refused.ensures.same (ap (λ (k : Kept g.row.H.Denot g.row.J.Denot). held_by k) c.note-in-Look.ensures.same.1)
    c.in_ok-look_by_rules-in-Look.ensures.looked c.in_ok-look_by_rules-in-Look.ensures.held)

pub returns-in_ok-run_if_allowed-in-Run-clause-responds : goal.returns-in_ok-run_if_allowed-in-Run-clause-responds
returns-in_ok-run_if_allowed-in-Run-clause-responds g c =
    let a = c.args.self.now.admission in
    let body = c.args.asked.now.body in
    let admitted = c.in-Run.admitted in
    let d = subst (IsDecision a c.tokens-tokens.result c.args.head.now body) c.in-Run.is c.in_ok-refused.ensures.decision in
    let request = subst (λ (n : ℕ). IsRequestOf a n c.args.head.now body (request_in a admitted body)) c.tokens-tokens.ensures d.0 in
    holds_on c.note-in-Run.result
    (ran_or_not g.H.Handles.answers g.H.Ends.refuses g.H.Ends.looks a _ (held_of c.args.self.now) (held_of c.run_if_allowed.new.self) (held_of c.note-in-Run.new.self) c.args.asked.now c.args.head.now admitted c.run_if_allowed.new.response
    c.requires.head request c.in_ok-refused.ensures.same (ap (λ (k : Kept g.row.H.Denot g.row.J.Denot). held_by k) c.note-in-Run.ensures.same.1) c.in_ok-run_if_allowed-in-Run.ensures.ran)
