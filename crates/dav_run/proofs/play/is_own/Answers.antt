use Rattle.std.proofs.Common.{◌≡◌, ◌↔◌, ◌∙◌, ap, sym, subst, IfOk, IsTrue, string_bytes}
use Rattle.std.proofs.lemmas.Slice.Eq.{bytes_eq-Decides}
use Rattle.std.specs.String.{string_eq}
use Rattle.dav_server.specs.Machine.{Exchange}
use Rattle.dav_server.specs.Naming.{NamesToken}
use Rattle.dav_server.specs.Run.{Turn}
use Rattle.dav_run.specs.Play.{turn_for}
use Rattle.dav_run.specs.Script.{script_request}
use Rattle.dav_run.proofs.AloneLemmas.{own_if, same_seen}
use Rattle.dav_run.proofs.play.is_own.Goals as goal

pub returns-in-Some : goal.returns-in-Some
returns-in-Some c =
    let asked : c.step.inside.exchange ≡ c.args.step.now.asked = ap (λ (t : Turn). t.asked) c.step.view_is in
    let named : IfOk c.names.result (λ n. IsTrue n ↔ NamesToken c.args.step.now.asked c.as_str.result.now) =
    subst (λ (x : Exchange). IfOk c.names.result (λ n. IsTrue n ↔ NamesToken x c.as_str.result.now)) asked c.names.ensures.ok in
    let principals = same_seen string_bytes string_eq (λ x y e. (bytes_eq-Decides (string_bytes x) (string_bytes y)).0 e) c.args.request.now.principal c.args.grant.now.principal (sym c.eq.ensures ∙ c.if-eq.true) in
    own_if c.names.result (turn_for (script_request c.args.grant.now)) c.args.step.now.asked c.in-Some.token c.as_str.result.now named c.as_str.ensures.text c.in-Some.is
    (ap (λ (t : Turn). t.asked.principal) c.requires ∙ principals)
