use Rattle.std.proofs.Common.{◌≢◌, refl, sym, ◌∙◌, arith}
use Rattle.std.proofs.lemmas.Bool.{false≢true}
use Rattle.dav_core.specs.Method.{method_name}
use Rattle.dav_server.proofs.MethodLemmas.{are_served, one_more, served_within}
use Rattle.dav_server.proofs.method.method_of.Goals as goal

pub loop-method-preserved : goal.loop-method-preserved
loop-method-preserved c =
    one_more (λ m. c.args.name.now ≢ method_name m) c.loop-method.method-index _ c.loop-method-test.true c.loop-method.invariant
    (λ e. false≢true (sym c.if-is_named.false ∙ c.is_named.ensures.1 e))

pub returns-then-is_named : goal.returns-then-is_named
returns-then-is_named c = (are_served c.loop-method.method-index _ c.loop-method-test.true, c.is_named.ensures.0 c.if-is_named.true)

pub returns : goal.returns
returns c = (refl, λ m is e. c.loop-method.invariant m (omega (arith, served_within m is, c.loop-method-test.false)) e)
