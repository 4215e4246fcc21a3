use Rattle.std.proofs.Common.{◌≢◌, refl, sym, ◌∙◌, arith}
use Rattle.std.proofs.lemmas.Bool.{false≢true}
use Rattle.std.proofs.lemmas.Slice.Eq.{bytes_eq-Decides}
use Rattle.dav_core.specs.Method.{method_name}
use Rattle.dav_core.proofs.MethodLemmas.{one_more, place_within}
use Rattle.dav_core.proofs.method.DavMethodTryFromRefMethod.try_from.Goals as goal

pub loop-method-preserved : goal.loop-method-preserved
loop-method-preserved c =
    one_more (λ m. c.as_str-text.result.now ≢ method_name m) c.loop-method.method-index _ c.loop-method.invariant
    (λ e. false≢true (sym c.if-eq.false ∙ c.eq.ensures ∙ (bytes_eq-Decides _ _).1 (e ∙ sym c.name.ensures)))

pub returns : goal.returns
returns c = (refl, λ m e. c.loop-method.invariant m (omega (arith, place_within m, c.loop-method-test.false)) (c.as_str-text.ensures.value ∙ e))
