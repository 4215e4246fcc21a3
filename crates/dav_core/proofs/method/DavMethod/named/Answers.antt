use Rattle.std.proofs.Common.{sym, ap, ◌∙◌, map, arith}
use Rattle.std.specs.Char.{to_ascii_lowercase}
use Rattle.std.proofs.lemmas.Bool.{false≢true}
use Rattle.dav_core.specs.Method.{NamesMethod}
use Rattle.dav_core.proofs.MethodLemmas.{one_more, place_within}
use Rattle.dav_core.proofs.method.DavMethod.named.Goals as goal

pub loop-method-preserved : goal.loop-method-preserved
loop-method-preserved c =
    one_more (λ m. ¬ (NamesMethod c.args.text.now m)) c.loop-method.method-index _ c.loop-method.invariant
    (λ e. false≢true (sym c.if-eq_ignore_ascii_case.false ∙ c.eq_ignore_ascii_case.ensures.test.1 (e ∙ ap (map to_ascii_lowercase) (sym c.name.ensures))))

pub returns : goal.returns
returns c = λ n. c.loop-method.invariant n.0 (omega (arith, place_within n.0, c.loop-method-test.false)) n.1
