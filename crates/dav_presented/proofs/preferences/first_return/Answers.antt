use Rattle.std.proofs.Common.{◌∙◌, ap, option_map, sym}
use Rattle.dav_presented.specs.Preferences.{is_return, preferences_in}
use Rattle.dav_presented.proofs.PreferenceLemmas.{ended, passed, stopped}
use Rattle.dav_presented.proofs.preferences.first_return.Goals as goal

pub returns-in-Some : goal.returns-in-Some
returns-in-Some c =
    stopped is_return preferences_in c.args.values.now c.loop-value.value-index c.value-item.result c.in-Some.preference.now _ c.loop-value-test.true c.value-item.is
    (sym c.return_in.ensures ∙ ap (option_map (λ t. t.now)) c.in-Some.is) c.loop-value.invariant

pub loop-value-preserved : goal.loop-value-preserved
loop-value-preserved c =
    passed is_return preferences_in c.args.values.now c.loop-value.value-index c.value-item.result _ c.loop-value-test.true c.value-item.is
    (sym c.return_in.ensures ∙ ap (option_map (λ t. t.now)) c.in_default.is) c.loop-value.invariant

pub returns : goal.returns
returns c = ended is_return preferences_in c.args.values.now c.loop-value.value-index _ c.loop-value-test.false c.loop-value.invariant
