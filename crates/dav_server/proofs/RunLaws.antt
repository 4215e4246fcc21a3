-- Runs split, join and end.
use Rattle.std.proofs.Common.{List, [], ◌∷◌, refl, sym, ap, ◌∙◌}
use Rattle.std.proofs.lemmas.List.Elements.{All-head, All-tail}
use Rattle.dav_engine.specs.Reply.{Reply, reply_to}
use Rattle.dav_engine.proofs.Theorems.{comes, ran_unset}
use Rattle.dav_server.specs.Machine.{steps}
use Rattle.dav_server.specs.Run.{begun, no_more, one_more, HasPlan, ShortnessIsKept, RunsSplit, RunsJoin, RunsEnd, RequestsHaveRuns}
use Rattle.dav_server.proofs.SomePlan.{requests_have_plans}
use Rattle.dav_server.proofs.MeansWorld.{begun_short}

pub runs_split : RunsSplit
runs_split s [] us old new ls ms replies run = ([], replies, old, ls, refl, no_more, run)
runs_split s (t ∷ ts) us old new ls ms replies (one_more {reply = reply} {replies = rest} step run) =
    let (before, after, mid, ks, parts, one, two) = runs_split s ts us _ new _ ms rest run in
    (reply ∷ before, after, mid, ks, ap (λ (l : List Reply). reply ∷ l) parts, one_more step one, two)

pub runs_join : RunsJoin
runs_join s [] us old mid new ls ks ms before after no_more two = two
runs_join s (t ∷ ts) us old mid new ls ks ms before after (one_more {replies = rest} step one) two = one_more step (runs_join s ts us _ mid new _ ks ms rest after one two)

pub shortness_is_kept : ShortnessIsKept
shortness_is_kept s [] old new ls ms replies no_more unset = unset
shortness_is_kept s (t ∷ ts) old new ls ms replies (one_more {replies = rest} (steps plan outcome means ran) more) unset =
    sym (begun_short t.refusals old) ∙ ran_unset ran (shortness_is_kept s ts _ new _ ms rest more unset)

pub runs_end : RunsEnd
runs_end s [] old ls all = ([], old, ls, no_more, refl)
runs_end s (t ∷ ts) old ls all =
    let (plan, means) = All-head (HasPlan s) t ts all in
    let end = comes plan (begun t.refusals old) ls in
    let (replies, new, ms, run, short) = runs_end s ts end.new end.locks (All-tail (HasPlan s) t ts all) in
    (reply_to end.outcome ∷ replies, new, ms, one_more (steps plan end.outcome means end.ran) run, short ∙ end.flag ∙ begun_short t.refusals old)

pub requests_have_runs : RequestsHaveRuns
requests_have_runs s [] old ls without = without [] old ls no_more refl
requests_have_runs s (t ∷ ts) old ls without =
    requests_have_plans s t.asked (λ plan means.
    let end = comes plan (begun t.refusals old) ls in
    requests_have_runs s ts end.new end.locks (λ replies new ms run short.
    without (reply_to end.outcome ∷ replies) new ms (one_more (steps plan end.outcome means end.ran) run) (short ∙ end.flag ∙ begun_short t.refusals old)))
