-- What a run promises.
use Rattle.std.proofs.Common.{List, ◌≡◌, ◌++◌, ◌∷◌, subst}
use Rattle.dav_engine.specs.Reply.{Reply}
use Rattle.dav_server.specs.EachRequest.{RunStep}
use Rattle.dav_server.specs.Promises.{Promise, reading, created, refused, unmodified, updated, passed, kept, shared, tags, hrefs, members, Keeps, From, step_of, RunsPromise}
use Rattle.dav_server.specs.Run.{Turn}
use Rattle.dav_server.specs.Server.{Server, AnswersAll}
use Rattle.dav_server.specs.TagLaws.{MomentsAreDates, EqualTagsShowEqualBytes}
use Rattle.dav_server.proofs.EachRequestLemmas.{reads_leave, only_creates, refusals_leave, loses_no_update, not_modified_tells, hrefs_lead_back}
use Rattle.dav_server.proofs.EndingLemmas.{ends_no_lock}
use Rattle.dav_server.proofs.FromNoneLemmas.{stands_from_none}
use Rattle.dav_server.proofs.GrantedRuns.{is_isolated_from_grants}
use Rattle.dav_server.proofs.IsolationLemmas.{is_isolated}
use Rattle.dav_server.proofs.ListLemmas.{shares_locks}
use Rattle.dav_server.proofs.MembershipLemmas.{keeps_members}
use Rattle.dav_server.proofs.StrangerLemmas.{passes_no_lock}
use Rattle.dav_server.proofs.TurnLemmas.{run_tells}

-- equal tags show equal bytes, by the parts of the run
told_by : (ts us : List Turn) (rs ss : List Reply) → ts ≡ us → rs ≡ ss → EqualTagsShowEqualBytes ts rs → EqualTagsShowEqualBytes us ss
told_by ts us rs ss turns replies tells =
    subst (λ (l : List Reply). EqualTagsShowEqualBytes us l) replies (subst (λ (l : List Turn). EqualTagsShowEqualBytes l rs) turns tells)

module _ (old new : Server) (ts : List Turn) (replies : List Reply) (small : MomentsAreDates ts) (ran : AnswersAll old ts replies new) where
  each_keeps : (p : Promise) → From p old → (u : RunStep old ts replies) → Keeps p (step_of u)
  each_keeps reading from u = reads_leave u
  each_keeps created from u = only_creates u
  each_keeps refused from u = refusals_leave u
  each_keeps unmodified world u = not_modified_tells old ts replies small world u
  each_keeps updated world u = loses_no_update old ts replies small world u
  each_keeps passed world u = passes_no_lock old ts replies small world u
  each_keeps kept from u = ends_no_lock u
  each_keeps shared from u = shares_locks u
  each_keeps tags world u = told_by ts (u.front ++ u.turn ∷ u.back) replies (u.before ++ u.reply ∷ u.after) u.turns_are u.replies_are (run_tells ts small ran world)
  each_keeps hrefs (fits, world) u = hrefs_lead_back old ts replies small world u fits
  each_keeps members world u = keeps_members old ts replies small world u

pub runs_promise : RunsPromise
runs_promise old new ts replies small ran = record {
  each = each_keeps old new ts replies small ran;
  isolated = is_isolated old ts replies small;
  granted = is_isolated_from_grants old ts replies small;
  standing = λ differ empty u h. stands_from_none old ts replies differ empty u h;
}
