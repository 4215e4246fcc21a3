-- What a run promises of each of its requests.
use Rattle.std.proofs.Common.{◌++◌, ◌≤◌, List, ◌∷◌, ap, sym, subst, ◌∙◌}
use Rattle.std.proofs.lemmas.List.Elements.{All-head}
use Rattle.dav_core.specs.Path.{names}
use Rattle.dav_core.specs.World.{World, IsWorld, node_at, last_moment}
use Rattle.dav_engine.specs.Plan.{ServerState}
use Rattle.dav_engine.specs.Reply.{Reply}
use Rattle.dav_server.specs.EachRequest.{RunStep}
use Rattle.dav_server.specs.Leaving.{SameContent, SafeLeaves, CreateOnlyLeaves, RefusedStatusLeaves}
use Rattle.dav_server.specs.Machine.{Exchange, Settings, Steps}
use Rattle.dav_server.specs.Promises.{reading, created, refused, unmodified, updated, hrefs, at_begin, Keeps, step_of}
use Rattle.dav_server.specs.Run.{Turn, begun}
use Rattle.dav_server.specs.Server.{Server}
use Rattle.dav_server.specs.Setup.{IsPrefix}
use Rattle.dav_server.specs.TagLaws.{MomentsAreDates}
use Rattle.dav_server.proofs.HrefReplies.{step_leads_back}
use Rattle.dav_server.proofs.MeansWorld.{begun_world, all_front, all_back, reads_leave_all, runs_keep_worlds}
use Rattle.dav_server.proofs.NoLostUpdate.{no_lost_update}
use Rattle.dav_server.proofs.NotModified.{not_modified_is_true}
use Rattle.dav_server.proofs.RefusedLemmas.{refused_leaves}
use Rattle.dav_server.proofs.WriteLemmas.{create_only_keeps, create_only_fails}

-- ---- one request

pub safe_leaves : (s : Settings) (x : Exchange) (was now : ServerState) (reply : Reply) → Steps s x was.store was.locks reply now.store now.locks → SafeLeaves x was now
safe_leaves s x was now reply step (m, asks, is) = reads_leave_all s x was.store now.store was.locks now.locks reply m asks is step

pub create_only_leaves : (s : Settings) (x : Exchange) (was now : ServerState) (reply : Reply) → Steps s x was.store was.locks reply now.store now.locks → CreateOnlyLeaves s x reply was now
create_only_leaves s x was now reply step p n is there = (
  create_only_keeps s x p n was.store now.store was.locks now.locks reply is there step,
  create_only_fails s x p n was.store now.store was.locks now.locks reply is there step,
)

pub refused_status_leaves : (s : Settings) (x : Exchange) (was now : ServerState) (reply : Reply) → Steps s x was.store was.locks reply now.store now.locks → RefusedStatusLeaves s x reply was now
refused_status_leaves s x was now reply step = refused_leaves s x was now reply step

-- ---- a request of a run

same_content : (t : Turn) (was now : ServerState) → SameContent (at_begin t was) now → SameContent was now
same_content t was now (world, locks) = (world ∙ begun_world t.refusals was.store, locks)

pub reads_leave : {old : Server} {ts : List Turn} {replies : List Reply} (u : RunStep old ts replies) → Keeps reading (step_of u)
reads_leave {old} u safe = same_content u.turn u.was u.now (safe_leaves old.settings u.turn.asked (at_begin u.turn u.was) u.now u.reply u.stepped safe)

pub only_creates : {old : Server} {ts : List Turn} {replies : List Reply} (u : RunStep old ts replies) → Keeps created (step_of u)
only_creates {old} u p n is there =
    let here = ap (λ (w : World). node_at w (names p)) (begun_world u.turn.refusals u.was.store) ∙ there in
    let (left, failed) = create_only_leaves old.settings u.turn.asked (at_begin u.turn u.was) u.now u.reply u.stepped p n is here in
    (same_content u.turn u.was u.now left, failed)

pub refusals_leave : {old : Server} {ts : List Turn} {replies : List Reply} (u : RunStep old ts replies) → Keeps refused (step_of u)
refusals_leave {old} u = refused_status_leaves old.settings u.turn.asked (at_begin u.turn u.was) u.now u.reply u.stepped

module _ (old : Server) (ts : List Turn) (replies : List Reply) (small : MomentsAreDates ts) (world : IsWorld old.state.store.world) (u : RunStep old ts replies) where
  all_small : MomentsAreDates (u.front ++ u.turn ∷ u.back)
  all_small = subst MomentsAreDates u.turns_are small

  front_small : MomentsAreDates u.front
  front_small = all_front (λ t. t.asked.moment ≤ last_moment) u.front (u.turn ∷ u.back) all_small

  pub loses_no_update : Keeps updated (step_of u)
  loses_no_update p tag bytes told updates good =
      no_lost_update old.settings u.front u.turn old.state.store u.was.store u.now.store old.state.locks u.was.locks u.now.locks u.before u.reply p tag bytes
      world front_small u.earlier told updates u.stepped good

  pub not_modified_tells : Keeps unmodified (step_of u)
  not_modified_tells end later p tag bytes is lacks shown =
      not_modified_is_true old.settings u.front u.back u.turn old.state.store u.was.store u.now.store end.store old.state.locks u.was.locks u.now.locks end.locks
      u.before u.after u.reply p tag bytes world all_small u.earlier u.stepped later is lacks shown

  pub hrefs_lead_back : IsPrefix old.settings.prefix → Keeps hrefs (step_of u)
  hrefs_lead_back fits =
      let later : MomentsAreDates (u.turn ∷ u.back) = all_back (λ t. t.asked.moment ≤ last_moment) u.front (u.turn ∷ u.back) all_small in
      let kept = runs_keep_worlds old.settings u.front old.state.store u.was.store old.state.locks u.was.locks u.before world front_small u.earlier in
      step_leads_back old.settings u.turn.asked (begun u.turn.refusals u.was.store) u.now.store u.was.locks u.now.locks u.reply u.stepped
      fits (subst IsWorld (sym (begun_world u.turn.refusals u.was.store)) kept) (All-head (λ t. t.asked.moment ≤ last_moment) u.turn u.back later)
