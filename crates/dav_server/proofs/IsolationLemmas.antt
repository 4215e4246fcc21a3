-- Isolation, by recursion on the run.
use Rattle.std.proofs.Common.{◌≡◌, ◌≢◌, ◌++◌, ℕ, ◌≤◌, true, false, List, [], ◌∷◌, Option, Some, None, Result, Ok, Err, ◌⊎◌, inl, inr, refl, sym, ap, subst, ◌∙◌, arith}
use Rattle.std.proofs.lemmas.List.Elements.{All-nil, All-push, All-head, All-tail}
use Rattle.std.specs.Option.{is_some}
use Rattle.dav_core.specs.declared.errors.FsError.{FsError}
use Rattle.dav_core.specs.declared.errors.DavError.{DavError}
use Rattle.dav_core.specs.Asking.{StoreState}
use Rattle.dav_core.specs.Locks.{Lock}
use Rattle.dav_core.specs.World.{World, IsWorld, last_moment}
use Rattle.dav_engine.specs.Plan.{Locks}
use Rattle.dav_engine.specs.Reply.{Reply, reply_to, error_reply}
use Rattle.dav_engine.proofs.Theorems.{ran_unset, comes, alongside_agree, ran_plain, sparing_leaves_inside}
use Rattle.dav_server.specs.Machine.{Settings, Exchange, StepsBy, Steps, steps}
use Rattle.dav_server.specs.Run.{Turn, begun, no_more, one_more}
use Rattle.dav_server.specs.TagLaws.{MomentsAreDates}
use Rattle.dav_server.specs.Server.{Server}
use Rattle.dav_server.proofs.MeansWorld.{means_proper, begun_world, begun_short, run_keeps, all_front, all_back}
use Rattle.dav_engine.specs.Alongside.{AsksWithNumbers, SameResult, AreAlike, SameAnswers}
use Rattle.dav_engine.specs.AnswerParts.{answers_of}
use Rattle.dav_engine.specs.Guard.{folder_of, IsGuard, Guarded, Stands}
use Rattle.dav_engine.specs.Inside.{HasFoldersAbove}
use Rattle.dav_server.proofs.HolderLemmas.{means_along}
use Rattle.dav_server.proofs.StrangerLemmas.{means_spares}
use Rattle.dav_server.specs.Isolation.{StrangersLeaveAlike, HoldersAnswerAlike, AreLoaded, TokenIsFresh, RunsUnder, under_none, under_more, HolderTurns, alone_none, alone_other, alone_own, alike_none, alike_other, alike_own, MatchesSoloRun, HoldersAreAlone, IsIsolated}

begun_same : (refusals : Option (List (Option FsError))) (s t : StoreState) → is_some refusals ≡ true → (begun refusals s).refusals ≡ (begun refusals t).refusals
begun_same None s t some = cc
begun_same (Some list) s t some = refl

-- the flag is never taken back
under_unset : {s : Settings} {h : Lock} {ts : List Turn} {old new : StoreState} {ls ms : Locks} {replies : List Reply} → RunsUnder AsksWithNumbers s h ts old ls replies new ms → new.short ≡ false → old.short ≡ false
under_unset under_none u = u
under_unset (under_more {t} {old = old} stands holds (steps plan outcome means ran) more) u = sym (begun_short t.refusals old) ∙ ran_unset (ran_plain ran) (under_unset more u)

-- a step that found its numbers is one
steps_plain : {s : Settings} {x : Exchange} {old new : StoreState} {ls ms : Locks} {reply : Reply} → StepsBy AsksWithNumbers s x old ls reply new ms → Steps s x old ls reply new ms
steps_plain (steps plan outcome means ran) = steps plan outcome means (ran_plain ran)

same_replies : (a b : Result Reply DavError) → SameResult SameAnswers a b → SameAnswers (reply_to a) (reply_to b)
same_replies (Ok x) (Ok y) same = same
same_replies (Err e) (Err f) same = ap (λ (d : DavError). answers_of (error_reply d)) same
same_replies (Ok x) (Err f) same = absurd same
same_replies (Err e) (Ok y) same = absurd same

at_begin : {folder : List (List ℕ)} (r q : Option (List (Option FsError))) (s t : StoreState) → AreAlike folder None s.world t.world → AreAlike folder None (begun r s).world (begun q t).world
at_begin {folder} r q s t alike = subst (λ (w : World). AreAlike folder None w (begun q t).world) (sym (begun_world r s)) (subst (λ (v : World). AreAlike folder None s.world v) (sym (begun_world q t)) alike)

either : (h : Lock) (ms ks : Locks) → ((Guarded h ms × Guarded h ks) ⊎ (¬ Stands h ms × ¬ Stands h ks)) → Stands h ms → Guarded h ms × Guarded h ks
either h ms ks (inl both) stands = both
either h ms ks (inr gone) stands = absurd (gone.0 stands)

-- ---- one step

pub strangers_leave_alike : StrangersLeaveAlike
strangers_leave_alike s h x old new other ls ms reply guard guarded above world moment stranger own (steps plan outcome means ran) =
    let left = sparing_leaves_inside h plan old new ls ms outcome guard ((means_spares h guard.exclusive x stranger means).1 guard own) (means_proper moment means) ran guarded above world in (
      left,
      λ alike. (let low = alike.next in let high = left.next in record {
        same = λ r. sym (left.same r) ∙ alike.same r;
        next = omega (arith, low, high);
        above = left.above;
        above_alone = alike.above_alone;
        world = left.world;
        world_alone = alike.world_alone;
        there = tt;
      }),
    )

pub holders_answer_alike : HoldersAnswerAlike
holders_answer_alike s h x old new other ls ms ks reply guard guarded also alike refusals unset moment holds (steps plan outcome means ran) u =
    let c = comes plan other ks in
    let short : c.new.short ≡ false = c.flag ∙ unset in
    let ends = alongside_agree h plan old new other c.new ls ms ks c.locks outcome c.outcome guard
    (means_along h guard s x holds means) (means_proper moment means) ran c.ran u short refusals guarded also alike in
    record {
      reply_alone = reply_to c.outcome;
      new_alone = c.new;
      locks_alone = c.locks;
      step = steps plan c.outcome means c.ran;
      ample = short;
      answers = same_replies outcome c.outcome ends.outcomes;
      alike = ends.alike;
      locks = ends.locks;
    }

-- ---- a run

module _ (s : Settings) (h : Lock) (guard : IsGuard h) where
  isolated : {ts us : List Turn} {old new old' : StoreState} {ls ms ls' : Locks} {replies : List Reply}
      → RunsUnder AsksWithNumbers s h ts old ls replies new ms → MomentsAreDates ts → AreLoaded ts → TokenIsFresh h ts → new.short ≡ false → HolderTurns h ts us
      → AreAlike (folder_of h) None old.world old'.world → old'.short ≡ false → (Stands h ls → Guarded h ls × Guarded h ls')
      → MatchesSoloRun s h ts us old' ls' replies new
  isolated {old' = old'} {ls' = ls'} under_none small loaded none u alone_none alike u' g =
      record { alone = []; end = old'; locks = ls'; runs = no_more; ample = u'; answers = alike_none; inside = alike.same }
  isolated {old' = old'} {ls' = ls'} (under_more {t} {ts} {old} {mid} {new} {ls} {ks} {reply = reply} stands holds step more) small loaded none u (alone_other stranger rest) alike u' g =
      let moment : t.asked.moment ≤ last_moment = All-head (λ t. t.asked.moment ≤ last_moment) t ts small in
      let both = g stands in
      let same : (begun t.refusals old).world ≡ old.world = begun_world t.refusals old in
      let (left, stays) = strangers_leave_alike s h t.asked (begun t.refusals old) mid old' ls ks reply guard both.0
      (subst (HasFoldersAbove (folder_of h)) (sym same) alike.above) (subst IsWorld (sym same) alike.world) moment stranger (All-head (λ t. t.asked.token ≢ Some h.token) t ts none) (steps_plain step) in
      let go = isolated {old' = old'} {ls' = ls'} more (All-tail (λ t. t.asked.moment ≤ last_moment) t ts small) (All-tail (λ t. is_some t.refusals ≡ true) t ts loaded) (All-tail (λ t. t.asked.token ≢ Some h.token) t ts none) u rest
      (stays (subst (λ (w : World). AreAlike (folder_of h) None w old'.world) (sym same) alike)) u' (λ still. (left.guarded still, both.1)) in
      record { alone = go.alone; end = go.end; locks = go.locks; runs = go.runs; ample = go.ample; answers = alike_other stranger go.answers; inside = go.inside }
  isolated {old' = old'} {ls' = ls'} (under_more {t} {ts} {old} {mid} {new} {ls} {ks} {reply = reply} stands holds step more) small loaded none u (alone_own named rest) alike u' g =
      let moment : t.asked.moment ≤ last_moment = All-head (λ t. t.asked.moment ≤ last_moment) t ts small in
      let both = g stands in
      let also = holders_answer_alike s h t.asked (begun t.refusals old) mid (begun t.refusals old') ls ks ls' reply guard both.0 both.1 (at_begin t.refusals t.refusals old old' alike)
      (begun_same t.refusals old old' (All-head (λ t. is_some t.refusals ≡ true) t ts loaded)) (begun_short t.refusals old' ∙ u') moment (holds named) step (under_unset more u) in
      let go = isolated {old' = also.new_alone} {ls' = also.locks_alone} more (All-tail (λ t. t.asked.moment ≤ last_moment) t ts small) (All-tail (λ t. is_some t.refusals ≡ true) t ts loaded) (All-tail (λ t. t.asked.token ≢ Some h.token) t ts none) u rest
      also.alike also.ample (either h ks also.locks_alone also.locks) in
      record {
        alone = also.reply_alone ∷ go.alone;
        end = go.end;
        locks = go.locks;
        runs = one_more also.step go.runs;
        ample = go.ample;
        answers = alike_own named also.answers go.answers;
        inside = go.inside;
      }

pub holders_are_alone : HoldersAreAlone
holders_are_alone s h ts us old new ls ms replies guard guarded above world small loaded none under u alone =
    isolated s h guard under small loaded none u alone
    (record { same = λ r. refl; next = omega arith; above = above; above_alone = above; world = world; world_alone = world; there = tt }) (under_unset under u) (λ _. (guarded, guarded))

-- of a run, from any moment on
pub is_isolated : (old : Server) (ts : List Turn) (replies : List Reply) → MomentsAreDates ts → AreLoaded ts → IsIsolated old ts replies
is_isolated old ts replies small loaded front later back us h mid new ks ms before given after is replied world ran guard guarded above none under u alone =
    let P = λ (t : Turn). t.asked.moment ≤ last_moment in
    let Q = λ (t : Turn). is_some t.refusals ≡ true in
    let all_small : MomentsAreDates (front ++ (later ++ back)) = subst MomentsAreDates is small in
    let all_loaded : AreLoaded (front ++ (later ++ back)) = subst AreLoaded is loaded in
    let kept = run_keeps world (all_front P front (later ++ back) all_small) ran in
    holders_are_alone old.settings h later us mid new ks ms given guard guarded above kept.world
    (all_front P later back (all_back P front (later ++ back) all_small)) (all_front Q later back (all_back Q front (later ++ back) all_loaded)) none under u alone

-- ---- turns that have refusals of their own

pub none_loaded : AreLoaded []
none_loaded = All-nil (λ (t : Turn). is_some t.refusals ≡ true)

pub loaded_more : (front : List Turn) (t : Turn) → AreLoaded front → is_some t.refusals ≡ true → AreLoaded (front ++ t ∷ [])
loaded_more front t some one = All-push (λ (u : Turn). is_some u.refusals ≡ true) front t some one

-- the same for an equal list
pub loaded_for : {ts us : List Turn} → ts ≡ us → AreLoaded us → AreLoaded ts
loaded_for same some = subst AreLoaded (sym same) some
