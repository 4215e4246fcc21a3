-- A request with leave keeps off the paths where its principal may not write.
use Rattle.std.proofs.Common.{◌≡◌, ◌≢◌, ◌⊎◌, inl, inr, ℕ, Option, Bool, true, false, not, true≢false, List, [], append-nil, ◌∷◌, All, map, Some, Ok, refl, sym, ap, subst, ◌∙◌, arith}
use Rattle.std.proofs.lemmas.List.Elements.{All-head, All-tail, All-cons}
use Rattle.dav_core.specs.Path.{Path, PathText, names, is_at_or_under}
use Rattle.dav_core.specs.declared.method.DavMethod.{DavMethod}
use Rattle.dav_core.specs.declared.method.DavMethod.TheVariants.{Copy, Unlock, Put, Patch, MkCol, Delete, Move, Options, PropPatch, Lock as LockMethod}
use Rattle.dav_core.specs.Locks.{Lock}
use Rattle.dav_engine.proofs.FaultLemmas.{at_path}
use Rattle.dav_engine.specs.Guard.{folder_of}
use Rattle.dav_engine.specs.Sparing.{NoneUnder}
use Rattle.dav_confined.specs.ConfinedSteps.{changes_below, changes_target, KeepsOff, UnlocksLock}
use Rattle.dav_server.specs.Head.{Request}
use Rattle.dav_server.specs.Holder.{IsRequestTo}
use Rattle.dav_server.specs.Machine.{Exchange, Settings}
use Rattle.dav_server.specs.Method.{GivesServed}
use Rattle.dav_server.specs.Run.{Turn}
use Rattle.dav_server.proofs.HeadLemmas.{one_head}
use Rattle.dav_server.proofs.MeansWorld.{one_method}
use Rattle.dav_server.proofs.TargetLemmas.{target_is_path}
use Rattle.dav_confined.specs.SeenSteps.{ReadsAt}
use Rattle.dav_confined.proofs.StepsSeen.{steps_answer_alike}
use Rattle.dav_confined.proofs.StepsConfined.{steps_leave_others, steps_leave_others_cut, steps_keep_other_locks, runs_leave_others}
use Rattle.dav_confined.specs.Granted.{WritesStayInGrants, WritesStayInGrantsCut, LocksOfOthersStand, LocksStayOutsideGrants, RuledTurn, IsKeptOut, RunsStayInGrants, OnlyReadsThere, AnswersStayInGrants}
use Rattle.dav_confined.specs.Leave.{needed, HasLeave, MayEnd}
use Rattle.dav_access.specs.declared.grant.Right.TheVariants.{Admin, Write}
use Rattle.dav_access.specs.Rules.{Rules, may_admin, may_read, may_write, has_right}
use Rattle.dav_access.proofs.RuleLemmas.{reads_below, rights_are_ordered, writes_below}

-- a method that changes its target needs the right to write there
needs_writes : (m : DavMethod) → changes_target m ≡ true → needed m ≡ Write
needs_writes Put is = refl
needs_writes Patch is = refl
needs_writes MkCol is = refl
needs_writes PropPatch is = refl
needs_writes LockMethod is = refl
needs_writes _ is = absurd (true≢false (sym is))

-- so does one that changes what is below it too
below_writes : (m : DavMethod) → changes_below m ≡ true → needed m ≡ Write
below_writes Delete is = refl
below_writes Move is = refl
below_writes _ is = absurd (true≢false (sym is))

module _ (covered : Path → Bool) (rules : Rules) (s : Settings) (x : Exchange) (leave : HasLeave rules s x)
    (outside : (q : Path) → covered q ≡ true → may_write rules x.principal q ≡ false) where
  none_by : (p q : Path) → may_write rules x.principal p ≡ true → is_at_or_under q p ≡ true → (b : Bool) → covered q ≡ b → b ≡ false
  none_by p q writes below false is = refl
  none_by p q writes below true is = absurd (true≢false (sym (writes_below rules x.principal p q below writes) ∙ outside q is))

  none_under : (p : Path) → may_write rules x.principal p ≡ true → NoneUnder covered p
  none_under p writes q below = none_by p q writes below (covered q) refl

  writes_at : (r : Request) (m : DavMethod) (p : PathText) → IsRequestTo s x r m p → needed m ≡ Write → (m ≢ Options) → may_write rules x.principal (names p) ≡ true
  writes_at r m p to writes named = subst (λ right. has_right rules x.principal right (names p) ≡ true) writes (leave.target r m p to (target_is_path to.target named))

  pub keeps_off : KeepsOff covered s x
  keeps_off = record {
    target = λ r m p to changes. none_under (names p) (writes_at r m p to (needs_writes m changes) (λ e. true≢false (sym changes ∙ ap changes_target e))) (names p) (at_path (names p) (names p) [] (sym (append-nil (names p))));
    below = λ r m p to changes. none_under (names p) (writes_at r m p to (below_writes m changes) (λ e. true≢false (sym changes ∙ ap changes_below e)));
    destination = λ r m p d to is named. none_under (names d) (leave.destination r m p d to is named);
  }

not_true : (b : Bool) → not b ≡ true → b ≡ false
not_true false is = refl
not_true true is = cc

off_grants : (rules : Rules) (s : Settings) (x : Exchange) → HasLeave rules s x → KeepsOff (λ q. not (may_write rules x.principal q)) s x
off_grants rules s x leave = keeps_off (λ q. not (may_write rules x.principal q)) rules s x leave (λ q is. not_true (may_write rules x.principal q) is)

pub writes_stay_in_grants : WritesStayInGrants
writes_stay_in_grants rules s x old new ls ms reply leave small world step =
    steps_leave_others (λ q. not (may_write rules x.principal q)) s x old new ls ms reply (off_grants rules s x leave) small world step

pub writes_stay_in_grants_cut : WritesStayInGrantsCut
writes_stay_in_grants_cut rules s x old new ls ms leave small world stops =
    steps_leave_others_cut (λ q. not (may_write rules x.principal q)) s x old new ls ms (off_grants rules s x leave) small world stops

-- who may end a lock may write at its path
ends_writes : (rules : Rules) (who : Option (List ℕ)) (h : Lock) → MayEnd rules who h → may_write rules who (folder_of h) ≡ true
ends_writes rules who h (inl own) = own.1
ends_writes rules who h (inr admin) = rights_are_ordered rules who Admin Write (folder_of h) refl admin

pub locks_stay_outside_grants : LocksStayOutsideGrants
locks_stay_outside_grants rules s x old new ls ms reply h leave may out listed own step =
    steps_keep_other_locks (λ q. not (may_write rules x.principal q)) s x old new (Some ls) ms reply h (off_grants rules s x leave)
    (ap not out) listed (λ (unlocks : UnlocksLock s x h). true≢false (sym (ends_writes rules x.principal h (may h listed unlocks)) ∙ out)) own step

module _ (s : Settings) (x : Exchange) (r : Request) (p : PathText) (to : IsRequestTo s x r Unlock p) where
  -- a request that is an UNLOCK is no other
  unlocks_alone : (r' : Request) (m : DavMethod) (p' : PathText) → IsRequestTo s x r' m p' → m ≡ Unlock
  unlocks_alone r' m p' to' =
      one_method r.method m Unlock (subst (λ (q : Request). GivesServed q.method (Ok m)) (one_head x.head r' r to'.head to.head) to'.method) to.method

  keeps_off_all : KeepsOff (λ q. true) s x
  keeps_off_all = record {
    target = λ r' m p' to' changes. absurd (true≢false (sym changes ∙ ap changes_target (unlocks_alone r' m p' to')));
    below = λ r' m p' to' changes. absurd (true≢false (sym changes ∙ ap changes_below (unlocks_alone r' m p' to')));
    destination = λ r' m p' d to' is named. elim is [
      | inl copy ↦ (let other : Copy ≡ Unlock = sym copy ∙ unlocks_alone r' m p' to' in cc)
      | inr move ↦ (let other : Move ≡ Unlock = sym move ∙ unlocks_alone r' m p' to' in cc)
    ];
  }

pub locks_of_others_stand : LocksOfOthersStand
locks_of_others_stand rules s x r p old new ls ms reply h to may other none listed own step =
    steps_keep_other_locks (λ q. true) s x old new (Some ls) ms reply h (keeps_off_all s x r p to) refl listed
    (λ (unlocks : UnlocksLock s x h). elim (may h listed unlocks) [ inl mine ↦ other mine.0 | inr admin ↦ true≢false (sym admin ∙ none) ]) own step

all_off : (covered : Path → Bool) (s : Settings) (ts : List RuledTurn) → All (IsKeptOut s covered) ts → All (λ (t : Turn). KeepsOff covered s t.asked) (map (λ (t : RuledTurn). t.turn) ts)
all_off covered s [] all = λ k d small. absurd (omega (arith, small))
all_off covered s (t ∷ ts) all =
    let here = All-head (IsKeptOut s covered) t ts all in
    All-cons (λ (t : Turn). KeepsOff covered s t.asked) t.turn (map (λ (t : RuledTurn). t.turn) ts)
    (keeps_off covered t.rules s t.turn.asked here.leave here.outside)
    (all_off covered s ts (All-tail (IsKeptOut s covered) t ts all))

pub runs_stay_in_grants : RunsStayInGrants
runs_stay_in_grants covered s ts old new ls ms replies kept small world run =
    runs_leave_others covered s (map (λ t. t.turn) ts) old new ls ms replies (all_off covered s ts kept) small world run

-- ---- reading

reads_at : (rules : Rules) (s : Settings) (x : Exchange) → HasLeave rules s x → OnlyReadsThere rules s x → ReadsAt (may_read rules x.principal) s x
reads_at rules s x leave only = record {
  safe = λ r m p to. (only r m p to).0;
  target = λ r m p to q below. reads_below rules x.principal (names p) q below (only r m p to).1;
  conditions = λ r m p lists to says. leave.conditions r m p lists to says;
}

pub answers_stay_in_grants : AnswersStayInGrants
answers_stay_in_grants rules s x old new old' new' ls ks ms ns reply reply' leave only small one two u u' same world world' agree alike =
    steps_answer_alike (may_read rules x.principal) s x old new old' new' ls ks ms ns reply reply' (reads_at rules s x leave only) small one two u u' same world world' agree alike
