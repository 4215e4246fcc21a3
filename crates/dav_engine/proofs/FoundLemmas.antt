-- How code finds the properties of a resource.
use Rattle.std.proofs.Common.{◌≡◌, List, [], ◌∷◌, ◌++◌, Option, Some, None, Ok, refl, sym, ap, subst, ◌∙◌, append_assoc}
use Rattle.std.proofs.lemmas.List.{append-nil}
use Rattle.dav_core.specs.declared.fs.DavMetaData.{DavMetaData}
use Rattle.dav_core.specs.Asking.{StoreState, Asks}
use Rattle.dav_core.specs.Element.{ElementTree}
use Rattle.dav_core.specs.Path.{PathText}
use Rattle.dav_engine.specs.Method.{MethodPlan, ◌>>=◌, gives}
use Rattle.dav_engine.specs.Plan.{Locks, Ran, Cut, ran_done, ran_look}
use Rattle.dav_engine.specs.Properties.{Telling, Writer, Source, AvailableQuota, UsedQuota, InStore, source, Quota, QuotaKnown, WithQuota, cached_quota, kept_property, found_in, found_property, found_properties, with_found, available_told, used_told, all_kept, properties_of, property_response, Group, found_groups}
use Rattle.dav_engine.proofs.CutPlans.{cut_first, cut_look, cut_bind, cut_in}
use Rattle.dav_engine.proofs.Following.{ran_at, ran_bind}
use Rattle.dav_engine.proofs.PartLemmas.{Gave, Stopped, GaveAny, StoppedAny}

module _ (w : Writer) (p : PathText) (m : DavMetaData) where
  -- what a property becomes of the quota
  abbrev with_quota : (Quota → Option ElementTree) → Quota → MethodPlan (WithQuota (Option ElementTree))
  with_quota told quota = gives (told quota, Some quota)

  pub available_found : (e : ElementTree) (known : QuotaKnown) (quota : Quota) (one : Option ElementTree) {old new : StoreState}
      → GaveAny (cached_quota known) old quota new → one ≡ available_told w e p m quota → GaveAny (found_in w e p m known AvailableQuota) old (one, Some quota) new
  available_found e known quota one asked is = λ ls. ran_bind (with_quota (available_told w e p m)) (asked ls) (ran_at (ap (λ o. Ok (o, Some quota)) is))

  pub available_stopped : (e : ElementTree) (known : QuotaKnown) (quota : Quota) {old new : StoreState}
      → GaveAny (cached_quota known) old quota new → StoppedAny (found_in w e p m known AvailableQuota) old new
  available_stopped e known quota asked = λ ls. cut_bind (with_quota (available_told w e p m)) (asked ls) cut_first

  pub used_found : (e : ElementTree) (known : QuotaKnown) (quota : Quota) (one : Option ElementTree) {old new : StoreState}
      → GaveAny (cached_quota known) old quota new → one ≡ used_told w e p m quota → GaveAny (found_in w e p m known UsedQuota) old (one, Some quota) new
  used_found e known quota one asked is = λ ls. ran_bind (with_quota (used_told w e p m)) (asked ls) (ran_at (ap (λ o. Ok (o, Some quota)) is))

  pub used_stopped : (e : ElementTree) (known : QuotaKnown) (quota : Quota) {old new : StoreState}
      → GaveAny (cached_quota known) old quota new → StoppedAny (found_in w e p m known UsedQuota) old new
  used_stopped e known quota asked = λ ls. cut_bind (with_quota (used_told w e p m)) (asked ls) cut_first

  pub store_found : (e : ElementTree) (known : QuotaKnown) (telling : Telling) (one : Option ElementTree) {ls : Locks} {old new : StoreState}
      → telling ≡ w.telling → Gave ls (kept_property telling p e) old one new → Gave ls (found_in w e p m known InStore) old (one, known) new
  store_found e known telling one {ls} {old} {new} same asked =
      ran_bind (λ kept. gives (kept, known)) (subst (λ t. Ran Asks (kept_property t p e) old ls (Ok one) new ls) same asked) ran_done

  pub store_stopped : (e : ElementTree) (known : QuotaKnown) (telling : Telling) {ls : Locks} {old new : StoreState}
      → telling ≡ w.telling → Stopped ls (kept_property telling p e) old new → Stopped ls (found_in w e p m known InStore) old new
  store_stopped e known telling {ls} {old} {new} same stop =
      cut_in (λ kept. gives (kept, known)) (subst (λ t. Cut Asks ls (kept_property t p e) old ls new ls) same stop) refl

  module _ (locks : Locks) where
    -- ---- one property

    pub looked_found : (e : ElementTree) (known then_known : QuotaKnown) (s : Source) (one : Option ElementTree) {old new : StoreState}
        → s ≡ source w e p m locks → Gave locks (found_in w e p m known s) old (one, then_known) new → Gave locks (found_property w p m known e) old (one, then_known) new
    looked_found e known then_known s one {old} {new} is asked =
        ran_look (subst (λ o. Ran Asks (found_in w e p m known o) old locks (Ok (one, then_known)) new locks) is asked)

    pub looked_stopped : (e : ElementTree) (known : QuotaKnown) (s : Source) {old new : StoreState}
        → s ≡ source w e p m locks → Stopped locks (found_in w e p m known s) old new → Stopped locks (found_property w p m known e) old new
    looked_stopped e known s {old} {new} is stop = cut_look (subst (λ o. Cut Asks locks (found_in w e p m known o) old locks new locks) is stop)

    pub not_looked : (e : ElementTree) (known : QuotaKnown) {s : StoreState} → Stopped locks (found_property w p m known e) s s
    not_looked e known = cut_first

    -- ---- the properties of a list

    -- the rest of a list is found
    abbrev pub Rest : List ElementTree → QuotaKnown → StoreState → List ElementTree → QuotaKnown → StoreState → List ElementTree → Type 0
    Rest all first begin left known old so_far =
        ((rest : WithQuota (List ElementTree)) (end : StoreState) → Gave locks (found_properties w p m known left) old rest end
        → Gave locks (found_properties w p m first all) begin (so_far ++ rest.0, rest.1) end)
        × ((end : StoreState) → Stopped locks (found_properties w p m known left) old end → Stopped locks (found_properties w p m first all) begin end)

    -- what follows one property, and what follows the others
    abbrev others : Option ElementTree → WithQuota (List ElementTree) → MethodPlan (WithQuota (List ElementTree))
    others one more = gives (with_found one more.0, more.1)

    abbrev follow : List ElementTree → WithQuota (Option ElementTree) → MethodPlan (WithQuota (List ElementTree))
    follow es one = do
      more ← found_properties w p m one.1 es
      others one.0 more

    one_and_more : (one : Option ElementTree) (so_far more : List ElementTree) → so_far ++ with_found one more ≡ (so_far ++ with_found one []) ++ more
    one_and_more None so_far more = ap (λ l. l ++ more) (sym (append-nil so_far))
    one_and_more (Some e) so_far more = sym (append_assoc so_far (e ∷ []) more)

    pub rest_found : (all es left so_far now : List ElementTree) (e : ElementTree) (first known then_known : QuotaKnown) (one : Option ElementTree) {begin old mid : StoreState}
        → left ≡ e ∷ es → now ≡ so_far ++ with_found one [] → Gave locks (found_property w p m known e) old (one, then_known) mid
        → Rest all first begin left known old so_far → Rest all first begin es then_known mid now
    rest_found all es left so_far now e first known then_known one {begin} {old} {mid} at is found rest =
        let here : Rest all first begin (e ∷ es) known old so_far = subst (λ l. Rest all first begin l known old so_far) at rest in (
          (λ more end run.
              let joined : (so_far ++ with_found one more.0) ≡ now ++ more.0 = one_and_more one so_far more.0 ∙ ap (λ l. l ++ more.0) (sym is) in
              subst (λ l. Gave locks (found_properties w p m first all) begin (l, more.1) end) joined
              (here.0 (with_found one more.0, more.1) end (ran_bind (follow es) found (ran_bind (others one) run ran_done)))),
          (λ end stop. here.1 end (cut_bind (follow es) found (cut_in (others one) stop refl))),
        )

    -- memory ran out in a property, or behind it
    pub one_stopped : (all es left so_far : List ElementTree) (e : ElementTree) (first known : QuotaKnown) {begin old new : StoreState}
        → left ≡ e ∷ es → Stopped locks (found_property w p m known e) old new
        → Rest all first begin left known old so_far → Stopped locks (found_properties w p m first all) begin new
    one_stopped all es left so_far e first known {begin} {old} {new} at stop rest =
        rest.1 new (subst (λ l. Stopped locks (found_properties w p m known l) old new) (sym at) (cut_in (follow es) stop refl))

    pub behind_stopped : (all es left so_far : List ElementTree) (e : ElementTree) (first known then_known : QuotaKnown) (one : Option ElementTree) {begin old new : StoreState}
        → left ≡ e ∷ es → Gave locks (found_property w p m known e) old (one, then_known) new
        → Rest all first begin left known old so_far → Stopped locks (found_properties w p m first all) begin new
    behind_stopped all es left so_far e first known then_known one {begin} {old} {new} at found rest =
        rest.1 new (subst (λ l. Stopped locks (found_properties w p m known l) old new) (sym at) (cut_bind (follow es) found cut_first))

    pub all_found : (all left so_far : List ElementTree) (first known : QuotaKnown) {begin old : StoreState}
        → left ≡ [] → Rest all first begin left known old so_far → Gave locks (found_properties w p m first all) begin (so_far, known) old
    all_found all left so_far first known {begin} {old} none rest =
        subst (λ l. Gave locks (found_properties w p m first all) begin (l, known) old) (append-nil so_far)
        (rest.0 ([], known) old (subst (λ l. Gave locks (found_properties w p m known l) old ([], known) old) (sym none) ran_done))

    -- ---- the response

    -- what follows what was found, and what follows what is kept
    abbrev responds : WithQuota (List ElementTree) → List ElementTree → MethodPlan (WithQuota ElementTree)
    responds found kept = gives (property_response p (found_groups (found.0 ++ kept)), found.1)

    abbrev keeps : WithQuota (List ElementTree) → MethodPlan (WithQuota ElementTree)
    keeps found = do
      kept ← all_kept p
      responds found kept

    pub response_stopped : (es : List ElementTree) (known : QuotaKnown) {old new : StoreState} → es ≡ w.properties
        → Stopped locks (found_properties w p m known es) old new → Stopped locks (properties_of w p m known) old new
    response_stopped es known {old} {new} same stop = cut_in keeps (subst (λ l. Stopped locks (found_properties w p m known l) old new) same stop) refl

    pub kept_cut : (es : List ElementTree) (known then_known : QuotaKnown) (found : List ElementTree) {old mid new : StoreState} → es ≡ w.properties
        → Gave locks (found_properties w p m known es) old (found, then_known) mid → StoppedAny (all_kept p) mid new → Stopped locks (properties_of w p m known) old new
    kept_cut es known then_known found {old} {mid} same one stop =
        cut_bind keeps (subst (λ l. Gave locks (found_properties w p m known l) old (found, then_known) mid) same one) (cut_in (responds (found, then_known)) (stop locks) refl)

    pub response_cut : (es : List ElementTree) (known then_known : QuotaKnown) (found kept : List ElementTree) {old mid new : StoreState} → es ≡ w.properties
        → Gave locks (found_properties w p m known es) old (found, then_known) mid → GaveAny (all_kept p) mid kept new → Stopped locks (properties_of w p m known) old new
    response_cut es known then_known found kept {old} {mid} same one two =
        cut_bind keeps (subst (λ l. Gave locks (found_properties w p m known l) old (found, then_known) mid) same one) (cut_bind (responds (found, then_known)) (two locks) cut_first)

    pub response_told : (es : List ElementTree) (known then_known : QuotaKnown) (found kept joined : List ElementTree) (groups : List Group) (response : ElementTree) {old mid new : StoreState} → es ≡ w.properties
        → Gave locks (found_properties w p m known es) old (found, then_known) mid → GaveAny (all_kept p) mid kept new
        → joined ≡ found ++ kept → groups ≡ found_groups joined → response ≡ property_response p groups
        → Gave locks (properties_of w p m known) old (response, then_known) new
    response_told es known then_known found kept joined groups response {old} {mid} same one two both under is =
        let whole : response ≡ property_response p (found_groups (found ++ kept)) = is ∙ ap (property_response p) (under ∙ ap found_groups both) in
        ran_bind keeps (subst (λ l. Gave locks (found_properties w p m known l) old (found, then_known) mid) same one)
        (ran_bind (responds (found, then_known)) (two locks) (ran_at (ap (λ o. Ok (o, then_known)) whole)))
