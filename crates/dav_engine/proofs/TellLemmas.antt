-- How code tells what is below a folder.
use Rattle.std.proofs.Common.{◌≡◌, ◌-◌, ◌<◌, ◌^◌, ◌&&◌, ℕ, suc, Bool, true, false, List, [], ◌∷◌, ◌++◌, length, Result, Ok, Err, refl, sym, ap, subst, ◌∙◌}
use Rattle.dav_core.specs.declared.errors.FsError.{FsError}
use Rattle.dav_core.specs.declared.fs.DavMetaData.{DavMetaData}
use Rattle.dav_core.specs.Asking.{StoreState, Asks, ReadDir, EntryMetadata}
use Rattle.dav_core.specs.Element.{ElementTree}
use Rattle.dav_core.specs.Path.{PathText, names}
use Rattle.dav_engine.specs.FindView.{told_below, told_entry}
use Rattle.dav_engine.specs.Folder.{child_of, room_at}
use Rattle.dav_engine.specs.Follows.{as_is}
use Rattle.dav_engine.specs.Method.{MethodPlan, ◌>>=◌, gives}
use Rattle.dav_engine.specs.Plan.{Locks, ran_done, ran_ask}
use Rattle.dav_engine.specs.Propfind.{Responses, tell_below, tell_members}
use Rattle.dav_engine.specs.Properties.{Writer, QuotaKnown, WithQuota, properties_of}
use Rattle.dav_engine.specs.ResponseWriter.{ResponseWriter, Tells, alone, hands_on}
use Rattle.dav_engine.proofs.CutPlans.{cut_first, cut_ask, cut_bind, cut_in}
use Rattle.dav_engine.proofs.Following.{ran_bind}
use Rattle.dav_engine.proofs.PartLemmas.{Gave, Stopped, end_cut}
use Rattle.dav_engine.proofs.RoomLemmas.{room_step}
use Rattle.dav_engine.proofs.TakingLemmas.{taken_append}

-- memory ran out at the end of a plan, or in it, by an equal value
pub end_cut_for : {V A : Type 0} {locks : Locks} (plan : V → MethodPlan A) {one who : V} {a : A} {old new : StoreState} → one ≡ who → Gave locks (plan one) old a new → Stopped locks (plan who) old new
end_cut_for {locks = locks} plan {old = old} {new} same run = subst (λ w. Stopped locks (plan w) old new) same (end_cut run)

pub stopped_for : {V A : Type 0} {locks : Locks} (plan : V → MethodPlan A) {one who : V} {old new : StoreState} → one ≡ who → Stopped locks (plan one) old new → Stopped locks (plan who) old new
stopped_for {locks = locks} plan {old = old} {new} same stop = subst (λ w. Stopped locks (plan w) old new) same stop

module _ {T : Type 0} (taken : T → ElementTree → T) where
  -- what tells properties, after it told more
  abbrev pub with_more : ResponseWriter T → QuotaKnown → List ElementTree → ResponseWriter T
  with_more old known more = hands_on taken (record old { quota = known }) more

  pub more_and_more : (old mid new : ResponseWriter T) (xs ys : List ElementTree) → mid ≡ with_more old mid.quota xs → new ≡ with_more mid new.quota ys → new ≡ with_more old new.quota (xs ++ ys)
  more_and_more old mid new xs ys one two =
      two ∙ ap (λ (o : ResponseWriter T). with_more o new.quota ys) one ∙ ap set (sym (taken_append taken old.finished xs ys)) where
        set : T → ResponseWriter T
        set t = record old { quota = new.quota; finished = t }

  -- this was told
  abbrev pub Told : {A : Type 0} → Locks → (A → List ElementTree) → (QuotaKnown → MethodPlan (WithQuota A)) → ResponseWriter T → ResponseWriter T → StoreState → StoreState → Type 0
  Told {A} locks responses part old new s t = (told : A) × Gave locks (part old.quota) s (told, new.quota) t × (new ≡ with_more old new.quota (responses told))

  -- what is returned is what a last call returns, which carries out a part
  pub tells_by : {A B X E : Type 0} {locks : Locks} (responses : A → List ElementTree) (others : B → List ElementTree) (part : QuotaKnown → MethodPlan (WithQuota A)) (piece : QuotaKnown → MethodPlan (WithQuota B))
      (old mid : ResponseWriter T) {after view : X → ResponseWriter T} {s u t : StoreState} (r : Result X E) → Tells locks (hands_on taken) others piece mid view u r t
      → ((x : X) → Told locks others piece mid (view x) u t → Told locks responses part old (after x) s t) → (Stopped locks (piece mid.quota) u t → Stopped locks (part old.quota) s t)
      → Tells locks (hands_on taken) responses part old after s r t
  tells_by responses others part piece old mid (Ok x) one whole short = whole x one
  tells_by responses others part piece old mid (Err e) one whole short = short one

  -- it tells properties as before
  pub same_writer : (old new : ResponseWriter T) (known : QuotaKnown) (more : List ElementTree) → new ≡ with_more old known more → new.writer ≡ old.writer
  same_writer old new known more after = ap (λ (w : ResponseWriter T). w.writer) after

  module _ (locks : Locks) where
    -- nothing is told
    pub nothing_told : (part : QuotaKnown → MethodPlan Responses) (old : ResponseWriter T) {s t : StoreState} → Gave locks (part old.quota) s ([], old.quota) t → Told locks as_is part old old s t
    nothing_told part old run = ([], run, refl)

    module _ (deep : Bool) (p : PathText) where
      -- ---- below a path

      pub not_wanted : (old : ResponseWriter T) {s : StoreState} → Told locks as_is (tell_below deep (room_at p) old.writer p false) old old s s
      not_wanted old = nothing_told (tell_below deep (room_at p) old.writer p false) old ran_done

      module _ (w : Writer) where
        by_room : (known : QuotaKnown) (room : ℕ) (a : Responses) {old new : StoreState} → room ≡ suc (room_at p - 1)
            → Gave locks (tell_below deep (suc (room_at p - 1)) w p true known) old a new → Gave locks (tell_below deep room w p true known) old a new
        by_room known room a {old} {new} is run = subst (λ k. Gave locks (tell_below deep k w p true known) old a new) (sym is) run

        pub folder_stopped : (known : QuotaKnown) {entries : List (List ℕ × Bool)} {old mid new : StoreState} → length p.bytes < 2 ^ 64 → Asks (ReadDir (names p)) old (Ok entries) mid
            → Stopped locks (tell_members (told_below deep p w) w p known entries) mid new → Stopped locks (tell_below deep (room_at p) w p true known) old new
        folder_stopped known {entries} {old} {new = new} small one stop =
            subst (λ k. Stopped locks (tell_below deep k w p true known) old new) (sym (room_step p small)) (cut_ask (Ok entries) one stop)

      pub folder_refused : (old : ResponseWriter T) {e : FsError} {s t : StoreState} → length p.bytes < 2 ^ 64 → Asks (ReadDir (names p)) s (Err e) t
          → Told locks as_is (tell_below deep (room_at p) old.writer p true) old old s t
      folder_refused old small one = nothing_told (tell_below deep (room_at p) old.writer p true) old (by_room old.writer old.quota (room_at p) ([], old.quota) (room_step p small) (ran_ask one ran_done))

      pub folder_told : (old new : ResponseWriter T) {entries : List (List ℕ × Bool)} {s u t : StoreState} → length p.bytes < 2 ^ 64 → Asks (ReadDir (names p)) s (Ok entries) u
          → Told locks as_is (λ known. tell_members (told_below deep p old.writer) old.writer p known entries) old new u t
          → Told locks as_is (tell_below deep (room_at p) old.writer p true) old new s t
      folder_told old new small one rest =
          (rest.0, by_room old.writer old.quota (room_at p) (rest.0, new.quota) (room_step p small) (ran_ask one rest.1), rest.2)

      -- ---- the members of a folder

      -- the rest of the members is told of
      abbrev pub Rest : List (List ℕ × Bool) → ResponseWriter T → StoreState → List (List ℕ × Bool) → ResponseWriter T → StoreState → Type 0
      Rest all first begin left old s =
          (old.writer ≡ first.writer)
          × ((new : ResponseWriter T) (t : StoreState) → Told locks as_is (λ known. tell_members (told_below deep p first.writer) first.writer p known left) old new s t
          → Told locks as_is (λ known. tell_members (told_below deep p first.writer) first.writer p known all) first new begin t)
          × ((t : StoreState) → Stopped locks (tell_members (told_below deep p first.writer) first.writer p old.quota left) s t
          → Stopped locks (tell_members (told_below deep p first.writer) first.writer p first.quota all) begin t)

      -- what follows a member, and what follows the others
      abbrev others : Responses → Responses → MethodPlan Responses
      others one more = gives (one.0 ++ more.0, more.1)

      abbrev follow : Writer → List (List ℕ × Bool) → Responses → MethodPlan Responses
      follow w es one = do
        more ← tell_members (told_below deep p w) w p one.1 es
        others one more

      turn_told : (w : Writer) (entry : List ℕ × Bool) (es : List (List ℕ × Bool)) (old mid new : ResponseWriter T) {s u t : StoreState}
          → Told locks as_is (told_entry deep p w entry.0) old mid s u → Told locks as_is (λ known. tell_members (told_below deep p w) w p known es) mid new u t
          → Told locks as_is (λ known. tell_members (told_below deep p w) w p known (entry ∷ es)) old new s t
      turn_told w entry es old mid new one rest = (
        one.0 ++ rest.0,
        ran_bind (follow w es) one.1 (ran_bind (others (one.0, mid.quota)) rest.1 ran_done),
        more_and_more old mid new one.0 rest.0 one.2 rest.2,
      )

      by_writer : (v w : Writer) (name : List ℕ) (old new : ResponseWriter T) {s t : StoreState} → v ≡ w → Told locks as_is (told_entry deep p v name) old new s t → Told locks as_is (told_entry deep p w name) old new s t
      by_writer v w name old new {s} {t} same one = subst (λ (o : Writer). Told locks as_is (told_entry deep p o name) old new s t) same one

      pub rest_told : (all es left : List (List ℕ × Bool)) (entry : List ℕ × Bool) (first old mid : ResponseWriter T) {begin s u : StoreState}
          → left ≡ entry ∷ es → Told locks as_is (told_entry deep p old.writer entry.0) old mid s u
          → Rest all first begin left old s → Rest all first begin es mid u
      rest_told all es left entry first old mid {begin} {s} at one rest =
          let here : Rest all first begin (entry ∷ es) old s = subst (λ l. Rest all first begin l old s) at rest in
          let same = here.0 in
          let turned = by_writer old.writer first.writer entry.0 old mid same one in (
            same_writer old mid mid.quota one.0 one.2 ∙ same,
            (λ new t more. here.1 new t (turn_told first.writer entry es old mid new turned more)),
            (λ t stop. here.2 t (cut_bind (follow first.writer es) turned.1 (cut_in (others (turned.0, mid.quota)) stop refl))),
          )

      pub entry_stopped : (all es left : List (List ℕ × Bool)) (entry : List ℕ × Bool) (first old : ResponseWriter T) {begin s t : StoreState}
          → left ≡ entry ∷ es → Stopped locks (told_entry deep p old.writer entry.0 old.quota) s t
          → Rest all first begin left old s → Stopped locks (tell_members (told_below deep p first.writer) first.writer p first.quota all) begin t
      entry_stopped all es left entry first old {begin} {s} {t} at stop rest =
          let here : Rest all first begin (entry ∷ es) old s = subst (λ l. Rest all first begin l old s) at rest in
          here.2 t (cut_in (follow first.writer es) (subst (λ (o : Writer). Stopped locks (told_entry deep p o entry.0 old.quota) s t) here.0 stop) refl)

      pub all_told : (all left : List (List ℕ × Bool)) (first old : ResponseWriter T) {begin s : StoreState} → left ≡ [] → Rest all first begin left old s
          → Told locks as_is (λ known. tell_members (told_below deep p first.writer) first.writer p known all) first old begin s
      all_told all left first old {begin} {s} none rest =
          let here : Rest all first begin [] old s = subst (λ l. Rest all first begin l old s) none rest in
          here.1 old s (nothing_told (λ known. tell_members (told_below deep p first.writer) first.writer p known []) old ran_done)

      -- ---- one member

      module _ (name : List ℕ) where
        pub entry_refused : (old : ResponseWriter T) {e : FsError} {s t : StoreState} → Asks (EntryMetadata (names p ++ name ∷ [])) s (Err e) t
            → Told locks as_is (told_entry deep p old.writer name) old old s t
        entry_refused old one = nothing_told (told_entry deep p old.writer name) old (ran_ask one ran_done)

        pub entry_cut : (w : Writer) (known : QuotaKnown) {answer : Result DavMetaData FsError} {s t : StoreState} → Asks (EntryMetadata (names p ++ name ∷ [])) s answer t
            → Stopped locks (told_entry deep p w name known) s t
        entry_cut w known {answer} one = cut_ask answer one cut_first

        -- what follows the response for a member, and what follows those for what is below it
        abbrev behind : ElementTree → Responses → MethodPlan Responses
        behind one more = gives (one ∷ more.0, more.1)

        abbrev goes_on : Writer → DavMetaData → WithQuota ElementTree → MethodPlan Responses
        goes_on w m one = do
          more ← told_below deep p w (child_of p name m.dir) m.dir one.1
          behind one.0 more

        pub member_stopped : (w : Writer) (known : QuotaKnown) (child : PathText) (m : DavMetaData) {s u t : StoreState} → child ≡ child_of p name m.dir
            → Asks (EntryMetadata (names p ++ name ∷ [])) s (Ok m) u → Stopped locks (properties_of w child m known) u t → Stopped locks (told_entry deep p w name known) s t
        member_stopped w known child m {u = u} {t} path one stop =
            cut_ask (Ok m) one (cut_in (goes_on w m) (subst (λ q. Stopped locks (properties_of w q m known) u t) path stop) refl)

        -- what is below a member, by its path and how deep a walk may go there
        below_at : (w : Writer) (child : PathText) (room : ℕ) (wanted : Bool) (m : DavMetaData) (known : QuotaKnown) (a : Responses) {s t : StoreState} → child ≡ child_of p name m.dir → room ≡ room_at p - 1 → wanted ≡ (m.dir && deep)
            → Gave locks (tell_below deep room w child wanted known) s a t → Gave locks (told_below deep p w (child_of p name m.dir) m.dir known) s a t
        below_at w child room wanted m known a {s} {t} path is both run =
            subst (λ q. Gave locks (told_below deep p w q m.dir known) s a t) path
            (subst (λ b. Gave locks (tell_below deep (room_at p - 1) w child b known) s a t) both
            (subst (λ k. Gave locks (tell_below deep k w child wanted known) s a t) is run))

        cut_at : (w : Writer) (child : PathText) (room : ℕ) (wanted : Bool) (m : DavMetaData) (known : QuotaKnown) {s t : StoreState} → child ≡ child_of p name m.dir → room ≡ room_at p - 1 → wanted ≡ (m.dir && deep)
            → Stopped locks (tell_below deep room w child wanted known) s t → Stopped locks (told_below deep p w (child_of p name m.dir) m.dir known) s t
        cut_at w child room wanted m known {s} {t} path is both stop =
            subst (λ q. Stopped locks (told_below deep p w q m.dir known) s t) path
            (subst (λ b. Stopped locks (tell_below deep (room_at p - 1) w child b known) s t) both
            (subst (λ k. Stopped locks (tell_below deep k w child wanted known) s t) is stop))

        pub member_told : (old mid new : ResponseWriter T) (child top : PathText) (wanted : Bool) (m : DavMetaData) {s u v t : StoreState} → child ≡ child_of p name m.dir → top ≡ child_of p name m.dir → room_at top ≡ room_at p - 1 → wanted ≡ (m.dir && deep)
            → Asks (EntryMetadata (names p ++ name ∷ [])) s (Ok m) u → Told locks alone (properties_of old.writer child m) old mid u v
            → Told locks as_is (tell_below deep (room_at top) mid.writer top wanted) mid new v t → Told locks as_is (told_entry deep p old.writer name) old new s t
        member_told old mid new child top wanted m {u = u} {v} {t} path here room both one two three =
            let run : Gave locks (tell_below deep (room_at top) old.writer top wanted mid.quota) v (three.0, new.quota) t =
            subst (λ (o : Writer). Gave locks (tell_below deep (room_at top) o top wanted mid.quota) v (three.0, new.quota) t) (same_writer old mid mid.quota (two.0 ∷ []) two.2) three.1 in
            let itself : Gave locks (properties_of old.writer (child_of p name m.dir) m old.quota) u (two.0, mid.quota) v =
            subst (λ q. Gave locks (properties_of old.writer q m old.quota) u (two.0, mid.quota) v) path two.1 in (
              two.0 ∷ three.0,
              ran_ask one (ran_bind (goes_on old.writer m) itself (ran_bind (behind two.0) (below_at old.writer top (room_at top) wanted m mid.quota (three.0, new.quota) here room both run) ran_done)),
              more_and_more old mid new (two.0 ∷ []) three.0 two.2 three.2,
            )

        pub below_stopped : (old mid : ResponseWriter T) (child top : PathText) (wanted : Bool) (m : DavMetaData) {s u v t : StoreState} → child ≡ child_of p name m.dir → top ≡ child_of p name m.dir → room_at top ≡ room_at p - 1 → wanted ≡ (m.dir && deep)
            → Asks (EntryMetadata (names p ++ name ∷ [])) s (Ok m) u → Told locks alone (properties_of old.writer child m) old mid u v
            → Stopped locks (tell_below deep (room_at top) mid.writer top wanted mid.quota) v t → Stopped locks (told_entry deep p old.writer name old.quota) s t
        below_stopped old mid child top wanted m {u = u} {v} {t} path here room both one two stop =
            let cut : Stopped locks (tell_below deep (room_at top) old.writer top wanted mid.quota) v t =
            subst (λ (o : Writer). Stopped locks (tell_below deep (room_at top) o top wanted mid.quota) v t) (same_writer old mid mid.quota (two.0 ∷ []) two.2) stop in
            let itself : Gave locks (properties_of old.writer (child_of p name m.dir) m old.quota) u (two.0, mid.quota) v =
            subst (λ q. Gave locks (properties_of old.writer q m old.quota) u (two.0, mid.quota) v) path two.1 in
            cut_ask (Ok m) one (cut_bind (goes_on old.writer m) itself (cut_in (behind two.0) (cut_at old.writer top (room_at top) wanted m mid.quota here room both cut) refl))
