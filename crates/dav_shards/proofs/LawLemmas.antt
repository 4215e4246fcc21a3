-- A request that names nothing elsewhere reads and changes at the folders that a server has alone.
use Rattle.std.proofs.Common.{◌≡◌, ◌≢◌, ◌⊎◌, inl, inr, ◌||◌, Bool, true, false, true≢false, not, bytes_eq, All, IfSome, codes, List, [], ◌∷◌, Option, Some, None, Ok, refl, sym, ap, subst, ◌∙◌}
use Rattle.std.specs.List.{cons_option, filter_map, list_all, list_any}
use Rattle.std.proofs.lemmas.Bool.{and_parts}
use Rattle.std.proofs.lemmas.List.Elements.{All-cons, All-nil}
use Rattle.std.proofs.lemmas.Slice.Eq.{bytes_eq-Decides}
use Rattle.http_header.specs.HeaderMap.{get_all}
use Rattle.dav_core.specs.declared.method.DavMethod.{DavMethod}
use Rattle.dav_core.specs.declared.method.DavMethod.TheVariants.{Copy, Move, Options}
use Rattle.dav_core.specs.Path.{Path, PathText, is_at_or_under, names, star}
use Rattle.dav_engine.specs.Conditions.{Addressed, Conditions, SaysLists, paths_in}
use Rattle.dav_engine.specs.CopyMove.{DestinationNames}
use Rattle.dav_engine.specs.Sparing.{NoneUnder}
use Rattle.dav_engine.proofs.OnePlanLemmas.{one_conditions}
use Rattle.dav_server.specs.Headers.{headers_of}
use Rattle.dav_server.specs.Machine.{Exchange, Settings}
use Rattle.dav_server.specs.TagLaws.{is_safe}
use Rattle.dav_server.proofs.TargetLemmas.{target_is_path}
use Rattle.dav_access.proofs.RuleLemmas.{below_trans}
use Rattle.dav_confined.specs.Asked.{AskedView, IsAsked}
use Rattle.dav_confined.specs.ConfinedSteps.{KeepsOff, changes_below, changes_target}
use Rattle.dav_confined.specs.Seen.{AllUnder}
use Rattle.dav_confined.specs.SeenSteps.{ReadsAt, StepsAnswerAlike}
use Rattle.dav_confined.proofs.LeaveLemmas.{by_reading, place_is}
use Rattle.dav_confined.proofs.StepsConfined.{steps_leave_others, steps_leave_others_cut}
use Rattle.dav_shards.specs.Shards.{elsewhere, has_destination, has_place, has_target, is_here}
use Rattle.dav_shards.specs.ShardLaws.{AnswersTellOfHere, ChangesStayHere, ChangesStayHereCut}
use Rattle.dav_shards.proofs.PartLemmas.{parts_of}

-- ---- paths

or_grows : (a b c d : Bool) → (a ≡ true → c ≡ true) → (b ≡ true → d ≡ true) → (a || b) ≡ true → (c || d) ≡ true
or_grows true b true d one two is = refl
or_grows true b false d one two is = absurd (true≢false (sym (one refl)))
or_grows false b true d one two is = refl
or_grows false b false d one two is = two is

any_below : (p q : Path) → is_at_or_under q p ≡ true → (folders : List PathText)
    → list_any (λ f. is_at_or_under p (names f)) folders ≡ true → list_any (λ f. is_at_or_under q (names f)) folders ≡ true
any_below p q below [] is = is
any_below p q below (f ∷ folders) is =
    or_grows (is_at_or_under p (names f)) (list_any (λ g. is_at_or_under p (names g)) folders) (is_at_or_under q (names f)) (list_any (λ g. is_at_or_under q (names g)) folders)
    (λ at. below_trans (names f) p q at below) (any_below p q below folders) is

-- what is below what is here is here
here_below : (folders : List PathText) (p q : Path) → is_at_or_under q p ≡ true → is_here folders p ≡ true → is_here folders q ≡ true
here_below [] p q below is = refl
here_below (f ∷ folders) p q below is = any_below p q below (f ∷ folders) is

-- what is left of a choice whose first part doesn't hold
other_of : (a b : Bool) → (a ≡ true → ⊥) → (a || b) ≡ true → b ≡ true
other_of true b none is = absurd (none refl)
other_of false b none is = is

-- ---- the paths that lists speak of

module _ (f : Path → Bool) where
  abbrev Passes : Addressed → Type 0
  Passes l = IfSome l.path (λ q. f q ≡ true)

  abbrev paths : List Addressed → List Path
  paths lists = filter_map (λ l. l.path) lists

  one_passes : (o : Option Path) (l : Addressed) (lists : List Addressed) → l.path ≡ o → (list_all f (paths lists) ≡ true → All Passes lists)
      → list_all f (cons_option o (paths lists)) ≡ true → All Passes (l ∷ lists)
  one_passes None l lists here more is = All-cons Passes l lists (subst (λ (o : Option Path). IfSome o (λ q. f q ≡ true)) (sym here) tt) (more is)
  one_passes (Some q) l lists here more is =
      let two = and_parts (f q) (list_all f (paths lists)) is in
      All-cons Passes l lists (subst (λ (o : Option Path). IfSome o (λ q. f q ≡ true)) (sym here) two.0) (more two.1)

  all_pass : (lists : List Addressed) → list_all f (paths lists) ≡ true → All Passes lists
  all_pass [] is = All-nil Passes
  all_pass (l ∷ lists) is = one_passes l.path l lists refl (all_pass lists) is

-- ---- a request that names nothing elsewhere

module _ (folders : List PathText) (s : Settings) (x : Exchange) (a : AskedView) (ask : IsAsked s x a) (none : elsewhere folders a ≡ None) where
  three : (has_target folders a ≡ true) × ((has_destination folders a.method a.destination ≡ true) × (list_all (is_here folders) a.spoken_of ≡ true))
  three = parts_of (has_target folders a) (has_destination folders a.method a.destination) (list_all (is_here folders) a.spoken_of) none

  at_target : a.path.bytes ≢ star → is_here folders (names a.path) ≡ true
  at_target other = other_of (bytes_eq a.path.bytes star) (is_here folders (names a.path)) (λ e. other ((bytes_eq-Decides a.path.bytes star).0 e)) three.0

  below_target : a.path.bytes ≢ star → AllUnder (is_here folders) (names a.path)
  below_target other q below = here_below folders (names a.path) q below (at_target other)

  at_destination : (d : PathText) → (a.method ≡ Copy) ⊎ (a.method ≡ Move)
      → DestinationNames a.path.prefix (get_all (headers_of ask.request.fields) (codes "destination")) (Ok d) → is_here folders (names d) ≡ true
  at_destination d (inl copy) named =
      subst (λ (o : Option PathText). has_place folders o ≡ true) (place_is [] s x a ask d named)
      (subst (λ (m : DavMethod). has_destination folders m a.destination ≡ true) copy three.1.0)
  at_destination d (inr move) named =
      subst (λ (o : Option PathText). has_place folders o ≡ true) (place_is [] s x a ask d named)
      (subst (λ (m : DavMethod). has_destination folders m a.destination ≡ true) move three.1.0)

  -- the lists that the If says
  lists_are : (lists : List Addressed) → SaysLists a.path.prefix (names a.path) (get_all (headers_of ask.request.fields) (codes "if")) lists → ask.says.conditions.lists ≡ Some lists
  lists_are lists says =
      ap (λ (c : Conditions). c.lists)
      (one_conditions (headers_of ask.request.fields) a.path.prefix (names a.path) ask.says.conditions (record ask.says.conditions { lists = Some lists }) ask.says.read
      (record { match = ask.says.read.match; none_match = ask.says.read.none_match; lists = says }))

  at_conditions : (lists : List Addressed) → SaysLists a.path.prefix (names a.path) (get_all (headers_of ask.request.fields) (codes "if")) lists
      → All (λ l. IfSome l.path (λ q. is_here folders q ≡ true)) lists
  at_conditions lists says =
      all_pass (is_here folders) lists (subst (λ (qs : List Path). list_all (is_here folders) qs ≡ true) (ask.says.spoken_of ∙ ap paths_in (lists_are lists says)) three.1.1)

  pub reads_here : is_safe a.method ≡ true → a.path.bytes ≢ star → ReadsAt (is_here folders) s x
  reads_here safe other = record {
    safe = by_reading [] s x a ask (λ r m p. is_safe m ≡ true) safe;
    target = by_reading [] s x a ask (λ r m p. AllUnder (is_here folders) (names p)) (below_target other);
    conditions = λ r m p lists to says. by_reading [] s x a ask
        (λ r m p. SaysLists p.prefix (names p) (get_all (headers_of r.fields) (codes "if")) lists → All (λ l. IfSome l.path (λ q. is_here folders q ≡ true)) lists)
        (at_conditions lists) r m p to says;
  }

  abbrev covered : Path → Bool
  covered q = not (is_here folders q)

  named_by : (f : DavMethod → Bool) → f Options ≡ false → f a.method ≡ true → a.path.bytes ≢ star
  named_by f none changes = target_is_path ask.to.target (λ e. true≢false (sym changes ∙ ap f e ∙ none))

  pub keeps_off : KeepsOff covered s x
  keeps_off = record {
    target = by_reading [] s x a ask (λ r m p. changes_target m ≡ true → covered (names p) ≡ false) (λ changes. ap not (at_target (named_by changes_target refl changes)));
    below = by_reading [] s x a ask (λ r m p. changes_below m ≡ true → NoneUnder covered (names p))
        (λ changes q under. ap not (below_target (named_by changes_below refl changes) q under));
    destination = λ r m p d to is named. by_reading [] s x a ask
        (λ r m p. (m ≡ Copy) ⊎ (m ≡ Move) → DestinationNames p.prefix (get_all (headers_of r.fields) (codes "destination")) (Ok d) → NoneUnder covered (names d))
        (λ one named q under. ap not (here_below folders (names d) q under (at_destination d one named))) r m p to is named;
  }

-- ---- the laws

pub answers_tell_of_here : StepsAnswerAlike → AnswersTellOfHere
answers_tell_of_here law folders s x a old new old' new' ls ks ms ns reply reply' here safe other small one two u u' same world world' agree alike =
    law (is_here folders) s x old new old' new' ls ks ms ns reply reply' (reads_here folders s x a here.0 here.1 safe other) small one two u u' same world world' agree alike

pub changes_stay_here : ChangesStayHere
changes_stay_here folders s x a old new ls ms reply here small world step =
    steps_leave_others (λ q. not (is_here folders q)) s x old new ls ms reply (keeps_off folders s x a here.0 here.1) small world step

pub changes_stay_here_cut : ChangesStayHereCut
changes_stay_here_cut folders s x a old new ls ms here small world stops =
    steps_leave_others_cut (λ q. not (is_here folders q)) s x old new ls ms (keeps_off folders s x a here.0 here.1) small world stops
