-- The text of the rules, word by word and line by line.
use Rattle.std.proofs.Common.{◌≡◌, ◌≢◌, ◌==◌, ℕ, suc, ◌+◌, ◌<◌, ◌≤◌, true, false, not, cond, List, [], ◌∷◌, ◌++◌, All, Option, Some, None, MatchOption, codes, drop, get_or, length, map, take, refl, sym, ap, ◌∙◌, subst, append_assoc, append-nil, arith, eqb-true}
use Rattle.std.specs.List.{filter, slice_split}
use Rattle.std.specs.Option.{is_some}
use Rattle.std.proofs.lemmas.List.{drop_all, drop_more, get_or-map, length-map, map-append, take-append-drop, take_all, take_more}
use Rattle.std.proofs.lemmas.Bool.{false_from_ne_true}
use Rattle.std.proofs.lemmas.List.Elements.{All-push, filter-append}
use denote.Ref.{Bor}
use Rattle.std.specs.Str.{IsUtf8}
use Rattle.percent_encoding.specs.Percent.{percent_decode}
use Rattle.dav_core.specs.Path.{is_nonempty}
use Rattle.dav_access.specs.declared.fault.AccessError.{AccessError}
use Rattle.dav_access.specs.declared.fault.AccessError.TheVariants.{Line, Memory as AccessMemory, NotUtf8}
use Rattle.dav_access.specs.declared.fault.Fault.{Fault}
use Rattle.dav_access.specs.declared.fault.Fault.TheVariants.{BadPath, DoubleGroup, NoRight, NoUser}
use Rattle.dav_access.specs.declared.fault.Stop.{Stop}
use Rattle.dav_access.specs.declared.fault.Stop.TheVariants.{Fault as AtFault, Memory as OutOfMemory}
use Rattle.dav_access.specs.declared.grant.Grant.{Grant}
use Rattle.dav_access.specs.declared.grant.Right.{Right}
use Rattle.dav_access.specs.declared.grant.Whom.{Whom}
use Rattle.dav_access.specs.declared.grant.Whom.TheVariants.{User}
use Rattle.dav_access.specs.RulesText.{AllUsers, Grants, ended, has_taken_name, HasNoGroup, IsRulesLine, IsGroupIn, IsPlain, IsRightWord, MeanAll, Means, SaysGroup, is_user, lines_of, more, next, none, user, users_among, words_of}
use Rattle.dav_access.specs.RulesFaults.{HasFirstFault, IsAccessFault, IsGrantsFault, error_at, HasUnknown, IfFault, IsGrantFault, IsGroupFault, IsRulesLineFault, IsLinesFault, IsNoText, IsPathFault, IsUnknown, IsWordsFault, NamesDoubleGroup, NamesNoRight, NamesNoUser, bad_path, double, here, later, no_right, unknown}

-- a list around one of its items
pub cut_at : {X : Type 0} (xs : List X) (place : ℕ) (x : X) → place < length xs → x ≡ get_or xs place x → xs ≡ take place xs ++ x ∷ drop (place + 1) xs
cut_at xs place x within is =
    sym (take-append-drop place xs) ∙ ap (λ ys. take place xs ++ ys) (drop_more xs place x within ∙ ap (λ y. y ∷ drop (place + 1) xs) (sym is))

-- so many items and one more
pub take_one : {X : Type 0} (xs : List X) (place : ℕ) (x : X) → place < length xs → x ≡ get_or xs place x → take (place + 1) xs ≡ take place xs ++ x ∷ []
take_one xs place x within is = take_more xs place x within ∙ ap (λ y. take place xs ++ y ∷ []) (sym is)

-- what is left from an item on
rest_is : {X : Type 0} (xs : List X) (place : ℕ) (x : X) → place < length xs → x ≡ get_or xs place x → drop place xs ≡ x ∷ drop (place + 1) xs
rest_is xs place x within is = drop_more xs place x within ∙ ap (λ y. y ∷ drop (place + 1) xs) (sym is)

-- ---- words

-- whether a word has bytes, in the words of the code
pub nonempty_is : (word : List ℕ) → not (length word == 0) ≡ is_nonempty word
nonempty_is [] = refl
nonempty_is (b ∷ bs) = ap not (false_from_ne_true (length (b ∷ bs) == 0) (λ e. let same : length (b ∷ bs) ≡ 0 = eqb-true (length (b ∷ bs)) 0 e in let whole : length (b ∷ bs) ≡ suc (length bs) = refl in absurd (omega (arith, same, whole))))

-- the text at a place of a list of references
pub now_at : (words : List (Bor (List ℕ))) (place : ℕ) (d : Bor (List ℕ)) → place < length words
    → (get_or words place d).now ≡ get_or (map (λ w. w.now) words) place (get_or words place d).now
now_at words place d within = sym (get_or-map (λ (w : Bor (List ℕ)). w.now) words place d (get_or words place d).now within)

pub within_now : (words : List (Bor (List ℕ))) (place : ℕ) → place < length words → place < length (map (λ w. w.now) words)
within_now words place within = rw (length-map words (λ (w : Bor (List ℕ)). w.now)) within

pub whole_now : (words : List (Bor (List ℕ))) (place : ℕ) → length words ≤ place → take place (map (λ w. w.now) words) ≡ map (λ w. w.now) words
whole_now words place whole = take_all place (map (λ w. w.now) words) (rw (length-map words (λ (w : Bor (List ℕ)). w.now)) whole)

-- a list of references by its first and the rest
pub first_now : (words : List (Bor (List ℕ))) (word : Bor (List ℕ)) (rest : List (Bor (List ℕ))) → words ≡ word ∷ rest → map (λ w. w.now) words ≡ word.now ∷ map (λ w. w.now) rest
first_now words word rest is = ap (map (λ (w : Bor (List ℕ)). w.now)) is

-- one more word is text
pub text_read : (words : List (List ℕ)) (place : ℕ) (word : List ℕ) (texts texts' : List (Bor (List ℕ))) (text : Bor (List ℕ)) → place < length words → word ≡ get_or words place word
    → map (λ t. t.now) texts ≡ take place words → All IsUtf8 (take place words) → text.now ≡ word → IsUtf8 word → texts' ≡ texts ++ text ∷ []
    → (map (λ t. t.now) texts' ≡ take (place + 1) words) × All IsUtf8 (take (place + 1) words)
text_read words place word texts texts' text within is so_far utf8 same one items =
    let more_is : take (place + 1) words ≡ take place words ++ word ∷ [] = take_one words place word within is in (
      ap (map (λ (t : Bor (List ℕ)). t.now)) items ∙ map-append (λ (t : Bor (List ℕ)). t.now) texts (text ∷ []) ∙ ap (λ ts. ts ++ text.now ∷ []) so_far
          ∙ ap (λ (t : List ℕ). take place words ++ t ∷ []) same ∙ sym more_is,
      subst (All IsUtf8) (sym more_is) (All-push IsUtf8 (take place words) word utf8 one),
    )

-- one more line is read
pub line_read : (yielded : List (List ℕ)) (lines lines' : List (List (List ℕ))) (line : List ℕ) (words : List (List ℕ)) → lines ≡ map words_of yielded → All (All IsUtf8) lines
    → words ≡ words_of line → All IsUtf8 words → lines' ≡ lines ++ words ∷ [] → (lines' ≡ map words_of (yielded ++ line ∷ [])) × All (All IsUtf8) lines'
line_read yielded lines lines' line words so_far utf8 is one items = (
  items ∙ ap (λ ls. ls ++ words ∷ []) so_far ∙ ap (λ (ws : List (List ℕ)). map words_of yielded ++ ws ∷ []) is ∙ sym (map-append words_of yielded (line ∷ [])),
  subst (All (All IsUtf8)) (sym items) (All-push (All IsUtf8) lines words utf8 one),
)

-- a list with a word that isn't UTF-8
pub broken_at : (words : List (List ℕ)) (place : ℕ) (word : List ℕ) → place < length words → word ≡ get_or words place word → ¬ IsUtf8 word → ¬ All IsUtf8 words
broken_at words place word within is bad all = bad (subst IsUtf8 (sym is) (all place word within))

-- a text with a line that has such a word
pub broken_line : (text line : List ℕ) (place : ℕ) → place < length (slice_split (λ b. b == 10) text) → line ≡ get_or (slice_split (λ b. b == 10) text) place line
    → ¬ All IsUtf8 (words_of line) → IsNoText text
broken_line text line place within is bad all =
    let lines = slice_split (λ b. b == 10) text in
    let inside : place < length (lines_of text) = rw (length-map lines words_of) within in
    let there : get_or (lines_of text) place [] ≡ words_of line = get_or-map words_of lines place line [] within ∙ ap words_of (sym is) in
    bad (subst (All IsUtf8) there (all place [] inside))

-- what is wrong with the words of a line is with the text
pub lines_fault : (text line : List ℕ) (place : ℕ) (words : List (List ℕ)) (e : AccessError) → place < length (slice_split (λ b. b == 10) text)
    → line ≡ get_or (slice_split (λ b. b == 10) text) place line → words ≡ words_of line → IsWordsFault words e → IsLinesFault text e
lines_fault text line place words NotUtf8 within is same bad = broken_line text line place within is (λ all. bad (subst (All IsUtf8) (sym same) all))
lines_fault text line place words AccessMemory within is same bad = tt
lines_fault text line place words _ within is same bad = absurd bad

-- ---- groups

module _ (lines : List (List (List ℕ))) (group : List ℕ) where
  -- no line of these says who is in the group
  pub none_says : ((k : ℕ) (d : List (List ℕ)) → k < length lines → (members : List (List ℕ)) → ¬ SaysGroup (get_or lines k d) group members) → HasNoGroup lines group
  none_says never members is =
      let (k, within, same) = is.there in
      never k is.line within members (subst (λ (l : List (List ℕ)). SaysGroup l group members) (sym same) is.says)

  -- a line of these does
  pub says_at : (place : ℕ) (line : List (List ℕ)) (members : List (List ℕ)) → place < length lines → line ≡ get_or lines place line → SaysGroup line group members
      → IsGroupIn lines group members
  says_at place line members within is says = record { line = line; there = (place, within, sym is); says = says }

-- a line says who is in one group
pub says_once : (line : List (List ℕ)) (group other : List ℕ) (members others : List (List ℕ)) → SaysGroup line group members → SaysGroup line other others → group ≡ other
says_once line group other members others one two = let same : group ∷ codes "=" ∷ members ≡ other ∷ codes "=" ∷ others = sym one.line_is ∙ two.line_is in cc

-- ---- whom words mean

-- the users among words and more
users_among-append : (users : Option (List (List ℕ × List ℕ))) (xs ys : List (List ℕ)) → users_among users (xs ++ ys) ≡ users_among users xs ++ users_among users ys
users_among-append users xs ys =
    ap (λ ws. map User (filter (is_user users) ws)) (map-append percent_decode xs ys)
    ∙ ap (map User) (filter-append (is_user users) (map percent_decode xs) (map percent_decode ys))
    ∙ map-append User (filter (is_user users) (map percent_decode xs)) (filter (is_user users) (map percent_decode ys))

module _ (users : Option (List (List ℕ × List ℕ))) (words : List (List ℕ)) (place : ℕ) (word : List ℕ) (within : place < length words) (is : word ≡ get_or words place word) where
  among_more : users_among users (take (place + 1) words) ≡ users_among users (take place words) ++ users_among users (word ∷ [])
  among_more = ap (users_among users) (take_one words place word within is) ∙ users_among-append users (take place words) (word ∷ [])

  -- a user is one of them
  pub user_added : (name : List ℕ) (whom : List Whom) → is_user users (percent_decode word) ≡ true → name ≡ percent_decode word → whom ≡ users_among users (take place words)
      → whom ++ User name ∷ [] ≡ users_among users (take (place + 1) words)
  user_added name whom known same so_far =
      let one : users_among users (word ∷ []) ≡ User name ∷ [] = ap (λ b. map User (cond b (percent_decode word ∷ []) [])) known ∙ ap (λ (n : List ℕ). User n ∷ []) (sym same) in
      sym (among_more ∙ ap (λ us. us ++ users_among users (word ∷ [])) (sym so_far) ∙ ap (λ us. whom ++ us) one)

  -- who is no user is none of them
  pub user_left_out : (whom : List Whom) → is_user users (percent_decode word) ≡ false → whom ≡ users_among users (take place words) → whom ≡ users_among users (take (place + 1) words)
  user_left_out whom unlisted so_far =
      let nobody : users_among users (word ∷ []) ≡ [] = ap (λ b. map User (cond b (percent_decode word ∷ []) [])) unlisted in
      so_far ∙ sym (append-nil (users_among users (take place words))) ∙ sym (among_more ∙ ap (λ us. users_among users (take place words) ++ us) nobody)

module _ (users : Option (List (List ℕ × List ℕ))) (lines : List (List (List ℕ))) where
  -- one word more means whom it means
  pub mean_more : (words : List (List ℕ)) (whom : List Whom) (word : List ℕ) (one : List Whom) → MeanAll users lines words whom → Means users lines word one
      → MeanAll users lines (words ++ word ∷ []) (whom ++ one)
  mean_more [] whom word one none means = subst (MeanAll users lines (word ∷ [])) (append-nil one) (more means none)
  mean_more (w ∷ ws) whom word one (more {whom = first} {rest} m all) means =
      subst (MeanAll users lines (w ∷ (ws ++ word ∷ []))) (sym (append_assoc first rest one)) (more m (mean_more ws rest word one all means))

  -- the first word that means nobody
  pub unknown_at : (words : List (List ℕ)) (place : ℕ) (word : List ℕ) (whom : List Whom) (fault : Fault) → place < length words → word ≡ get_or words place word
      → MeanAll users lines (take place words) whom → IsUnknown users lines word fault → HasUnknown users lines words fault
  unknown_at words place word whom fault within is mean fails = record {
    front = take place words;
    word = word;
    back = drop (place + 1) words;
    whom = whom;
    words_are = cut_at words place word within is;
    mean = mean;
    unknown = fails;
  }

-- ---- faults

-- what is known of an option that is there, and of one that isn't
pub when_some : {A : Type 0} (P : Type 0) (Q : A → Type 0) (o : Option A) → is_some o ≡ true → MatchOption o P Q → (a : A) × Q a
when_some P Q None is match = cc
when_some P Q (Some a) is match = (a, match)

pub when_none : {A : Type 0} (P : Type 0) (Q : A → Type 0) (o : Option A) → is_some o ≡ false → MatchOption o P Q → P
when_none P Q None is match = match
when_none P Q (Some a) is match = cc

-- a list of references without items, and one with some
pub nil_now : (words : List (Bor (List ℕ))) → length words ≡ 0 → map (λ w. w.now) words ≡ []
nil_now [] is = refl
nil_now (w ∷ ws) is = let whole : length (w ∷ ws) ≡ suc (length ws) = refl in absurd (omega (arith, is, whole))

pub some_now : (words : List (Bor (List ℕ))) → (length words == 0) ≡ false → map (λ w. w.now) words ≢ []
some_now [] is = λ e. cc
some_now (w ∷ ws) is = λ e. cc

-- what a part stops at
pub fault_as : (P Q : Fault → Type 0) (s : Stop) → ((f : Fault) → P f → Q f) → IfFault P s → IfFault Q s
fault_as P Q (AtFault f) more_is is = more_is f is
fault_as P Q OutOfMemory more_is is = tt

-- a word that is no user's name, among those of a group
pub member_unknown : (users : Option (List (List ℕ × List ℕ))) (before : List (List (List ℕ))) (group : List ℕ) (words : List (List ℕ)) (place : ℕ) (word : List ℕ)
    → place < length words → word ≡ get_or words place word → HasNoGroup before group → AllUsers users (take place words) → is_user users (percent_decode word) ≡ false
    → (f : Fault) → NamesNoUser word f → IsGroupFault users before group words f
member_unknown users before group words place word within is none_before all unlisted (NoUser text) named =
    unknown (take place words) (drop (place + 1) words) none_before (cut_at words place word within is) all unlisted named
member_unknown users before group words place word within is none_before all unlisted _ named = absurd named

-- a group that a line before defines
pub double_is : (users : Option (List (List ℕ × List ℕ))) (before : List (List (List ℕ))) (group : List ℕ) (members others : List (List ℕ)) → IsGroupIn before group others
    → (f : Fault) → NamesDoubleGroup group f → IsGroupFault users before group members f
double_is users before group members others is (DoubleGroup text) named = double is named
double_is users before group members others is _ named = absurd named

-- one word more names a user
pub user_too : (users : Option (List (List ℕ × List ℕ))) (words : List (List ℕ)) (place : ℕ) (word : List ℕ) → place < length words → word ≡ get_or words place word
    → AllUsers users (take place words) → is_user users (percent_decode word) ≡ true → AllUsers users (take (place + 1) words)
user_too users words place word within is all known =
    subst (AllUsers users) (sym (take_one words place word within is)) (All-push (λ (w : List ℕ). is_user users (percent_decode w) ≡ true) (take place words) word all known)

-- a user is meant
pub user_meant : (users : Option (List (List ℕ × List ℕ))) (lines : List (List (List ℕ))) (word name : List ℕ) → IsPlain word → is_user users (percent_decode word) ≡ true
    → name ≡ percent_decode word → Means users lines word (User name ∷ [])
user_meant users lines word name plain known same = subst (λ (n : List ℕ). Means users lines word (User n ∷ [])) (sym same) (user plain known)

-- one word more is read
pub all_more : (users : Option (List (List ℕ × List ℕ))) (lines : List (List (List ℕ))) (words : List (List ℕ)) (place : ℕ) (word : List ℕ) (whom one whom' : List Whom)
    → place < length words → word ≡ get_or words place word → MeanAll users lines (take place words) whom → Means users lines word one → whom' ≡ whom ++ one
    → MeanAll users lines (take (place + 1) words) whom'
all_more users lines words place word whom one whom' within is so_far means items =
    subst (λ (ws : List (List ℕ)). MeanAll users lines ws whom') (sym (take_one words place word within is))
    (subst (MeanAll users lines (take place words ++ word ∷ [])) (sym items) (mean_more users lines (take place words) whom word one so_far means))

-- ---- the faults of a line that grants

module _ (users : Option (List (List ℕ × List ℕ))) (lines : List (List (List ℕ))) (word : List ℕ) where
  pub right_missing : (words : List (List ℕ)) → ((right : Right) → ¬ IsRightWord word right) → (f : Fault) → NamesNoRight word f → IsGrantFault users lines (word ∷ words) f
  right_missing words missing (NoRight text) named = no_right refl missing named
  right_missing words missing _ named = absurd named

  pub path_bad : (words : List (List ℕ)) (path : List ℕ) (names : List (List ℕ)) (right : Right) → words ≡ path ∷ names → IsRightWord word right
      → (f : Fault) → IsPathFault path f → IsGrantFault users lines (word ∷ words) f
  path_bad words path names right is is_right (BadPath e) bad = bad_path (ap (λ (ws : List (List ℕ)). word ∷ ws) is) is_right bad
  path_bad words path names right is is_right _ bad = absurd bad

-- ---- lines

module _ (users : Option (List (List ℕ × List ℕ))) (lines : List (List (List ℕ))) (place : ℕ) (line : List (List ℕ)) (within : place < length lines) (is : line ≡ get_or lines place line) where
  -- a good line more grants what it grants
  pub grants_more : (grants one after : List Grant) → ((ms : List Grant) → Grants users lines (take place lines) (drop place lines) ms → Grants users lines [] lines (grants ++ ms))
      → IsRulesLine users lines (take place lines) line one → Grants users lines (take (place + 1) lines) (drop (place + 1) lines) after
      → Grants users lines [] lines ((grants ++ one) ++ after)
  grants_more grants one after so_far good rest =
      let two = subst (λ (b : List (List (List ℕ))). Grants users lines b (drop (place + 1) lines) after) (take_one lines place line within is) rest in
      let three = subst (λ (r : List (List (List ℕ))). Grants users lines (take place lines) r (one ++ after)) (sym (rest_is lines place line within is)) (next good two) in
      subst (Grants users lines [] lines) (sym (append_assoc grants one after)) (so_far (one ++ after) three)

  -- past a good line the first fault is a line further
  pub fault_after : (grants : List Grant) (number : ℕ) (fault : Fault)
      → ((n : ℕ) (f : Fault) → HasFirstFault users lines (take place lines) (drop place lines) n f → HasFirstFault users lines [] lines (place + n) f)
      → IsRulesLine users lines (take place lines) line grants → HasFirstFault users lines (take (place + 1) lines) (drop (place + 1) lines) number fault
      → HasFirstFault users lines [] lines (place + 1 + number) fault
  fault_after grants number fault so_far good rest =
      let two = subst (λ (b : List (List (List ℕ))). HasFirstFault users lines b (drop (place + 1) lines) number fault) (take_one lines place line within is) rest in
      let three = subst (λ (r : List (List (List ℕ))). HasFirstFault users lines (take place lines) r (number + 1) fault) (sym (rest_is lines place line within is)) (later good two) in
      let one : place + (number + 1) ≡ place + 1 + number = omega arith in
      subst (λ (n : ℕ). HasFirstFault users lines [] lines n fault) one (so_far (number + 1) fault three)

  -- a faulty line is the first
  pub fault_at : (fault : Fault) → ((n : ℕ) (f : Fault) → HasFirstFault users lines (take place lines) (drop place lines) n f → HasFirstFault users lines [] lines (place + n) f)
      → IsRulesLineFault users lines (take place lines) line fault → HasFirstFault users lines [] lines (place + 1) fault
  fault_at fault so_far bad =
      so_far 1 fault (subst (λ (r : List (List (List ℕ))). HasFirstFault users lines (take place lines) r 1 fault) (sym (rest_is lines place line within is)) (here bad))

-- all lines are read
pub grants_done : (users : Option (List (List ℕ × List ℕ))) (lines : List (List (List ℕ))) (place : ℕ) (grants : List Grant) → length lines ≤ place
    → ((ms : List Grant) → Grants users lines (take place lines) (drop place lines) ms → Grants users lines [] lines (grants ++ ms)) → Grants users lines [] lines grants
grants_done users lines place grants whole so_far =
    subst (Grants users lines [] lines) (append-nil grants)
    (so_far [] (subst (λ (r : List (List (List ℕ))). Grants users lines (take place lines) r []) (sym (drop_all place lines whole)) ended))

-- the first fault of the lines, as an error
pub fault_error : (users : Option (List (List ℕ × List ℕ))) (lines : List (List (List ℕ))) (number : ℕ) (s : Stop)
    → IfFault (HasFirstFault users lines [] lines number) s → IsGrantsFault users lines (error_at number s)
fault_error users lines number (AtFault f) is = is
fault_error users lines number OutOfMemory is = tt

-- what is wrong with the lines is with the text
pub access_fault : (users : Option (List (List ℕ × List ℕ))) (text : List ℕ) (lines : List (List (List ℕ))) (e : AccessError) → has_taken_name users ≡ false → lines ≡ lines_of text
    → All (All IsUtf8) lines → IsGrantsFault users lines e → IsAccessFault users text e
access_fault users text lines (Line n f) free same utf8 is =
    (free, subst (All (All IsUtf8)) same utf8, subst (λ (ls : List (List (List ℕ))). HasFirstFault users ls [] ls n f) same is)
access_fault users text lines AccessMemory free same utf8 is = tt
access_fault users text lines _ free same utf8 is = absurd is
