-- From the bytes of a script to the lines that are written.
use Rattle.std.proofs.Common.{◌≡◌, ℕ, zero, suc, inl, inr, List, [], ◌∷◌, ◌++◌, take, drop, Option, Some, None, Result, Ok, Err, OnOk, IfSome, IsSomeAnd, refl, sym, ap, subst, ◌∙◌, append_assoc, append-nil}
use Rattle.std.specs.Prelude.{◌⊎◌}
use Rattle.std.proofs.lemmas.Grind.{flat_map-append}
use Rattle.std.proofs.lemmas.List.{take-append-drop}
use Rattle.std.specs.Io.KnownBytes.{Appends}
use Rattle.serde_json.specs.Data.{Data}
use Rattle.serde_json.specs.Read.{read}
use Rattle.dav_core.specs.Asking.{StoreState}
use Rattle.dav_engine.specs.Plan.{Locks, ServerState}
use Rattle.dav_engine.specs.Reply.{Reply}
use Rattle.dav_server.specs.Machine.{Settings}
use Rattle.dav_server.specs.Run.{Turn, Runs, no_more, one_more}
use Rattle.dav_server.specs.Server.{Server, AnswersAll, AnswersSome}
use Rattle.dav_server.specs.Setup.{IsPrefix}
use Rattle.dav_server.proofs.Theorems.{runs_join}
use Rattle.dav_run.specs.declared.play.Fault.{Fault}
use Rattle.dav_run.specs.Script as script
use Rattle.dav_run.specs.Script.{ScriptContent, IsShort, IsScript, IsScriptValue}
use Rattle.dav_run.specs.Print.{line_of, lines_of}
use Rattle.dav_run.specs.Play.{Plays, PlaysSome, IsPlayable, RunsSome, AreRunReplies, AreSomeRunReplies, AreAloneReplies, AreFirstAloneReplies, Follows}
use Rattle.dav_run.proofs.Promised.{promised_all, promised_some}

-- ---- a script has one prefix

-- a member is one text
one_text : (o : Option Data) (a b : List ℕ) → script.IsPrefix o a → script.IsPrefix o b → a ≡ b
one_text None a b one two = one ∙ sym two
one_text (Some d) a b one two = let same : Some a ≡ Some b = sym one ∙ two in cc

-- a value has one prefix
in_value : (o : Option Data) (s t : ScriptContent) → IsSomeAnd o (λ d. IsScriptValue d s) → IsSomeAnd o (λ d. IsScriptValue d t) → s.prefix ≡ t.prefix
in_value (Some d) s t one two = one_text _ _ _ one.prefix two.prefix
in_value None s t one two = absurd one

-- bytes have one prefix
one_prefix : (text : List ℕ) (s t : ScriptContent) → IsScript text s → IsScript text t → s.prefix ≡ t.prefix
one_prefix text s t one two = in_value (read text) s t one.1 two.1

-- a script whose prefix no server accepts can't be played
pub unplayable : (o : Option (List ℕ)) (s : ScriptContent) → IfSome o (λ text. IsShort text × IsScript text s) → ¬ IsPrefix s.prefix → IfSome o (λ text. ¬ IsPlayable text)
unplayable None s read bad = tt
unplayable (Some text) s read bad = λ can. bad (subst IsPrefix (one_prefix text can.0 s can.2 read.1) can.3)

-- ---- runs

-- the run of a server with these settings and this state
pub run_set_up : {one : Server} {s : Settings} {from : ServerState} {ts us : List Turn} (replies : List Reply) (left : Server) → one.settings ≡ s → one.state ≡ from → ts ≡ us
    → AnswersAll one ts replies left → AnswersAll (record { settings = s; state = from }) us replies left
run_set_up {one} {s} {from} {ts} {us} replies left settings state turns run =
    subst (λ (l : List Turn). AnswersAll (record { settings = s; state = from }) l replies left) turns
    (subst (λ (o : ServerState). AnswersAll (record { settings = s; state = o }) ts replies left) state
    (subst (λ (c : Settings). AnswersAll (record { settings = c; state = one.state }) ts replies left) settings run))

-- the same of a run of the first turns
pub some_set_up : {one : Server} {s : Settings} {from : ServerState} {ts us : List Turn} (replies : List Reply) → one.settings ≡ s → one.state ≡ from → ts ≡ us
    → RunsSome one ts replies → RunsSome (record { settings = s; state = from }) us replies
some_set_up replies settings state turns (first, rest, left, parts, run) =
    (first, rest, left, sym turns ∙ parts, run_set_up replies left settings state refl run)

-- a run of all turns, and one that memory cut short
pub some_of_all : {old : Server} {ts : List Turn} {replies : List Reply} (new : Server) → AnswersAll old ts replies new → RunsSome old ts replies
some_of_all {ts = ts} new run = (ts, [], new, sym (append-nil ts), run)

pub some_of_part : {old : Server} {ts : List Turn} {replies : List Reply} (new : Server) → AnswersSome old ts replies new → RunsSome old ts replies
some_of_part {old} new some =
    let left : Server = record { settings = old.settings; state = some.was } in
    (some.front, some.turn ∷ some.back, left, some.turns_are, some.earlier)

-- the run of the first turns, where there are so many, and their replies
run_first : {s : Settings} (k : ℕ) (ts : List Turn) {old new : StoreState} {ls ms : Locks} (replies : List Reply) → Runs s ts old ls replies new ms
    → (mid : StoreState) × (ks : Locks) × Runs s (take k ts) old ls (take k replies) mid ks
run_first zero ts {old = old} {ls = ls} replies run = (old, ls, no_more)
run_first (suc k) [] {old = old} {ls = ls} [] no_more = (old, ls, no_more)
run_first (suc k) [] (r ∷ rs) run = elim run [ ]
run_first (suc k) (t ∷ ts) [] run = elim run [ ]
run_first (suc k) (t ∷ ts) (r ∷ rs) (one_more step run) = let (mid, ks, first) = run_first k ts rs run in (mid, ks, one_more step first)

-- the first replies are those of a run of the first turns too
pub some_taken : {old : Server} {ts : List Turn} {replies : List Reply} (k : ℕ) → RunsSome old ts replies → RunsSome old ts (take k replies)
some_taken {replies = replies} k (first, rest, left, parts, run) =
    let (mid, ks, part) = run_first k first replies run in
    let more : first ++ rest ≡ take k first ++ (drop k first ++ rest) = ap (λ l. l ++ rest) (sym (take-append-drop k first)) ∙ append_assoc (take k first) (drop k first) rest in
    let mid_way : Server = record { settings = left.settings; state = record { store = mid; locks = ks } } in
    (take k first, drop k first ++ rest, mid_way, parts ∙ more, part)

-- ---- what was written

pub appends_nothing : (a : Option (List ℕ)) → Appends a a []
appends_nothing None = tt
appends_nothing (Some bytes) = sym (append-nil bytes)

pub appends_both : (a b c : Option (List ℕ)) (x y : List ℕ) → Appends a b x → Appends b c y → Appends a c (x ++ y)
appends_both None b c x y p q = tt
appends_both (Some u) None c x y p q = absurd p
appends_both (Some u) (Some v) None x y p q = absurd q
appends_both (Some u) (Some v) (Some w) x y p q = q ∙ ap (λ l. l ++ y) p ∙ append_assoc u x y

-- what follows from what a result promises where it is good
pub onto : {E : Type 0} {A B : Type 0} (result : Result (Unit {0}) E) → (A → B) → OnOk result A → OnOk result B
onto (Ok x) f given = f given
onto (Err e) f given = tt

-- where two results are the same error, so are the errors
pub same_error : {A : Type 0} {a b : Fault} → ◌≡◌ {A = Result A Fault} (Err a) (Err b) → a ≡ b
same_error is = cc

-- ---- a script that was read, and what was written of its runs

module _ (o : Option (List ℕ)) (s : ScriptContent) (read : IfSome o (λ text. IsShort text × IsScript text s)) (before after : Option (List ℕ)) where
  -- all replies, and no run alone is asked for
  pub played_all : s.alone ≡ None → IsPrefix s.prefix → (lines : List ℕ) × AreRunReplies s lines × Appends before after lines
      → IfSome o (λ text. (lines : List ℕ) × Plays text lines × Appends before after lines)
  played_all none prefix (lines, are, wrote) = under o read
    where
      under : (p : Option (List ℕ)) → IfSome p (λ text. IsShort text × IsScript text s) → IfSome p (λ text. (lines : List ℕ) × Plays text lines × Appends before after lines)
      under None given = tt
      under (Some text) given =
          let follows = subst (λ (a : Option ℕ). Follows s a []) (sym none) refl in
          (lines, (s, lines, [], given.0, given.1, prefix, promised_all s text lines given.1 are, follows, sym (append-nil lines)), wrote)

  -- all replies, and all of the run alone
  pub played_alone : (place : ℕ) (mid : Option (List ℕ)) → s.alone ≡ Some place → IsPrefix s.prefix → (all : List ℕ) × AreRunReplies s all × Appends before mid all
      → (alone : List ℕ) × AreAloneReplies s place alone × Appends mid after alone
      → IfSome o (λ text. (lines : List ℕ) × Plays text lines × Appends before after lines)
  played_alone place mid some prefix (all, are, wrote) (alone, follow, appended) = under o read
    where
      under : (p : Option (List ℕ)) → IfSome p (λ text. IsShort text × IsScript text s) → IfSome p (λ text. (lines : List ℕ) × Plays text lines × Appends before after lines)
      under None given = tt
      under (Some text) given =
          let follows = subst (λ (a : Option ℕ). Follows s a alone) (sym some) follow in
          (all ++ alone, (s, all, alone, given.0, given.1, prefix, promised_all s text all given.1 are, follows, refl), appends_both before mid after all alone wrote appended)

  -- the first replies, or none
  pub played_some : (lines : List ℕ) × ((lines ≡ []) ⊎ (IsPrefix s.prefix × AreSomeRunReplies s lines)) × Appends before after lines
      → IfSome o (λ text. (lines : List ℕ) × PlaysSome text lines × Appends before after lines)
  played_some (lines, inl nothing, wrote) = under o
    where
      under : (p : Option (List ℕ)) → IfSome p (λ text. (lines : List ℕ) × PlaysSome text lines × Appends before after lines)
      under None = tt
      under (Some text) = (lines, inl nothing, wrote)
  played_some (lines, inr some, wrote) = under o read
    where
      under : (p : Option (List ℕ)) → IfSome p (λ text. IsShort text × IsScript text s) → IfSome p (λ text. (lines : List ℕ) × PlaysSome text lines × Appends before after lines)
      under None given = tt
      under (Some text) given = (lines, inr (s, given.0, given.1, some.0, inl (promised_some s text lines given.1 some.1)), wrote)

  -- all replies, and the first lines of the run alone, or none of them
  pub played_some_alone : (place : ℕ) (mid : Option (List ℕ)) → s.alone ≡ Some place → IsPrefix s.prefix → (all : List ℕ) × AreRunReplies s all × Appends before mid all
      → (alone : List ℕ) × ((alone ≡ []) ⊎ AreFirstAloneReplies s place alone) × Appends mid after alone
      → IfSome o (λ text. (lines : List ℕ) × PlaysSome text lines × Appends before after lines)
  played_some_alone place mid is prefix (all, are, wrote) (alone, some, appended) = under o read some
    where
      both : Appends before after (all ++ alone)
      both = appends_both before mid after all alone wrote appended

      under : (p : Option (List ℕ)) → IfSome p (λ text. IsShort text × IsScript text s) → (alone ≡ []) ⊎ AreFirstAloneReplies s place alone
          → IfSome p (λ text. (lines : List ℕ) × PlaysSome text lines × Appends before after lines)
      under None given which = tt
      under (Some text) given (inl nothing) =
          let (replies, left, run, lines_are) = are in
          let written : AreSomeRunReplies s (all ++ alone) = (replies, some_of_all left run, ap (λ l. all ++ l) nothing ∙ append-nil all ∙ lines_are) in
          (all ++ alone, inr (s, given.0, given.1, prefix, inl (promised_some s text (all ++ alone) given.1 written)), both)
      under (Some text) given (inr first) =
          (all ++ alone, inr (s, given.0, given.1, prefix, inr (place, all, alone, is, promised_all s text all given.1 are, first, refl)), both)

-- nothing was written before there was a script
pub none_played : (o : Option (List ℕ)) (a : Option (List ℕ)) → IfSome o (λ text. (lines : List ℕ) × PlaysSome text lines × Appends a a lines)
none_played None a = tt
none_played (Some text) a = ([], inl refl, appends_nothing a)

-- ---- one step after another

-- a run, and one from what it left
pub joined : {old mid : Server} {ts us : List Turn} {before after : List Reply} (new : Server) → mid.settings ≡ old.settings
    → AnswersAll old ts before mid → AnswersAll mid us after new → AnswersAll old (ts ++ us) (before ++ after) new
joined {old} {mid} {ts} {us} {before} {after} new same one two =
    runs_join old.settings ts us old.state.store mid.state.store new.state.store old.state.locks mid.state.locks new.state.locks before after one
    (subst (λ (s : Settings). Runs s us mid.state.store mid.state.locks after new.state.store new.state.locks) same two)

-- the same, where memory ran out in the second; the rest was to come
pub some_joined : {old mid : Server} {all ts us : List Turn} {before after : List Reply} (rest : List Turn) → mid.settings ≡ old.settings → all ≡ (ts ++ us) ++ rest
    → AnswersAll old ts before mid → RunsSome mid us after → RunsSome old all (before ++ after)
some_joined {old} {mid} {all} {ts} {us} {before} {after} rest same parts one (first, more, left, split, run) =
    let end : ServerState = left.state in (
      ts ++ first,
      more ++ rest,
      record { settings = old.settings; state = end },
      parts ∙ ap (λ (l : List Turn). (ts ++ l) ++ rest) split ∙ ap (λ (l : List Turn). l ++ rest) (sym (append_assoc ts first more)) ∙ append_assoc (ts ++ first) more rest,
      joined left same one run,
    )

-- the lines of some replies, and then those of others
pub more_written : (a b c : Option (List ℕ)) (rs ss : List Reply) → Appends a b (lines_of rs) → Appends b c (lines_of ss) → Appends a c (lines_of (rs ++ ss))
more_written a b c rs ss p q = subst (Appends a c) (sym (flat_map-append line_of rs ss)) (appends_both a b c (lines_of rs) (lines_of ss) p q)
