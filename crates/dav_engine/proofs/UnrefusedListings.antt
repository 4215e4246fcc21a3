-- A store without refusals to come, that doesn't run out of memory, lists what is there and tells of it.
use Rattle.std.proofs.Common.{◌≡◌, Bool, true, false, true≢false, not, List, [], ◌∷◌, All, Option, Some, None, Result, Ok, refl, sym, ap, subst, ◌∙◌}
use Rattle.std.proofs.lemmas.List.Elements.{All-head, All-tail}
use Rattle.std.specs.Prelude.{is_none}
use Rattle.std.specs.Result.{is_ok}
use Rattle.dav_core.specs.declared.errors.FsError.{FsError}
use Rattle.dav_core.specs.declared.errors.FsError.TheVariants.{NotFound, Forbidden}
use Rattle.dav_core.specs.Asking.{Call, Answer, StoreState, meaning, ask, answered, rest_of, Asks, asked, ran_short, Metadata, ReadDir, EntryMetadata, CreateDir, RemoveDir, RemoveFile, Rename, Copy, HaveProps, PatchProps, GetProps, GetProp, GetQuota, SetAccessed, SetModified, Open, Read, Write, Seek, Flush, FileMetadata}
use Rattle.dav_core.specs.Meaning.{refuse_if, at_node}
use Rattle.dav_core.specs.World.{World, Node, node_at, is_folder_node, is_file, is_file_node, is_missing}
use Rattle.dav_engine.specs.Plan.{Plan, Locks, Ran, ran_done, ran_ask, ran_look, ran_keep}
use Rattle.dav_engine.specs.PropfindLaws.{AsksListing, UnrefusedRunsList}
use Rattle.dav_engine.specs.RefusedCalls.{lists_what_is_there}
use Rattle.dav_engine.proofs.PlanLemmas.{ran_unset}

abbrev pub IsNone : Option FsError → Type 0
IsNone r = r ≡ None

unrefused : (c : Call) (w : World) (rs : List (Option FsError)) → All IsNone rs → ask c w rs ≡ answered w (meaning c w)
unrefused c w [] none = refl
unrefused c w (None ∷ rs) none = refl
unrefused c w (Some e ∷ rs) none = let clash : Some e ≡ None = All-head IsNone (Some e) rs none in cc

-- what is answered is what the call means
pub answer_is : {c : Call} {old new : StoreState} {a : Result (Answer c) FsError} → All IsNone old.refusals → new.short ≡ false → Asks c old a new → a ≡ (answered old.world (meaning c old.world)).0
answer_is {c} {old} none unset (asked h) = ap (λ (r : Result (Answer c) FsError × World). r.0) (h.as_asked ∙ unrefused c old.world old.refusals none)
answer_is none unset (ran_short h) = absurd (true≢false (sym h.short ∙ unset))

goes_on : {A : Type 0} (w : World) (missing file : Bool) (a : A) → missing ≡ false → file ≡ false → is_ok ((answered w (refuse_if missing NotFound (refuse_if file Forbidden (Ok (a, w))))).0) ≡ true
goes_on w false false a _ _ = refl
goes_on w false true a _ is = absurd (true≢false is)
goes_on w true file a is _ = absurd (true≢false is)

is_at : {A : Type 0} (w : World) (o : Option Node) (f : Node → A) → is_none o ≡ false → is_ok ((answered w (at_node o (λ n. Ok (f n, w)))).0) ≡ true
is_at w (Some n) f there = refl
is_at w None f there = absurd (true≢false there)

folder_there : (o : Option Node) → is_folder_node o ≡ true → (is_none o ≡ false) × (is_file_node o ≡ false)
folder_there None is = absurd (true≢false (sym is))
folder_there (Some n) is = (refl, ap not is)

by_not : (b : Bool) → not b ≡ true → b ≡ false
by_not false is = refl
by_not true is = absurd (true≢false (sym is))

-- a call of another kind
other : {A : Type 0} → false ≡ true → A
other is = absurd (true≢false (sym is))

lists : {c : Call} {old new : StoreState} {a : Result (Answer c) FsError} → All IsNone old.refusals → new.short ≡ false → Asks c old a new → (lists_what_is_there old.world c ≡ true → is_ok a ≡ true)
unfolding meaning
lists {c = Metadata p} none unset one = other
lists {c = EntryMetadata p} {old} none unset one = λ there. ap is_ok (answer_is none unset one) ∙ is_at old.world (node_at old.world p) _ (by_not (is_missing old.world p) there)
lists {c = ReadDir p} {old} none unset one = λ folder. let (there, kind) = folder_there (node_at old.world p) folder in ap is_ok (answer_is none unset one) ∙ goes_on old.world (is_missing old.world p) (is_file old.world p) _ there kind
lists {c = CreateDir p now} none unset one = other
lists {c = RemoveDir p now} none unset one = other
lists {c = RemoveFile p now} none unset one = other
lists {c = Rename from to now} none unset one = other
lists {c = Copy from to now} none unset one = other
lists {c = HaveProps p} none unset one = other
lists {c = PatchProps p patches} none unset one = other
lists {c = GetProps p content} none unset one = other
lists {c = GetProp p key} none unset one = other
lists {c = GetQuota} none unset one = other
lists {c = SetAccessed p now} none unset one = other
lists {c = SetModified p now} none unset one = other
lists {c = Open p how now} none unset one = other
lists {c = Read file count} none unset one = other
lists {c = Write file bytes now} none unset one = other
lists {c = Seek file to} none unset one = other
lists {c = Flush file} none unset one = other
lists {c = FileMetadata file} none unset one = other

rest_none : (rs : List (Option FsError)) → All IsNone rs → All IsNone (rest_of rs)
rest_none [] none = none
rest_none (r ∷ rs) none = All-tail IsNone r rs none

pub left_none : {c : Call} {old new : StoreState} {a : Result (Answer c) FsError} → Asks c old a new → All IsNone old.refusals → All IsNone new.refusals
left_none {old = old} (asked h) none = subst (All IsNone) (sym h.refusals) (rest_none old.refusals none)
left_none {old = old} (ran_short h) none = subst (All IsNone) (sym h.refusals) (rest_none old.refusals none)

lists_all : {A : Type 0} {plan : Plan A} {old new : StoreState} {ls ms : Locks} {a : A} → All IsNone old.refusals → new.short ≡ false → Ran Asks plan old ls a new ms → Ran AsksListing plan old ls a new ms
lists_all none unset ran_done = ran_done
lists_all none unset (ran_ask one more) = ran_ask (one, lists none (ran_unset more unset) one) (lists_all (left_none one none) unset more)
lists_all none unset (ran_look more) = ran_look (lists_all none unset more)
lists_all none unset (ran_keep more) = ran_keep (lists_all none unset more)

pub unrefused_runs_list : UnrefusedRunsList
unrefused_runs_list plan old new ls ms outcome none unset ran = lists_all none unset ran
