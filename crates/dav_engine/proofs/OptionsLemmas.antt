-- What an OPTIONS does: it only reads, it is followed by its code, and it is isolated.
use Rattle.std.proofs.Common.{◌≡◌, ◌++◌, ℕ, Bool, List, [], ◌∷◌, map, Option, Some, Result, Ok, Err, true, refl, sym, ap, ◌∙◌}
use Rattle.std.specs.List.{flat_map, join_by}
use Rattle.std.specs.Prelude.{IfOk}
use Rattle.std.specs.Result.{result_ok}
use denote.Ref.{Bor}
use Rattle.dav_core.specs.declared.errors.FsError.{FsError}
use Rattle.dav_core.specs.declared.errors.DavError.TheVariants as dav
use Rattle.dav_core.specs.declared.fs.DavMetaData.{DavMetaData}
use Rattle.dav_core.specs.declared.method.DavMethod.{DavMethod}
use Rattle.dav_core.specs.Asking.{StoreState, Asks, Metadata}
use Rattle.dav_core.specs.Method.{method_name}
use Rattle.dav_core.specs.Path.{PathText, names}
use Rattle.dav_engine.specs.Alongside.{SameResult, SameMetadata, side_asks, side_look, side_ok}
use Rattle.dav_engine.specs.IsolatedPlans.{OptionsIsIsolated}
use Rattle.dav_engine.specs.AnswerParts.{answers_of}
use Rattle.dav_engine.specs.Follows.{as_is, Follows}
use Rattle.dav_engine.specs.Method.{has_locks}
use Rattle.dav_engine.specs.Options.{methods_for, offered, options_reply, options}
use Rattle.dav_engine.specs.Plan.{Locks}
use Rattle.dav_engine.specs.Reply.{Reply}
use Rattle.dav_engine.specs.WorldLaws.{reads_done, reads_ask, reads_look, IsProperPlan, proper_done, proper_ask, proper_look, OptionsOnlyReads}
use Rattle.dav_engine.proofs.IsolatedPlans.{in_reach}
use Rattle.dav_engine.proofs.Following.{follows_done, follows_ask, follows_up_to}
use Rattle.dav_engine.proofs.GuardLemmas.{follows_look}

pub options_only_reads : OptionsOnlyReads
options_only_reads allowed p = reads_ask {c = Metadata (names p)} tt (λ answer. reads_look (λ ls. reads_done))

pub options_is_proper : (allowed : ℕ) (p : PathText) → IsProperPlan (options allowed p)
options_is_proper allowed p = proper_ask {c = Metadata (names p)} tt (λ answer tells. proper_look (λ ls. proper_done))

-- ---- names with commas between them

joined_rest : (sep : List ℕ) (texts : List (Bor (List ℕ))) (ms : List DavMethod) → map (λ t. t.now) texts ≡ map method_name ms
    → flat_map (λ (t : Bor (List ℕ)). sep ++ t.now) texts ≡ flat_map (λ m. sep ++ method_name m) ms
joined_rest sep [] [] same = refl
joined_rest sep [] (m ∷ ms) same = absurd (cc)
joined_rest sep (t ∷ ts) [] same = absurd (cc)
joined_rest sep (t ∷ ts) (m ∷ ms) same =
    let first : t.now ≡ method_name m = cc in
    let rest : map (λ (t : Bor (List ℕ)). t.now) ts ≡ map method_name ms = cc in
    ap (λ x. (sep ++ x) ++ flat_map (λ (t : Bor (List ℕ)). sep ++ t.now) ts) first ∙ ap (λ y. (sep ++ method_name m) ++ y) (joined_rest sep ts ms rest)

pub joined_names : (sep : List ℕ) (texts : List (Bor (List ℕ))) (ms : List DavMethod) → map (λ t. t.now) texts ≡ map method_name ms
    → join_by (λ (t : Bor (List ℕ)). t.now) sep texts ≡ join_by method_name sep ms
joined_names sep [] [] same = refl
joined_names sep [] (m ∷ ms) same = absurd (cc)
joined_names sep (t ∷ ts) [] same = absurd (cc)
joined_names sep (t ∷ ts) (m ∷ ms) same =
    let first : t.now ≡ method_name m = cc in
    let rest : map (λ (t : Bor (List ℕ)). t.now) ts ≡ map method_name ms = cc in
    ap (λ x. x ++ flat_map (λ (t : Bor (List ℕ)). sep ++ t.now) ts) first ∙ ap (λ y. method_name m ++ y) (joined_rest sep ts ms rest)

-- what holds of a value holds also of it as something weaker
pub if_ok : {X E : Type 0} {P Q : X → Type 0} (r : Result X E) → ((x : X) → P x → Q x) → IfOk r P → IfOk r Q
if_ok (Ok x) weaker is = weaker x is
if_ok (Err e) weaker is = is

-- ---- how code follows it

module _ (allowed : ℕ) (p : PathText) (answer : Result DavMetaData FsError) {old mid : StoreState} (asks : Asks (Metadata (names p)) old answer mid) where
  pub options_short : {ls : Locks} → Follows as_is (options allowed p) old ls (Err dav.Memory) mid ls
  options_short = follows_ask asks follows_up_to

  pub options_told : (ls : Locks) (locks : Bool) (found : Option DavMetaData) (reply : Reply) → has_locks ls ≡ locks → found ≡ result_ok answer
      → reply ≡ options_reply (offered allowed locks (methods_for p found)) → Follows as_is (options allowed p) old ls (Ok reply) mid ls
  options_told ls locks found reply are told is =
      let same : reply ≡ options_reply (offered allowed (has_locks ls) (methods_for p (result_ok answer))) =
      is ∙ ap (λ b. options_reply (offered allowed b (methods_for p found))) (sym are) ∙ ap (λ f. options_reply (offered allowed (has_locks ls) (methods_for p f))) told in
      follows_ask asks (follows_look (follows_done (ap Ok same)))

-- ---- the holder

same_reply : (allowed : ℕ) (locks : Bool) (p : PathText) (a b : Result DavMetaData FsError) → SameResult SameMetadata a b
    → options_reply (offered allowed locks (methods_for p (result_ok a))) ≡ options_reply (offered allowed locks (methods_for p (result_ok b)))
same_reply allowed locks p (Ok m) (Ok n) same = ap (λ d. options_reply (offered allowed locks (methods_for p (Some (record m { dir = d }))))) same.dir
same_reply allowed locks p (Err e) (Err f) same = refl
same_reply allowed locks p (Ok m) (Err f) same = absurd same
same_reply allowed locks p (Err e) (Ok n) same = absurd same

pub options_goes_along : OptionsIsIsolated
options_goes_along h allowed p within =
    let (rest, at) = in_reach h (names p) within in
    side_asks {c = Metadata (names p)} (rest, at) (λ a b told. side_look (λ ls ks g g'. side_ok (ap answers_of (same_reply allowed true p a b told))))
