-- What takes the responses of a multistatus, one after another.
use Rattle.std.proofs.Common.{◌≡◌, ℕ, List, [], ◌∷◌, ◌++◌, Option, Some, None, Result, Ok, Err, refl, ap, sym, subst, ◌∙◌, append_assoc}
use Rattle.std.proofs.lemmas.List.{append-nil}
use Rattle.dav_core.specs.declared.errors.DavError.{DavError}
use Rattle.dav_core.specs.Asking.{StoreState}
use Rattle.dav_core.specs.Element.{ElementTree, element, text, trees, with_children}
use Rattle.dav_engine.specs.declared.reply.ReplyBody.TheVariants as reply
use Rattle.dav_engine.specs.Follows.{as_is, FollowsWithLocks, Serves}
use Rattle.dav_engine.specs.Method.{MethodPlan}
use Rattle.dav_engine.specs.Plan.{Locks, ServerState}
use Rattle.dav_engine.specs.Reply.{Reply}
use Rattle.dav_engine.specs.Taking.{taken_all, grown_tree, opened_tree, FollowsHandingOn, HandsOn, IsHandedOn}
use Rattle.dav_engine.proofs.MultistatusLemmas.{list_of_trees}

module _ {T : Type 0} (taken : T → ElementTree → T) where
  -- more responses after some
  pub taken_append : (to : T) (xs ys : List ElementTree) → taken_all taken to (xs ++ ys) ≡ taken_all taken (taken_all taken to xs) ys
  taken_append to [] ys = refl
  taken_append to (x ∷ xs) ys = taken_append (taken to x) xs ys

-- a tree that grows by one child after another
grown_element : (name : List ℕ) (prefix namespace : Option (List ℕ)) (attributes : List (List ℕ × List ℕ)) (ts rs : List ElementTree)
    → taken_all grown_tree (Some (element name prefix namespace attributes (trees ts))) rs ≡ Some (element name prefix namespace attributes (trees (ts ++ rs)))
grown_element name prefix namespace attributes ts [] = ap (λ us. Some (element name prefix namespace attributes (trees us))) (sym (append-nil ts))
grown_element name prefix namespace attributes ts (r ∷ rs) =
    ap (λ us. taken_all grown_tree (Some (element name prefix namespace attributes (trees (us ++ r ∷ [])))) rs) (list_of_trees ts)
    ∙ grown_element name prefix namespace attributes (ts ++ r ∷ []) rs
    ∙ ap (λ us. Some (element name prefix namespace attributes (trees us))) (append_assoc ts (r ∷ []) rs)

grown_text : (bytes : List ℕ) (rs : List ElementTree) → taken_all grown_tree (Some (text bytes)) rs ≡ Some (text bytes)
grown_text bytes [] = refl
grown_text bytes (r ∷ rs) = grown_text bytes rs

grown : (root : ElementTree) (rs : List ElementTree) → taken_all grown_tree (Some (with_children root [])) rs ≡ Some (with_children root rs)
grown (element name prefix namespace attributes children) rs = grown_element name prefix namespace attributes [] rs
grown (text bytes) rs = grown_text bytes rs

-- what was handed on to a tree
pub gathered_by : {tree : Option ElementTree} {whole told result : Reply} → ((root : ElementTree) → tree ≡ Some root → result ≡ record told { body = reply.Tree root })
    → IsHandedOn opened_tree grown_tree None whole told (Some tree) → result ≡ whole
gathered_by made (root, rs, is, status, are, nothing, after) = made (with_children root rs) (after ∙ grown root rs) ∙ sym are

-- a request was answered by what was handed on to a tree
pub gathered_ok : {kind : MethodPlan Reply → Type 0} {old new : ServerState} {told r : Reply} {tree : Option (Option ElementTree)} → ((whole : Reply) → IsHandedOn opened_tree grown_tree None whole told tree → r ≡ whole)
    → ((whole : Result Reply DavError) × Serves kind old whole new × HandsOn opened_tree grown_tree None whole (Ok (told, tree))) → Serves kind old (Ok r) new
gathered_ok {kind} {old} {new} made (Ok whole, serves, handed) = subst (λ (x : Reply). Serves kind old (Ok x) new) (sym (made whole handed)) serves
gathered_ok made (Err e, serves, handed) = absurd handed

pub gathered_err : {kind : MethodPlan Reply → Type 0} {old new : ServerState} {e : DavError}
    → ((whole : Result Reply DavError) × Serves kind old whole new × HandsOn opened_tree grown_tree None whole (Err e)) → Serves kind old (Err e) new
gathered_err (Ok whole, serves, handed) = absurd handed
gathered_err {kind} {old} {new} (Err f, serves, is) = subst (λ (x : DavError). Serves kind old (Err x) new) (sym is) serves

module _ {T : Type 0} (opened taken : T → ElementTree → T) (to : T) {locks : Locks} where
  -- what is handed on of a part is handed on of the plan
  pub hands_by : {part plan : MethodPlan Reply} {old mid new : StoreState} (result : Result (Reply × Option T) DavError)
      → ((whole : Result Reply DavError) → FollowsWithLocks locks as_is part mid whole new → FollowsWithLocks locks as_is plan old whole new)
      → FollowsHandingOn opened taken to locks part mid result new → FollowsHandingOn opened taken to locks plan old result new
  hands_by result follows (whole, one, handed) = (whole, follows whole one, handed)

  -- an error is told as it is, and so is a reply of which nothing was handed on
  pub hands_err : {plan : MethodPlan Reply} {old new : StoreState} (e : DavError) → FollowsWithLocks locks as_is plan old (Err e) new → FollowsHandingOn opened taken to locks plan old (Err e) new
  hands_err e follows = (Err e, follows, refl)

  pub hands_itself : {plan : MethodPlan Reply} {old new : StoreState} (r : Reply) → FollowsWithLocks locks as_is plan old (Ok r) new → FollowsHandingOn opened taken to locks plan old (Ok (r, None)) new
  hands_itself r follows = (Ok r, follows, refl)
