-- What is replied, by what was read of the head.
use Rattle.std.proofs.Common.{◌≡◌, ℕ, List, Option, Some, None, Result, IfOk, MatchOption, refl, sym, subst}
use Rattle.dav_engine.specs.Caller.{Caller}
use Rattle.dav_engine.specs.Multistatus.{status_reply}
use Rattle.dav_engine.specs.Reply.{Reply}
use Rattle.dav_engine.specs.declared.request.Body.TheVariants as body
use Rattle.dav_server.specs.Head.{IsHead, Request}
use Rattle.dav_server.specs.Machine.{Exchange, Settings}
use Rattle.dav_server.specs.Server.{Server}
use Rattle.dav_access.specs.Rules.{Rules}
use Rattle.dav_confined.specs.Asked.{AskedView, IsAsked, IsUnread}
use Rattle.dav_seen.specs.Ways.{IsReplyAt, IsWayReply, depth_in, nowhere, replied}
use Rattle.dav_seen.proofs.ReplyLemmas.{ok_each}

at_none : {A N : Type 0} (P : A → Type 0) (o : Option A) → o ≡ None → MatchOption o N P → N
at_none {A} {N} P o e m = subst (λ (t : Option A). MatchOption t N P) e m

at_some : {A : Type 0} (N : Type 0) (P : A → Type 0) (o : Option A) (a : A) → o ≡ Some a → MatchOption o N P → P a
at_some {A} N P o a e m = subst (λ (t : Option A). MatchOption t N P) e m

-- some request with this head
abbrev with_head : List ℕ → Exchange
with_head head = record { head = head; body = body.None; principal = None; moment = 0; token = None }

module _ (rules : Rules) (s : Server) (head bytes : List ℕ) (who : Caller) where
  -- no head is in the bytes
  pub headless_way : (r : Reply) → ((q : Request) → ¬ IsHead head q) → r ≡ status_reply 404 → IsWayReply rules s head bytes who r
  headless_way r none reply = nowhere (λ a reads. let is = reads (with_head head) refl in none is.request is.to.head) reply

  module _ (prefix : List ℕ) (below : prefix ≡ s.settings.prefix) (o : Option AskedView)
      (asks : (t : Settings) (x : Exchange) → t.prefix ≡ prefix → x.head ≡ head → MatchOption o (IsUnread t x) (IsAsked t x)) where
    -- no request is read in them
    pub unread_way : (r : Reply) → o ≡ None → r ≡ status_reply 404 → IsWayReply rules s head bytes who r
    unread_way r none reply =
        nowhere (λ a reads.
        let is = reads (with_head head) refl in
        at_none (IsAsked s.settings (with_head head)) o none (asks s.settings (with_head head) (sym below) refl) is.request a.method a.path is.to) reply

    -- a request is
    pub asked_way : {E : Type 0} (a : AskedView) (q : Request) (depth : Option (List ℕ)) (r : Result Reply E) → o ≡ Some a → IsHead head q → depth ≡ depth_in q
        → IfOk r (IsReplyAt rules s a.method a.path depth bytes who) → IfOk r (IsWayReply rules s head bytes who)
    asked_way a q depth r some is at replies =
        ok_each (IsReplyAt rules s a.method a.path depth bytes who) (IsWayReply rules s head bytes who) r
        (λ reply here.
        replied q a is (λ x same. at_some (IsUnread s.settings x) (IsAsked s.settings x) o a some (asks s.settings x (sym below) same))
        (subst (λ (d : Option (List ℕ)). IsReplyAt rules s a.method a.path d bytes who reply) at here))
        replies
