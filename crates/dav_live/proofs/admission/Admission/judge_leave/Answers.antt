use Rattle.std.proofs.Common.{◌≡◌, ◌∙◌, List, ℕ, Option, sym, subst, true≢false, rules, string_bytes, option_map}
use Rattle.std.specs.Option.{option_copied}
use Rattle.dav_live.specs.Admission.{MayAskIn}
use Rattle.dav_live.proofs.VerdictLemmas.{rejected_leave}
use Rattle.dav_live.proofs.admission.Admission.judge_leave.Goals as goal

pub returns-then-branch : goal.returns-then-branch
returns-then-branch c =
    let a = c.args.self.now in
    let who = option_map string_bytes c.args.principal in
    let lent : option_copied c.as_deref.result ≡ who = search rules in
    let has : MayAskIn a (option_copied c.as_deref.result) c.deref.result.now = c.in_ok-may_ask.ensures.0 c.if-branch.true in
    record {
      takeable = c.requires.asked.0;
      sender = λ more. record {
        user = who;
        head = c.in_ok-kept.kept.items;
        made = c.requires.made;
        kept = c.in_ok-kept.ensures;
        leave = subst (λ (u : Option (List ℕ)). MayAskIn a u c.in_ok-kept.kept.items) lent
            (subst (λ (b : List ℕ). MayAskIn a (option_copied c.as_deref.result) b) c.deref.ensures.value has);
      };
    }

pub returns : goal.returns
returns c =
    let a = c.args.self.now in
    let who = option_map string_bytes c.args.principal in
    let lent : option_copied c.as_deref.result ≡ who = search rules in
    let lacks : ¬ MayAskIn a (option_copied c.as_deref.result) c.deref.result.now = λ leave. true≢false (sym (c.in_ok-may_ask.ensures.1 leave) ∙ c.if-branch.false) in
    rejected_leave a c.args.head.now c.without_leave.result who c.in_ok-kept.kept.items c.without_leave.ensures.why c.without_leave.ensures.user c.requires.asked c.requires.made
    c.in_ok-kept.ensures
    (subst (λ (u : Option (List ℕ)). ¬ MayAskIn a u c.in_ok-kept.kept.items) lent
    (subst (λ (b : List ℕ). ¬ MayAskIn a (option_copied c.as_deref.result) b) c.deref.ensures.value lacks))
