use Rattle.std.proofs.Common.{◌+◌, ◌||◌, ◌==◌, Bool, nat_eq, take, drop, sym, ap, subst, ◌∙◌, ⊎_elim}
use Rattle.std.specs.HashSet.{contains}
use Rattle.dav_core.specs.World.{Nodes}
use Rattle.dav_store.specs.Loaded.{AreApart, is_taken}
use Rattle.dav_store.proofs.LoadedWorlds.{apart_middle, apart_untaken, apart_push, number_free, made_free, taken_push, one_taken, none_taken, split_at, one_more}
use Rattle.dav_store.proofs.memfs.loaded.are_apart.Goals as goal

pub returns-then-not-branch : goal.returns-then-not-branch
returns-then-not-branch c = (
  λ t. cc,
  λ apart.
      let list = c.args.list.now in
      let i = c.loop-entry.entry-index in
      let x = c.entry-item.result in
      let split = split_at list i x c.loop-entry-test.true c.entry-item.is in
      let h = apart_middle (take i list) x (drop (i + 1) list) (subst AreApart split apart) in
      absurd (⊎_elim
      (λ a. number_free x (take i list) h (sym (c.loop-entry.invariant.1 x.1.number) ∙ a))
      (λ a. made_free x (take i list) h (sym (c.loop-entry.invariant.1 x.1.made) ∙ a))
      (one_taken c.in_ok-take_numbers.field-0 (contains nat_eq c.loop-entry.taken x.1.number) (contains nat_eq c.loop-entry.taken x.1.made) c.in_ok-take_numbers.ensures.free c.if-not-branch.true)),
)

pub loop-entry-preserved : goal.loop-entry-preserved
loop-entry-preserved c =
    let list = c.args.list.now in
    let i = c.loop-entry.entry-index in
    let x = c.entry-item.result in
    let more = one_more list i x c.loop-entry-test.true c.entry-item.is in
    let none = none_taken c.in_ok-take_numbers.field-0 (contains nat_eq c.loop-entry.taken x.1.number) (contains nat_eq c.loop-entry.taken x.1.made) c.in_ok-take_numbers.ensures.free c.if-not-branch.false in
    let h = apart_untaken (take i list) x (sym (c.loop-entry.invariant.1 x.1.number) ∙ none.0) (sym (c.loop-entry.invariant.1 x.1.made) ∙ none.1) in (
      subst AreApart (sym more) (apart_push (take i list) x c.loop-entry.invariant.0 h),
      λ k. c.in_ok-take_numbers.ensures.taken c.if-not-branch.false k
          ∙ ap (λ (r : Bool). ((k == x.1.number) || (k == x.1.made)) || r) (c.loop-entry.invariant.1 k)
          ∙ sym (ap (λ (ns : Nodes). is_taken k ns) more ∙ taken_push (take i list) x k),
    )
