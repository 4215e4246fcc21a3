use Rattle.std.proofs.Common.{sym, ap, ◌∙◌, Option}
use Rattle.std.specs.Ordering.{is_le, is_eq}
use Rattle.dav_core.specs.Element.{ElementTree}
use Rattle.dav_core.specs.Property.{PropertyKey, key_cmp}
use Rattle.dav_store.proofs.Place.{is_first_at, none_passes, first_one, put_inserts, put_replaces, put_pushes}
use Rattle.dav_store.proofs.properties.put_property.Goals as goal

pub returns-then-is_eq : goal.returns-then-is_eq
returns-then-is_eq c =
    let at = rw c.deref.ensures.value at (sym c.place_from.ensures ∙ c.in-Some.is) in
    let here = is_first_at (λ e. is_le (key_cmp c.args.key e.0)) c.args.entries.now.items c.in-Some.i c.index_mut.result.now at c.index_mut.ensures.value in
    let read = is_first_at (λ e. is_le (key_cmp c.args.key e.0)) c.args.entries.now.items c.in-Some.i c.index.result.now at c.index.ensures in
    let alike = first_one (λ e. is_le (key_cmp c.args.key e.0)) c.args.entries.now.items c.in-Some.i c.index_mut.result.now c.index.result.now here read in
    put_replaces key_cmp c.args.key c.args.xml c.args.entries.now.items c.in-Some.i c.index_mut.result.now here
    (ap (λ (e : PropertyKey × Option ElementTree). is_eq (key_cmp c.args.key e.0)) alike ∙ ap is_eq (sym c.compare.ensures) ∙ sym c.is_eq.ensures ∙ c.if-is_eq.true)

pub returns-in_ok-insert-in-Some : goal.returns-in_ok-insert-in-Some
returns-in_ok-insert-in-Some c =
    let at = rw c.deref.ensures.value at (sym c.place_from.ensures ∙ c.in-Some.is) in
    let read = is_first_at (λ e. is_le (key_cmp c.args.key e.0)) c.args.entries.now.items c.in-Some.i c.index.result.now at c.index.ensures in
    c.in_ok-insert-in-Some.ensures.items
    ∙ put_inserts key_cmp c.args.key c.args.xml c.args.entries.now.items c.in-Some.i c.index.result.now read (ap is_eq (sym c.compare.ensures) ∙ sym c.is_eq.ensures ∙ c.if-is_eq.false)

pub returns-in_ok-push-in-None : goal.returns-in_ok-push-in-None
returns-in_ok-push-in-None c =
    let at = rw c.deref.ensures.value at (sym c.place_from.ensures ∙ c.in-None.is) in
    c.in_ok-push-in-None.ensures.items
    ∙ put_pushes key_cmp c.args.key c.args.xml c.args.entries.now.items (none_passes (λ e. is_le (key_cmp c.args.key e.0)) c.args.entries.now.items at)
