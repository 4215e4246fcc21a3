use Rattle.std.proofs.Common.{◌≡◌, List, [], ◌∷◌, ◌++◌, map, sym, ap, ◌∙◌}
use Rattle.std.proofs.lemmas.List.{map-append}
use Rattle.dav_core.specs.Path.{names}
use Rattle.dav_store.specs.declared.memfs.MemEntry.{MemEntry}
use Rattle.dav_store.proofs.memfs.list.Goals as goal

-- one entry more
mapped_more : {X Y : Type 0} (f : X → Y) (xs all : List X) (ys : List Y) (x : X) (y : Y) → map f xs ≡ ys → all ≡ xs ++ x ∷ [] → f x ≡ y → map f all ≡ ys ++ y ∷ []
mapped_more f xs all ys x y was is one = ap (map f) is ∙ map-append f xs (x ∷ []) ∙ (λ i. was i ++ one i ∷ [])

mapped_alike : {X Y : Type 0} (f g : X → Y) (xs all : List X) (x : X) → map f xs ≡ map g xs → all ≡ xs ++ x ∷ [] → f x ≡ g x → map f all ≡ map g all
mapped_alike f g xs all x was is one =
    mapped_more f xs all (map g xs) x (g x) was is one ∙ sym (map-append g xs (x ∷ [])) ∙ sym (ap (map g) is)

pub loop-name-preserved : goal.loop-name-preserved
loop-name-preserved c =
    let entry : MemEntry = record { folder = c.in_ok-of.field-0; name = c.in-Some.name; dir = c.in-Some.dir } in (
      mapped_more (λ (e : MemEntry). (e.name, e.dir)) c.loop-name.list.items c.push.new.self.items c.loop-name.yielded entry (c.in-Some.name, c.in-Some.dir) c.loop-name.invariant.0 c.in_ok-push.ensures.items (λ i. (c.in-Some.name, c.in-Some.dir)),
      mapped_alike (λ (e : MemEntry). e.folder) (λ _. names c.args.path.now) c.loop-name.list.items c.push.new.self.items entry c.loop-name.invariant.1 c.in_ok-push.ensures.items c.in_ok-of.ensures,
    )
